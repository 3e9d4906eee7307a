use Rattle.book_statement.proofs.TextLemmas.{found_feed}
use Rattle.book_statement.proofs.lines.line_feed.Goals as goal

pub returns : goal.returns
returns c = found_feed c.args.text.now c.memchr.result c.memchr.ensures
