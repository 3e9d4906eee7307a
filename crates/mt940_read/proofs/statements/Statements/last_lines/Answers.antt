use Rattle.std.proofs.Common.{sym, ap, ◌∙◌, length}
use Rattle.book_statement.proofs.TextLemmas.{has_length}
use Rattle.mt940_read.specs.Statements.{last_lines}
use Rattle.mt940_read.proofs.PageLemmas.{last_lines-at}
use Rattle.mt940_read.proofs.statements.Statements.last_lines.Goals as goal

pub returns : goal.returns
returns c =
    let items = c.as_slice-items.result.now in
    c.len.ensures ∙ sym (last_lines-at items c.index-items-items.result
    (has_length (length items) c.if-is_empty.ensures))
    ∙ ap last_lines (c.as_slice-items.ensures.value ∙ c.self.view_is)
