use Rattle.std.proofs.Common.{ap, sym, ◌∙◌}
use Rattle.book_commodity.specs.Table.{with_entry}
use Rattle.book_listings.specs.Account.{line_of}
use Rattle.book_listings.proofs.LineLemmas.{line_put}
use Rattle.book_listings.proofs.account.add_first.Goals as goal

pub returns-in_ok-reserve-in-None : goal.returns-in_ok-reserve-in-None
returns-in_ok-reserve-in-None c = λ sought.
    ap (line_of sought)
    (c.put.ensures.entries ∙ ap (with_entry c.args.split c.args.number) c.in_ok-reserve-in-None.ensures.entries)
    ∙ line_put sought c.args.split c.args.number c.args.table.now.entries (sym c.line_of.ensures ∙ c.in-None.is)
