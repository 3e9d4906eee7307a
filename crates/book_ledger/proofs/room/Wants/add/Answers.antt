use Rattle.std.proofs.Common.{◌≡◌, ℕ, ◌+◌, List, ap, ◌∙◌, arith}
use Rattle.book_commodity.specs.Table.{with_entry}
use Rattle.book_ledger.specs.Room.{counted}
use Rattle.book_ledger.proofs.CountLemmas.{added_by}
use Rattle.book_ledger.proofs.room.Wants.add.Goals as goal

pub returns : goal.returns
returns c =
    let old = c.args.self.now.counts.entries in
    let sum : c.in-Some.count ≡ counted c.args.account old + c.args.extra =
    omega (arith, c.in-Some.ensures, c.count_of.ensures) in
    added_by c.args.account c.args.extra c.in-Some.count old c.put.new.self.entries
    (c.put.ensures.entries
    ∙ ap (λ (l : List (ℕ × ℕ)). with_entry c.args.account c.in-Some.count l) c.reserve.ensures.entries)
    sum
