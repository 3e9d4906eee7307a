use Rattle.std.proofs.Common.{◌≡◌, false, take}
use Rattle.std.specs.List.{list_any}
use Rattle.book_listings.specs.Find.{folded, holds}
use Rattle.book_listings.proofs.find.has_memo.Given as goal

-- no memo so far has the part
abbrev pub invariant-loop-split : goal.invariant-loop-split
invariant-loop-split l = list_any (λ split. holds l.part (folded split.memo)) (take l.split-index l.splits) ≡ false
