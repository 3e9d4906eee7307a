-- What follows where a count of faults did not rise.
use Rattle.std.proofs.Common.{◌≡◌, ℕ, All, List, [], ◌∷◌, arith, cond}
use Rattle.std.specs.Prelude.{count_by}
use Rattle.std.proofs.lemmas.List.Sums.{sum_by_from}
use Rattle.std.proofs.lemmas.List.Elements.{All-cons, All-nil}
use Rattle.book_keeper.specs.Faults.{Rose}
use Rattle.book_lines.specs.Marks.{Answered, Keeper, Mark, Memory, RoseForEach, is_keeper}
use Rattle.book_complete.specs.Complete.{IsToldOrMemory}
use Rattle.book_complete.specs.Quiet.{DidNotRise}

-- It did not rise.
pub quiet-not_rose : (before now : ℕ) → DidNotRise before now → Rose before now → ⊥
quiet-not_rose before now quiet rose =
    let same = quiet.same in
    let counts = quiet.counts in
    omega (arith, same, counts, rose)

none-kept : (all : List Mark) → count_by is_keeper all ≡ 0 → All IsToldOrMemory all
none-kept [] none = All-nil IsToldOrMemory
none-kept (Answered ∷ all) none = All-cons IsToldOrMemory Answered all tt (none-kept all (omega (arith, none)))
none-kept (Memory ∷ all) none = All-cons IsToldOrMemory Memory all tt (none-kept all (omega (arith, none)))
none-kept (Keeper ∷ all) none =
    let some = sum_by_from (λ (m : Mark). cond (is_keeper m) 1 0) 1 all in absurd (omega (arith, some, none))

-- No answer says that a change could not be kept, where the count of faults of what is kept did not rise.
pub quiet-told :
    (before now : ℕ) (all : List Mark) → DidNotRise before now → RoseForEach before now all → All IsToldOrMemory all
quiet-told before now all quiet rose =
    let same = quiet.same in
    let counts = quiet.counts in
    none-kept all (omega (arith, same, counts, rose))
