-- Lists of different lengths are not the same but for marks.
use Rattle.std.proofs.Common.{◌≡◌, ◌≢◌, ℕ, suc, false, List, [], ◌∷◌, length, refl, sym, ap}
use Rattle.std.proofs.lemmas.Bool.{and_right}
use Rattle.book_splits.specs.declared.split.Split.{Split}
use Rattle.book_history.specs.Leaving.{are_remarked, is_remarked}
use Rattle.book_history.proofs.marking.are_remarked.Goals as goal

uneven : (olds news : List Split) → length olds ≢ length news → are_remarked olds news ≡ false
uneven [] [] other = absurd (other refl)
uneven [] (new ∷ news) other = refl
uneven (old ∷ olds) [] other = refl
uneven (old ∷ olds) (new ∷ news) other =
    and_right (is_remarked old new) (are_remarked olds news)
    (uneven olds news (λ same. other (ap (λ (n : ℕ). suc n) same)))

pub returns-then-old-new : goal.returns-then-old-new
returns-then-old-new c = sym (uneven c.args.old.now c.args.new.now c.if-old-new.true)
