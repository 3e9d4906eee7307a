-- What the call took joins what was written before.
use Rattle.std.proofs.Common.{◌≡◌, ℕ, ◌-◌, List, ◌++◌, length, take, drop, sym, ap, ◌∙◌, append_assoc}
use Rattle.std.proofs.Common.{take-append-drop, length-drop, arith, refl}
use Rattle.std.proofs.lemmas.List.{take_all}
use Rattle.book_keeper.proofs.StreamLemmas.{Wrote-append}
use Rattle.book_keeper.proofs.writing.write_all.Goals as goal

further : (bytes part rest : List ℕ) (n k : ℕ) → bytes ≡ part ++ rest → length rest ≡ k
    → bytes ≡ (part ++ take n rest) ++ take (k - n) (drop n rest)
further bytes part rest n k fed long =
    let whole : take (k - n) (drop n rest) ≡ drop n rest = take_all (k - n) (drop n rest)
    (omega (arith, length-drop n rest)) in
    fed ∙ ap (λ l. part ++ l) (sym (ap (λ l. take n rest ++ l) whole ∙ take-append-drop n rest))
    ∙ sym (append_assoc part (take n rest) (take (k - n) (drop n rest)))

pub loop-rest-preserved : goal.loop-rest-preserved
loop-rest-preserved g c =
    let fed = c.loop-rest.invariant.fed in
    let rest = c.loop-rest.rest.now in
    let count = c.in_ok-count.count in
    record {
      fed = (
        fed.0 ++ take count rest,
        further _ fed.0 rest count (length rest) fed.1 refl,
        Wrote-append _ _ _ _ _ fed.2 c.in_ok-count.ensures.added,
      );
      quiet = c.in_ok-count.ensures.cause.done ∙ c.loop-rest.invariant.quiet;
    }
