-- The splits of a transaction that is edited: the numbers that they have, and their marks.
use Rattle.std.proofs.Common.{◌≡◌, ℕ, ◌+◌, ◌<◌, ◌≤◌, ◌==◌, not, inl, inr, Bool, true, false, All, List, [], ◌∷◌, ◌++◌}
use Rattle.std.proofs.Common.{Option, Some, None, if◌then◌else◌, ◌&&◌, ◌||◌}
use Rattle.std.proofs.Common.{refl, sym, ap, ◌∙◌, eq-eqb, arith}
use Rattle.std.specs.List.{list_all, list_any}
use Rattle.std.specs.Option.{option_and_then}
use Rattle.std.specs.Ordering.{int_eq}
use Rattle.std.proofs.lemmas.Bool.{and_from, and_parts, eqb-true, ne_eqb, not_from_false, or_from, or_left, or_parts}
use Rattle.std.proofs.lemmas.Bool.{or_right}
use Rattle.std.proofs.lemmas.Bool.Decides.{Decides-int_eq}
use Rattle.std.proofs.lemmas.List.Elements.{All-cons, All-nil}
use Rattle.std.proofs.lemmas.List.Folds.{list_any-append}
use Rattle.book_commodity.specs.Rules.{AllKept}
use Rattle.book_commodity.proofs.RuleLemmas.{not-broken}
use Rattle.book_splits.specs.TransactionRules.{are_once, is_among, numbers_of}
use Rattle.book_splits.specs.declared.reconciliation.Recon.{Recon}
use Rattle.book_splits.specs.declared.split.Mark.TheVariants.{New}
use Rattle.book_splits.specs.declared.split.Split.{Split}
use Rattle.book_splits.proofs.NamedLemmas.{named, named_among, named_holds, named_number, named_passes}
use Rattle.book_splits.proofs.ReplacedLemmas.{IsFrom, none_from_limit, not_among_from, numbers_below}
use Rattle.book_sound.specs.MarkedTransactionRules.{is_reconciled, is_rightly_marked}
use Rattle.book_sound.proofs.MarkLemmas.{right_is_unvoided, right_still, unreconciled_is_right, unreconciled_names_none}
use Rattle.book_command.specs.declared.command.GivenSplit.{GivenSplit}
use Rattle.book_step.specs.Editing.{drawn_by, drawn_for, edited_split, edited_splits, keeps_mark, kept_by, number_given}
use Rattle.book_step.specs.Editing.{number_rules, unknown_split}

-- ---- one split of an edit

-- the split that stays, for a number that may be absent
abbrev named_by : List Split → Option ℕ → Option Split
named_by splits id = option_and_then (λ id. named id splits) id

one_from :
    (limit next : ℕ) (splits : List Split) (id : Option ℕ) (given : GivenSplit) (found : Option Split)
    → named_by splits id ≡ found → limit ≤ next
    → IsFrom limit (numbers_of splits) (edited_split next given found).id
one_from limit next splits id given None is le = inr le
one_from limit next splits None given (Some s) is le = absurd cc
one_from limit next splits (Some n) given (Some s) is le = inl (named_among n splits s is)

one_below :
    (limit next last : ℕ) (splits : List Split) (id : Option ℕ) (given : GivenSplit) (found : Option Split)
    → named_by splits id ≡ found → All (λ (s : Split). s.id < limit) splits → limit ≤ next
    → next + drawn_for found ≤ last → (edited_split next given found).id < last
one_below limit next last splits id given None is below le room = omega (arith, room)
one_below limit next last splits None given (Some s) is below le room = absurd cc
one_below limit next last splits (Some n) given (Some s) is below le room =
    let first = named_holds (λ (x : Split). x.id < limit) n splits s below is in omega (arith, first, le, room)

-- a number that was given before is not that of a later split
one_other :
    (id next : ℕ) (splits : List Split) (before : List ℕ) (number : Option ℕ) (given : GivenSplit)
    (found : Option Split)
    → named_by splits number ≡ found → is_among before id ≡ true → id < next
    → unknown_split splits before number ≡ None → (edited_split next given found).id ≡ id → ⊥
one_other id next splits before number given None is among less known same = absurd (omega (arith, same, less))
one_other id next splits before None given (Some s) is among less known same = absurd cc
one_other id next splits before (Some n) given (Some s) is among less known same =
    let parts = or_parts (not (is_among (numbers_of splits) n)) (is_among before n) (not-broken _ _ known) in
    let one : n ≡ id = sym (named_number n splits s is) ∙ same in
    absurd (let other = ap (is_among before) one in let none = parts.1 in cc)

-- a split that keeps its mark stays rightly marked
kept_right :
    (reconciliations : List (ℕ × Recon)) (split : Split) (given : GivenSplit)
    → is_rightly_marked reconciliations split ≡ true → keeps_mark split given.account given.quantity ≡ true
    → is_rightly_marked reconciliations (record split {
      account = given.account;
      memo = given.memo;
      action = given.action;
      value = given.value;
      quantity =
          given.quantity;
    }) ≡ true
kept_right reconciliations split given right keeps =
    let new : Split = record split {
      account = given.account;
      memo = given.memo;
      action = given.action;
      value = given.value;
      quantity =
          given.quantity;
    } in
    let Marked : Bool → Type 0 = λ b. is_reconciled split.mark ≡ b
    → (not b || ((given.account == split.account) && int_eq given.quantity split.quantity)) ≡ true
    → is_rightly_marked reconciliations new ≡ true in
    elim (is_reconciled split.mark) as Marked [
      | true ↦ λ marked same.
          let parts = and_parts (given.account == split.account) (int_eq given.quantity split.quantity) same in
          right_still reconciliations split new
          (record {
            id = refl;
            account = sym (eqb-true given.account split.account parts.0);
            mark = refl;
            recon = refl;
            quantity = sym ((Decides-int_eq given.quantity split.quantity).0 parts.1);
          }) right
      | false ↦ λ unmarked same.
          unreconciled_is_right reconciliations new unmarked (right_is_unvoided reconciliations split right)
          (unreconciled_names_none reconciliations split right unmarked)
    ] refl keeps

one_right :
    (reconciliations : List (ℕ × Recon)) (next : ℕ) (splits : List Split) (id : Option ℕ) (given : GivenSplit)
    (found : Option Split)
    → named_by splits id ≡ found → list_all (is_rightly_marked reconciliations) splits ≡ true
    → is_rightly_marked reconciliations (edited_split next given found) ≡ true
one_right reconciliations next splits id given None is all = refl
one_right reconciliations next splits None given (Some s) is all = absurd cc
one_right reconciliations next splits (Some n) given (Some s) is all =
    let was = named_passes (is_rightly_marked reconciliations) n splits s all is in
    let Kept : Bool → Type 0 = λ b. keeps_mark s given.account given.quantity ≡ b
    → is_rightly_marked reconciliations (record {
      id = s.id;
      account = given.account;
      memo = given.memo;
      action = given.action;
      mark = if b then s.mark else New;
      recon = if b then s.recon else None;
      value = given.value;
      quantity = given.quantity;
    }) ≡ true in
    elim (keeps_mark s given.account given.quantity) as Kept [
      | true ↦ λ keeps. kept_right reconciliations s given was keeps
      | false ↦ λ new. refl
    ] refl

-- ---- all splits of an edit

-- Their numbers are those of the splits that stay, or drawn from the next one on,
pub edited_from :
    (limit next : ℕ) (splits : List Split) (given : List GivenSplit) → limit ≤ next
    → All (IsFrom limit (numbers_of splits)) (numbers_of (edited_splits splits next given))
edited_from limit next splits [] le = All-nil (IsFrom limit (numbers_of splits))
edited_from limit next splits (g ∷ more) le =
    let found = kept_by splits g in
    let later = next + drawn_for found in
    All-cons (IsFrom limit (numbers_of splits)) (edited_split next g found).id
    (numbers_of (edited_splits splits later more)) (one_from limit next splits g.id g found refl le)
    (edited_from limit later splits more (omega (arith, le)))

-- below the number that is the next one then,
pub edited_below :
    (limit next last : ℕ) (splits : List Split) (given : List GivenSplit)
    → All (λ (s : Split). s.id < limit) splits → limit ≤ next → next + drawn_by splits given ≤ last
    → All (λ (s : Split). s.id < last) (edited_splits splits next given)
edited_below limit next last splits [] below le room = All-nil (λ (s : Split). s.id < last)
edited_below limit next last splits (g ∷ more) below le room =
    let found = kept_by splits g in
    let later = next + drawn_for found in
    All-cons (λ (s : Split). s.id < last) (edited_split next g found) (edited_splits splits later more)
    (one_below limit next last splits g.id g found refl below le (omega (arith, room)))
    (edited_below limit later last splits more below (omega (arith, le)) (omega (arith, room)))

-- none of them is given twice,
given_once :
    (id next : ℕ) (splits : List Split) (before : List ℕ) (given : List GivenSplit) → is_among before id ≡ true
    → id < next → AllKept (number_rules splits before given)
    → is_among (numbers_of (edited_splits splits next given)) id ≡ false
given_once id next splits before [] among less kept = refl
given_once id next splits before (g ∷ more) among less kept =
    let found = kept_by splits g in
    let later = before ++ number_given g.id in
    let still = list_any-append (λ (other : ℕ). other == id) before (number_given g.id) ∙ or_left _ _ among in
    or_from ((edited_split next g found).id == id) _
    (ne_eqb (edited_split next g found).id id
    (one_other id next splits before g.id g found refl among less kept.0))
    (given_once id (next + drawn_for found) splits later more still (omega (arith, less)) kept.1)

-- nor drawn twice,
drawn_apart :
    (limit next : ℕ) (splits : List Split) (given : List GivenSplit) → All (λ (s : Split). s.id < limit) splits
    → limit ≤ next → is_among (numbers_of (edited_splits splits (next + 1) given)) next ≡ false
drawn_apart limit next splits given below le =
    not_among_from (next + 1) next (numbers_of splits) (numbers_of (edited_splits splits (next + 1) given))
    (omega arith) (none_from_limit limit next (numbers_of splits) le (numbers_below limit splits below))
    (edited_from (next + 1) (next + 1) splits given (omega arith))

apart :
    (limit next : ℕ) (splits : List Split) (before : List ℕ) (number : Option ℕ) (g : GivenSplit)
    (found : Option Split) (more : List GivenSplit)
    → named_by splits number ≡ found → All (λ (s : Split). s.id < limit) splits → limit ≤ next
    → AllKept (number_rules splits (before ++ number_given number) more)
    → is_among (numbers_of (edited_splits splits (next + drawn_for found) more)) (edited_split next g found).id ≡ false
apart limit next splits before number g None more is below le kept = drawn_apart limit next splits more below le
apart limit next splits before None g (Some s) more is below le kept = absurd cc
apart limit next splits before (Some n) g (Some s) more is below le kept =
    let first = named_holds (λ (x : Split). x.id < limit) n splits s below is in
    let among = list_any-append (λ (other : ℕ). other == s.id) before (n ∷ [])
    ∙ or_right (list_any (λ (other : ℕ). other == s.id) before) _
    (or_left (n == s.id) false (eq-eqb n s.id (sym (named_number n splits s is)))) in
    given_once s.id (next + 0) splits (before ++ n ∷ []) more among (omega (arith, first, le)) kept

-- so each stands once,
pub edited_once :
    (limit next : ℕ) (splits : List Split) (before : List ℕ) (given : List GivenSplit)
    → All (λ (s : Split). s.id < limit) splits → limit ≤ next → AllKept (number_rules splits before given)
    → are_once (numbers_of (edited_splits splits next given)) ≡ true
edited_once limit next splits before [] below le kept = refl
edited_once limit next splits before (g ∷ more) below le kept =
    let found = kept_by splits g in
    and_from _ _ (not_from_false _ (apart limit next splits before g.id g found more refl below le kept.1))
    (edited_once limit (next + drawn_for found) splits (before ++ number_given g.id) more below (omega (arith, le))
    kept.1)

-- and they are rightly marked, as those of the transaction were.
pub edited_right :
    (reconciliations : List (ℕ × Recon)) (next : ℕ) (splits : List Split) (given : List GivenSplit)
    → list_all (is_rightly_marked reconciliations) splits ≡ true
    → list_all (is_rightly_marked reconciliations) (edited_splits splits next given) ≡ true
edited_right reconciliations next splits [] all = refl
edited_right reconciliations next splits (g ∷ more) all =
    let found = kept_by splits g in
    and_from _ _ (one_right reconciliations next splits g.id g found refl all)
    (edited_right reconciliations (next + drawn_for found) splits more all)
