-- Which splits are rightly marked, whatever reconciliations there are, and which stay so.
use Rattle.std.proofs.Common.{◌≡◌, ℕ, ◌==◌, true, false, List, Option, Some, None, is_none}
use Rattle.std.proofs.Common.{ℤ, refl, sym, ap, subst, ◌∙◌, eq-eqb}
use Rattle.std.specs.List.{list_all, list_any}
use Rattle.std.proofs.lemmas.Bool.{and_from, and_parts, eqb-true}
use Rattle.book_commodity.specs.Table.{value_of}
use Rattle.book_splits.specs.TransactionRules.{is_new, is_unmarked, is_voided}
use Rattle.book_splits.specs.declared.reconciliation.Recon.{Recon}
use Rattle.book_splits.specs.declared.split.Mark.{Mark}
use Rattle.book_splits.specs.declared.split.Mark.TheVariants.{New, Cleared, Reconciled, Voided}
use Rattle.book_splits.specs.declared.split.Split.{Split}
use Rattle.book_sound.specs.MarkedTransactionRules.{fits_mark, has_marked, is_marked_as, is_named_rightly}
use Rattle.book_sound.specs.MarkedTransactionRules.{is_reconciled, is_rightly_marked}
use Rattle.book_sound.proofs.TableFrames.{all_still}

fits_unreconciled :
    (reconciliations : List (ℕ × Recon)) (split : Split) (mark : Mark) → is_reconciled mark ≡ false
    → is_voided mark ≡ false → is_none split.recon ≡ true → fits_mark reconciliations split mark ≡ true
fits_unreconciled reconciliations split New not_yet not_voided none = none
fits_unreconciled reconciliations split Cleared not_yet not_voided none = none
fits_unreconciled reconciliations split Reconciled not_yet not_voided none = absurd cc
fits_unreconciled reconciliations split Voided not_yet not_voided none = absurd cc

-- A split that is neither reconciled nor voided and names no reconciliation is rightly marked.
pub unreconciled_is_right :
    (reconciliations : List (ℕ × Recon)) (split : Split) → is_reconciled split.mark ≡ false
    → is_voided split.mark ≡ false → is_none split.recon ≡ true → is_rightly_marked reconciliations split ≡ true
unreconciled_is_right reconciliations split = fits_unreconciled reconciliations split split.mark

fits_new :
    (reconciliations : List (ℕ × Recon)) (split : Split) (mark : Mark) → is_new mark ≡ true
    → is_none split.recon ≡ true → fits_mark reconciliations split mark ≡ true
fits_new reconciliations split New is none = none
fits_new reconciliations split Cleared is none = absurd cc
fits_new reconciliations split Reconciled is none = absurd cc
fits_new reconciliations split Voided is none = absurd cc

-- So are unmarked splits.
pub unmarked_are_right :
    (reconciliations : List (ℕ × Recon)) (splits : List Split) → list_all is_unmarked splits ≡ true
    → list_all (is_rightly_marked reconciliations) splits ≡ true
unmarked_are_right reconciliations splits =
    all_still is_unmarked (is_rightly_marked reconciliations) splits
    (λ split unmarked.
    let parts = and_parts (is_new split.mark) (is_none split.recon) unmarked in
    fits_new reconciliations split split.mark parts.0 parts.1)

-- A split that is rightly marked is not voided.
fits_unvoided :
    (reconciliations : List (ℕ × Recon)) (split : Split) (mark : Mark) → fits_mark reconciliations split mark ≡ true
    → is_voided mark ≡ false
fits_unvoided reconciliations split New right = refl
fits_unvoided reconciliations split Cleared right = refl
fits_unvoided reconciliations split Reconciled right = refl
fits_unvoided reconciliations split Voided right = absurd cc

pub right_is_unvoided :
    (reconciliations : List (ℕ × Recon)) (split : Split) → is_rightly_marked reconciliations split ≡ true
    → is_voided split.mark ≡ false
right_is_unvoided reconciliations split = fits_unvoided reconciliations split split.mark

-- What the rule of marks sees of a split.
pub record MarkedAs (old new : Split) : Type 0 where
  pub id : old.id ≡ new.id
  pub account : old.account ≡ new.account
  pub mark : old.mark ≡ new.mark
  pub recon : old.recon ≡ new.recon
  pub quantity : old.quantity ≡ new.quantity

-- A split that is rightly marked stays so where that stays.
pub right_still :
    (reconciliations : List (ℕ × Recon)) (old new : Split) → MarkedAs old new
    → is_rightly_marked reconciliations old ≡ true → is_rightly_marked reconciliations new ≡ true
right_still reconciliations old new same is =
    let with_id : Split = record old { id = new.id } in
    let with_account : Split = record with_id { account = new.account } in
    let with_mark : Split = record with_account { mark = new.mark } in
    let with_recon : Split = record with_mark { recon = new.recon } in
    let Right : Split → Type 0 = λ s. is_rightly_marked reconciliations s ≡ true in
    let by_id = subst (λ (n : ℕ). Right (record old { id = n })) same.id is in
    let by_account = subst (λ (n : ℕ). Right (record with_id { account = n })) same.account by_id in
    let by_mark = subst (λ (m : Mark). Right (record with_account { mark = m })) same.mark by_account in
    let by_recon = subst (λ (r : Option ℕ). Right (record with_mark { recon = r })) same.recon by_mark in
    subst (λ (q : ℤ). Right (record with_recon { quantity = q })) same.quantity by_recon

fits_reconciled :
    (reconciliations : List (ℕ × Recon)) (split : Split) (mark : Mark) → is_reconciled mark ≡ true
    → fits_mark reconciliations split mark ≡ is_named_rightly reconciliations split split.recon
fits_reconciled reconciliations split New is = absurd cc
fits_reconciled reconciliations split Cleared is = absurd cc
fits_reconciled reconciliations split Reconciled is = refl
fits_reconciled reconciliations split Voided is = absurd cc

-- A reconciled split is rightly marked where the reconciliation that it names is there, is of its account, and lists it
-- with its quantity.
pub marked_is_right :
    (reconciliations : List (ℕ × Recon)) (split : Split) (n : ℕ) (reconciliation : Recon)
    → is_reconciled split.mark ≡ true → split.recon ≡ Some n → value_of n reconciliations ≡ Some reconciliation
    → reconciliation.account ≡ split.account → list_any (is_marked_as split) reconciliation.marked ≡ true
    → is_rightly_marked reconciliations split ≡ true
marked_is_right reconciliations split n reconciliation reconciled named there account listed =
    fits_reconciled reconciliations split split.mark reconciled
    ∙ ap (is_named_rightly reconciliations split) named
    ∙ ap (has_marked split) there
    ∙ and_from _ _ (eq-eqb reconciliation.account split.account account) listed

-- What a reconciled split says that is rightly marked: its reconciliation is there, is of its account, and lists it
-- with its quantity.
pub record IsMarkedBy (reconciliations : List (ℕ × Recon)) (split : Split) : Type 0 where
  pub number : ℕ
  pub reconciliation : Recon
  pub named : split.recon ≡ Some number
  pub there : value_of number reconciliations ≡ Some reconciliation
  pub account : reconciliation.account ≡ split.account
  pub listed : list_any (is_marked_as split) reconciliation.marked ≡ true

marked_of_found :
    (reconciliations : List (ℕ × Recon)) (split : Split) (n : ℕ) (found : Option Recon) → split.recon ≡ Some n
    → value_of n reconciliations ≡ found → has_marked split found ≡ true → IsMarkedBy reconciliations split
marked_of_found reconciliations split n None named there marked = absurd cc
marked_of_found reconciliations split n (Some r) named there marked =
    let parts = and_parts (r.account == split.account) (list_any (is_marked_as split) r.marked) marked in
    record {
      number = n;
      reconciliation = r;
      named = named;
      there = there;
      account = eqb-true r.account split.account parts.0;
      listed = parts.1;
    }

marked_of_named :
    (reconciliations : List (ℕ × Recon)) (split : Split) (named : Option ℕ) → split.recon ≡ named
    → is_named_rightly reconciliations split named ≡ true → IsMarkedBy reconciliations split
marked_of_named reconciliations split None named right = absurd cc
marked_of_named reconciliations split (Some n) named right =
    marked_of_found reconciliations split n (value_of n reconciliations) named refl right

pub reconciled_is_marked :
    (reconciliations : List (ℕ × Recon)) (split : Split) → is_rightly_marked reconciliations split ≡ true
    → is_reconciled split.mark ≡ true → IsMarkedBy reconciliations split
reconciled_is_marked reconciliations split right reconciled =
    marked_of_named reconciliations split split.recon refl
    (sym (fits_reconciled reconciliations split split.mark reconciled) ∙ right)

fits_names_none :
    (reconciliations : List (ℕ × Recon)) (split : Split) (mark : Mark) → fits_mark reconciliations split mark ≡ true
    → is_reconciled mark ≡ false → is_none split.recon ≡ true
fits_names_none reconciliations split New right not_yet = right
fits_names_none reconciliations split Cleared right not_yet = right
fits_names_none reconciliations split Reconciled right not_yet = absurd cc
fits_names_none reconciliations split Voided right not_yet = absurd cc

-- A split that is rightly marked and not reconciled names no reconciliation.
pub unreconciled_names_none :
    (reconciliations : List (ℕ × Recon)) (split : Split) → is_rightly_marked reconciliations split ≡ true
    → is_reconciled split.mark ≡ false → is_none split.recon ≡ true
unreconciled_names_none reconciliations split = fits_names_none reconciliations split split.mark
