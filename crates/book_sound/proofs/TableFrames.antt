-- What all tables have in common where another table changes, at which their rules look.
use Rattle.std.proofs.Common.{◌≡◌, ◌≢◌, ℕ, ◌==◌, Bool, true, false, if◌then◌else◌, List, [], ◌∷◌, Option, Some, None}
use Rattle.std.proofs.Common.{is_some, refl, sym, ap, subst, ◌∙◌}
use Rattle.std.specs.List.{list_all}
use Rattle.std.proofs.lemmas.Bool.{and_from, and_parts, eqb-true, eqb-false, or_left, or_right}
use Rattle.book_commodity.specs.Rules.{AllHold, IsSoundTable}
use Rattle.book_commodity.specs.Table.{Rises, value_of, with_entry, without_entry}
use Rattle.book_commodity.proofs.DrawnLemmas.{value_beside, value_here, value_left}
use Rattle.book_commodity.proofs.RuleLemmas.{each_still}
use Rattle.book_accounts.specs.declared.account.Account.{Account}
use Rattle.book_splits.proofs.SuitsLemmas.{takes_as_itself}
use Rattle.book_splits.proofs.TransactionRuleLemmas.{Suits, TakesAs}
use Rattle.book_sound.specs.Naming.{has_thing}

-- a table stays sound where each thing that keeps its rules keeps the later ones
pub sound_still :
    {T : Type 0} (rules later : ℕ → T → List Bool) (most : ℕ) (es : List (ℕ × T))
    → ((k : ℕ) (x : T) → value_of k es ≡ Some x → AllHold (rules k x) → AllHold (later k x))
    → IsSoundTable rules most es → IsSoundTable later most es
sound_still rules later most es others is =
    record { rise = is.rise; keep = each_still rules later es others is.keep; few = is.few }

-- a thing that passes a test is one of its table that does
pub has_that :
    {T : Type 0} (test : T → Bool) (k : ℕ) (x : T) (es : List (ℕ × T)) → value_of k es ≡ Some x → test x ≡ true
    → has_thing test es ≡ true
has_that test k x [] there passes = absurd cc
has_that {T} test k x (e ∷ es) there passes =
    let Here : Bool → Type 0 = λ b. (if b then Some e.1 else value_of k es) ≡ Some x
    → has_thing test (e ∷ es) ≡ true in
    elim (k == e.0) as Here [
      | true ↦ λ same.
          let one : e.1 ≡ x = cc in
          or_left (test e.1) _ (ap test one ∙ passes)
      | false ↦ λ rest. or_right (test e.1) _ (has_that test k x es rest passes)
    ] there

-- what each item of a list passes, each passes that follows from it
pub all_still :
    {X : Type 0} (test later : X → Bool) (xs : List X) → ((x : X) → test x ≡ true → later x ≡ true)
    → list_all test xs ≡ true → list_all later xs ≡ true
all_still test later [] follows all = refl
all_still test later (x ∷ xs) follows all =
    let parts = and_parts (test x) (list_all test xs) all in
    and_from (later x) _ (follows x parts.0) (all_still test later xs follows parts.1)

-- ---- accounts that are named by others

-- where another account stands in the place of one, and takes splits as that did, if it is named
pub suits_edited :
    (Named : ℕ → Type 0) (accounts : List (ℕ × Account)) (n : ℕ) (old new : Account) → value_of n accounts ≡ Some old
    → (Named n → TakesAs old new)
    → (m : ℕ) → Named m → Suits (value_of m accounts) (value_of m (with_entry n new accounts))
suits_edited Named accounts n old new there takes m named = record {
  each = λ account found.
      let Place : Bool → Type 0 = λ t. (m == n) ≡ t → (later : Account)
      × (value_of m (with_entry n new accounts) ≡ Some later) × TakesAs account later in
      elim (m == n) as Place [
        | true ↦ λ here.
            let same : m ≡ n = eqb-true m n here in
            let both : Some old ≡ Some account = sym there ∙ ap (λ (k : ℕ). value_of k accounts) (sym same) ∙ found in
            let one : old ≡ account = cc in
            let as_old = takes (subst Named same named) in
            (new, value_here m n new accounts same, subst (λ (a : Account). TakesAs a new) one as_old)
        | false ↦ λ other. (
          account,
          value_beside m n new account accounts
              (eqb-false m n other) found,
          takes_as_itself account,
        )
      ] refl;
}

-- where one is taken that isn't named
pub suits_dropped :
    (Named : ℕ → Type 0) (accounts : List (ℕ × Account)) (n : ℕ) → Rises accounts → (Named n → ⊥)
    → (m : ℕ) → Named m → Suits (value_of m accounts) (value_of m (without_entry n accounts))
suits_dropped Named accounts n r unused m named =
    let apart : m ≢ n = λ same. unused (subst Named same named) in
    record { each = λ account found. (account, value_left m n account accounts r apart found, takes_as_itself account) }

-- an account that is there, and is suited by a later one, is still there
pub live_still :
    (found later : Option Account) → Suits found later → is_some found ≡ true → is_some later ≡ true
live_still None later suits live = absurd cc
live_still (Some old) later suits live =
    let new = suits.each old refl in
    ap is_some new.1
