-- Numbers of splits, against those that were seen.
use Rattle.std.proofs.Common.{◌≡◌, ℕ, ◌+◌, ◌==◌, not, Bool, true, false, ◌&&◌, ◌||◌, List, ◌∷◌, take, Some, slice_get}
use Rattle.std.proofs.Common.{refl, sym, ap, ◌∙◌, arith}
use Rattle.std.specs.List.{list_any}
use Rattle.std.specs.Cmp.{unsigned_tied}
use Rattle.std.specs.Ordering.{nat_cmp}
use Rattle.std.proofs.lemmas.Bool.Decides.{nat_tests}
use Rattle.book_commodity.specs.Rules.{stands_before}
use Rattle.book_commodity.specs.Table.{Rises}
use Rattle.book_splits.specs.TransactionRules.{are_once, is_among, numbers_of, share_numbers}
use Rattle.book_splits.specs.declared.transaction.Txn.{Txn}
use Rattle.book_commodity.specs.declared.commodity.Commodity.{Commodity}
use Rattle.book_accounts.specs.declared.account.Account.{Account}
use Rattle.book_splits.specs.declared.reconciliation.Recon.{Recon}
use Rattle.book_void.specs.Voiding.{keeps_as_many, restored}
use Rattle.book_sound.specs.MarkedTransactionRules.{are_rightly_marked, marked_transaction_rules}
use Rattle.book_sound.specs.Tests.{passes_check}
use Rattle.book_check.specs.FirstUnsound.{all_hold}
use Rattle.book_check.specs.Numbers.{AddsAll, HasNumbers, are_new}
use Rattle.book_check.specs.Seen.{Adds, is_seen}
use Rattle.book_check.proofs.AnyLemmas.{any_either, any_next, any_same, any_swap, or_swap}
use Rattle.book_check.proofs.SeenLemmas.{before_place}

equal_either : (n q : ℕ) → (n == q) ≡ (q == n)
equal_either n q = grind (arith, nat_tests)

-- a number is seen after another is added
seen_after :
    (old new : List ℕ) (n q : ℕ) → Adds nat_cmp old n new
    → is_seen nat_cmp new q ≡ ((n == q) || is_seen nat_cmp old q)
seen_after old new n q adds = adds q ∙ ap (λ t. t || is_seen nat_cmp old q) (unsigned_tied n q)

any_after :
    (old new : List ℕ) (n : ℕ) (more : List ℕ) → Adds nat_cmp old n new
    → list_any (is_seen nat_cmp new) more ≡ (is_among more n || list_any (is_seen nat_cmp old) more)
any_after old new n more adds =
    any_same (is_seen nat_cmp new) (λ q. (q == n) || is_seen nat_cmp old q) more
    (λ q. seen_after old new n q adds ∙ ap (λ t. t || is_seen nat_cmp old q) (equal_either n q))
    ∙ any_either (λ q. q == n) (is_seen nat_cmp old) more

-- a number that was seen isn't new
pub new_taken :
    (old : List ℕ) (n : ℕ) (more : List ℕ) → is_seen nat_cmp old n ≡ true → are_new old (n ∷ more) ≡ false
new_taken old n more taken =
    ap (λ t. are_once (n ∷ more) && not (t || list_any (is_seen nat_cmp old) more)) taken
    ∙ never (are_once (n ∷ more))
  where
    never : (a : Bool) → (a && false) ≡ false
    never true = refl
    never false = refl

-- one that wasn't is new, where those behind it are once it is seen
pub new_next :
    (old new : List ℕ) (n : ℕ) (more : List ℕ) → is_seen nat_cmp old n ≡ false → Adds nat_cmp old n new
    → are_new old (n ∷ more) ≡ are_new new more
new_next old new n more free adds =
    ap (λ t. are_once (n ∷ more) && not (t || list_any (is_seen nat_cmp old) more)) free
    ∙ regrouped (is_among more n) (are_once more) (list_any (is_seen nat_cmp old) more)
    ∙ ap (λ t. are_once more && not t) (sym (any_after old new n more adds))
  where
    regrouped : (among once any : Bool) → ((not among && once) && not any) ≡ (once && not (among || any))
    regrouped true true any = refl
    regrouped true false any = refl
    regrouped false once any = refl

pub added_next :
    (old new : List ℕ) (n q : ℕ) (more : List ℕ) → Adds nat_cmp old n new
    → (is_among (n ∷ more) q || is_seen nat_cmp old q) ≡ (is_among more q || is_seen nat_cmp new q)
added_next old new n q more adds =
    moved (n == q) (is_among more q) (is_seen nat_cmp old q)
    ∙ ap (λ t. is_among more q || t) (sym (seen_after old new n q adds))
  where
    moved : (a b c : Bool) → ((a || b) || c) ≡ (b || (a || c))
    moved true true c = refl
    moved true false c = refl
    moved false b c = refl

-- a transaction shares a number with one before it, where a number of it was seen
pub shares_seen :
    (seen : List ℕ) (es : List (ℕ × Txn)) (i n : ℕ) (t : Txn) → Rises es → slice_get es i ≡ Some (n, t)
    → HasNumbers seen (take i es)
    → stands_before (share_numbers t) n es ≡ list_any (is_seen nat_cmp seen) (numbers_of t.splits)
shares_seen seen es i n t rise there has =
    before_place (share_numbers t) es i n t rise there
    ∙ any_swap (λ (e : ℕ × Txn) (q : ℕ). is_among (numbers_of e.1.splits) q) (take i es) (numbers_of t.splits)
    ∙ any_same (λ q. list_any (λ (e : ℕ × Txn). is_among (numbers_of e.1.splits) q) (take i es)) (is_seen nat_cmp seen)
    (numbers_of t.splits) (λ q. sym (has q))

-- the numbers of one transaction more are seen
pub numbers_next :
    (old new : List ℕ) (es : List (ℕ × Txn)) (i n : ℕ) (t : Txn) → slice_get es i ≡ Some (n, t)
    → HasNumbers old (take i es) → AddsAll old (numbers_of t.splits) new → HasNumbers new (take (i + 1) es)
numbers_next old new es i n t there has adds number =
    adds number ∙ or_swap (is_among (numbers_of t.splits) number) (is_seen nat_cmp old number)
    ∙ ap (λ b. b || is_among (numbers_of t.splits) number) (has number)
    ∙ sym (any_next (λ (e : ℕ × Txn). is_among (numbers_of e.1.splits) number) es i (n, t) there)

-- the rules of a transaction, as a walk asks them
pub rules_asked :
    (commodities : List (ℕ × Commodity)) (accounts : List (ℕ × Account)) (reconciliations : List (ℕ × Recon))
    (seen : List ℕ) (es : List (ℕ × Txn)) (i n : ℕ) (t : Txn) (kept new : Bool) → Rises es
    → slice_get es i ≡ Some (n, t) → HasNumbers seen (take i es)
    → kept ≡ (passes_check commodities accounts (restored t)
    && (are_rightly_marked reconciliations t.voided t.splits && keeps_as_many t.voided t.splits))
    → new ≡ are_new seen (numbers_of t.splits)
    → all_hold (marked_transaction_rules commodities accounts reconciliations es n t) ≡ (kept && new)
rules_asked commodities accounts reconciliations seen es i n t kept new rise there has asked counted =
    let passes = passes_check commodities accounts (restored t) in
    let marks = are_rightly_marked reconciliations t.voided t.splits in
    let keeps = keeps_as_many t.voided t.splits in
    let once = are_once (numbers_of t.splits) in
    regrouped passes once (stands_before (share_numbers t) n es) marks keeps
    ∙ ap (λ b. (passes && (marks && keeps)) && (once && not b)) (shares_seen seen es i n t rise there has)
    ∙ ap (λ b. b && are_new seen (numbers_of t.splits)) (sym asked) ∙ ap (λ b. kept && b) (sym counted)
  where
    regrouped :
        (p o s m v : Bool) → (p && (o && (not s && (m && (v && true))))) ≡ ((p && (m && v)) && (o && not s))
    regrouped false o s m v = refl
    regrouped true true true true true = refl
    regrouped true true false true true = refl
    regrouped true false s true true = refl
    regrouped true true true true false = refl
    regrouped true true false true false = refl
    regrouped true false s true false = refl
    regrouped true true true false v = refl
    regrouped true true false false v = refl
    regrouped true false s false v = refl
