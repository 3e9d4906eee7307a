-- The one price of a day, as the commands on prices ask for it.
use Rattle.std.proofs.Common.{◌≡◌, ℕ, ◌==◌, Bool, true, false}
use Rattle.std.proofs.Common.{if◌then◌else◌, List, [], ◌∷◌, All, find, Some, None}
use Rattle.std.proofs.Common.{refl, sym, ap, subst, ◌∙◌, arith}
use Rattle.std.proofs.lemmas.Bool.{eqb-true}
use Rattle.std.proofs.lemmas.Bool.Decides.{nat_tests}
use Rattle.std.proofs.lemmas.List.Elements.{All-head, All-tail}
use Rattle.book_commodity.specs.Table.{Rises, value_of}
use Rattle.book_prices.specs.Rate.{AreOnce, IsSame, is_same}
use Rattle.book_prices.specs.declared.price.Price.{Price}
use Rattle.book_sound.proofs.SplitFrames.{above_there}
use Rattle.book_command.proofs.RateLemmas.{alike_both, same_turned}
use Rattle.book_step.specs.Prices.{price_of_day}

-- ---- the price of a day

pub none_of_day : (prices : List (ℕ × Price)) (price : Price) → All (λ entry. is_same entry.1 price ≡ false) prices
    → price_of_day prices price ≡ None
none_of_day [] price none = refl
none_of_day (e ∷ more) price none =
    let here = same_turned price e.1 ∙ All-head (λ (x : ℕ × Price). is_same x.1 price ≡ false) e more none in
    ap (λ (t : Bool). if t then Some e else price_of_day more price) here
    ∙ none_of_day more price (All-tail (λ (x : ℕ × Price). is_same x.1 price ≡ false) e more none)

-- what stands behind in a table is not alike the first
other_than_first :
    (e : ℕ × Price) (more : List (ℕ × Price)) (n : ℕ) (other : Price)
    → All (λ (x : ℕ × Price). is_same x.1 e.1 ≡ false) more → value_of n more ≡ Some other
    → is_same other e.1 ≡ false
other_than_first e [] n other apart there = absurd cc
other_than_first e (x ∷ more) n other apart there =
    let first = All-head (λ (y : ℕ × Price). is_same y.1 e.1 ≡ false) x more apart in
    let rest = other_than_first e more n other (All-tail (λ (y : ℕ × Price). is_same y.1 e.1 ≡ false) x more apart) in
    let At : Bool → Type 0 = λ t. (if t then Some x.1 else value_of n more) ≡ Some other → is_same other e.1 ≡ false in
    elim (n == x.0) as At [
      | true ↦ λ here. let one : x.1 ≡ other = cc in subst (λ (p : Price). is_same p e.1 ≡ false) one first
      | false ↦ λ behind. rest behind
    ] there

-- The one price of a day is found under its number.
pub one_of_day :
    (prices : List (ℕ × Price)) (price : Price) (n : ℕ) (other : Price) → AreOnce prices
    → value_of n prices ≡ Some other → is_same other price ≡ true
    → price_of_day prices price ≡ Some (n, other)
one_of_day [] price n other once there same = absurd cc
one_of_day (e ∷ more) price n other once there same =
    let At : Bool → Type 0 = λ t. (n == e.0) ≡ t → (if t then Some e.1 else value_of n more) ≡ Some other
    → (if is_same price e.1 then Some e else price_of_day more price) ≡ Some (n, other) in
    elim (n == e.0) as At [
      | true ↦ λ number here.
          let one : e.1 ≡ other = cc in
          let alike = same_turned price e.1 ∙ ap (λ (p : Price). is_same p price) one ∙ same in
          ap (λ (t : Bool). if t then Some e else price_of_day more price) alike
          ∙ ap (λ (k : ℕ). Some (k, e.1)) (sym (eqb-true n e.0 number)) ∙ ap (λ (p : Price). Some (n, p)) one
      | false ↦ λ number behind.
          let apart = other_than_first e more n other once.0 behind in
          let Alike : Bool → Type 0 = λ t. is_same price e.1 ≡ t
          → (if t then Some e else price_of_day more price) ≡ Some (n, other) in
          elim (is_same price e.1) as Alike [
            | true ↦ λ like.
                let both = alike_both other e.1 price same (sym (same_turned price e.1) ∙ like) in
                absurd (let no = sym both ∙ apart in cc)
            | false ↦ λ unlike. one_of_day more price n other once.1 behind same
          ] refl
    ] refl there

some_is : (one other : Price) → Some one ≡ Some other → one ≡ other
some_is one other e = cc

-- so is what stands under the number of the same price
pub found_of_day :
    (prices : List (ℕ × Price)) (price : Price) (n : ℕ) (other : Price) → AreOnce prices
    → IsSame prices price (Some n) → value_of n prices ≡ Some other
    → price_of_day prices price ≡ Some (n, other)
found_of_day prices price n other once (found, here, same) there =
    let one = some_is found other (sym here ∙ there) in
    one_of_day prices price n other once there (subst (λ (p : Price). is_same p price ≡ true) one same)

-- what is found stands under its number
pub found_there :
    (test : ℕ × Price → Bool) (es : List (ℕ × Price)) (x : ℕ × Price) → Rises es → find test es ≡ Some x
    → (value_of x.0 es ≡ Some x.1) × (test x ≡ true)
found_there test [] x r e = absurd cc
found_there test (first ∷ es) x r e =
    let At : Bool → Type 0 = λ t. test first ≡ t → (if t then Some first else find test es) ≡ Some x
    → (value_of x.0 (first ∷ es) ≡ Some x.1) × (test x ≡ true) in
    elim (test first) as At [
      | true ↦ λ passes here.
          let one : first ≡ x = cc in
          subst (λ (y : ℕ × Price). (value_of y.0 (first ∷ es) ≡ Some y.1) × (test y ≡ true)) one
          (grind (arith, nat_tests), passes)
      | false ↦ λ other behind.
          let more = found_there test es x r.1 behind in
          let past = above_there first.0 x.0 x.1 es r.0 more.0 in
          let there = more.0 in
          (grind (arith, nat_tests, past, there), more.1)
    ] refl e
