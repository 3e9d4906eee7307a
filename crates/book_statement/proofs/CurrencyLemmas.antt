-- Looking for a currency, place by place.
use Rattle.std.proofs.Common.{
  ◌≡◌,
  ℕ,
  zero,
  suc,
  cond,
  ◌<◌,
  length,
  subst,
  arith,
  ◌+◌,
  List,
  [],
  ◌∷◌,
  drop,
  Option,
  Some,
  None,
  true,
  false,
  option_map,
  is_some,
  slice_get,
  sym,
  ap,
  ◌∙◌,
}
use Rattle.std.specs.Prelude.{if◌then◌else◌, nat_lt, ◌==◌}
use Rattle.std.specs.Option.{option_or}
use Rattle.book_commodity.specs.Table.{with_entry}
use Rattle.book_commodity.specs.declared.commodity.Commodity.{Commodity}
use Rattle.book_statement.specs.Currencies.{fraction_if, fraction_of, is_currency_named, IsFraction, HaveFractions}
use Rattle.book_commodity.proofs.ListLemmas.{drop_at, mapped_some}

-- from a place on, the commodity there is asked first
pub fraction_of-step : (code : List ℕ) (es : List (ℕ × Commodity)) (i : ℕ) (found : Option ℕ)
    → option_map (fraction_if code) (slice_get es i) ≡ Some found
    → fraction_of code (drop i es) ≡ option_or found (fraction_of code (drop (i + 1) es))
unfolding fraction_of
fraction_of-step code es i found e =
    let r = mapped_some (fraction_if code) (slice_get es i) found e in
    ap (fraction_of code) (drop_at es i r.0 r.1) ∙ ap (λ o. option_or o (fraction_of code (drop (i + 1) es))) r.2

-- where the commodity at a place is the currency, its fraction is the answer from there on
pub fraction_of-found : (code : List ℕ) (es : List (ℕ × Commodity)) (i : ℕ) (found : Option ℕ)
    → option_map (fraction_if code) (slice_get es i) ≡ Some found → is_some found ≡ true
    → found ≡ fraction_of code (drop i es)
fraction_of-found code es i None e some = absurd cc
fraction_of-found code es i (Some n) e some = sym (fraction_of-step code es i (Some n) e)

-- where it isn't, the commodities behind it are asked
pub fraction_of-other : (code : List ℕ) (es : List (ℕ × Commodity)) (i : ℕ) (found : Option ℕ)
    → option_map (fraction_if code) (slice_get es i) ≡ Some found → is_some found ≡ false
    → fraction_of code (drop i es) ≡ fraction_of code (drop (i + 1) es)
fraction_of-other code es i None e none = fraction_of-step code es i None e
fraction_of-other code es i (Some n) e none = absurd cc

-- a fraction that is found is one of the commodities'
pub fraction_is : (code : List ℕ) (es : List (ℕ × Commodity)) (n : ℕ) → HaveFractions es
    → fraction_of code es ≡ Some n → IsFraction n
unfolding fraction_of
fraction_is code [] n all e = absurd cc
fraction_is code (entry ∷ es) n all e =
    let here : 0 < length (entry ∷ es) = omega arith in
    let head : IsFraction entry.1.fraction = all 0 entry here in
    let tail : HaveFractions es = λ k d h. all (suc k) d
    (let more : suc k < length (entry ∷ es) = omega arith in more) in
    elim (is_currency_named code entry.1) as
    (λ t. option_or (if t then Some entry.1.fraction else None) (fraction_of code es) ≡ Some n → IsFraction n) [
      | true ↦ λ k. let same : entry.1.fraction ≡ n = cc in subst IsFraction same head
      | false ↦ λ k. fraction_is code es n tail k
    ] e

-- commodities with one more in front, or put under a number
pub fractions-cons : (e : ℕ × Commodity) (es : List (ℕ × Commodity)) → IsFraction e.1.fraction → HaveFractions es
    → HaveFractions (e ∷ es)
fractions-cons e es f all zero d h = f
fractions-cons e es f all (suc k) d h = all k d (omega arith)

fractions-tail : (e : ℕ × Commodity) (es : List (ℕ × Commodity)) → HaveFractions (e ∷ es) → HaveFractions es
fractions-tail e es all k d h = all (suc k) d (let more : suc k < length (e ∷ es) = omega arith in more)

pub fractions-put : (n : ℕ) (c : Commodity) (es : List (ℕ × Commodity)) → IsFraction c.fraction → HaveFractions es
    → HaveFractions (with_entry n c es)
fractions-put n c [] f all = fractions-cons (n, c) [] f all
fractions-put n c (e ∷ es) f all =
    let head : IsFraction e.1.fraction = all 0 e (let here : 0 < length (e ∷ es) = omega arith in here) in
    elim (nat_lt n e.0) as (λ t. HaveFractions
    (cond t ((n, c) ∷ e ∷ es) (if n == e.0 then (n, c) ∷ es else e ∷ with_entry n c es))) [
      | true ↦ fractions-cons (n, c) (e ∷ es) f all
      | false ↦ elim (n == e.0) as (λ t. HaveFractions (cond t ((n, c) ∷ es) (e ∷ with_entry n c es))) [
        | true ↦ fractions-cons (n, c) es f (fractions-tail e es all)
        | false ↦ fractions-cons e (with_entry n c es) head (fractions-put n c es f (fractions-tail e es all))
      ]
    ]
