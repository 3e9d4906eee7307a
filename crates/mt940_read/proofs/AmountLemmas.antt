-- What stands before and behind the first comma or slash.
use Rattle.std.proofs.Common.{
  ◌≡◌,
  ℕ,
  ◌+◌,
  ◌-◌,
  List,
  take,
  drop,
  length,
  Some,
  Bool,
  is_some,
  position,
  sym,
  ap,
  ◌∙◌,
  arith,
}
use Rattle.std.specs.List.{position_or_len}
use Rattle.std.proofs.lemmas.List.{take_rest}
use Rattle.std.proofs.lemmas.List.Sums.{position_or_len_is}
use Rattle.std.proofs.lemmas.List.Quantifiers.{position-Some}
use Rattle.mt940_read.specs.Amounts.{is_comma, IsParted}

-- the place of a byte that is found
pub position_place : (p : ℕ → Bool) (text : List ℕ) (place : ℕ) → position p text ≡ Some place
    → position_or_len p text ≡ place
position_place p text place e =
    let found = position-Some p text place 0 e in
    position_or_len_is p text place 0 (omega (arith, found.0)) found.2 (λ _. found.1)

pub parted_at : (text whole decimals : List ℕ) (place : ℕ) → position is_comma text ≡ Some place
    → whole ≡ take place text
    → decimals ≡ take (length text - (place + 1)) (drop (place + 1) text) → IsParted text whole decimals
parted_at text whole decimals place e front back =
    let here = position_place is_comma text place e in
    record {
      found = ap is_some e;
      front = front ∙ ap (λ n. take n text) (sym here);
      back = back ∙ take_rest text (place + 1) ∙ ap (λ n. drop (n + 1) text) (sym here);
    }
