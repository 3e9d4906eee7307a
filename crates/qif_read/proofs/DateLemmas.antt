-- The parts of a date that has the form of one.
use Rattle.std.proofs.Common.{◌≡◌, Bool, true, false, ◌&&◌, refl}
use Rattle.book_statement.specs.Numbers.{has_digits}
use Rattle.qif_read.specs.QifDate.{DateParts, is_mark, is_year_mark, is_year, is_date_form}

and_left : (a b : Bool) → (a && b) ≡ true → a ≡ true
and_left true b e = refl
and_left false b e = absurd cc

and_right : (a b : Bool) → (a && b) ≡ true → b ≡ true
and_right true b e = e
and_right false b e = absurd cc

pub first_digits : (parts : DateParts) → is_date_form parts ≡ true → has_digits 1 2 parts.first ≡ true
unfolding is_date_form
first_digits parts e = and_left (has_digits 1 2 parts.first) _ e

behind_mark : (parts : DateParts) → is_date_form parts ≡ true
    → (has_digits 1 2 parts.second && (is_year_mark parts.year_mark && is_year parts.year)) ≡ true
unfolding is_date_form
behind_mark parts e = and_right (is_mark parts.mark) _ (and_right (has_digits 1 2 parts.first) _ e)

pub second_digits : (parts : DateParts) → is_date_form parts ≡ true → has_digits 1 2 parts.second ≡ true
second_digits parts e = and_left (has_digits 1 2 parts.second) _ (behind_mark parts e)

pub year_digits : (parts : DateParts) → is_date_form parts ≡ true → is_year parts.year ≡ true
year_digits parts e = and_right (is_year_mark parts.year_mark) _
    (and_right (has_digits 1 2 parts.second) _ (behind_mark parts e))
