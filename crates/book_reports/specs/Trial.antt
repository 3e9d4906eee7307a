-- The trial balance: for each currency the sums of the accounts, debits beside credits, which add up to the same
-- (GnuCash Manual, reports: trial balance).
use Rattle.std.specs.Prelude.{◌≡◌, ℕ, ◌==◌, ℤ, pos, neg_ℤ, int_lt, if◌then◌else◌, List, [], ◌∷◌, ◌++◌, length, map}
use Rattle.std.specs.Prelude.{codes}
use Rattle.std.specs.Prelude.{◌≤◌, unsigned_abs, All, Option, Some, None}
use Rattle.std.specs.List.{filter_map, flat_map}
use Rattle.std.specs.Ordering.{int_eq}
use Rattle.book_accounts.specs.Order.{depth_first}
use Rattle.book_accounts.specs.Path.{path}
use Rattle.book_commodity.specs.Amount.{amount_text}
use Rattle.book_commodity.specs.Currency.{is_currency}
use Rattle.book_commodity.specs.Day.{day_text}
use Rattle.book_commodity.specs.declared.commodity.Commodity.{Commodity}
use Rattle.book_splits.specs.Balance.{total}
use Rattle.book_undo.specs.Book.{Book}
use Rattle.book_limits.specs.Limits.{largest_sum}
use Rattle.book_reports.specs.Layout.{printed, record_text, right}
use Rattle.book_reports.specs.Measure.{value_in}
use Rattle.book_reports.specs.Sheet.{until}
use Rattle.book_reports.specs.declared.form.Form.{Form}
use Rattle.book_reports.specs.declared.form.Form.TheVariants.{Csv, Plain}
use Rattle.book_reports.specs.declared.trial_balance.TrialLine.{TrialLine}

-- The part of a sum that is positive, and nothing of a negative one.
abbrev pub positive : ℤ → ℤ
positive sum = if int_lt (pos 0) sum then sum else pos 0

-- The line of a sum: it stands as debit where it is positive, and as credit, without its sign, where it is negative.
-- There is none where the sum is zero.
abbrev pub line_with : List ℕ → ℤ → Option TrialLine
line_with path sum =
    if int_eq sum (pos 0) then None
    else Some (record { path = path; debit = positive sum; credit = positive (neg_ℤ sum) })

-- The line of an account in a currency, of the sum of its values up to the day.
abbrev pub line_of : Book → ℤ → ℕ → ℕ → Option TrialLine
line_of book day currency account =
    line_with (path book.accounts account) (value_in book (until day) currency account)

-- The lines of a currency, in the order of the tree of accounts.
unfoldable pub lines_of : Book → ℤ → ℕ → List TrialLine
lines_of book day currency = filter_map (line_of book day currency) (depth_first book.accounts)

-- The lines of a currency are so few, and their sums so small, that they can be added up.
pub record CanBeAdded (lines : List TrialLine) : Type 0 where
  pub few : length lines ≤ 10000
  pub small : All (λ line. (unsigned_abs line.debit ≤ largest_sum) × (unsigned_abs line.credit ≤ largest_sum)) lines

-- The sum of the debits.
unfoldable pub debits : List TrialLine → ℤ
debits lines = total (map (λ line. line.debit) lines)

-- The sum of the credits.
unfoldable pub credits : List TrialLine → ℤ
credits lines = total (map (λ line. line.credit) lines)

-- In each currency the debits of a trial balance add up to the same as its credits (GnuCash Concepts Guide, double
-- entry).
abbrev pub IsBalanced : Book → ℤ → Type 0
IsBalanced book day = (currency : ℕ) → debits (lines_of book day currency) ≡ credits (lines_of book day currency)

-- The text of a side: the amount where it is positive, and blank where it isn't.
unfoldable pub side_text : ℕ → ℤ → List ℕ
side_text fraction amount = if int_lt (pos 0) amount then amount_text amount fraction else []

-- A line of debit, credit and what they are of.
unfoldable pub plain_line : List ℕ → List ℕ → List ℕ → List ℕ
plain_line debit credit name = right 24 debit ++ right 24 credit ++ codes "  " ++ printed name ++ 10 ∷ []

-- The lines of the accounts.
abbrev pub plain_lines : ℕ → List TrialLine → List ℕ
plain_lines fraction lines =
    flat_map (λ line. plain_line (side_text fraction line.debit) (side_text fraction line.credit) line.path) lines

-- The part of a currency: its name, its lines, and the sums of both sides.
abbrev pub plain_part : Commodity → List TrialLine → List ℕ
plain_part currency lines =
    printed currency.name ++ 10 ∷ [] ++ plain_lines currency.fraction lines
    ++ plain_line (amount_text (debits lines) currency.fraction) (amount_text (credits lines) currency.fraction)
    (codes "Total")

-- A record of a currency, an account, a debit and a credit.
abbrev pub csv_record : List ℕ → List ℕ → List ℕ → List ℕ → List ℕ
csv_record currency account debit credit = record_text (currency ∷ account ∷ debit ∷ credit ∷ [])

-- The records of the accounts.
abbrev pub csv_lines : Commodity → List TrialLine → List ℕ
csv_lines currency lines =
    flat_map (λ line. csv_record currency.name line.path (side_text currency.fraction line.debit)
    (side_text currency.fraction line.credit)) lines

-- The same as records; the sums stand as an account Total.
abbrev pub csv_part : Commodity → List TrialLine → List ℕ
csv_part currency lines =
    csv_lines currency lines
    ++ csv_record currency.name (codes "Total") (amount_text (debits lines) currency.fraction)
    (amount_text (credits lines) currency.fraction)

abbrev pub part_in : Form → Commodity → List TrialLine → List ℕ
part_in Plain currency lines = plain_part currency lines
part_in Csv currency lines = csv_part currency lines

-- The part of a commodity: nothing where it is no currency, or no account has a line.
unfoldable pub part_of : Book → ℤ → Form → (ℕ × Commodity) → List ℕ
part_of book day form entry =
    if is_currency entry.1
    then (if length (lines_of book day entry.0) == 0 then [] else part_in form entry.1 (lines_of book day entry.0))
    else []

-- The title with the day.
abbrev pub title : ℤ → List ℕ
title day = codes "Trial balance " ++ day_text day ++ 10 ∷ []

abbrev pub heading : ℤ → Form → List ℕ
heading day Plain = title day
heading day Csv = csv_record (codes "currency") (codes "account") (codes "debit") (codes "credit")

-- The trial balance of a book up to a day, by currencies in the order of their numbers.
unfoldable pub trial : Book → ℤ → Form → List ℕ
trial book day form = heading day form ++ flat_map (part_of book day form) book.commodities
