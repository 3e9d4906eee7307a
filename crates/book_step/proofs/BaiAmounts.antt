-- The lines that a BAI2 file says have amounts that a book may hold.
use Rattle.std.proofs.Common.{◌≡◌, ℕ, nat_le, Bool, true, false, ◌&&◌, ℤ, pos, neg_ℤ, List, [], ◌∷◌, ◌++◌, length, Option}
use Rattle.std.proofs.Common.{if◌then◌else◌, Some, None, Ok, refl, subst, slice_index, ◌==◌}
use Rattle.book_commodity.specs.declared.commodity.Commodity.{Commodity}
use Rattle.book_statement.specs.Checks.{first_fault}
use Rattle.book_statement.specs.Numbers.{largest_amount, number}
use Rattle.book_statement.specs.Texts.{lines_of}
use Rattle.book_statement.specs.declared.statement.Statement.{Statement}
use Rattle.book_statement.specs.declared.level.Level.TheVariants.{Account}
use Rattle.book_sound.specs.LineRules.{is_over_limit}
use Rattle.bai2_read.specs.Amounts.{amount, is_credit, is_debit, is_given, is_signed, line_amount, signed_number}
use Rattle.bai2_read.specs.Amounts.{without_sign}
use Rattle.bai2_read.specs.Details.{detail_amount, is_type, lines_of_detail, lines_with}
use Rattle.bai2_read.specs.Fields.{field}
use Rattle.bai2_read.specs.Kinds.{is_account_trailer}
use Rattle.bai2_read.specs.Lines.{records_of}
use Rattle.bai2_read.specs.Reading.{end_place, places, reading}
use Rattle.bai2_read.specs.Records.{Record}
use Rattle.bai2_read.specs.Said as said
use Rattle.bai2_read.specs.Said.{lines_in, lines_on, statements_at, statements_of}
use Rattle.bai2_read.specs.Statements.{statement_with}
use Rattle.bai2_read.specs.declared.kind.Kind.{Kind}
use Rattle.bai2_read.specs.declared.kind.Kind.TheVariants.{Blank, FileHeader, GroupHeader, AccountHeader, Detail}
use Rattle.bai2_read.specs.declared.kind.Kind.TheVariants.{AccountTrailer, Continuation, GroupTrailer, FileTrailer}
use Rattle.bai2_read.specs.declared.kind.Kind.TheVariants.{Unknown, NoRecord}
use Rattle.book_step.proofs.ReadAmounts.{AllWithin, AreWithin, each-behind, each-gathered, minus-within, no-fault}
use Rattle.book_step.proofs.ReadAmounts.{signed-within}

right_holds : (a b : Bool) → (a && b) ≡ true → b ≡ true
right_holds true b both = both
right_holds false b both = absurd cc

-- an amount is at most 10^12 in size, or is 0
amount-within : (text : List ℕ) → is_over_limit (amount text) ≡ false
unfolding amount
amount-within text = go (is_given text) refl
  where
    go : (given : Bool) → is_given text ≡ given
        → is_over_limit (if given then signed_number text else pos 0) ≡ false
    go true is = signed-within (slice_index text 0 == 45) (number (without_sign text))
        (right_holds (is_signed 15 text) (nat_le (number (without_sign text)) largest_amount) is)
    go false is = refl

-- so is what a line has of it
taken-within :
    (type : ℕ) (given taken : ℤ) → is_over_limit given ≡ false → line_amount type given ≡ Some taken
    → is_over_limit taken ≡ false
unfolding line_amount
taken-within type given taken within is = go (is_credit type) (is_debit type) is
  where
    go : (credit debit : Bool)
        → (if credit then Some given else (if debit then Some (neg_ℤ given) else None)) ≡ Some taken
        → is_over_limit taken ≡ false
    go true debit is = let same : given ≡ taken = cc in subst (λ z. is_over_limit z ≡ false) same within
    go false true is =
        let same : neg_ℤ given ≡ taken = cc in subst (λ z. is_over_limit z ≡ false) same (minus-within given within)
    go false false is = absurd cc

detail-taken : (body : List ℕ) (taken : ℤ) → detail_amount body ≡ Some taken → is_over_limit taken ≡ false
unfolding detail_amount
detail-taken body taken is = go (is_type (field 0 body)) is
  where
    go : (typed : Bool)
        → (if typed then line_amount (number (field 0 body)) (amount (field 1 body)) else None) ≡ Some taken
        → is_over_limit taken ≡ false
    go true is = taken-within (number (field 0 body)) (amount (field 1 body)) taken (amount-within (field 1 body)) is
    go false is = absurd cc

detail-within : (day : ℤ) (body more : List ℕ) → AreWithin (lines_of_detail day body more)
unfolding Rattle.bai2_read.specs.Details.line_of
detail-within day body more = go (detail_amount body) refl
  where
    go : (taken : Option ℤ) → detail_amount body ≡ taken → AreWithin (lines_with day body more taken)
    go None is = tt
    go (Some given) is = (detail-taken body given is, tt)

kind-within : (day : ℤ) (kind : Kind) (body more : List ℕ) → AreWithin (lines_in day kind body more)
kind-within day Detail body more = detail-within day body more
kind-within day Blank body more = tt
kind-within day FileHeader body more = tt
kind-within day GroupHeader body more = tt
kind-within day AccountHeader body more = tt
kind-within day AccountTrailer body more = tt
kind-within day Continuation body more = tt
kind-within day GroupTrailer body more = tt
kind-within day FileTrailer body more = tt
kind-within day Unknown body more = tt
kind-within day NoRecord body more = tt

records-within : (day : ℤ) (records : List Record) → AreWithin (lines_on day records)
records-within day records =
    each-gathered (λ line. is_over_limit line.amount ≡ false) (λ (r : Record). lines_in day r.kind r.body r.text)
    records (λ r. kind-within day r.kind r.body r.text)

statement-within : (before : List Record) (r : Record) → AllWithin (statements_at before r)
unfolding statement_with
statement-within before r = go (is_account_trailer r.kind)
  where
    go : (complete : Bool) → AllWithin (if complete
        then
        statement_with (said.number_of before) (said.day_of before) (said.currency_of before) (said.account_of before)
        (said.lines_of before) ∷ []
        else [])
    go true = (records-within (said.day_of before) (said.section Account before), tt)
    go false = tt

pub bai2-within :
    (known : List (ℕ × Commodity)) (text : List ℕ) (statements : List Statement)
    → reading known text ≡ Ok statements → AllWithin statements
bai2-within known text statements is =
    let lines = lines_of text in
    let records = records_of lines in
    let whole = places known records ++ end_place (length lines) (said.last_kind records) ∷ [] in
    let done = no-fault (first_fault whole) (statements_of records) statements is in
    subst AllWithin done.1
    (each-behind (λ (s : Statement). AreWithin s.lines) statements_at [] records statement-within)
