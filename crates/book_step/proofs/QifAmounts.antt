-- The lines that a QIF file says have amounts that a book may hold.
use Rattle.std.proofs.Common.{◌≡◌, ℕ, ◌==◌, Bool, true, false, pos, List, [], ◌∷◌, ◌++◌, if◌then◌else◌, length}
use Rattle.std.proofs.Common.{Option, Some, None, is_some, option_map, unwrap_or, Ok, IfSome, refl, subst}
use Rattle.std.specs.Option.{option_or}
use Rattle.book_commodity.specs.declared.commodity.Commodity.{Commodity}
use Rattle.book_statement.specs.Checks.{first_bad, first_fault}
use Rattle.book_statement.specs.Lists.{each_after}
use Rattle.book_statement.specs.Numbers.{unit_checks, units}
use Rattle.book_statement.specs.Texts.{lines_of}
use Rattle.book_statement.specs.declared.bad.Bad.TheVariants.{AmountForm}
use Rattle.book_statement.specs.declared.fault.StatementFault.{StatementFault}
use Rattle.book_statement.specs.declared.statement.Statement.{Statement}
use Rattle.book_sound.specs.LineRules.{is_over_limit}
use Rattle.qif_read.specs.Entries.{amount_of, first_of, line_in, place_of}
use Rattle.qif_read.specs.Qif.{answer_of, entries_places, entry_places, form_of, line_checks, line_places}
use Rattle.qif_read.specs.Qif.{listing_places, name_behind, places, reading, statements, statements_behind}
use Rattle.qif_read.specs.Qif.{statements_of}
use Rattle.qif_read.specs.QifAmount.{amount, amount_checks, decimal_part, is_negative, is_number, whole_digits}
use Rattle.qif_read.specs.QifAmount.{whole_part}
use Rattle.qif_read.specs.Registers.{is_opening, line_of_each, lines_in, statement_in}
use Rattle.qif_read.specs.Tree.{Entry, Line, Listing, listings_of}
use Rattle.qif_read.specs.declared.form.Form.{Form}
use Rattle.qif_read.specs.declared.kind.Code.{Code}
use Rattle.qif_read.specs.declared.kind.Code.TheVariants.{Date, Total, OtherTotal, Number, Payee, Memo, Category, Split}
use Rattle.qif_read.specs.declared.kind.Code.TheVariants.{SplitMemo, SplitAmount, Other}
use Rattle.qif_read.specs.declared.kind.Topic.{Topic}
use Rattle.qif_read.specs.declared.kind.Topic.TheVariants.{Register, Accounts, Passed}
use Rattle.qif_read.specs.declared.order.DateOrder.{DateOrder}
use Rattle.book_step.proofs.ReadAmounts.{AllWithin, AreWithin, check-head, each-append, no-fault, place-holds}
use Rattle.book_step.proofs.ReadAmounts.{places-parts, signed-within, units-small}

-- an amount that passes its checks is at most 10^12 in size
amount-within :
    (fraction : ℕ) (text : List ℕ) → first_bad (amount_checks fraction text) ≡ None
    → is_over_limit (amount fraction text) ≡ false
unfolding amount amount_checks
amount-within fraction text holds =
    let whole = whole_digits text in
    let decimals = decimal_part text in
    let form = check-head (is_number (whole_part text) decimals) AmountForm (unit_checks whole decimals fraction) holds in
    signed-within (is_negative text) (units whole decimals fraction) (units-small whole decimals fraction form.1)

-- ---- the lines T and U of an entry

abbrev Within : ℕ → Option (List ℕ) → Type 0
Within fraction given = IfSome given (λ text. is_over_limit (amount fraction text) ≡ false)

total-here :
    (form : Form) (in_split : Bool) (code : Code) (text : List ℕ) (rest : Option (List ℕ))
    → first_bad (line_checks form in_split code text) ≡ None → Within form.fraction rest
    → Within form.fraction (if place_of code == 1 then Some text else rest)
total-here form in_split Total text rest holds more = amount-within form.fraction text holds
total-here form in_split Date text rest holds more = more
total-here form in_split OtherTotal text rest holds more = more
total-here form in_split Number text rest holds more = more
total-here form in_split Payee text rest holds more = more
total-here form in_split Memo text rest holds more = more
total-here form in_split Category text rest holds more = more
total-here form in_split Split text rest holds more = more
total-here form in_split SplitMemo text rest holds more = more
total-here form in_split SplitAmount text rest holds more = more
total-here form in_split Other text rest holds more = more

other-here :
    (form : Form) (in_split : Bool) (code : Code) (text : List ℕ) (rest : Option (List ℕ))
    → first_bad (line_checks form in_split code text) ≡ None → Within form.fraction rest
    → Within form.fraction (if place_of code == 2 then Some text else rest)
other-here form in_split OtherTotal text rest holds more = amount-within form.fraction text holds
other-here form in_split Date text rest holds more = more
other-here form in_split Total text rest holds more = more
other-here form in_split Number text rest holds more = more
other-here form in_split Payee text rest holds more = more
other-here form in_split Memo text rest holds more = more
other-here form in_split Category text rest holds more = more
other-here form in_split Split text rest holds more = more
other-here form in_split SplitMemo text rest holds more = more
other-here form in_split SplitAmount text rest holds more = more
other-here form in_split Other text rest holds more = more

totals-within :
    (form : Form) (before fields : List Line) → first_fault (each_after (line_places form) before fields) ≡ None
    → Within form.fraction (first_of Total fields) × Within form.fraction (first_of OtherTotal fields)
totals-within form before [] none = (tt, tt)
totals-within form before (f ∷ fs) none =
    let here = places-parts (line_places form before f) (each_after (line_places form) (before ++ f ∷ []) fs) none in
    let in_split = is_some (first_of Split before) in
    let holds = place-holds f.line (line_checks form in_split f.code f.text) here.0 in
    let rest = totals-within form (before ++ f ∷ []) fs here.1 in (
      total-here form in_split f.code f.text (first_of Total fs) holds rest.0,
      other-here form in_split f.code f.text (first_of OtherTotal fs) holds rest.1,
    )

either-within :
    (fraction : ℕ) (total other : Option (List ℕ)) → Within fraction total → Within fraction other
    → is_over_limit (unwrap_or (option_or (option_map (amount fraction) total) (option_map (amount fraction) other))
    (pos 0)) ≡ false
either-within fraction (Some text) other here there = here
either-within fraction None (Some text) here there = there
either-within fraction None None here there = refl

-- ---- the entries of a register

entry-within :
    (form : Form) (name : List ℕ) (count : ℕ) (before : List Entry) (entry : Entry)
    → first_fault (entry_places form name count before entry) ≡ None
    → is_over_limit (amount_of form entry.fields) ≡ false
entry-within form name count before entry none =
    let lines = places-parts (each_after (line_places form) [] entry.fields) _ none in
    let totals = totals-within form [] entry.fields lines.0 in
    either-within form.fraction (first_of Total entry.fields) (first_of OtherTotal entry.fields) totals.0 totals.1

entries-within :
    (form : Form) (name : List ℕ) (count : ℕ) (before entries : List Entry)
    → first_fault (each_after (entry_places form name count) before entries) ≡ None
    → AreWithin (line_of_each form entries)
entries-within form name count before [] none = tt
entries-within form name count before (entry ∷ more) none =
    let here = places-parts (entry_places form name count before entry)
    (each_after (entry_places form name count) (before ++ entry ∷ []) more) none in (
      entry-within form name count before entry here.0,
      entries-within form name count (before ++ entry ∷ []) more here.1,
    )

lines-within :
    (form : Form) (name : List ℕ) (entries : List Entry) → AreWithin (line_of_each form entries)
    → AreWithin (lines_in form name entries)
lines-within form name [] all = tt
lines-within form name (first ∷ later) all = go (is_opening name first.fields)
  where
    go : (opens : Bool)
        → AreWithin (if opens then line_of_each form later else line_in form first.fields ∷ line_of_each form later)
    go true = all.1
    go false = all

register-within :
    (form : Form) (name : List ℕ) (entries : List Entry) → AreWithin (line_of_each form entries)
    → AllWithin (statement_in form name entries)
register-within form name [] all = tt
register-within form name (first ∷ later) all = (lines-within form name (first ∷ later) all, tt)

-- ---- the lists of a file

topic-within :
    (form : Form) (topic : Topic) (name : List ℕ) (count : ℕ) (entries : List Entry)
    → first_fault (entries_places form topic name count entries) ≡ None
    → AllWithin (statements_of form topic name entries)
topic-within form Register name count entries none =
    register-within form name entries (entries-within form name count [] entries none)
topic-within form Accounts name count entries none = tt
topic-within form Passed name count entries none = tt

listings-within :
    (form : Form) (before listings : List Listing)
    → first_fault (each_after (listing_places form) before listings) ≡ None
    → AllWithin (each_after (statements_behind form) before listings)
listings-within form before [] none = tt
listings-within form before (l ∷ ls) none =
    let here = places-parts (listing_places form before l) (each_after (listing_places form) (before ++ l ∷ []) ls)
    none in
    each-append (λ (s : Statement). AreWithin s.lines) (statements_behind form before l)
    (each_after (statements_behind form) (before ++ l ∷ []) ls)
    (topic-within form l.topic (name_behind before) (length (statements form before)) l.entries here.0)
    (listings-within form (before ++ l ∷ []) ls here.1)

answer-within :
    (fault : Option StatementFault) (all said : List Statement) → (fault ≡ None → AllWithin all)
    → answer_of fault all ≡ Ok said → AllWithin said
answer-within fault [] said within is = absurd cc
answer-within fault (s ∷ ss) said within is =
    let done = no-fault fault (s ∷ ss) said is in subst AllWithin done.1 (within done.0)

pub qif-within :
    (currency : Commodity) (order : DateOrder) (text : List ℕ) (said : List Statement)
    → reading currency order text ≡ Ok said → AllWithin said
unfolding reading
qif-within currency order text said is =
    let form = form_of currency order in
    let listings = listings_of (lines_of text) in
    answer-within (first_fault (places form listings)) (statements form listings) said
    (listings-within form [] listings) is
