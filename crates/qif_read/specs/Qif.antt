-- What a QIF file says: its statements, or the first place at which a check fails with the first failing check there.
use Rattle.std.specs.Prelude.{ℕ, nat_lt, Bool, ◌||◌, List, [], ◌∷◌, ◌++◌, length, map, Option, Result, Err}
use Rattle.std.specs.Prelude.{is_some}
use Rattle.std.specs.Ordering.{int_eq}
use Rattle.std.specs.List.{list_all}
use Rattle.book_statement.specs.Checks.{Check, check, Place, place, first_fault, unless_fault}
use Rattle.book_statement.specs.Lists.{each_after}
use Rattle.book_statement.specs.Texts.{is_nothing, lines_of}
use Rattle.book_statement.specs.declared.bad.Bad.TheVariants.{NoStatement, FieldForm, DateForm, SplitSum, CutOff}
use Rattle.book_statement.specs.declared.bad.Bad.TheVariants.{TooMany}
use Rattle.book_statement.specs.declared.fault.StatementFault.{StatementFault}
use Rattle.book_statement.specs.declared.statement.Statement.{Statement}
use Rattle.book_commodity.specs.declared.commodity.Commodity.{Commodity}
use Rattle.qif_read.specs.QifDate.{day_named}
use Rattle.qif_read.specs.QifAmount.{amount_checks}
use Rattle.qif_read.specs.Tree.{Line, Entry, Listing, listings_of}
use Rattle.qif_read.specs.Entries.{first_of, text_of, day_in, total_in, amount_of, splits_in, split_amount, parts_in}
use Rattle.qif_read.specs.Entries.{sum_of_parts}
use Rattle.qif_read.specs.Registers.{lines_in, statement_in}
use Rattle.qif_read.specs.declared.form.Form.{Form}
use Rattle.qif_read.specs.declared.kind.Code.{Code}
use Rattle.qif_read.specs.declared.kind.Code.TheVariants.{Date, Total, OtherTotal, Number, Split, SplitMemo}
use Rattle.qif_read.specs.declared.kind.Code.TheVariants.{SplitAmount}
use Rattle.qif_read.specs.declared.kind.Topic.{Topic}
use Rattle.qif_read.specs.declared.kind.Topic.TheVariants.{Register, Accounts, Passed}
use Rattle.qif_read.specs.declared.order.DateOrder.{DateOrder}

-- What is asked of a line of an entry, before which a part has begun or not: the memo and the amount of a part stand
-- behind its S, and dates and amounts have their form whether the line counts or not.
abbrev pub line_checks : Form → Bool → Code → List ℕ → List Check
line_checks form in_split Date text = check (is_some (day_named form.order text)) DateForm ∷ []
line_checks form in_split Total text = amount_checks form.fraction text
line_checks form in_split OtherTotal text = amount_checks form.fraction text
line_checks form in_split SplitMemo text = check in_split FieldForm ∷ []
line_checks form in_split SplitAmount text = check in_split FieldForm ∷ amount_checks form.fraction text
line_checks form in_split _ text = []

-- The checks of a line of an entry behind others: a part has begun where an S stands among them.
abbrev pub line_places : Form → List Line → Line → List Place
line_places form before f = place f.line (line_checks form (is_some (first_of Split before)) f.code f.text) ∷ []

-- What is asked at the end of an entry of a register: a line ^, a day, an amount, an amount of each part, and that the
-- parts sum to the amount; then the limits of this project: fewer than 1,000 statements stand before the register, and
-- fewer than 10,000 lines before the entry (one that gives the opening balance has none before it).
unfoldable pub entry_checks : Form → Bool → ℕ → ℕ → List Line → List Check
entry_checks form whole lines statements fields =
    let sum = sum_of_parts (parts_in form.fraction fields) in
    check whole CutOff
    ∷ check (is_some (day_in form fields)) FieldForm
    ∷ check (is_some (total_in form fields)) FieldForm
    ∷ check (list_all (λ split. is_some (split_amount form.fraction split)) (splits_in fields)) FieldForm
    ∷ check (is_nothing (splits_in fields) || int_eq sum (amount_of form fields)) (SplitSum (amount_of form fields) sum)
    ∷ check (nat_lt statements 1000) TooMany
    ∷ check (nat_lt lines 10000) TooMany ∷ []

-- The last of some items.
abbrev pub last_or : {X : Type 0} → X → List X → X
last_or before [] = before
last_or before (x ∷ xs) = last_or x xs

-- The name in an entry of a list of accounts.
abbrev pub name_of : Entry → List ℕ
name_of entry = text_of Number entry.fields

-- The name that a list gives to a register that follows it directly: a list of accounts gives that of its last entry.
abbrev pub name_given : Topic → List Entry → List ℕ
name_given Accounts entries = last_or [] (map name_of entries)
name_given Register entries = []
name_given Passed entries = []

-- The name that stands for a register behind these lists.
abbrev pub name_behind : List Listing → List ℕ
name_behind before = last_or [] (map (λ listing. name_given listing.topic listing.entries) before)

-- The statement of a list: only a register gives one.
abbrev pub statements_of : Form → Topic → List ℕ → List Entry → List Statement
statements_of form Register name entries = statement_in form name entries
statements_of form Accounts name entries = []
statements_of form Passed name entries = []

-- The statement of a list behind others, if it gives one.
abbrev pub statements_behind : Form → List Listing → Listing → List Statement
statements_behind form before listing =
    statements_of form listing.topic (name_behind before) listing.entries

-- The statements of a file.
abbrev pub statements : Form → List Listing → List Statement
statements form listings = each_after (statements_behind form) [] listings

-- The checks of an entry of a register behind others: of its lines, and of its end.
abbrev pub entry_places : Form → List ℕ → ℕ → List Entry → Entry → List Place
entry_places form name count before entry =
    let lines = lines_in form name before in
    each_after (line_places form) [] entry.fields
    ++ place entry.last (entry_checks form entry.whole (length lines) count entry.fields) ∷ []

-- Of an entry of a list of accounts only the end is checked.
abbrev pub account_places : List Entry → Entry → List Place
account_places before entry = place entry.last (check entry.whole CutOff ∷ []) ∷ []

-- The checks of the entries of a list, in front of which a name and so many statements stand.
abbrev pub entries_places : Form → Topic → List ℕ → ℕ → List Entry → List Place
entries_places form Register name count entries = each_after (entry_places form name count) [] entries
entries_places form Accounts name count entries = each_after account_places [] entries
entries_places form Passed name count entries = []

-- The checks of a list behind others.
abbrev pub listing_places : Form → List Listing → Listing → List Place
listing_places form before listing =
    entries_places form listing.topic (name_behind before) (length (statements form before)) listing.entries

-- The checks of a file, in the order of its lines.
abbrev pub places : Form → List Listing → List Place
places form listings = each_after (listing_places form) [] listings

-- A file without a statement is that fault, at line 0, whatever else is wrong with it.
abbrev pub answer_of : Option StatementFault → List Statement → Result (List Statement) StatementFault
answer_of fault [] = Err (record { line = 0; bad = NoStatement })
answer_of fault (s ∷ ss) = unless_fault fault (s ∷ ss)

-- What lists of entries say.
abbrev pub result_of : Form → List Listing → Result (List Statement) StatementFault
result_of form listings = answer_of (first_fault (places form listings)) (statements form listings)

-- How a file in a currency is read.
abbrev pub form_of : Commodity → DateOrder → Form
form_of currency order = record { order = order; fraction = currency.fraction; currency = currency.name }

-- What a QIF file says, in a currency and an order of day and month.
unfoldable pub reading : Commodity → DateOrder → List ℕ → Result (List Statement) StatementFault
reading currency order text = result_of (form_of currency order) (listings_of (lines_of text))
