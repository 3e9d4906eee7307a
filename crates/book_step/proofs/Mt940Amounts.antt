-- The lines that an MT940 file says have amounts that a book may hold.
use Rattle.std.proofs.Common.{◌≡◌, ℕ, Bool, true, false, List, [], ◌∷◌, ◌++◌, if◌then◌else◌, is_some, nat_lt, None}
use Rattle.std.proofs.Common.{Ok, subst}
use Rattle.std.specs.List.{AllByRecursion, after_first, before_first}
use Rattle.book_commodity.specs.declared.commodity.Commodity.{Commodity}
use Rattle.book_statement.specs.Checks.{check, first_bad, first_fault}
use Rattle.book_statement.specs.Lists.{each_after, in_front}
use Rattle.book_statement.specs.Numbers.{units}
use Rattle.book_statement.specs.Texts.{lines_of}
use Rattle.book_statement.specs.declared.bad.Bad.TheVariants.{FieldOrder, TooMany}
use Rattle.book_statement.specs.declared.statement.Statement.{Statement}
use Rattle.book_statement.specs.declared.statement_line.StatementLine.{StatementLine}
use Rattle.book_sound.specs.LineRules.{is_over_limit}
use Rattle.mt940_read.specs.Amounts.{amount, amount_checks, is_comma}
use Rattle.mt940_read.specs.Entries.{entries, entry, fraction_behind, last_tag, text_behind}
use Rattle.mt940_read.specs.FileChecks.{checks_of, lines_so_far, text_checks}
use Rattle.mt940_read.specs.LineField.{amount_part, is_taken, line, line_amount, line_form}
use Rattle.mt940_read.specs.Messages.{closing_of, lines_in}
use Rattle.mt940_read.specs.Order.{is_line, may_follow}
use Rattle.mt940_read.specs.Reading.{end_place, field_place, file_places, message_places, reading}
use Rattle.mt940_read.specs.Statements.{alone, joins, onto, statements_of}
use Rattle.mt940_read.specs.Tree.{FieldLines, MessageLines, messages_of}
use Rattle.mt940_read.specs.declared.tag.Tag.{Tag}
use Rattle.mt940_read.specs.declared.tag.Tag.TheVariants.{Reference, Related, Account, Number, Opening, Line, Text}
use Rattle.mt940_read.specs.declared.tag.Tag.TheVariants.{Closing, Available, Forward}
use Rattle.book_step.proofs.ReadAmounts.{AllWithin, AreWithin, check-head, checks-parts, each-append, no-fault}
use Rattle.book_step.proofs.ReadAmounts.{place-holds, places-parts, signed-within, units-small}

-- an amount that passes its checks is at most 10^12 in size
line-within :
    (fraction : ℕ) (text : List ℕ) → first_bad (amount_checks fraction (amount_part text)) ≡ None
    → is_over_limit (line_amount fraction text) ≡ false
unfolding line_amount amount amount_checks
line-within fraction text holds =
    let whole = before_first is_comma (amount_part text) in
    let decimals = after_first is_comma (amount_part text) in
    signed-within (is_taken text) (units whole decimals fraction) (units-small whole decimals fraction holds)

-- the line of a field whose checks hold
entry-within :
    (known : List (ℕ × Commodity)) (messages : List MessageLines) (before : List FieldLines) (tag : Tag)
    (text : List ℕ) (pieces : List (List ℕ)) → first_bad (text_checks known messages before tag text) ≡ None
    → AreWithin (if is_line tag then line (fraction_behind known before) text pieces ∷ [] else [])
unfolding line
entry-within known messages before Line text pieces holds =
    let fraction = fraction_behind known before in
    let room = check (nat_lt (lines_so_far known messages before) 10_000) TooMany ∷ [] in
    let form = checks-parts (line_form text) (amount_checks fraction (amount_part text) ++ room) holds in
    let amounts = checks-parts (amount_checks fraction (amount_part text)) room form.1 in
    (line-within fraction text amounts.0, tt)
entry-within known messages before Reference text pieces holds = tt
entry-within known messages before Related text pieces holds = tt
entry-within known messages before Account text pieces holds = tt
entry-within known messages before Number text pieces holds = tt
entry-within known messages before (Opening goes_on) text pieces holds = tt
entry-within known messages before Text text pieces holds = tt
entry-within known messages before (Closing goes_on) text pieces holds = tt
entry-within known messages before Available text pieces holds = tt
entry-within known messages before Forward text pieces holds = tt

-- the lines of fields whose places have no fault
entries-within :
    (known : List (ℕ × Commodity)) (messages : List MessageLines) (before fields : List FieldLines)
    → first_fault (each_after (field_place known messages) before fields) ≡ None
    → AreWithin (entries known before fields)
entries-within known messages before [] none = tt
entries-within known messages before (f ∷ fs) none =
    let here = places-parts (field_place known messages before f)
    (each_after (field_place known messages) (before ++ f ∷ []) fs) none in
    let checks = place-holds f.line (checks_of known messages before f) here.0 in
    let own = check-head (may_follow (last_tag before) (is_some (closing_of known before)) f.tag) FieldOrder
    (text_checks known messages before f.tag f.first) checks in
    each-append (λ (l : StatementLine). is_over_limit l.amount ≡ false) (entry known before f fs)
    (entries known (before ++ f ∷ []) fs)
    (entry-within known messages before f.tag f.first (f.more ++ text_behind fs) own.1)
    (entries-within known messages (before ++ f ∷ []) fs here.1)

-- the lines of messages
messages-within :
    (known : List (ℕ × Commodity)) (before messages : List MessageLines)
    → first_fault (each_after (message_places known) before messages) ≡ None
    → AllByRecursion (λ (m : MessageLines). AreWithin (lines_in known m.fields)) messages
messages-within known before [] none = tt
messages-within known before (m ∷ ms) none =
    let here = places-parts (message_places known before m) (each_after (message_places known) (before ++ m ∷ []) ms)
    none in
    let fields = places-parts (each_after (field_place known before) [] m.fields) (end_place known m ∷ []) here.0 in
    (entries-within known before [] m.fields fields.0, messages-within known (before ++ m ∷ []) ms here.1)

-- the statements of which they are pages
front-within :
    (known : List (ℕ × Commodity)) (m : MessageLines) (joined : Bool) (statements : List Statement)
    → AreWithin (lines_in known m.fields) → AllWithin statements
    → AllWithin (in_front (onto known) (alone known) joined m statements)
front-within known m joined [] own all = (own, tt)
front-within known m true (s ∷ statements) own all = (
  each-append (λ (l : StatementLine). is_over_limit l.amount ≡ false) (lines_in known m.fields) s.lines own all.0,
  all.1,
)
front-within known m false (s ∷ statements) own all = (own, all)

pages-within :
    (known : List (ℕ × Commodity)) (messages : List MessageLines)
    → AllByRecursion (λ (m : MessageLines). AreWithin (lines_in known m.fields)) messages
    → AllWithin (statements_of known messages)
pages-within known [] all = tt
pages-within known (m ∷ []) all = (all.0, tt)
pages-within known (m ∷ n ∷ ms) all =
    front-within known m (joins m n) (statements_of known (n ∷ ms)) all.0 (pages-within known (n ∷ ms) all.1)

file-within :
    (known : List (ℕ × Commodity)) (messages : List MessageLines) (statements : List Statement)
    → Rattle.mt940_read.specs.Reading.result_of known messages ≡ Ok statements → AllWithin statements
file-within known [] statements is = absurd cc
file-within known (m ∷ ms) statements is =
    let done = no-fault (first_fault (file_places known (m ∷ ms))) (statements_of known (m ∷ ms)) statements is in
    subst AllWithin done.1 (pages-within known (m ∷ ms) (messages-within known [] (m ∷ ms) done.0))

pub mt940-within :
    (known : List (ℕ × Commodity)) (text : List ℕ) (statements : List Statement)
    → reading known text ≡ Ok statements → AllWithin statements
unfolding reading
mt940-within known text statements is = file-within known (messages_of (lines_of text)) statements is
