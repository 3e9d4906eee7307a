-- The answers of the commands on bank statements and their lines, each with the version after it.
use Rattle.std.specs.Prelude.{◌≡◌, ℕ, List, [], ◌∷◌, codes, Option, Some, None, false, refl}
use Rattle.serde_json.specs.Data.{Data, Members, array, boolean, item, no_items, no_members, object, string}
use Rattle.serde_json.specs.Written.{has_float}
use Rattle.book_match.specs.declared.views.Matched.{Matched as Pair}
use Rattle.book_statement.specs.declared.line_state.LineState.{LineState}
use Rattle.book_statement.specs.declared.line_state.LineState.TheVariants.{Open, Matched, Dismissed}
use Rattle.book_statement.specs.declared.part.Part.{Part}
use Rattle.book_statement.specs.declared.statement_line.StatementLine.{StatementLine}
use Rattle.book_command.specs.declared.answer.HeldShown.{HeldShown}
use Rattle.book_command.specs.declared.answer.LineShown.{LineShown}
use Rattle.book_command.specs.declared.word.Word.TheVariants.{Bind, Import, LineAdd, LineDismiss, LineReopen, Lines}
use Rattle.book_command.specs.declared.word.Word.TheVariants.{Statements}
use Rattle.book_command.specs.declared.word.Word.TheVariants.{LineMatch, MatchAuto}
use Rattle.book_texts.specs.Fields.{answered, with_all}
use Rattle.book_texts.specs.Shown.{day_data, list_data, list-plain, number_data, option_data, option-plain}
use Rattle.book_texts.specs.Shown.{signed_data, signed-plain}

-- `bind` has no field of its own.
abbrev pub bind : ℕ → Members
bind = answered Bind []

-- `import`: the numbers of the statements and of the lines that were added, and how many lines of the file were in the
-- book already, or earlier in the file.
abbrev pub import : List ℕ → List ℕ → ℕ → ℕ → Members
import statements lines seen =
    answered Import
    ((codes "lines", list_data number_data lines)
    ∷ (codes "seen", number_data seen)
    ∷ (codes "statements", list_data number_data statements)
    ∷ [])

-- `line_match` has no field of its own.
abbrev pub line_match : ℕ → Members
line_match = answered LineMatch []

-- `line_add`: the number of the new transaction, and the numbers of its splits.
abbrev pub line_add : ℕ → List ℕ → ℕ → Members
line_add transaction splits =
    answered LineAdd
    ((codes "splits", list_data number_data splits) ∷ (codes "transaction", number_data transaction) ∷ [])

-- `line_dismiss` has no field of its own.
abbrev pub line_dismiss : ℕ → Members
line_dismiss = answered LineDismiss []

-- `line_reopen` has none either.
abbrev pub line_reopen : ℕ → Members
line_reopen = answered LineReopen []

-- A line with the split that it takes: the numbers of the two.
abbrev pub pair_data : Pair → Data
pair_data pair = list_data number_data (pair.line ∷ pair.split ∷ [])

-- Neither number has a fraction.
pub pair-plain : (pair : Pair) → has_float (pair_data pair) ≡ false
pair-plain pair = refl

-- `match_auto`: the lines that were matched, each with its split.
abbrev pub match_auto : List Pair → ℕ → Members
match_auto pairs = answered MatchAuto ((codes "pairs", list_data pair_data pairs) ∷ [])

-- A part of a line: its category, its memo and its amount.
abbrev pub part_data : Part → Data
part_data part =
    array (item (string part.category) (item (string part.memo) (item (signed_data part.amount) no_items)))

-- No number of a part has a fraction.
pub part-plain : (part : Part) → has_float (part_data part) ≡ false
part-plain part = rw (signed-plain part.amount) refl

-- What the file says of a line.
abbrev pub body_members : StatementLine → List (List ℕ × Data)
body_members body =
    (codes "amount", signed_data body.amount)
    ∷ (codes "category", string body.category)
    ∷ (codes "day", day_data body.day)
    ∷ (codes "kind", string body.kind)
    ∷ (codes "parts", list_data part_data body.parts)
    ∷ (codes "ref_bank", string body.ref_bank)
    ∷ (codes "ref_own", string body.ref_own)
    ∷ (codes "text", string body.text)
    ∷ (codes "value_day", day_data body.value_day)
    ∷ []

-- The word for what became of a line.
abbrev pub state_word : LineState → List ℕ
state_word Open = codes "open"
state_word (Matched split) = codes "matched"
state_word Dismissed = codes "dismissed"

-- The split that a line is matched with, if it is.
abbrev pub matched_split : LineState → Option ℕ
matched_split (Matched split) = Some split
matched_split _ = None

-- The members of a line: its number, its ordinal among equal lines, what became of it, the statement that it belongs
-- to, and what the file says of it.
abbrev pub line_members : LineShown → Members
line_members shown =
    with_all no_members
    ((codes "id", number_data shown.id)
    ∷ (codes "ordinal", number_data shown.line.ordinal)
    ∷ (codes "split", option_data number_data (matched_split shown.line.state))
    ∷ (codes "state", string (state_word shown.line.state))
    ∷ (codes "statement", number_data shown.line.statement)
    ∷ body_members shown.line.body)

-- A line: the object of its members.
abbrev pub line_data : LineShown → Data
line_data shown = object (line_members shown)

-- No number of a line has a fraction.
pub line-plain : (shown : LineShown) → has_float (line_data shown) ≡ false
line-plain shown =
    rw (
      signed-plain shown.line.body.amount,
      list-plain part_data part-plain shown.line.body.parts,
      option-plain number_data (λ n. refl) (matched_split shown.line.state),
    )
    refl

-- `lines`: the lines of the account.
abbrev pub lines : List LineShown → ℕ → Members
lines shown = answered Lines ((codes "lines", list_data line_data shown) ∷ [])

-- The members of a statement: its number, what the file calls the account, the number that the bank gave it, its
-- balances, its day, and whether its opening balance and its lines sum to its closing balance.
abbrev pub held_members : HeldShown → Members
held_members shown =
    with_all no_members
    ((codes "account_text", string shown.held.account_text)
    ∷ (codes "closing", option_data signed_data shown.held.closing)
    ∷ (codes "day", day_data shown.held.day)
    ∷ (codes "id", number_data shown.id)
    ∷ (codes "number", string shown.held.number)
    ∷ (codes "opening", option_data signed_data shown.held.opening)
    ∷ (codes "ties", option_data boolean shown.held.ties)
    ∷ [])

-- A statement: the object of its members.
abbrev pub held_data : HeldShown → Data
held_data shown = object (held_members shown)

-- No number of a statement has a fraction.
pub held-plain : (shown : HeldShown) → has_float (held_data shown) ≡ false
held-plain shown =
    rw (
      option-plain signed_data signed-plain shown.held.closing,
      option-plain signed_data signed-plain shown.held.opening,
      option-plain boolean (λ truth. refl) shown.held.ties,
    )
    refl

-- `statements`: the statements of the account.
abbrev pub statements : List HeldShown → ℕ → Members
statements shown = answered Statements ((codes "statements", list_data held_data shown) ∷ [])
