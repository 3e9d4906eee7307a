-- Each answer is one line, and neither of the two that say why a line has no answer.
use Rattle.std.proofs.Common.{◌&&◌, ◌==◌, ◌≡◌, ◌∷◌, Bool, List, [], Some, codes, false, get_or, refl, true, ℕ, subst}
use Rattle.std.specs.Prelude.{bytes_eq}
use Rattle.serde_json.proofs.OnLiterals.{serde_json_on_literals}
use Rattle.serde_json.specs.Data.{object, string}
use Rattle.book_commodity.specs.OneLine.{is_one_line}
use Rattle.book_statement.specs.declared.bad.Bad.{Bad}
use Rattle.book_statement.specs.declared.bad.Bad.TheVariants.{NoStatement, FieldOrder, RecordOrder, FieldForm}
use Rattle.book_statement.specs.declared.bad.Bad.TheVariants.{DateForm, AmountForm, TooManyDecimals}
use Rattle.book_statement.specs.declared.bad.Bad.TheVariants.{UnknownCurrency, CurrencyDiffers, PageOrder, Version}
use Rattle.book_statement.specs.declared.bad.Bad.TheVariants.{GroupStatus, BalanceMismatch, ControlTotal, Count}
use Rattle.book_statement.specs.declared.bad.Bad.TheVariants.{SplitSum, CutOff, TooMany}
use Rattle.book_command.specs.declared.answer.Answer.{Answer}
use Rattle.book_command.specs.declared.answer.Answer.TheVariants.{AccountAdd, AccountDrop, AccountEdit}
use Rattle.book_command.specs.declared.answer.Answer.TheVariants.{BookCurrency, CommodityAdd, Post, Edit, Drop}
use Rattle.book_command.specs.declared.answer.Answer.TheVariants.{PriceSet, PriceDrop, Price, Undo, Redo, Status}
use Rattle.book_command.specs.declared.answer.Answer.TheVariants.{Register, Trial, Sheet, Income, Lots, Gains}
use Rattle.book_command.specs.declared.answer.Answer.TheVariants.{ScheduleAdd, ScheduleDrop, ScheduleRun, Due}
use Rattle.book_command.specs.declared.answer.Answer.TheVariants.{Bind, Import, LineAdd, LineDismiss, LineReopen}
use Rattle.book_command.specs.declared.answer.Answer.TheVariants.{Lines, Statements}
use Rattle.book_command.specs.declared.answer.Answer.TheVariants.{Mark, LineMatch, MatchAuto}
use Rattle.book_command.specs.declared.answer.Answer.TheVariants.{Reconcile, ReconcileStatement, Recons}
use Rattle.book_command.specs.declared.answer.Answer.TheVariants.{Void, Unvoid, Voided}
use Rattle.book_command.specs.declared.rule.Rule.{Rule}
use Rattle.book_command.specs.declared.rule.Rule.TheVariants.{Basis, BasisShape, Cycle, FractionShape, InUse, Limit}
use Rattle.book_command.specs.declared.rule.Rule.TheVariants.{NameTaken, NotEmpty, ParentKind, Placeholder, Root}
use Rattle.book_command.specs.declared.rule.Rule.TheVariants.{Reconciled, SplitCount, Stale, Unbalanced, Unknown}
use Rattle.book_command.specs.declared.rule.Rule.TheVariants.{NothingToRedo, NothingToUndo, ValueNotQuantity}
use Rattle.book_command.specs.declared.rule.Rule.TheVariants.{DayRange, PriceShape, RecurrenceShape, WrongCurrency}
use Rattle.book_command.specs.declared.rule.Rule.TheVariants.{BadStatement, LineTaken, Unbound}
use Rattle.book_command.specs.declared.rule.Rule.TheVariants.{LineAmount, NoClosing, Difference}
use Rattle.book_command.specs.declared.rule.Rule.TheVariants.{Voided as IsVoided, NotVoided}
use Rattle.book_command.specs.declared.wire_error.WireError.{WireError}
use Rattle.book_command.specs.declared.wire_error.WireError.TheVariants.{NotJson, NotCommand, OutOfMemory}
use Rattle.book_json.proofs.OneLine.{compact_text-one_line}
use Rattle.book_texts.specs.AnswerText.{answer_bytes, answer_members}
use Rattle.book_texts.specs.Fields.{refused}
use Rattle.book_texts.specs.RefusedText.{fault_bytes, too_long_bytes}
use Rattle.book_texts.specs.RuleText.{rule_bytes, rule_members}
use Rattle.book_texts.specs.Shown.{number_data}

-- A text is one line, and neither of the two that say why a line has no answer.
pub record IsOwnLine (text : List ℕ) : Type 0 where
  pub one_line : is_one_line text ≡ true
  pub no_memory : bytes_eq text (codes "{\"refused\":\"memory\"}") ≡ false
  pub no_keeper : bytes_eq text (codes "{\"refused\":\"keeper\"}") ≡ false

first_false : (x : Bool) → (x && false) ≡ false
first_false true = refl
first_false false = refl

second_false : (x y : Bool) → (x && (y && false)) ≡ false
second_false x y = rw (first_false y) (first_false x)

-- Where the byte after the brace and the quote is no `r`, a line is none of the two, which have "refused" there.
no_refusal : (text : List ℕ) → is_one_line text ≡ true → (get_or text 2 0 == 114) ≡ false → IsOwnLine text
no_refusal [] line other = record { one_line = line; no_memory = refl; no_keeper = refl }
no_refusal (a ∷ []) line other = record
    { one_line = line; no_memory = first_false (a == 123); no_keeper = first_false (a == 123) }
no_refusal (a ∷ b ∷ []) line other =
    record {
      one_line = line;
      no_memory = second_false (a == 123) (b == 34);
      no_keeper = second_false (a == 123) (b == 34);
    }
no_refusal (a ∷ b ∷ c ∷ more) line other =
    record {
      one_line = line;
      no_memory = rw other (second_false (a == 123) (b == 34));
      no_keeper = rw other (second_false (a == 123) (b == 34));
    }

answer-letter : (answer : Answer) (version : ℕ) → (get_or (answer_bytes answer version) 2 0 == 114) ≡ false
unfolding serde_json_on_literals
answer-letter BookCurrency version = refl
answer-letter (CommodityAdd commodity) version = refl
answer-letter (AccountAdd account) version = refl
answer-letter AccountEdit version = refl
answer-letter AccountDrop version = refl
answer-letter (Post transaction splits balances) version = refl
answer-letter (Edit transaction splits balances) version = refl
answer-letter Drop version = refl
answer-letter Void version = refl
answer-letter Unvoid version = refl
answer-letter Mark version = refl
answer-letter (PriceSet number) version = refl
answer-letter PriceDrop version = refl
answer-letter (Price rate) version = refl
answer-letter (Register text) version = refl
answer-letter (Trial text) version = refl
answer-letter (Sheet text) version = refl
answer-letter (Income text) version = refl
answer-letter (Lots text) version = refl
answer-letter (Gains gain) version = refl
answer-letter (ScheduleAdd number) version = refl
answer-letter ScheduleDrop version = refl
answer-letter (ScheduleRun transactions) version = refl
answer-letter Bind version = refl
answer-letter (Import statements lines seen) version = refl
answer-letter LineMatch version = refl
answer-letter (LineAdd transaction splits) version = refl
answer-letter LineDismiss version = refl
answer-letter LineReopen version = refl
answer-letter (MatchAuto pairs) version = refl
answer-letter (Reconcile reconciliation marked) version = refl
answer-letter (ReconcileStatement reconciliation marked) version = refl
answer-letter (Lines lines) version = refl
answer-letter (Statements statements) version = refl
answer-letter (Recons recons) version = refl
answer-letter (Voided voided) version = refl
answer-letter (Due days) version = refl
answer-letter Undo version = refl
answer-letter Redo version = refl
answer-letter (Status accounts later lines past recons splits transactions) version = refl

-- what is wrong with a statement file stands first, and brings its own fields
bad-letter : (line version : ℕ) (bad : Bad)
    → (get_or (rule_bytes (BadStatement (record { line = line; bad = bad })) version) 2 0 == 114) ≡ false
unfolding serde_json_on_literals
bad-letter line version NoStatement = refl
bad-letter line version FieldOrder = refl
bad-letter line version RecordOrder = refl
bad-letter line version FieldForm = refl
bad-letter line version DateForm = refl
bad-letter line version AmountForm = refl
bad-letter line version TooManyDecimals = refl
bad-letter line version UnknownCurrency = refl
bad-letter line version CurrencyDiffers = refl
bad-letter line version PageOrder = refl
bad-letter line version Version = refl
bad-letter line version GroupStatus = refl
bad-letter line version (BalanceMismatch said reckoned) = refl
bad-letter line version (ControlTotal level said reckoned) = refl
bad-letter line version (Count what said reckoned) = refl
bad-letter line version (SplitSum said reckoned) = refl
bad-letter line version CutOff = refl
bad-letter line version TooMany = refl

rule-letter : (rule : Rule) (version : ℕ) → (get_or (rule_bytes rule version) 2 0 == 114) ≡ false
unfolding serde_json_on_literals
rule-letter (Stale now) version = refl
rule-letter (Unknown kind id) version = refl
rule-letter (NameTaken id) version = refl
rule-letter Cycle version = refl
rule-letter ParentKind version = refl
rule-letter Root version = refl
rule-letter (Placeholder account) version = refl
rule-letter (NotEmpty account) version = refl
rule-letter (InUse kind id) version = refl
rule-letter FractionShape version = refl
rule-letter BasisShape version = refl
rule-letter (SplitCount count) version = refl
rule-letter (WrongCurrency commodity) version = refl
rule-letter (Basis account) version = refl
rule-letter (ValueNotQuantity place) version = refl
rule-letter (Unbalanced sum) version = refl
rule-letter (Reconciled split) version = refl
rule-letter (IsVoided transaction) version = refl
rule-letter (NotVoided transaction) version = refl
rule-letter (BadStatement fault) version = bad-letter fault.line version fault.bad
rule-letter (Unbound text) version = refl
rule-letter (LineTaken line) version = refl
rule-letter (LineAmount line) version = refl
rule-letter (NoClosing statement) version = refl
rule-letter (Difference by) version = refl
rule-letter PriceShape version = refl
rule-letter DayRange version = refl
rule-letter (RecurrenceShape place) version = refl
rule-letter NothingToUndo version = refl
rule-letter NothingToRedo version = refl
rule-letter (Limit which at) version = refl

pub answer-own_line : (answer : Answer) (version : ℕ) → IsOwnLine (answer_bytes answer version)
answer-own_line answer version =
    no_refusal (answer_bytes answer version) (compact_text-one_line (object (answer_members answer version)))
    (answer-letter answer version)

pub rule-own_line : (rule : Rule) (version : ℕ) → IsOwnLine (rule_bytes rule version)
rule-own_line rule version = no_refusal (rule_bytes rule version)
    (compact_text-one_line (object (rule_members rule version))) (rule-letter rule version)

some_is : {X : Type 0} (x y : X) → Some x ≡ Some y → x ≡ y
some_is x y e = cc

-- So is the answer to each line that is no command.
pub fault-own_line : (fault : WireError) (text : List ℕ) → fault_bytes fault ≡ Some text → IsOwnLine text
unfolding fault_bytes serde_json_on_literals
fault-own_line NotJson text is =
    subst IsOwnLine (some_is _ _ is)
    (record {
      one_line = compact_text-one_line (object (refused (codes "not json") []));
      no_memory = refl;
      no_keeper = refl;
    })
fault-own_line (NotCommand name) text is =
    subst IsOwnLine (some_is _ _ is)
    (record {
      one_line = compact_text-one_line
          (object (refused (codes "not command") ((codes "field", string name) ∷ [])));
      no_memory = refl;
      no_keeper = refl;
    })
fault-own_line OutOfMemory text is = absurd cc

-- And the answer to a line that is too long.
pub too_long-own_line : (length : ℕ) → IsOwnLine (too_long_bytes length)
unfolding too_long_bytes serde_json_on_literals
too_long-own_line length =
    record {
      one_line = compact_text-one_line
          (object (refused (codes "too long") ((codes "length", number_data length) ∷ [])));
      no_memory = refl;
      no_keeper = refl;
    }
