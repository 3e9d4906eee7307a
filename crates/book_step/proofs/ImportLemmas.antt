-- What an import adds: how many numbers it draws, and that it fits into the book where the statements of the file do.
use Rattle.std.proofs.Common.{◌≡◌, ℕ, ◌+◌, Bool, true, false, cond, List, [], ◌∷◌, ◌++◌, Option, Some, None}
use Rattle.std.proofs.Common.{unwrap_or, refl, arith}
use Rattle.std.specs.List.{AllByRecursion}
use Rattle.std.proofs.Math.ListN.{length-append}
use Rattle.book_accounts.specs.declared.account.Account.{Account}
use Rattle.book_statement.specs.Keys.{keys_of}
use Rattle.book_statement.specs.declared.held.Held.{Held}
use Rattle.book_statement.specs.declared.line.Line.{Line}
use Rattle.book_statement.specs.declared.line_key.LineKey.{LineKey}
use Rattle.book_statement.specs.declared.line_state.LineState.TheVariants.{Open}
use Rattle.book_statement.specs.declared.statement_line.StatementLine.{StatementLine}
use Rattle.book_sound.specs.LineRules.{is_over_limit}
use Rattle.book_sound.specs.Tests.{is_live}
use Rattle.book_import.specs.Import.{Bound, has_key, held_of, imported, new_line, nothing_added, number_among, with_held}
use Rattle.book_import.specs.Import.{with_line, with_lines, with_statement, with_statements}
use Rattle.book_import.specs.declared.added.Additions.{Additions}
use Rattle.book_import.proofs.FileLemmas.{FileHas, HasOpen, imported-lines-have, imported-statements-have}
use Rattle.book_step.specs.Importing.{drawn_by}
use Rattle.book_step.proofs.ReadAmounts.{AreWithin}

-- ---- the numbers that are drawn

-- So many numbers are drawn from the first on.
abbrev HasCount : ℕ → Additions → Type 0
HasCount from added = added.next ≡ from + drawn_by added

line-counted :
    (from : ℕ) (lines : List (ℕ × Line)) (statement : ℕ) (key_ : LineKey) (body : StatementLine) (added : Additions)
    → HasCount from added → HasCount from (with_line lines statement key_ body added)
line-counted from lines statement key_ body added is = go (has_key key_ (lines ++ added.lines))
  where
    go : (known : Bool) → HasCount from (cond known (record added { seen = added.seen + 1 }) (record added {
      lines = added.lines ++ (added.next, new_line statement key_ body) ∷ [];
      next = added.next + 1;
    }))
    go true = is
    go false =
        let longer = length-append added.lines ((added.next, new_line statement key_ body) ∷ []) in
        omega (arith, is, longer)

lines-counted :
    (from : ℕ) (lines : List (ℕ × Line)) (statement : ℕ) (keys : List LineKey) (bodies : List StatementLine)
    (added : Additions) → HasCount from added → HasCount from (with_lines lines statement keys bodies added)
lines-counted from lines statement [] bodies added is = is
lines-counted from lines statement (key_ ∷ keys) [] added is = is
lines-counted from lines statement (key_ ∷ keys) (body ∷ bodies) added is =
    lines-counted from lines statement keys bodies (with_line lines statement key_ body added)
    (line-counted from lines statement key_ body added is)

held-counted :
    (from : ℕ) (there : Option ℕ) (held : Held) (added : Additions) → HasCount from added
    → HasCount from (with_held there held added)
held-counted from (Some number) held added is = is
held-counted from None held added is =
    let longer = length-append added.statements ((added.next, held) ∷ []) in omega (arith, is, longer)

statements-counted :
    (from : ℕ) (statements : List (ℕ × Held)) (lines : List (ℕ × Line)) (file : List Bound) (added : Additions)
    → HasCount from added → HasCount from (with_statements statements lines file added)
statements-counted from statements lines [] added is = is
statements-counted from statements lines (bound ∷ more) added is =
    let there = number_among (held_of bound) (statements ++ added.statements) in
    statements-counted from statements lines more (with_statement statements lines bound added)
    (lines-counted from lines (unwrap_or there added.next) (keys_of bound.account bound.statement.lines)
    bound.statement.lines (with_held there (held_of bound) added)
    (held-counted from there (held_of bound) added is))

pub imported-counted :
    (statements : List (ℕ × Held)) (lines : List (ℕ × Line)) (file : List Bound) (next : ℕ)
    → (imported statements lines file next).next ≡ next + drawn_by (imported statements lines file next)
imported-counted statements lines file next =
    statements-counted next statements lines file (nothing_added next) (omega arith)

-- ---- what the book's rules ask of each thing that is added

-- The account of the line is one of these, its amount is at most 10^12 in size, and it is open.
pub record IsFit (accounts : List (ℕ × Account)) (line : Line) : Type 0 where
  pub account : is_live accounts line.account ≡ true
  pub amount : is_over_limit line.body.amount ≡ false
  pub is_open : line.state ≡ Open

-- So it is with each line that is added, and each statement's account is one of these.
pub record AreFit (accounts : List (ℕ × Account)) (added : Additions) : Type 0 where
  pub statements : AllByRecursion (λ entry. is_live accounts entry.1.account ≡ true) added.statements
  pub lines : AllByRecursion (λ entry. IsFit accounts entry.1) added.lines

-- The accounts of the statements of a file are among these, and the amounts of their lines are at most 10^12 in size.
abbrev pub SuitFile : List (ℕ × Account) → List Bound → Type 0
SuitFile accounts file =
    AllByRecursion (λ bound. (is_live accounts bound.account ≡ true) × AreWithin bound.statement.lines) file

bodies-fit :
    (accounts : List (ℕ × Account)) (account : ℕ) (bodies : List StatementLine) → is_live accounts account ≡ true
    → AreWithin bodies → AllByRecursion (HasOpen (IsFit accounts) account) bodies
bodies-fit accounts account [] live within = tt
bodies-fit accounts account (body ∷ bodies) live within = (
  λ statement ordinal. record { account = live; amount = within.0; is_open = refl },
  bodies-fit accounts account bodies live within.1,
)

file-fits :
    (accounts : List (ℕ × Account)) (file : List Bound) → SuitFile accounts file → FileHas (IsFit accounts) file
file-fits accounts [] suits = tt
file-fits accounts (bound ∷ more) suits = (
  bodies-fit accounts bound.account bound.statement.lines suits.0.0 suits.0.1,
  file-fits accounts more suits.1,
)

accounts-live :
    (accounts : List (ℕ × Account)) (file : List Bound) → SuitFile accounts file
    → AllByRecursion (λ (bound : Bound). is_live accounts bound.account ≡ true) file
accounts-live accounts [] suits = tt
accounts-live accounts (bound ∷ more) suits = (suits.0.0, accounts-live accounts more suits.1)

pub imported-fits :
    (accounts : List (ℕ × Account)) (statements : List (ℕ × Held)) (lines : List (ℕ × Line)) (file : List Bound)
    (next : ℕ) → SuitFile accounts file → AreFit accounts (imported statements lines file next)
imported-fits accounts statements lines file next suits = record {
  statements = imported-statements-have (λ (held : Held). is_live accounts held.account ≡ true) statements lines file
      next (accounts-live accounts file suits);
  lines = imported-lines-have (IsFit accounts) statements lines file next (file-fits accounts file suits);
}
