-- What holds of each statement and each line of a file holds of those that its import adds.
use Rattle.std.proofs.Common.{◌≡◌, ℕ, ◌+◌, Bool, true, false, cond, List, [], ◌∷◌, ◌++◌, Option, Some, None}
use Rattle.std.proofs.Common.{unwrap_or, sym, ap, subst}
use Rattle.std.specs.Prelude.{⊤}
use Rattle.std.specs.List.{AllByRecursion}
use Rattle.book_statement.specs.Keys.{keys_of}
use Rattle.book_statement.specs.declared.held.Held.{Held}
use Rattle.book_statement.specs.declared.line.Line.{Line}
use Rattle.book_statement.specs.declared.line_key.LineKey.{LineKey}
use Rattle.book_statement.specs.declared.line_state.LineState.TheVariants.{Open}
use Rattle.book_statement.specs.declared.statement_line.StatementLine.{StatementLine}
use Rattle.book_import.specs.Import.{Bound, has_key, held_of, imported, new_line, nothing_added, number_among, with_held}
use Rattle.book_import.specs.Import.{with_line, with_lines, with_statement, with_statements}
use Rattle.book_import.specs.Steps.{AreKeysOf}
use Rattle.book_import.specs.declared.added.Additions.{Additions}
use Rattle.book_import.proofs.StepLemmas.{keys-are}

-- the entries whose values have a property
abbrev pub AllHave : {T : Type 0} → (T → Type 0) → List (ℕ × T) → Type 0
AllHave has entries = AllByRecursion (λ entry. has entry.1) entries

-- an open line of an account that says this
abbrev pub open_line : ℕ → ℕ → ℕ → StatementLine → Line
open_line account statement ordinal body =
    record { account = account; statement = statement; ordinal = ordinal; body = body; state = Open }

-- whatever its statement's number and its ordinal, an open line has the property
abbrev pub HasOpen : (Line → Type 0) → ℕ → StatementLine → Type 0
HasOpen has account body = (statement ordinal : ℕ) → has (open_line account statement ordinal body)

-- the lines of a file have the property, once they are open lines of a book
abbrev pub FileHas : (Line → Type 0) → List Bound → Type 0
FileHas has [] = ⊤
FileHas has (bound ∷ more) = AllByRecursion (HasOpen has bound.account) bound.statement.lines × FileHas has more

have-push :
    {T : Type 0} (has : T → Type 0) (entries : List (ℕ × T)) (entry : ℕ × T) → AllHave has entries → has entry.1
    → AllHave has (entries ++ entry ∷ [])
have-push has [] entry have here = (here, tt)
have-push has (first ∷ more) entry have here = (have.0, have-push has more entry have.1 here)

line-has :
    (has : Line → Type 0) (lines : List (ℕ × Line)) (statement account : ℕ) (key_ : LineKey) (body : StatementLine)
    (added : Additions) → key_.account ≡ account → HasOpen has account body → AllHave has added.lines
    → AllHave has (with_line lines statement key_ body added).lines
line-has has lines statement account key_ body added is here have = go (has_key key_ (lines ++ added.lines))
  where
    go : (known : Bool) → AllHave has (cond known (record added { seen = added.seen + 1 }) (record added {
      lines = added.lines ++ (added.next, new_line statement key_ body) ∷ [];
      next = added.next + 1;
    })).lines
    go true = have
    go false =
        have-push has added.lines (added.next, new_line statement key_ body) have
        (subst (λ n. has (open_line n statement key_.ordinal body)) (sym is) (here statement key_.ordinal))

lines-have :
    (has : Line → Type 0) (lines : List (ℕ × Line)) (statement account : ℕ) (keys : List LineKey)
    (bodies : List StatementLine) (added : Additions) → AreKeysOf account keys bodies
    → AllByRecursion (HasOpen has account) bodies → AllHave has added.lines
    → AllHave has (with_lines lines statement keys bodies added).lines
lines-have has lines statement account [] [] added are here have = have
lines-have has lines statement account [] (body ∷ bodies) added are here have = absurd are
lines-have has lines statement account (key_ ∷ keys) [] added are here have = absurd are
lines-have has lines statement account (key_ ∷ keys) (body ∷ bodies) added are here have =
    lines-have has lines statement account keys bodies (with_line lines statement key_ body added) are.1 here.1
    (line-has has lines statement account key_ body added (ap (λ (k : LineKey). k.account) are.0) here.0 have)

held-lines-have :
    (has : Line → Type 0) (there : Option ℕ) (held : Held) (added : Additions) → AllHave has added.lines
    → AllHave has (with_held there held added).lines
held-lines-have has (Some number) held added have = have
held-lines-have has None held added have = have

statements-lines-have :
    (has : Line → Type 0) (statements : List (ℕ × Held)) (lines : List (ℕ × Line)) (file : List Bound)
    (added : Additions) → FileHas has file → AllHave has added.lines
    → AllHave has (with_statements statements lines file added).lines
statements-lines-have has statements lines [] added here have = have
statements-lines-have has statements lines (bound ∷ more) added here have =
    let there = number_among (held_of bound) (statements ++ added.statements) in
    statements-lines-have has statements lines more (with_statement statements lines bound added) here.1
    (lines-have has lines (unwrap_or there added.next) bound.account
    (keys_of bound.account bound.statement.lines) bound.statement.lines (with_held there (held_of bound) added)
    (keys-are bound.account bound.statement.lines) here.0
    (held-lines-have has there (held_of bound) added have))

-- the lines that are added have what each line of the file has
pub imported-lines-have :
    (has : Line → Type 0) (statements : List (ℕ × Held)) (lines : List (ℕ × Line)) (file : List Bound) (next : ℕ)
    → FileHas has file → AllHave has (imported statements lines file next).lines
imported-lines-have has statements lines file next here =
    statements-lines-have has statements lines file (nothing_added next) here tt

line-keeps :
    (has : Held → Type 0) (lines : List (ℕ × Line)) (statement : ℕ) (key_ : LineKey) (body : StatementLine)
    (added : Additions) → AllHave has added.statements
    → AllHave has (with_line lines statement key_ body added).statements
line-keeps has lines statement key_ body added have = go (has_key key_ (lines ++ added.lines))
  where
    go : (known : Bool) → AllHave has (cond known (record added { seen = added.seen + 1 }) (record added {
      lines = added.lines ++ (added.next, new_line statement key_ body) ∷ [];
      next = added.next + 1;
    })).statements
    go true = have
    go false = have

lines-keep :
    (has : Held → Type 0) (lines : List (ℕ × Line)) (statement : ℕ) (keys : List LineKey)
    (bodies : List StatementLine) (added : Additions) → AllHave has added.statements
    → AllHave has (with_lines lines statement keys bodies added).statements
lines-keep has lines statement [] bodies added have = have
lines-keep has lines statement (key_ ∷ keys) [] added have = have
lines-keep has lines statement (key_ ∷ keys) (body ∷ bodies) added have =
    lines-keep has lines statement keys bodies (with_line lines statement key_ body added)
    (line-keeps has lines statement key_ body added have)

held-has :
    (has : Held → Type 0) (there : Option ℕ) (held : Held) (added : Additions) → has held
    → AllHave has added.statements → AllHave has (with_held there held added).statements
held-has has (Some number) held added here have = have
held-has has None held added here have = have-push has added.statements (added.next, held) have here

statements-have :
    (has : Held → Type 0) (statements : List (ℕ × Held)) (lines : List (ℕ × Line)) (file : List Bound)
    (added : Additions) → AllByRecursion (λ bound. has (held_of bound)) file → AllHave has added.statements
    → AllHave has (with_statements statements lines file added).statements
statements-have has statements lines [] added here have = have
statements-have has statements lines (bound ∷ more) added here have =
    let there = number_among (held_of bound) (statements ++ added.statements) in
    statements-have has statements lines more (with_statement statements lines bound added) here.1
    (lines-keep has lines (unwrap_or there added.next) (keys_of bound.account bound.statement.lines)
    bound.statement.lines (with_held there (held_of bound) added)
    (held-has has there (held_of bound) added here.0 have))

-- the statements that are added have what each statement of the file has
pub imported-statements-have :
    (has : Held → Type 0) (statements : List (ℕ × Held)) (lines : List (ℕ × Line)) (file : List Bound) (next : ℕ)
    → AllByRecursion (λ bound. has (held_of bound)) file
    → AllHave has (imported statements lines file next).statements
imported-statements-have has statements lines file next here =
    statements-have has statements lines file (nothing_added next) here tt
