-- What an import adds was not there.
use Rattle.std.proofs.Common.{◌≡◌, ℕ, ◌+◌, Bool, true, false, cond, List, [], ◌∷◌, ◌++◌, Option}
use Rattle.std.proofs.Common.{Some, None, unwrap_or, refl, sym, ap, subst, ◌∙◌, append_assoc}
use Rattle.std.proofs.lemmas.List.{append-nil}
use Rattle.book_statement.specs.Keys.{key, keys_of}
use Rattle.book_statement.specs.declared.held.Held.{Held}
use Rattle.book_statement.specs.declared.line.Line.{Line}
use Rattle.book_statement.specs.declared.line_key.LineKey.{LineKey}
use Rattle.book_statement.specs.declared.statement_line.StatementLine.{StatementLine}
use Rattle.book_sound.specs.LineRules.{key_of_line}
use Rattle.book_import.specs.Import.{Bound, has_key, held_of, imported, new_line, nothing_added, number_among, with_held}
use Rattle.book_import.specs.Import.{with_line, with_lines, with_statement, with_statements}
use Rattle.book_import.specs.Laws.{AreApart, AreNew}
use Rattle.book_import.specs.Steps.{AreKeysOf}
use Rattle.book_import.specs.declared.added.Additions.{Additions}
use Rattle.book_import.proofs.StepLemmas.{key-own, keys-are}

apart-push :
    {T : Type 0} (apart : List (ℕ × T) → T → Type 0) (before entries : List (ℕ × T)) (entry : ℕ × T)
    → AreApart apart before entries → apart (before ++ entries) entry.1
    → AreApart apart before (entries ++ entry ∷ [])
apart-push {T} apart before [] entry are new =
    (subst (λ (es : List (ℕ × T)). apart es entry.1) (append-nil before) new, tt)
apart-push {T} apart before (first ∷ more) entry are new = (
  are.0,
  apart-push apart (before ++ first ∷ []) more entry are.1
      (subst (λ (es : List (ℕ × T)). apart es entry.1) (sym (append_assoc before (first ∷ []) more)) new),
)

line-new :
    (statements : List (ℕ × Held)) (lines : List (ℕ × Line)) (statement : ℕ) (key_ : LineKey) (body : StatementLine)
    (added : Additions) → key_ ≡ key key_.account body key_.ordinal → AreNew statements lines added
    → AreNew statements lines (with_line lines statement key_ body added)
line-new statements lines statement key_ body added own are = go (has_key key_ (lines ++ added.lines)) refl
  where
    go : (known : Bool) → has_key key_ (lines ++ added.lines) ≡ known
        → AreNew statements lines (cond known (record added { seen = added.seen + 1 }) (record added {
          lines = added.lines ++ (added.next, new_line statement key_ body) ∷ [];
          next = added.next + 1;
        }))
    go true e = are
    go false e = (
      are.0,
      apart-push (λ before line. has_key (key_of_line line) before ≡ false) lines added.lines
          (added.next, new_line statement key_ body) are.1
          (ap (λ k. has_key k (lines ++ added.lines)) (sym own) ∙ e),
    )

lines-new :
    (statements : List (ℕ × Held)) (lines : List (ℕ × Line)) (statement account : ℕ) (keys : List LineKey)
    (bodies : List StatementLine) (added : Additions) → AreKeysOf account keys bodies
    → AreNew statements lines added → AreNew statements lines (with_lines lines statement keys bodies added)
lines-new statements lines statement account [] [] added of are = are
lines-new statements lines statement account [] (body ∷ bodies) added of are = absurd of
lines-new statements lines statement account (key_ ∷ keys) [] added of are = absurd of
lines-new statements lines statement account (key_ ∷ keys) (body ∷ bodies) added of are =
    lines-new statements lines statement account keys bodies (with_line lines statement key_ body added) of.1
    (line-new statements lines statement key_ body added (key-own account key_ body of.0) are)

held-new :
    (statements : List (ℕ × Held)) (lines : List (ℕ × Line)) (held : Held) (added : Additions)
    → AreNew statements lines added
    → AreNew statements lines (with_held (number_among held (statements ++ added.statements)) held added)
held-new statements lines held added are = go (number_among held (statements ++ added.statements)) refl
  where
    go : (there : Option ℕ) → number_among held (statements ++ added.statements) ≡ there
        → AreNew statements lines (with_held there held added)
    go (Some number) e = are
    go None e = (
      apart-push (λ before other. number_among other before ≡ None) statements added.statements (added.next, held)
          are.0 e,
      are.1,
    )

statements-new :
    (statements : List (ℕ × Held)) (lines : List (ℕ × Line)) (file : List Bound) (added : Additions)
    → AreNew statements lines added → AreNew statements lines (with_statements statements lines file added)
statements-new statements lines [] added are = are
statements-new statements lines (bound ∷ more) added are =
    let there = number_among (held_of bound) (statements ++ added.statements) in
    statements-new statements lines more (with_statement statements lines bound added)
    (lines-new statements lines (unwrap_or there added.next) bound.account
    (keys_of bound.account bound.statement.lines) bound.statement.lines (with_held there (held_of bound) added)
    (keys-are bound.account bound.statement.lines) (held-new statements lines (held_of bound) added are))

pub new-by :
    (statements : List (ℕ × Held)) (lines : List (ℕ × Line)) (file : List Bound) (next : ℕ) (added : Additions)
    → added ≡ imported statements lines file next → AreNew statements lines added
new-by statements lines file next added is =
    subst (AreNew statements lines) (sym is) (statements-new statements lines file (nothing_added next) (tt, tt))
