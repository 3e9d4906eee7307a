-- An import from one line to the next, and from one statement to the next.
use Rattle.std.proofs.Common.{◌≡◌, ℕ, ◌+◌, ◌<◌, ◌≤◌, Bool, true, false, cond, not, List, [], ◌∷◌, ◌++◌, length, drop}
use Rattle.std.proofs.Common.{get_or, Option, Some, None, unwrap_or, refl, sym, ap, subst, ◌∙◌, append_assoc, ◌⊎◌, inl, inr}
use Rattle.std.specs.Prelude.{count_by}
use Rattle.std.specs.Option.{option_or}
use Rattle.std.proofs.lemmas.List.{append-nil, drop_all}
use Rattle.book_commodity.proofs.ListLemmas.{from-item}
use Rattle.book_statement.specs.Keys.{is_twin, key, keys_of}
use Rattle.book_statement.specs.Lists.{each_after}
use Rattle.book_statement.specs.declared.held.Held.{Held}
use Rattle.book_statement.specs.declared.line.Line.{Line}
use Rattle.book_statement.specs.declared.line_key.LineKey.{LineKey}
use Rattle.book_statement.specs.declared.statement_line.StatementLine.{StatementLine}
use Rattle.book_sound.specs.StatementRules.{is_same_statement}
use Rattle.book_import.specs.Import.{Bound, has_key, held_of, new_line, number_among, with_held, with_line, with_lines}
use Rattle.book_import.specs.Import.{imported, nothing_added, with_statement, with_statements}
use Rattle.book_import.specs.KnownKeys.{HasKeys, Parts}
use Rattle.book_import.specs.Steps.{AreKeysOf, Takes}
use Rattle.book_import.specs.declared.added.Additions.{Additions}
use Rattle.book_import.specs.declared.importing.Importing.{Importing}

-- ---- the keys of a statement's lines

pub keys-are : (account : ℕ) (lines : List StatementLine) → AreKeysOf account (keys_of account lines) lines
unfolding keys_of
keys-are account lines = go [] lines
  where
    go : (before lines : List StatementLine)
        → AreKeysOf account
        (each_after (λ before line. key account line (count_by (is_twin line) before) ∷ []) before lines) lines
    go before [] = tt
    go before (line ∷ lines) = (refl, go (before ++ line ∷ []) lines)

pub keys-follow :
    (account : ℕ) (given keys : List LineKey) (lines bodies : List StatementLine) → keys ≡ given → bodies ≡ lines
    → given ≡ keys_of account lines → AreKeysOf account keys bodies
keys-follow account given keys lines bodies keys_are bodies_are given_is =
    subst (λ ks. AreKeysOf account ks bodies) (sym (keys_are ∙ given_is))
    (subst (AreKeysOf account (keys_of account lines)) (sym bodies_are) (keys-are account lines))

-- the first key is that of the first line
pub keys-next :
    (account : ℕ) (keys more : List LineKey) (bodies others : List StatementLine) (key_ : LineKey)
    (body : StatementLine) → keys ≡ key_ ∷ more → bodies ≡ body ∷ others → AreKeysOf account keys bodies
    → AreKeysOf account (key_ ∷ more) (body ∷ others)
keys-next account keys more bodies others key_ body keys_are bodies_are are =
    subst (AreKeysOf account (key_ ∷ more)) bodies_are (subst (λ ks. AreKeysOf account ks bodies) keys_are are)

-- a key of a line is so with the account that it has itself
pub key-own :
    (account : ℕ) (key_ : LineKey) (body : StatementLine) → key_ ≡ key account body key_.ordinal
    → key_ ≡ key key_.account body key_.ordinal
key-own account key_ body is =
    is ∙ ap (λ n. key n body key_.ordinal) (sym (ap (λ (x : LineKey). x.account) is))

-- ---- the statement that is equal

pub number_append :
    (held : Held) (xs ys : List (ℕ × Held))
    → number_among held (xs ++ ys) ≡ option_or (number_among held xs) (number_among held ys)
number_append held [] ys = refl
number_append held (x ∷ xs) ys =
    step (is_same_statement held x.1) x.0 (number_among held xs) (number_among held ys)
    (number_among held (xs ++ ys)) (number_append held xs ys)
  where
    step : (same : Bool) (this : ℕ) (front back all : Option ℕ) → all ≡ option_or front back
        → cond same (Some this) all ≡ option_or (cond same (Some this) front) back
    step true this front back all is = refl
    step false this front back all is = is

pub number-is :
    (there found : Option ℕ) (number next : ℕ) → found ≡ there → found ≡ Some number → number ≡ unwrap_or there next
number-is there found number next is some = sym (ap (λ o. unwrap_or o next) (sym is ∙ some))

pub number-none :
    (there found : Option ℕ) (next : ℕ) → found ≡ there → found ≡ None → next ≡ unwrap_or there next
number-none there found next is none = sym (ap (λ o. unwrap_or o next) (sym is ∙ none))

pub held-there :
    (there found : Option ℕ) (number : ℕ) (held : Held) (old : Additions) → found ≡ there → found ≡ Some number
    → old ≡ with_held there held old
held-there there found number held old is some = sym (ap (λ o. with_held o held old) (sym is ∙ some))

pub held-added :
    (there found : Option ℕ) (held made : Held) (old : Additions) (statements : List (ℕ × Held)) (next : ℕ)
    → found ≡ there → found ≡ None → made ≡ held → statements ≡ old.statements ++ (old.next, made) ∷ []
    → next ≡ old.next + 1
    → record { statements = statements; lines = old.lines; seen = old.seen; next = next } ≡ with_held there held old
held-added there found held made old statements next is none made_is all next_is =
    ap (λ (es : List (ℕ × Held)). record { statements = es; lines = old.lines; seen = old.seen; next = next })
    (all ∙ ap (λ (h : Held). old.statements ++ (old.next, h) ∷ []) made_is)
    ∙ ap (λ n. record {
      statements = old.statements ++ (old.next, held) ∷ [];
      lines = old.lines;
      seen = old.seen;
      next = n;
    }) next_is
    ∙ sym (ap (λ o. with_held o held old) (sym is ∙ none))

-- ---- a line

pub line-added :
    (lines : List (ℕ × Line)) (statement : ℕ) (key_ : LineKey) (body : StatementLine) (old : Additions)
    (is_new : Bool) (line : Line) (all : List (ℕ × Line)) (next : ℕ) → key_ ≡ key key_.account body key_.ordinal
    → is_new ≡ true → is_new ≡ not (has_key (key key_.account body key_.ordinal) (lines ++ old.lines))
    → line ≡ new_line statement key_ body → all ≡ old.lines ++ (old.next, line) ∷ [] → next ≡ old.next + 1
    → record { statements = old.statements; lines = all; seen = old.seen; next = next }
    ≡ with_line lines statement key_ body old
line-added lines statement key_ body old is_new line all next own new is line_is all_is next_is =
    ap (λ (es : List (ℕ × Line)). record { statements = old.statements; lines = es; seen = old.seen; next = next })
    (all_is ∙ ap (λ (l : Line). old.lines ++ (old.next, l) ∷ []) line_is)
    ∙ ap (λ n. record {
      statements = old.statements;
      lines = old.lines ++ (old.next, new_line statement key_ body) ∷ [];
      seen = old.seen;
      next = n;
    }) next_is
    ∙ sym (ap (λ known. cond known (record old { seen = old.seen + 1 }) (record old {
      lines = old.lines ++ (old.next, new_line statement key_ body) ∷ [];
      next = old.next + 1;
    })) (ap (λ k. has_key k (lines ++ old.lines)) own ∙ unknown (has_key _ (lines ++ old.lines)) is_new new is))
  where
    unknown : (known fresh : Bool) → fresh ≡ true → fresh ≡ not known → known ≡ false
    unknown false fresh new is = refl
    unknown true fresh new is = absurd cc

-- the keys that are known after a line are those of the lines and of this one
pub line-known :
    (known : List Parts) (lines old all : List (ℕ × Line)) (next : ℕ) (line : Line)
    → HasKeys known ((lines ++ old) ++ (next, line) ∷ []) → all ≡ old ++ (next, line) ∷ []
    → HasKeys known (lines ++ all)
line-known known lines old all next line has all_is =
    subst (HasKeys known)
    (append_assoc lines old ((next, line) ∷ []) ∙ ap (λ (es : List (ℕ × Line)). lines ++ es) (sym all_is)) has

-- ---- the lines of a statement

-- What is left of them leads to what all of them lead to.
abbrev pub LinesLeft :
    ℕ → List LineKey → List StatementLine → List LineKey → List StatementLine → Importing → Importing → Type 0
LinesLeft statement keys bodies keys_left bodies_left first now =
    (lines : List (ℕ × Line)) → HasKeys first.known (lines ++ first.added.lines)
    → (with_lines lines statement keys_left bodies_left now.added
    ≡ with_lines lines statement keys bodies first.added)
    × HasKeys now.known (lines ++ now.added.lines)

pub lines-next :
    (statement : ℕ) (keys keys_left more : List LineKey) (bodies bodies_left others : List StatementLine)
    (key_ : LineKey) (body : StatementLine) (first old new : Importing) → keys_left ≡ key_ ∷ more
    → bodies_left ≡ body ∷ others → LinesLeft statement keys bodies keys_left bodies_left first old
    → Takes (λ lines. with_line lines statement key_ body) old new
    → LinesLeft statement keys bodies more others first new
lines-next statement keys keys_left more bodies bodies_left others key_ body first old new at_key at_body left takes =
    λ lines has.
    let before = left lines has in
    let step = takes lines before.1 in (
      ap (with_lines lines statement more others) step.0
          ∙ sym (ap (λ ks. with_lines lines statement ks bodies_left old.added) at_key
          ∙ ap (λ bs. with_lines lines statement (key_ ∷ more) bs old.added) at_body)
          ∙ before.0,
      step.1,
    )

none_left :
    (lines : List (ℕ × Line)) (statement : ℕ) (keys : List LineKey) (bodies : List StatementLine) (added : Additions)
    → (keys ≡ []) ⊎ (bodies ≡ []) → with_lines lines statement keys bodies added ≡ added
none_left lines statement keys bodies added (inl none) = ap (λ ks. with_lines lines statement ks bodies added) none
none_left lines statement keys bodies added (inr none) =
    ap (λ bs. with_lines lines statement keys bs added) none ∙ go keys
  where
    go : (keys : List LineKey) → with_lines lines statement keys [] added ≡ added
    go [] = refl
    go (key_ ∷ keys) = refl

pub lines-done :
    (statement : ℕ) (keys keys_left : List LineKey) (bodies bodies_left : List StatementLine) (first now : Importing)
    → (keys_left ≡ []) ⊎ (bodies_left ≡ []) → LinesLeft statement keys bodies keys_left bodies_left first now
    → Takes (λ lines. with_lines lines statement keys bodies) first now
lines-done statement keys keys_left bodies bodies_left first now none left = λ lines has.
    let all = left lines has in
    (sym (none_left lines statement keys_left bodies_left now.added none) ∙ all.0, all.1)

-- ---- a statement with its lines

pub statement-done :
    (statements : List (ℕ × Held)) (bound : Bound) (number : ℕ) (keys : List LineKey) (bodies : List StatementLine)
    (old mid new : Importing)
    → number ≡ unwrap_or (number_among (held_of bound) (statements ++ old.added.statements)) old.added.next
    → keys ≡ keys_of bound.account bound.statement.lines → bodies ≡ bound.statement.lines
    → Takes (λ lines. with_held (number_among (held_of bound) (statements ++ old.added.statements)) (held_of bound))
    old mid
    → Takes (λ lines. with_lines lines number keys bodies) mid new
    → Takes (λ lines. with_statement statements lines bound) old new
statement-done statements bound number keys bodies old mid new number_is keys_are bodies_are held more = λ lines has.
    let there = number_among (held_of bound) (statements ++ old.added.statements) in
    let put = with_held there (held_of bound) old.added in
    let first = held lines has in
    let then = more lines first.1 in (
      then.0 ∙ ap (with_lines lines number keys bodies) first.0
          ∙ ap (λ n. with_lines lines n keys bodies put) number_is
          ∙ ap (λ ks. with_lines lines (unwrap_or there old.added.next) ks bodies put) keys_are
          ∙ ap (λ bs. with_lines lines (unwrap_or there old.added.next)
          (keys_of bound.account bound.statement.lines) bs put) bodies_are,
      then.1,
    )

-- ---- the statements of a file

-- What is left of them leads to what all of them lead to.
abbrev pub StatementsLeft : List (ℕ × Held) → List Bound → ℕ → Importing → Importing → Type 0
StatementsLeft statements file i first now =
    (lines : List (ℕ × Line)) → HasKeys first.known (lines ++ first.added.lines)
    → (with_statements statements lines (drop i file) now.added ≡ with_statements statements lines file first.added)
    × HasKeys now.known (lines ++ now.added.lines)

pub statements-next :
    (statements : List (ℕ × Held)) (file : List Bound) (i : ℕ) (bound : Bound) (first old new : Importing)
    → i < length file → bound ≡ get_or file i bound → StatementsLeft statements file i first old
    → Takes (λ lines. with_statement statements lines bound) old new
    → StatementsLeft statements file (i + 1) first new
statements-next statements file i bound first old new below is left takes = λ lines has.
    let before = left lines has in
    let step = takes lines before.1 in (
      ap (with_statements statements lines (drop (i + 1) file)) step.0
          ∙ sym (ap (λ bs. with_statements statements lines bs old.added) (from-item file i bound below is))
          ∙ before.0,
      step.1,
    )

pub statements-done :
    (statements : List (ℕ × Held)) (file : List Bound) (i : ℕ) (first now : Importing) → length file ≤ i
    → StatementsLeft statements file i first now
    → Takes (λ lines. with_statements statements lines file) first now
statements-done statements file i first now past left = λ lines has.
    let all = left lines has in (
      sym (ap (λ bs. with_statements statements lines bs now.added) (drop_all i file past)) ∙ all.0,
      all.1,
    )

-- from nothing on, over the lines of a book whose keys are known
pub import-done :
    (statements given : List (ℕ × Held)) (lines : List (ℕ × Line)) (file : List Bound) (next : ℕ)
    (no_statements : List (ℕ × Held)) (no_lines : List (ℕ × Line)) (first now : Importing)
    → first.added ≡ record { statements = no_statements; lines = no_lines; seen = 0; next = next }
    → no_statements ≡ [] → no_lines ≡ [] → given ≡ statements → HasKeys first.known lines
    → Takes (λ lines. with_statements given lines file) first now
    → now.added ≡ imported statements lines file next
import-done statements given lines file next no_statements no_lines first now first_is none none_lines same has takes =
    let empty : first.added ≡ nothing_added next =
    first_is
    ∙ ap (λ (es : List (ℕ × Held)). record { statements = es; lines = no_lines; seen = 0; next = next }) none
    ∙ ap (λ (es : List (ℕ × Line)). record { statements = []; lines = es; seen = 0; next = next }) none_lines in
    let known : HasKeys first.known (lines ++ first.added.lines) =
    subst (HasKeys first.known)
    (sym (ap (λ (added : Additions). lines ++ added.lines) empty ∙ append-nil lines)) has in
    (takes lines known).0 ∙ ap (with_statements given lines file) empty
    ∙ ap (λ (es : List (ℕ × Held)). with_statements es lines file (nothing_added next)) same
