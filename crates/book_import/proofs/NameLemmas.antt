-- The lines that an import adds name statements that are in the book, or are added.
use Rattle.std.proofs.Common.{◌≡◌, ℕ, ◌+◌, ◌==◌, Bool, true, false, cond, is_some, List, [], ◌∷◌, ◌++◌, Option, Some}
use Rattle.std.proofs.Common.{None, unwrap_or, refl, sym, subst, append_assoc, arith}
use Rattle.std.specs.List.{AllByRecursion}
use Rattle.std.proofs.lemmas.Bool.Decides.{nat_tests}
use Rattle.book_commodity.specs.Table.{value_of}
use Rattle.book_statement.specs.Keys.{keys_of}
use Rattle.book_statement.specs.declared.held.Held.{Held}
use Rattle.book_statement.specs.declared.line.Line.{Line}
use Rattle.book_statement.specs.declared.line_key.LineKey.{LineKey}
use Rattle.book_statement.specs.declared.statement_line.StatementLine.{StatementLine}
use Rattle.book_sound.specs.StatementRules.{is_same_statement}
use Rattle.book_sound.specs.Tests.{is_live}
use Rattle.book_import.specs.Import.{Bound, has_key, held_of, imported, new_line, nothing_added, number_among, with_held}
use Rattle.book_import.specs.Import.{with_line, with_lines, with_statement, with_statements}
use Rattle.book_import.specs.Laws.{AreNamed}
use Rattle.book_import.specs.declared.added.Additions.{Additions}

-- a number that is there stays there behind more entries
live-more :
    {T : Type 0} (n : ℕ) (xs ys : List (ℕ × T)) → is_live xs n ≡ true → is_live (xs ++ ys) n ≡ true
live-more n [] ys live = absurd cc
live-more {T} n (x ∷ xs) ys live =
    step (n == x.0) x.1 (value_of n xs) (value_of n (xs ++ ys)) (live-more n xs ys) live
  where
    step : (same : Bool) (here : T) (there more : Option T) → (is_some there ≡ true → is_some more ≡ true)
        → is_some (cond same (Some here) there) ≡ true → is_some (cond same (Some here) more) ≡ true
    step true here there more later live = refl
    step false here there more later live = later live

live-last : {T : Type 0} (n : ℕ) (value : T) (xs : List (ℕ × T)) → is_live (xs ++ (n, value) ∷ []) n ≡ true
live-last n value [] = grind (arith, nat_tests)
live-last {T} n value (x ∷ xs) =
    step (n == x.0) x.1 (value_of n (xs ++ (n, value) ∷ [])) (live-last n value xs)
  where
    step : (same : Bool) (here : T) (there : Option T) → is_some there ≡ true
        → is_some (cond same (Some here) there) ≡ true
    step true here there live = refl
    step false here there live = live

-- the number of an equal statement is there
live-among :
    (held : Held) (xs : List (ℕ × Held)) (n : ℕ) → number_among held xs ≡ Some n → is_live xs n ≡ true
live-among held [] n is = absurd cc
live-among held (x ∷ xs) n is =
    step (is_same_statement held x.1) x.0 x.1 (number_among held xs) (live-among held xs n) is
  where
    step : (same : Bool) (number : ℕ) (value : Held) (there : Option ℕ)
        → (there ≡ Some n → is_live xs n ≡ true) → cond same (Some number) there ≡ Some n
        → is_some (cond (n == number) (Some value) (value_of n xs)) ≡ true
    step true number value there later is =
        let same : number ≡ n = cc in grind (arith, nat_tests, same)
    step false number value there later is = other (n == number) value (value_of n xs) (later is)
      where
        other : (same : Bool) (here : Held) (there : Option Held) → is_some there ≡ true
            → is_some (cond same (Some here) there) ≡ true
        other true here there live = refl
        other false here there live = live

-- lines that name statements which are there
abbrev pub NamesAll : List (ℕ × Held) → List (ℕ × Line) → Type 0
NamesAll statements lines = AllByRecursion (λ entry. is_live statements entry.1.statement ≡ true) lines

names-push :
    (statements : List (ℕ × Held)) (lines : List (ℕ × Line)) (entry : ℕ × Line) → NamesAll statements lines
    → is_live statements entry.1.statement ≡ true → NamesAll statements (lines ++ entry ∷ [])
names-push statements [] entry named live = (live, tt)
names-push statements (first ∷ more) entry named live = (named.0, names-push statements more entry named.1 live)

names-more :
    (statements others : List (ℕ × Held)) (lines : List (ℕ × Line)) → NamesAll statements lines
    → NamesAll (statements ++ others) lines
names-more statements others [] named = tt
names-more statements others (first ∷ more) named = (
  live-more first.1.statement statements others named.0,
  names-more statements others more named.1,
)

line-named :
    (statements : List (ℕ × Held)) (lines : List (ℕ × Line)) (statement : ℕ) (key_ : LineKey) (body : StatementLine)
    (added : Additions) → is_live (statements ++ added.statements) statement ≡ true → AreNamed statements added
    → (is_live (statements ++ (with_line lines statement key_ body added).statements) statement ≡ true)
    × AreNamed statements (with_line lines statement key_ body added)
line-named statements lines statement key_ body added live named = go (has_key key_ (lines ++ added.lines))
  where
    go : (known : Bool)
        → (is_live (statements ++ (cond known (record added { seen = added.seen + 1 }) (record added {
          lines = added.lines ++ (added.next, new_line statement key_ body) ∷ [];
          next = added.next + 1;
        })).statements) statement ≡ true)
        × AreNamed statements (cond known (record added { seen = added.seen + 1 }) (record added {
          lines = added.lines ++ (added.next, new_line statement key_ body) ∷ [];
          next = added.next + 1;
        }))
    go true = (live, named)
    go false = (
      live,
      names-push (statements ++ added.statements) added.lines (added.next, new_line statement key_ body) named live,
    )

lines-named :
    (statements : List (ℕ × Held)) (lines : List (ℕ × Line)) (statement : ℕ) (keys : List LineKey)
    (bodies : List StatementLine) (added : Additions) → is_live (statements ++ added.statements) statement ≡ true
    → AreNamed statements added → AreNamed statements (with_lines lines statement keys bodies added)
lines-named statements lines statement [] bodies added live named = named
lines-named statements lines statement (key_ ∷ keys) [] added live named = named
lines-named statements lines statement (key_ ∷ keys) (body ∷ bodies) added live named =
    let next = line-named statements lines statement key_ body added live named in
    lines-named statements lines statement keys bodies (with_line lines statement key_ body added) next.0 next.1

held-named :
    (statements : List (ℕ × Held)) (held : Held) (added : Additions) → AreNamed statements added
    → (is_live (statements
    ++ (with_held (number_among held (statements ++ added.statements)) held added).statements)
    (unwrap_or (number_among held (statements ++ added.statements)) added.next) ≡ true)
    × AreNamed statements (with_held (number_among held (statements ++ added.statements)) held added)
held-named statements held added named = go (number_among held (statements ++ added.statements)) refl
  where
    go : (there : Option ℕ) → number_among held (statements ++ added.statements) ≡ there
        → (is_live (statements ++ (with_held there held added).statements) (unwrap_or there added.next) ≡ true)
        × AreNamed statements (with_held there held added)
    go (Some number) e = (live-among held (statements ++ added.statements) number e, named)
    go None e =
        let same = append_assoc statements added.statements ((added.next, held) ∷ []) in (
          subst (λ es. is_live es added.next ≡ true) same
              (live-last added.next held (statements ++ added.statements)),
          subst (λ es. NamesAll es added.lines) same
              (names-more (statements ++ added.statements) ((added.next, held) ∷ []) added.lines named),
        )

statements-named :
    (statements : List (ℕ × Held)) (lines : List (ℕ × Line)) (file : List Bound) (added : Additions)
    → AreNamed statements added → AreNamed statements (with_statements statements lines file added)
statements-named statements lines [] added named = named
statements-named statements lines (bound ∷ more) added named =
    let there = number_among (held_of bound) (statements ++ added.statements) in
    let first = held-named statements (held_of bound) added named in
    statements-named statements lines more (with_statement statements lines bound added)
    (lines-named statements lines (unwrap_or there added.next) (keys_of bound.account bound.statement.lines)
    bound.statement.lines (with_held there (held_of bound) added) first.0 first.1)

pub named-by :
    (statements : List (ℕ × Held)) (lines : List (ℕ × Line)) (file : List Bound) (next : ℕ) (added : Additions)
    → added ≡ imported statements lines file next → AreNamed statements added
named-by statements lines file next added is =
    subst (AreNamed statements) (sym is) (statements-named statements lines file (nothing_added next) tt)
