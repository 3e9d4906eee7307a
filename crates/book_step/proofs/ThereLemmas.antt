-- After an import of a file all of it is in the book, and of statements no others than were there.
use Rattle.std.proofs.Common.{◌≡◌, ℕ, ◌+◌, ◌&&◌, ◌||◌, Bool, true, false, cond, is_some, List, [], ◌∷◌, ◌++◌}
use Rattle.std.proofs.Common.{Option, Some, None, unwrap_or, refl, sym, ap, ◌∙◌, append_assoc, IsSome}
use Rattle.std.specs.Bool.{Decides, beq}
use Rattle.std.specs.Cmp.{booleans_Decides}
use Rattle.std.specs.List.{list_all}
use Rattle.std.specs.Option.{option_eq}
use Rattle.std.specs.Ordering.{int_eq}
use Rattle.std.proofs.lemmas.Bool.Decides.{Decides-eqb, Decides-int_eq, Decides-like}
use Rattle.std.proofs.lemmas.List.{append-nil}
use Rattle.std.proofs.lemmas.List.Folds.{list_any-append}
use Rattle.std.proofs.lemmas.Slice.Eq.{bytes_eq-Decides}
use Rattle.book_commodity.specs.Decision.{both_decide}
use Rattle.book_statement.specs.Keys.{keys_of}
use Rattle.book_statement.specs.declared.held.Held.{Held}
use Rattle.book_statement.specs.declared.line.Line.{Line}
use Rattle.book_statement.specs.declared.line_key.LineKey.{LineKey}
use Rattle.book_statement.specs.declared.statement_line.StatementLine.{StatementLine}
use Rattle.book_sound.specs.LineRules.{is_same_key}
use Rattle.book_sound.specs.StatementRules.{is_same_statement}
use Rattle.book_import.specs.Import.{Bound, has_key, held_of, imported, new_line, nothing_added, number_among}
use Rattle.book_import.specs.Import.{with_held}
use Rattle.book_import.specs.Import.{with_line, with_lines, with_statement, with_statements}
use Rattle.book_import.specs.Laws.{AreThere, is_among, keys_in}
use Rattle.book_import.specs.declared.added.Additions.{Additions}
use Rattle.book_import.proofs.ImportLaws.{imported-keys}
use Rattle.book_step.specs.Laws.{has_statement, is_in_file}

-- ---- equal statements, and equal keys

-- a test of two values says of values that may be absent whether they are the same
option-decides :
    {T : Type 0} (eq : T → T → Bool) → ((x y : T) → Decides (eq x y) (x ≡ y)) → (m n : Option T)
    → Decides (option_eq eq m n) (m ≡ n)
option-decides eq decides None None = (λ h. refl, λ h. refl)
option-decides eq decides None (Some y) = (λ h. absurd cc, λ h. absurd cc)
option-decides eq decides (Some x) None = (λ h. absurd cc, λ h. absurd cc)
option-decides {T} eq decides (Some x) (Some y) = (
  λ h. ap (λ (v : T). Some v) ((decides x y).0 h),
  λ h. (decides x y).1 (ap (λ (o : Option T). unwrap_or o x) h),
)

-- The parts of a statement are those of another.
abbrev HasSameParts : Held → Held → Type 0
HasSameParts one other =
    (other.account ≡ one.account) × ((other.account_text ≡ one.account_text) × ((other.number ≡ one.number)
    × ((other.opening ≡ one.opening) × ((other.closing ≡ one.closing)
    × ((other.day ≡ one.day) × (other.ties ≡ one.ties))))))

parts-equal : (one other : Held) → HasSameParts one other → other ≡ one
parts-equal one other same i = record {
  account = same.0 i;
  account_text = same.1.0 i;
  number = same.1.1.0 i;
  opening = same.1.1.1.0 i;
  closing = same.1.1.1.1.0 i;
  day = same.1.1.1.1.1.0 i;
  ties = same.1.1.1.1.1.1 i;
}

equal-parts : (one other : Held) → other ≡ one → HasSameParts one other
equal-parts one other same = (
  ap (λ (h : Held). h.account) same,
  (
    ap (λ (h : Held). h.account_text) same,
    (
      ap (λ (h : Held). h.number) same,
      (
        ap (λ (h : Held). h.opening) same,
        (
          ap (λ (h : Held). h.closing) same,
          (ap (λ (h : Held). h.day) same, ap (λ (h : Held). h.ties) same),
        ),
      ),
    ),
  ),
)

-- the test of two statements says whether they are the same
statement-decides : (one other : Held) → Decides (is_same_statement one other) (other ≡ one)
statement-decides one other =
    Decides-like (is_same_statement one other) (parts-equal one other) (equal-parts one other)
    (both_decide _ _ (Decides-eqb other.account one.account)
    (both_decide _ _ (bytes_eq-Decides other.account_text one.account_text)
    (both_decide _ _ (bytes_eq-Decides other.number one.number)
    (both_decide _ _ (option-decides int_eq Decides-int_eq other.opening one.opening)
    (both_decide _ _ (option-decides int_eq Decides-int_eq other.closing one.closing)
    (both_decide _ _ (Decides-int_eq other.day one.day)
    (option-decides beq booleans_Decides other.ties one.ties)))))))

both-true : (a b : Bool) → a ≡ true → b ≡ true → (a && b) ≡ true
both-true true b first second = second
both-true false b first second = absurd cc

-- a key is the same as itself
key-same : (key : LineKey) → is_same_key key key ≡ true
key-same key =
    both-true _ _ ((Decides-eqb key.account key.account).1 refl)
    (both-true _ _ ((Decides-int_eq key.day key.day).1 refl)
    (both-true _ _ ((Decides-int_eq key.amount key.amount).1 refl)
    (both-true _ _ ((bytes_eq-Decides key.kind key.kind).1 refl)
    (both-true _ _ ((bytes_eq-Decides key.ref_own key.ref_own).1 refl)
    (both-true _ _ ((bytes_eq-Decides key.ref_bank key.ref_bank).1 refl)
    (both-true _ _ ((bytes_eq-Decides key.text key.text).1 refl) ((Decides-eqb key.ordinal key.ordinal).1 refl)))))))

-- ---- which statements are in the book after an import

or_false : (a : Bool) → (a || false) ≡ a
or_false true = refl
or_false false = refl

or_true : (a : Bool) → (a || true) ≡ true
or_true true = refl
or_true false = refl

or_regrouped : (a b c : Bool) → ((a || b) || c) ≡ (a || (b || c))
or_regrouped true b c = refl
or_regrouped false b c = refl

-- an equal statement is there where it has a number
among-is : (held : Held) (es : List (ℕ × Held)) → has_statement held es ≡ is_some (number_among held es)
among-is held [] = refl
among-is held (e ∷ es) =
    step (is_same_statement held e.1) (has_statement held es) (number_among held es) (among-is held es)
  where
    step : (here there : Bool) (found : Option ℕ) → there ≡ is_some found
        → (here || there) ≡ is_some (cond here (Some e.0) found)
    step true there found e = refl
    step false there found e = e

-- a statement that is there adds none to those that are there
absorbed :
    (one held : Held) (es : List (ℕ × Held)) → has_statement held es ≡ true
    → has_statement one es ≡ (has_statement one es || is_same_statement one held)
absorbed one held es there = go (is_same_statement one held) refl
  where
    go : (same : Bool) → is_same_statement one held ≡ same
        → has_statement one es ≡ (has_statement one es || same)
    go false e = sym (or_false (has_statement one es))
    go true e =
        ap (λ (h : Held). has_statement h es) (sym ((statement-decides one held).0 e)) ∙ there
        ∙ sym (or_true (has_statement one es))

-- a statement that is added is there after it, and those that were
held-statements :
    (one held : Held) (statements : List (ℕ × Held)) (added : Additions)
    → has_statement one
    (statements ++ (with_held (number_among held (statements ++ added.statements)) held added).statements)
    ≡ (has_statement one (statements ++ added.statements) || is_same_statement one held)
held-statements one held statements added = go (number_among held (statements ++ added.statements)) refl
  where
    go : (there : Option ℕ) → number_among held (statements ++ added.statements) ≡ there
        → has_statement one (statements ++ (with_held there held added).statements)
        ≡ (has_statement one (statements ++ added.statements) || is_same_statement one held)
    go (Some number) e =
        absorbed one held (statements ++ added.statements)
        (among-is held (statements ++ added.statements) ∙ ap is_some e)
    go None e =
        ap (has_statement one) (sym (append_assoc statements added.statements ((added.next, held) ∷ [])))
        ∙ list_any-append (λ (entry : ℕ × Held). is_same_statement one entry.1) (statements ++ added.statements)
        ((added.next, held) ∷ [])
        ∙ ap (λ b. has_statement one (statements ++ added.statements) || b) (or_false (is_same_statement one held))

-- lines add no statement
line-statements :
    (lines : List (ℕ × Line)) (statement : ℕ) (key_ : LineKey) (body : StatementLine) (added : Additions)
    → (with_line lines statement key_ body added).statements ≡ added.statements
line-statements lines statement key_ body added = go (has_key key_ (lines ++ added.lines))
  where
    go : (known : Bool) → (cond known (record added { seen = added.seen + 1 }) (record added {
      lines = added.lines ++ (added.next, new_line statement key_ body) ∷ [];
      next = added.next + 1;
    })).statements ≡ added.statements
    go true = refl
    go false = refl

lines-statements :
    (lines : List (ℕ × Line)) (statement : ℕ) (keys : List LineKey) (bodies : List StatementLine) (added : Additions)
    → (with_lines lines statement keys bodies added).statements ≡ added.statements
lines-statements lines statement [] bodies added = refl
lines-statements lines statement (key_ ∷ keys) [] added = refl
lines-statements lines statement (key_ ∷ keys) (body ∷ bodies) added =
    lines-statements lines statement keys bodies (with_line lines statement key_ body added)
    ∙ line-statements lines statement key_ body added

file-statements :
    (one : Held) (statements : List (ℕ × Held)) (lines : List (ℕ × Line)) (file : List Bound) (added : Additions)
    → has_statement one (statements ++ (with_statements statements lines file added).statements)
    ≡ (has_statement one (statements ++ added.statements) || is_in_file one file)
file-statements one statements lines [] added = sym (or_false (has_statement one (statements ++ added.statements)))
file-statements one statements lines (bound ∷ more) added =
    let there = number_among (held_of bound) (statements ++ added.statements) in
    file-statements one statements lines more (with_statement statements lines bound added)
    ∙ ap (λ (es : List (ℕ × Held)). has_statement one (statements ++ es) || is_in_file one more)
    (lines-statements lines (unwrap_or there added.next) (keys_of bound.account bound.statement.lines)
    bound.statement.lines (with_held there (held_of bound) added))
    ∙ ap (λ b. b || is_in_file one more) (held-statements one (held_of bound) statements added)
    ∙ or_regrouped (has_statement one (statements ++ added.statements)) (is_same_statement one (held_of bound))
    (is_in_file one more)

-- after an import exactly the statements of the book and of the file are in the book
pub imported-statements :
    (one : Held) (statements : List (ℕ × Held)) (lines : List (ℕ × Line)) (file : List Bound) (next : ℕ)
    → has_statement one (statements ++ (imported statements lines file next).statements)
    ≡ (has_statement one statements || is_in_file one file)
imported-statements one statements lines file next =
    file-statements one statements lines file (nothing_added next)
    ∙ ap (λ (es : List (ℕ × Held)). has_statement one es || is_in_file one file) (append-nil statements)

-- ---- all of the file

or_left : (a b : Bool) → a ≡ true → (a || b) ≡ true
or_left a b e = ap (λ x. x || b) e

or_right : (a b : Bool) → b ≡ true → (a || b) ≡ true
or_right a b e = ap (λ x. a || x) e ∙ or_true a

some-number : (held : Held) (es : List (ℕ × Held)) → has_statement held es ≡ true → IsSome (number_among held es)
some-number held es there = go (number_among held es) (sym (among-is held es) ∙ there)
  where
    go : (found : Option ℕ) → is_some found ≡ true → IsSome found
    go None e = absurd cc
    go (Some n) e = refl

all-keys :
    (keys : List LineKey) (lines : List (ℕ × Line))
    → ((key : LineKey) → is_among key keys ≡ true → has_key key lines ≡ true)
    → list_all (λ key. has_key key lines) keys ≡ true
all-keys [] lines known = refl
all-keys (key ∷ keys) lines known =
    both-true (has_key key lines) _ (known key (or_left _ _ (key-same key)))
    (all-keys keys lines (λ other among. known other (or_right (is_same_key other key) _ among)))

-- a file is there where each of its statements is, and each of its keys
file-there :
    (statements : List (ℕ × Held)) (lines : List (ℕ × Line)) (file : List Bound)
    → ((held : Held) → is_in_file held file ≡ true → has_statement held statements ≡ true)
    → ((key : LineKey) → is_among key (keys_in file) ≡ true → has_key key lines ≡ true)
    → AreThere statements lines file
file-there statements lines [] held known = tt
file-there statements lines (bound ∷ more) held known =
    let keys = keys_of bound.account bound.statement.lines in
    let whole = λ (key : LineKey). list_any-append (λ other. is_same_key key other) keys (keys_in more) in (
      some-number (held_of bound) statements
          (held (held_of bound) (or_left _ _ ((statement-decides (held_of bound) (held_of bound)).1 refl))),
      all-keys keys lines (λ key among. known key (whole key ∙ or_left _ _ among)),
      file-there statements lines more
          (λ other among. held other (or_right (is_same_statement other (held_of bound)) _ among))
          (λ key among. known key (whole key ∙ or_right (is_among key keys) _ among)),
    )

-- after an import all of the file is in the book
pub imported-there :
    (statements : List (ℕ × Held)) (lines : List (ℕ × Line)) (file : List Bound) (next : ℕ)
    → AreThere (statements ++ (imported statements lines file next).statements)
    (lines ++ (imported statements lines file next).lines) file
imported-there statements lines file next =
    file-there _ _ file
    (λ held among.
    imported-statements held statements lines file next ∙ or_right (has_statement held statements) _ among)
    (λ key among. imported-keys key statements lines file next ∙ or_right (has_key key lines) _ among)
