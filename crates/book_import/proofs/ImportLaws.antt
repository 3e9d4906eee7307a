-- Which keys are there after an import, and when it adds nothing.
use Rattle.std.proofs.Common.{◌≡◌, ℕ, ◌+◌, ◌||◌, Bool, true, false, cond, List, [], ◌∷◌, ◌++◌, length, Option}
use Rattle.std.proofs.Common.{Some, None, unwrap_or, refl, sym, ap, subst, ◌∙◌, arith, append_assoc, IsSome, ◌==◌}
use Rattle.std.specs.List.{list_all}
use Rattle.std.specs.Ordering.{int_eq}
use Rattle.std.proofs.lemmas.Bool.{and_parts}
use Rattle.std.proofs.lemmas.Bool.Decides.{Decides-int_eq, nat_tests}
use Rattle.std.proofs.lemmas.List.{append-nil}
use Rattle.std.proofs.lemmas.List.Folds.{list_any-append}
use Rattle.std.proofs.lemmas.Slice.Eq.{bytes_eq-Decides}
use Rattle.book_statement.specs.Keys.{key, keys_of, same_text}
use Rattle.book_statement.specs.declared.held.Held.{Held}
use Rattle.book_statement.specs.declared.line.Line.{Line}
use Rattle.book_statement.specs.declared.line_key.LineKey.{LineKey}
use Rattle.book_statement.specs.declared.statement_line.StatementLine.{StatementLine}
use Rattle.book_sound.specs.LineRules.{is_same_key, key_of_line}
use Rattle.book_import.specs.Import.{Bound, has_key, held_of, imported, new_line, nothing_added, number_among, with_held}
use Rattle.book_import.specs.Import.{with_line, with_lines, with_statement, with_statements}
use Rattle.book_import.specs.Laws.{AddsKeys, AreThere, count_lines, is_among, keys_in, only_seen}
use Rattle.book_import.specs.Steps.{AreKeysOf}
use Rattle.book_import.specs.declared.added.Additions.{Additions}
use Rattle.book_import.proofs.StepLemmas.{keys-are}

-- ---- keys

-- keys that are the same are equal
same-means : (one other : LineKey) → is_same_key one other ≡ true → other ≡ one
same-means one other e =
    let p = and_parts (other.account == one.account) _ e in
    let q = and_parts (int_eq other.day one.day) _ p.1 in
    let r = and_parts (int_eq other.amount one.amount) _ q.1 in
    let s = and_parts (same_text other.kind one.kind) _ r.1 in
    let t = and_parts (same_text other.ref_own one.ref_own) _ s.1 in
    let u = and_parts (same_text other.ref_bank one.ref_bank) _ t.1 in
    let v = and_parts (same_text other.text one.text) _ u.1 in
    let account : other.account ≡ one.account = (let h = p.0 in grind (arith, nat_tests, h)) in
    let ordinal : other.ordinal ≡ one.ordinal = (let h = v.1 in grind (arith, nat_tests, h)) in
    ap (λ x. record other { account = x }) account
    ∙ ap (λ x. record other { account = one.account; day = x }) ((Decides-int_eq other.day one.day).0 q.0)
    ∙ ap (λ x. record other { account = one.account; day = one.day; amount = x })
    ((Decides-int_eq other.amount one.amount).0 r.0)
    ∙ ap (λ x. record one {
      kind = x;
      ref_own = other.ref_own;
      ref_bank = other.ref_bank;
      text = other.text;
      ordinal = other.ordinal;
    }) ((bytes_eq-Decides other.kind one.kind).0 s.0)
    ∙ ap (λ x. record one { ref_own = x; ref_bank = other.ref_bank; text = other.text; ordinal = other.ordinal })
    ((bytes_eq-Decides other.ref_own one.ref_own).0 t.0)
    ∙ ap (λ x. record one { ref_bank = x; text = other.text; ordinal = other.ordinal })
    ((bytes_eq-Decides other.ref_bank one.ref_bank).0 u.0)
    ∙ ap (λ x. record one { text = x; ordinal = other.ordinal }) ((bytes_eq-Decides other.text one.text).0 v.0)
    ∙ ap (λ x. record one { ordinal = x }) ordinal

or_false : (a : Bool) → (a || false) ≡ a
or_false true = refl
or_false false = refl

or_true : (a : Bool) → (a || true) ≡ true
or_true true = refl
or_true false = refl

or_regrouped : (a b c : Bool) → ((a || b) || c) ≡ (a || (b || c))
or_regrouped true b c = refl
or_regrouped false b c = refl

-- a key that is there adds no key to those that are there
absorbed :
    (k key_ : LineKey) (entries : List (ℕ × Line)) → has_key key_ entries ≡ true
    → has_key k entries ≡ (has_key k entries || is_same_key k key_)
absorbed k key_ entries there = go (is_same_key k key_) refl
  where
    go : (same : Bool) → is_same_key k key_ ≡ same → has_key k entries ≡ (has_key k entries || same)
    go false e = sym (or_false (has_key k entries))
    go true e =
        ap (λ x. has_key x entries) (sym (same-means k key_ e)) ∙ there ∙ sym (or_true (has_key k entries))

-- after a line its key is there, and those that were
line-keys :
    (k : LineKey) (lines : List (ℕ × Line)) (statement account : ℕ) (key_ : LineKey) (body : StatementLine)
    (added : Additions) → key_ ≡ key key_.account body key_.ordinal
    → has_key k (lines ++ (with_line lines statement key_ body added).lines)
    ≡ (has_key k (lines ++ added.lines) || is_same_key k key_)
line-keys k lines statement account key_ body added is = go (has_key key_ (lines ++ added.lines)) refl
  where
    last : Additions
    last = record added {
      lines = added.lines ++ (added.next, new_line statement key_ body) ∷ [];
      next = added.next + 1;
    }

    go : (known : Bool) → has_key key_ (lines ++ added.lines) ≡ known
        → has_key k (lines ++ (cond known (record added { seen = added.seen + 1 }) (record added {
          lines = added.lines ++ (added.next, new_line statement key_ body) ∷ [];
          next = added.next + 1;
        })).lines)
        ≡ (has_key k (lines ++ added.lines) || is_same_key k key_)
    go true e = absorbed k key_ (lines ++ added.lines) e
    go false e =
        ap (has_key k) (sym (append_assoc lines added.lines ((added.next, new_line statement key_ body) ∷ [])))
        ∙ list_any-append (λ (entry : ℕ × Line). is_same_key k (key_of_line entry.1)) (lines ++ added.lines)
        ((added.next, new_line statement key_ body) ∷ [])
        ∙ ap (λ b. has_key k (lines ++ added.lines) || b)
        (or_false (is_same_key k (key key_.account body key_.ordinal)) ∙ ap (is_same_key k) (sym is))

lines-keys :
    (k : LineKey) (lines : List (ℕ × Line)) (statement account : ℕ) (keys : List LineKey) (bodies : List StatementLine)
    (added : Additions) → AreKeysOf account keys bodies
    → has_key k (lines ++ (with_lines lines statement keys bodies added).lines)
    ≡ (has_key k (lines ++ added.lines) || is_among k keys)
lines-keys k lines statement account [] [] added are = sym (or_false (has_key k (lines ++ added.lines)))
lines-keys k lines statement account [] (body ∷ bodies) added are = absurd are
lines-keys k lines statement account (key_ ∷ keys) [] added are = absurd are
lines-keys k lines statement account (key_ ∷ keys) (body ∷ bodies) added are =
    let own : key_ ≡ key key_.account body key_.ordinal =
    are.0 ∙ ap (λ n. key n body key_.ordinal) (sym (ap (λ (x : LineKey). x.account) are.0)) in
    lines-keys k lines statement account keys bodies (with_line lines statement key_ body added) are.1
    ∙ ap (λ b. b || is_among k keys) (line-keys k lines statement account key_ body added own)
    ∙ or_regrouped (has_key k (lines ++ added.lines)) (is_same_key k key_) (is_among k keys)

held-lines :
    (there : Option ℕ) (held : Held) (added : Additions) → (with_held there held added).lines ≡ added.lines
held-lines (Some number) held added = refl
held-lines None held added = refl

statements-keys :
    (k : LineKey) (statements : List (ℕ × Held)) (lines : List (ℕ × Line)) (file : List Bound) (added : Additions)
    → has_key k (lines ++ (with_statements statements lines file added).lines)
    ≡ (has_key k (lines ++ added.lines) || is_among k (keys_in file))
statements-keys k statements lines [] added = sym (or_false (has_key k (lines ++ added.lines)))
statements-keys k statements lines (bound ∷ more) added =
    let there = number_among (held_of bound) (statements ++ added.statements) in
    let keys = keys_of bound.account bound.statement.lines in
    statements-keys k statements lines more (with_statement statements lines bound added)
    ∙ ap (λ b. b || is_among k (keys_in more))
    (lines-keys k lines (unwrap_or there added.next) bound.account keys bound.statement.lines
    (with_held there (held_of bound) added) (keys-are bound.account bound.statement.lines)
    ∙ ap (λ (es : List (ℕ × Line)). has_key k (lines ++ es) || is_among k keys)
    (held-lines there (held_of bound) added))
    ∙ or_regrouped (has_key k (lines ++ added.lines)) (is_among k keys) (is_among k (keys_in more))
    ∙ ap (λ b. has_key k (lines ++ added.lines) || b)
    (sym (list_any-append (λ other. is_same_key k other) keys (keys_in more)))

-- after an import exactly the keys of the book and of the file are in the book
pub imported-keys :
    (k : LineKey) (statements : List (ℕ × Held)) (lines : List (ℕ × Line)) (file : List Bound) (next : ℕ)
    → has_key k (lines ++ (imported statements lines file next).lines)
    ≡ (has_key k lines || is_among k (keys_in file))
imported-keys k statements lines file next =
    statements-keys k statements lines file (nothing_added next)
    ∙ ap (λ (es : List (ℕ × Line)). has_key k es || is_among k (keys_in file)) (append-nil lines)

or_crossed : (a b c : Bool) → ((a || b) || c) ≡ ((a || c) || b)
or_crossed true b c = refl
or_crossed false true true = refl
or_crossed false true false = refl
or_crossed false false true = refl
or_crossed false false false = refl

-- two imports in either order leave the same set of keys
pub either-order :
    (k : LineKey) (statements with_one with_other : List (ℕ × Held)) (lines : List (ℕ × Line)) (one other : List Bound)
    (n m n' m' : ℕ)
    → has_key k ((lines ++ (imported statements lines one n).lines)
    ++ (imported with_one (lines ++ (imported statements lines one n).lines) other m).lines)
    ≡ has_key k ((lines ++ (imported statements lines other n').lines)
    ++ (imported with_other (lines ++ (imported statements lines other n').lines) one m').lines)
either-order k statements with_one with_other lines one other n m n' m' =
    imported-keys k with_one (lines ++ (imported statements lines one n).lines) other m
    ∙ ap (λ b. b || is_among k (keys_in other)) (imported-keys k statements lines one n)
    ∙ or_crossed (has_key k lines) (is_among k (keys_in one)) (is_among k (keys_in other))
    ∙ sym (imported-keys k with_other (lines ++ (imported statements lines other n').lines) one m'
    ∙ ap (λ b. b || is_among k (keys_in one)) (imported-keys k statements lines other n'))

-- ---- nothing new

line-seen :
    (lines : List (ℕ × Line)) (statement : ℕ) (key_ : LineKey) (body : StatementLine) (seen next : ℕ)
    → has_key key_ lines ≡ true
    → with_line lines statement key_ body (only_seen seen next) ≡ only_seen (seen + 1) next
line-seen lines statement key_ body seen next there =
    ap (λ known. cond known (only_seen (seen + 1) next) (record (only_seen seen next) {
      lines = (next, new_line statement key_ body) ∷ [];
      next = next + 1;
    })) (ap (has_key key_) (append-nil lines) ∙ there)

lines-seen :
    (lines : List (ℕ × Line)) (statement account : ℕ) (keys : List LineKey) (bodies : List StatementLine)
    (seen next : ℕ) → AreKeysOf account keys bodies → list_all (λ key_. has_key key_ lines) keys ≡ true
    → with_lines lines statement keys bodies (only_seen seen next) ≡ only_seen (seen + length bodies) next
lines-seen lines statement account [] [] seen next are there = ap (λ n. only_seen n next) (omega arith)
lines-seen lines statement account [] (body ∷ bodies) seen next are there = absurd are
lines-seen lines statement account (key_ ∷ keys) [] seen next are there = absurd are
lines-seen lines statement account (key_ ∷ keys) (body ∷ bodies) seen next are there =
    let p = and_parts (has_key key_ lines) _ there in
    ap (with_lines lines statement keys bodies) (line-seen lines statement key_ body seen next p.0)
    ∙ lines-seen lines statement account keys bodies (seen + 1) next are.1 p.1
    ∙ ap (λ n. only_seen n next) (omega arith)

held-seen :
    (there : Option ℕ) (held : Held) (added : Additions) → IsSome there → with_held there held added ≡ added
held-seen (Some number) held added some = refl
held-seen None held added some = absurd cc

statements-seen :
    (statements : List (ℕ × Held)) (lines : List (ℕ × Line)) (file : List Bound) (seen next : ℕ)
    → AreThere statements lines file
    → with_statements statements lines file (only_seen seen next) ≡ only_seen (seen + count_lines file) next
statements-seen statements lines [] seen next there = ap (λ n. only_seen n next) (omega arith)
statements-seen statements lines (bound ∷ more) seen next there =
    let found = number_among (held_of bound) (statements ++ []) in
    let some : IsSome found =
    subst (λ (es : List (ℕ × Held)). IsSome (number_among (held_of bound) es)) (sym (append-nil statements)) there.0 in
    ap (with_statements statements lines more)
    (ap (with_lines lines (unwrap_or found next) (keys_of bound.account bound.statement.lines) bound.statement.lines)
    (held-seen found (held_of bound) (only_seen seen next) some)
    ∙ lines-seen lines (unwrap_or found next) bound.account (keys_of bound.account bound.statement.lines)
    bound.statement.lines seen next (keys-are bound.account bound.statement.lines) there.1)
    ∙ statements-seen statements lines more (seen + length bound.statement.lines) next there.2
    ∙ ap (λ n. only_seen n next) (omega arith)

-- an import of what is all there adds nothing
pub imported-nothing :
    (statements : List (ℕ × Held)) (lines : List (ℕ × Line)) (file : List Bound) (next : ℕ)
    → AreThere statements lines file → imported statements lines file next ≡ only_seen (count_lines file) next
imported-nothing statements lines file next there =
    statements-seen statements lines file 0 next there ∙ ap (λ n. only_seen n next) (omega arith)

-- ---- as an import says it

pub keys-by :
    (statements : List (ℕ × Held)) (lines : List (ℕ × Line)) (file : List Bound) (next : ℕ) (added : Additions)
    → added ≡ imported statements lines file next → AddsKeys lines file added
keys-by statements lines file next added is =
    subst (AddsKeys lines file) (sym is) (λ k. imported-keys k statements lines file next)

pub nothing-by :
    (statements : List (ℕ × Held)) (lines : List (ℕ × Line)) (file : List Bound) (next : ℕ) (added : Additions)
    → added ≡ imported statements lines file next → AreThere statements lines file
    → added ≡ only_seen (count_lines file) next
nothing-by statements lines file next added is there = is ∙ imported-nothing statements lines file next there
