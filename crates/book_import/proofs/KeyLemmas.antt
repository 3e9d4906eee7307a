-- The keys that are known, against the lines that have them.
use Rattle.std.proofs.Common.{◌≡◌, ◌==◌, ℕ, ℤ, Bool, true, false, cond, List, [], ◌∷◌, ◌++◌, not}
use Rattle.std.proofs.Common.{refl, sym, ap, ◌∙◌}
use Rattle.std.specs.Prelude.{◌&&◌, ◌||◌}
use Rattle.std.specs.Cmp.{tied_then, unsigned_tied}
use Rattle.std.specs.List.{list_any}
use Rattle.std.specs.Ordering.{int_eq, is_eq, nat_cmp, ordering_then}
use Rattle.std.proofs.lemmas.List.Folds.{list_any-append}
use Rattle.book_statement.specs.Keys.{has_parts, key, same_text}
use Rattle.book_statement.specs.declared.line.Line.{Line}
use Rattle.book_statement.specs.declared.line_key.LineKey.{LineKey}
use Rattle.book_statement.specs.declared.statement_line.StatementLine.{StatementLine}
use Rattle.book_statement.proofs.TwinLemmas.{IsTwinOf, has_twin, twin-is, twin_cmp}
use Rattle.book_sound.specs.LineRules.{is_same_key, key_of_line}
use Rattle.book_import.specs.Import.{has_key}
use Rattle.book_import.specs.KnownKeys.{HasKeys, Parts, has_key_parts, is_known, parts_cmp}

-- These are the parts of a key.
pub record ArePartsOf (parts : Parts) (owner : ℕ) (body : StatementLine) (place : ℕ) : Type 0 where
  pub account : parts.0 ≡ owner
  pub twin : IsTwinOf parts.1 body
  pub ordinal : parts.2 ≡ place

and_regrouped : (a b c : Bool) → ((a && b) && c) ≡ (a && (b && c))
and_regrouped true b c = refl
and_regrouped false b c = refl

-- two keys are the same in their order where a line of the one has the other
pub parts-tied :
    (k q : Parts) (line : Line) → ArePartsOf k line.account line.body line.ordinal
    → is_eq (parts_cmp k q) ≡ has_key_parts q line
parts-tied k q line of =
    sym (tied_then (ordering_then (nat_cmp k.0 q.0) (twin_cmp k.1 q.1)) (nat_cmp k.2 q.2))
    ∙ ap (λ t. t && is_eq (nat_cmp k.2 q.2)) (sym (tied_then (nat_cmp k.0 q.0) (twin_cmp k.1 q.1)))
    ∙ ap (λ t. (t && is_eq (twin_cmp k.1 q.1)) && is_eq (nat_cmp k.2 q.2)) (unsigned_tied k.0 q.0)
    ∙ ap (λ t. ((k.0 == q.0) && t) && is_eq (nat_cmp k.2 q.2)) (twin-is k.1 q.1 line.body of.twin)
    ∙ ap (λ t. ((k.0 == q.0) && has_twin q.1 line.body) && t) (unsigned_tied k.2 q.2)
    ∙ ap (λ n. ((n == q.0) && has_twin q.1 line.body) && (k.2 == q.2)) of.account
    ∙ ap (λ n. ((line.account == q.0) && has_twin q.1 line.body) && (n == q.2)) of.ordinal
    ∙ and_regrouped (line.account == q.0) (has_twin q.1 line.body) (line.ordinal == q.2)

last_in : (a b c e f g o : Bool)
    → ((a && (b && (c && (e && (f && g))))) && o) ≡ (a && (b && (c && (e && (f && (g && o))))))
last_in true true true true true g o = refl
last_in true true true true false g o = refl
last_in true true true false f g o = refl
last_in true true false e f g o = refl
last_in true false c e f g o = refl
last_in false b c e f g o = refl

eight : {X : Type 0} (f : ℕ → ℤ → ℤ → List ℕ → List ℕ → List ℕ → List ℕ → ℕ → X)
    {n n' o o' : ℕ} {a a' b b' : ℤ} {c c' e e' g g' h h' : List ℕ}
    → n ≡ n' → a ≡ a' → b ≡ b' → c ≡ c' → e ≡ e' → g ≡ g' → h ≡ h' → o ≡ o'
    → f n a b c e g h o ≡ f n' a' b' c' e' g' h' o'
eight f {n} {n'} {o} {o'} {a} {a'} {b} {b'} {c} {c'} {e} {e'} {g} {g'} {h} {h'} pn pa pb pc pe pg ph po =
    ap (λ x. f x a b c e g h o) pn ∙ ap (λ x. f n' x b c e g h o) pa ∙ ap (λ x. f n' a' x c e g h o) pb
    ∙ ap (λ x. f n' a' b' x e g h o) pc ∙ ap (λ x. f n' a' b' c' x g h o) pe
    ∙ ap (λ x. f n' a' b' c' e' x h o) pg ∙ ap (λ x. f n' a' b' c' e' g' x o) ph
    ∙ ap (f n' a' b' c' e' g' h') po

-- a line has the key of these parts where it has the key
pub same-key :
    (k : Parts) (account : ℕ) (body : StatementLine) (ordinal : ℕ) (line : Line) → ArePartsOf k account body ordinal
    → has_key_parts k line ≡ is_same_key (key account body ordinal) (key_of_line line)
same-key k account body ordinal line of =
    eight (λ n a b c e g h o. (line.account == n) && (has_parts a b c e g h line.body && (line.ordinal == o)))
    of.account of.twin.day of.twin.amount of.twin.kind of.twin.own of.twin.bank of.twin.text of.ordinal
    ∙ ap (λ t. (line.account == account) && t)
    (last_in (int_eq line.body.day body.day) (int_eq line.body.amount body.amount) (same_text line.body.kind body.kind)
    (same_text line.body.ref_own body.ref_own) (same_text line.body.ref_bank body.ref_bank)
    (same_text line.body.text body.text) (line.ordinal == ordinal))

pub any-same : {X : Type 0} (f g : X → Bool) (xs : List X) → ((x : X) → f x ≡ g x) → list_any f xs ≡ list_any g xs
any-same f g [] same = refl
any-same f g (x ∷ xs) same =
    ap (λ t. t || list_any f xs) (same x) ∙ ap (λ t. g x || t) (any-same f g xs same)

-- a key is known where a line has it
pub known-is :
    (known : List Parts) (lines : List (ℕ × Line)) (k : Parts) (account : ℕ) (body : StatementLine) (ordinal : ℕ)
    → ArePartsOf k account body ordinal → HasKeys known lines
    → is_known known k ≡ has_key (key account body ordinal) lines
known-is known lines k account body ordinal of has =
    has k ∙ any-same (λ (e : ℕ × Line). has_key_parts k e.1)
    (λ (e : ℕ × Line). is_same_key (key account body ordinal) (key_of_line e.1)) lines
    (λ (e : ℕ × Line). same-key k account body ordinal e.1 of)

either : (this before : Bool) → cond this true before ≡ (before || this)
either true true = refl
either true false = refl
either false true = refl
either false false = refl

or_false : (a : Bool) → (a || false) ≡ a
or_false true = refl
or_false false = refl

-- a line more has its key more
pub known-grows :
    (old new : List Parts) (lines : List (ℕ × Line)) (number : ℕ) (line : Line) (k : Parts)
    → ArePartsOf k line.account line.body line.ordinal → HasKeys old lines
    → ((q : Parts) → is_known new q ≡ cond (is_eq (parts_cmp k q)) true (is_known old q))
    → HasKeys new (lines ++ (number, line) ∷ [])
known-grows old new lines number line k of has updates = λ q.
    updates q ∙ either (is_eq (parts_cmp k q)) (is_known old q)
    ∙ ap (λ t. t || is_eq (parts_cmp k q)) (has q)
    ∙ ap (λ t. list_any (λ (e : ℕ × Line). has_key_parts q e.1) lines || t)
    (parts-tied k q line of ∙ sym (or_false (has_key_parts q line)))
    ∙ sym (list_any-append (λ (e : ℕ × Line). has_key_parts q e.1) lines ((number, line) ∷ []))

-- the parts of a key are those of a line that has it
pub of-line :
    (k : Parts) (account : ℕ) (body : StatementLine) (ordinal : ℕ) (line : Line) → ArePartsOf k account body ordinal
    → key_of_line line ≡ key account body ordinal → ArePartsOf k line.account line.body line.ordinal
of-line k account body ordinal line of is = record {
  account = of.account ∙ sym (ap (λ (x : LineKey). x.account) is);
  twin = record {
    day = of.twin.day ∙ sym (ap (λ (x : LineKey). x.day) is);
    amount = of.twin.amount ∙ sym (ap (λ (x : LineKey). x.amount) is);
    kind = of.twin.kind ∙ sym (ap (λ (x : LineKey). x.kind) is);
    own = of.twin.own ∙ sym (ap (λ (x : LineKey). x.ref_own) is);
    bank = of.twin.bank ∙ sym (ap (λ (x : LineKey). x.ref_bank) is);
    text = of.twin.text ∙ sym (ap (λ (x : LineKey). x.text) is);
  };
  ordinal = of.ordinal ∙ sym (ap (λ (x : LineKey). x.ordinal) is);
}

-- a key is new where no line has it
pub new-where :
    (known stored : List Parts) (lines : List (ℕ × Line)) (k : Parts) (account : ℕ) (body : StatementLine)
    (ordinal : ℕ) (is_new : Bool) → stored ≡ known → is_new ≡ not (is_known stored k)
    → ArePartsOf k account body ordinal → HasKeys known lines
    → is_new ≡ not (has_key (key account body ordinal) lines)
new-where known stored lines k account body ordinal is_new same new of has =
    new ∙ ap (λ ks. not (is_known ks k)) same
    ∙ ap not (known-is known lines k account body ordinal of has)

-- the keys of the lines, and that of one line more
pub grows-by :
    (known stored new : List Parts) (lines : List (ℕ × Line)) (number : ℕ) (line : Line) (k : Parts) (account : ℕ)
    (body : StatementLine) (ordinal : ℕ) → stored ≡ known
    → ((q : Parts) → is_known new q ≡ cond (is_eq (parts_cmp k q)) true (is_known stored q))
    → ArePartsOf k account body ordinal → key_of_line line ≡ key account body ordinal → HasKeys known lines
    → HasKeys new (lines ++ (number, line) ∷ [])
grows-by known stored new lines number line k account body ordinal same updates of is has =
    known-grows known new lines number line k (of-line k account body ordinal line of is) has
    (λ q. updates q ∙ ap (λ ks. cond (is_eq (parts_cmp k q)) true (is_known ks q)) same)
