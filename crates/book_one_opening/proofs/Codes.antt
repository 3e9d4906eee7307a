-- Spellings of which none begins another: bytes that begin with the spelling of a value begin with that of no other.
use Rattle.std.proofs.Common.{◌≡◌, FitsSigned, ℕ, ◌/◌, ◌%◌, ◌^◌, ◌<◌, ℤ, Bool, true, false, List, [], ◌∷◌, ◌++◌}
use Rattle.std.proofs.Common.{flat_map, length, Option, None, Some, IfSome, refl, sym, ap, ◌∙◌, append_assoc}
use Rattle.std.proofs.Common.{arith, to_z}
use Rattle.std.specs.Int.{cast_unsigned, from_be_bytes, w64, w128}
use Rattle.std.specs.List.{AllByRecursion}
use Rattle.std.proofs.Math.Facts.{Fits-lt-pow, Fits-of_z, to_z-of_z}
use Rattle.std.proofs.lemmas.Nat.{from_be_bytes-to_be_bytes_8}
use Rattle.book_codec.specs.Words.{flag, listed, number, optional, signed, string, wide}

-- Bytes that begin with the spelling of a value that fits begin with that of no other.
pub record IsCode {T : Type 0} (Fits : T → Type 0) (spelling : T → List ℕ) : Type 0 where
  pub only : (a b : T) (r s : List ℕ) → Fits a → Fits b → spelling a ++ r ≡ spelling b ++ s → (a ≡ b) × (r ≡ s)

-- ---- bytes

same-front :
    (p q r s : List ℕ) → length p ≡ length q → p ++ r ≡ q ++ s → (p ≡ q) × (r ≡ s)
same-front [] [] r s few e = (refl, e)
same-front [] (y ∷ q) r s few e = absurd (omega (arith, few))
same-front (x ∷ p) [] r s few e = absurd (omega (arith, few))
same-front (x ∷ p) (y ∷ q) r s few e =
    let first : x ≡ y = cc in
    let behind : p ++ r ≡ q ++ s = cc in
    let rest = same-front p q r s (omega (arith, few)) behind in
    (ap (λ (z : ℕ). z ∷ p) first ∙ ap (λ (l : List ℕ). y ∷ l) rest.0, rest.1)

pub first-byte : (x y : ℕ) (p q : List ℕ) → ◌≡◌ {A = List ℕ} (x ∷ p) (y ∷ q) → x ≡ y
first-byte x y p q e = cc

pub behind : (x y : ℕ) (p q : List ℕ) → ◌≡◌ {A = List ℕ} (x ∷ p) (y ∷ q) → p ≡ q
behind x y p q e = cc

length-number : (n : ℕ) → length (number n) ≡ 8
unfolding number
length-number n = refl

only-number : (n m : ℕ) → n < 2 ^ 64 → m < 2 ^ 64 → number n ≡ number m → n ≡ m
unfolding number
only-number n m few less e =
    sym (from_be_bytes-to_be_bytes_8 n few) ∙ ap (from_be_bytes w64) e ∙ from_be_bytes-to_be_bytes_8 m less

pub number-code : IsCode (λ (n : ℕ). n < 2 ^ 64) number
number-code = record {
  only = λ n m r s few less e.
      let parts = same-front (number n) (number m) r s (length-number n ∙ sym (length-number m)) e in
      (only-number n m few less parts.0, parts.1);
}

only-signed : (a b : ℤ) → FitsSigned w64 a → FitsSigned w64 b → cast_unsigned w64 a ≡ cast_unsigned w64 b → a ≡ b
only-signed a b fit less e = sym (to_z-of_z fit) ∙ ap (λ (n : ℕ). to_z w64 n) e ∙ to_z-of_z less

few-signed : (z : ℤ) → FitsSigned w64 z → cast_unsigned w64 z < 2 ^ 64
few-signed z fit = Fits-lt-pow (Fits-of_z fit)

pub signed-code : IsCode (FitsSigned w64) signed
unfolding signed number
signed-code = record {
  only = λ a b r s fit less e.
      let parts = number-code.only (cast_unsigned w64 a) (cast_unsigned w64 b) r s (few-signed a fit)
      (few-signed b less) e in
      (only-signed a b fit less parts.0, parts.1);
}

pub weaker-code :
    {T : Type 0} {F G : T → Type 0} {spelling : T → List ℕ} → IsCode F spelling → ((x : T) → G x → F x)
    → IsCode G spelling
weaker-code code weaker = record {
  only = λ a b r s fit less e. code.only a b r s (weaker a fit) (weaker b less) e;
}

-- ---- words

pub wide-code : IsCode (FitsSigned w128) wide
unfolding wide
wide-code = record {
  only = λ a b r s fit less e.
      let x = cast_unsigned w128 a in
      let y = cast_unsigned w128 b in
      let few : x < 2 ^ 128 = Fits-lt-pow (Fits-of_z fit) in
      let below : y < 2 ^ 128 = Fits-lt-pow (Fits-of_z less) in
      let upper = number-code.only (x / 2 ^ 64) (y / 2 ^ 64) (number (x % 2 ^ 64) ++ r) (number (y % 2 ^ 64) ++ s)
      (omega (arith, few)) (omega (arith, below))
      (sym (append_assoc (number (x / 2 ^ 64)) (number (x % 2 ^ 64)) r) ∙ e
      ∙ append_assoc (number (y / 2 ^ 64)) (number (y % 2 ^ 64)) s) in
      let lower = number-code.only (x % 2 ^ 64) (y % 2 ^ 64) r s (omega arith) (omega arith) upper.1 in
      let high = upper.0 in
      let low = lower.0 in
      let same : x ≡ y = omega (arith, high, low) in
      (sym (to_z-of_z fit) ∙ ap (λ (n : ℕ). to_z w128 n) same ∙ to_z-of_z less, lower.1);
}

only-flag :
    (a b : Bool) (r s : List ℕ) → flag a ++ r ≡ flag b ++ s → (a ≡ b) × (r ≡ s)
unfolding flag
only-flag true true r s e = (refl, cc)
only-flag false false r s e = (refl, cc)
only-flag true false r s e = absurd (omega (arith, first-byte _ _ _ _ e))
only-flag false true r s e = absurd (omega (arith, first-byte _ _ _ _ e))

pub flag-code : IsCode (λ (b : Bool). Unit {0}) flag
flag-code = record { only = λ a b r s fit less e. only-flag a b r s e }

-- A text as its length and its bytes.
pub string-code : (Fits : List ℕ → Type 0) → ((b : List ℕ) → Fits b → length b < 2 ^ 64) → IsCode Fits string
unfolding string
string-code Fits few = record {
  only = λ a b r s fit less e.
      let size = number-code.only (length a) (length b) (a ++ r) (b ++ s) (few a fit) (few b less)
      (sym (append_assoc (number (length a)) a r) ∙ e ∙ append_assoc (number (length b)) b s) in
      same-front a b r s size.0 size.1;
}

only-optional :
    {T : Type 0} (Fits : T → Type 0) (spelling : T → List ℕ) (code : IsCode Fits spelling) (a b : Option T)
    (r s : List ℕ) → IfSome a Fits → IfSome b Fits → optional spelling a ++ r ≡ optional spelling b ++ s
    → (a ≡ b) × (r ≡ s)
unfolding optional
only-optional Fits spelling code None None r s fit less e = (refl, cc)
only-optional {T} Fits spelling code (Some a) (Some b) r s fit less e =
    let behind : spelling a ++ r ≡ spelling b ++ s = cc in
    let same = code.only a b r s fit less behind in
    (ap (λ (x : T). Some x) same.0, same.1)
only-optional Fits spelling code None (Some b) r s fit less e =
    absurd (omega (arith, first-byte _ _ _ _ e))
only-optional Fits spelling code (Some a) None r s fit less e =
    absurd (omega (arith, first-byte _ _ _ _ e))

pub optional-code :
    {T : Type 0} {Fits : T → Type 0} {spelling : T → List ℕ} → IsCode Fits spelling
    → IsCode (λ (o : Option T). IfSome o Fits) (optional spelling)
optional-code {T} {Fits} {spelling} code = record {
  only = λ a b r s fit less e. only-optional Fits spelling code a b r s fit less e;
}

-- Items of equal number, one after another.
pub only-items :
    {T : Type 0} (Fits : T → Type 0) (spelling : T → List ℕ) (code : IsCode Fits spelling) (xs ys : List T)
    (r s : List ℕ) → length xs ≡ length ys → AllByRecursion Fits xs → AllByRecursion Fits ys
    → flat_map spelling xs ++ r ≡ flat_map spelling ys ++ s → (xs ≡ ys) × (r ≡ s)
only-items Fits spelling code [] [] r s few fit less e = (refl, e)
only-items Fits spelling code [] (y ∷ ys) r s few fit less e = absurd (omega (arith, few))
only-items Fits spelling code (x ∷ xs) [] r s few fit less e = absurd (omega (arith, few))
only-items {T} Fits spelling code (x ∷ xs) (y ∷ ys) r s few fit less e =
    let first = code.only x y (flat_map spelling xs ++ r) (flat_map spelling ys ++ s) fit.0 less.0
    (sym (append_assoc (spelling x) (flat_map spelling xs) r) ∙ e
    ∙ append_assoc (spelling y) (flat_map spelling ys) s) in
    let more = only-items Fits spelling code xs ys r s (omega (arith, few)) fit.1 less.1 first.1 in
    (ap (λ (z : T). z ∷ xs) first.0 ∙ ap (λ (l : List T). y ∷ l) more.0, more.1)

pub listed-code :
    {T : Type 0} {Fits : T → Type 0} {spelling : T → List ℕ} → IsCode Fits spelling
    → IsCode (λ (items : List T). (length items < 2 ^ 64) × AllByRecursion Fits items) (listed spelling)
unfolding listed
listed-code {T} {Fits} {spelling} code = record {
  only = λ xs ys r s fit less e.
      let size = number-code.only (length xs) (length ys) (flat_map spelling xs ++ r) (flat_map spelling ys ++ s) fit.0
      less.0
      (sym (append_assoc (number (length xs)) (flat_map spelling xs) r) ∙ e
      ∙ append_assoc (number (length ys)) (flat_map spelling ys) s) in
      only-items Fits spelling code xs ys r s size.0 fit.1 less.1 size.1;
}

-- ---- values of several parts

pub pair-code :
    {A B : Type 0} {F : A → Type 0} {G : B → Type 0} {f : A → List ℕ} {g : B → List ℕ} → IsCode F f → IsCode G g
    → IsCode {T = A × B} (λ p. F p.0 × G p.1) (λ p. f p.0 ++ g p.1)
pair-code {A} {B} {F} {G} {f} {g} first second = record {
  only = λ p q r s fit less e.
      let front = first.only p.0 q.0 (g p.1 ++ r) (g q.1 ++ s) fit.0 less.0
      (sym (append_assoc (f p.0) (g p.1) r) ∙ e ∙ append_assoc (f q.0) (g q.1) s) in
      let behind = second.only p.1 q.1 r s fit.1 less.1 front.1 in
      (ap (λ (x : A). (x, p.1)) front.0 ∙ ap (λ (y : B). (q.0, y)) behind.0, behind.1);
}

-- A value that is spelled as its parts, of which it is made.
pub made-code :
    {S T : Type 0} {Fits : T → Type 0} {spelling : T → List ℕ} (parts : S → T) (made : T → S)
    → ((x : S) → made (parts x) ≡ x) → IsCode Fits spelling
    → IsCode (λ (x : S). Fits (parts x)) (λ (x : S). spelling (parts x))
made-code {S} parts made back code = record {
  only = λ a b r s fit less e.
      let same = code.only (parts a) (parts b) r s fit less e in
      (sym (back a) ∙ ap made same.0 ∙ back b, same.1);
}

-- A value of few, as one byte.
pub byte-code :
    {T : Type 0} (place : T → ℕ) (at : ℕ → T) → ((x : T) → at (place x) ≡ x)
    → IsCode (λ (x : T). Unit {0}) (λ (x : T). place x ∷ [])
byte-code place at back = record {
  only = λ a b r s fit less e.
      let first : place a ≡ place b = cc in
      let behind : r ≡ s = cc in
      (sym (back a) ∙ ap at first ∙ back b, behind);
}

-- With nothing behind it each value has a spelling of its own.
pub whole-code :
    {T : Type 0} {Fits : T → Type 0} {spelling : T → List ℕ} → IsCode Fits spelling → (a b : T) → Fits a → Fits b
    → spelling a ≡ spelling b → a ≡ b
whole-code {T} {Fits} {spelling} code a b fit less e =
    (code.only a b [] [] fit less (ap (λ (l : List ℕ). l ++ []) e)).0
