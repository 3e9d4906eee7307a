-- What is read behind the bytes of an inbox.
use Rattle.std.proofs.Common.{◌≡◌, ℕ, ◌+◌, ◌-◌, ◌≤◌, List, [], ◌++◌, length, take, drop, Option, None, Some}
use Rattle.std.proofs.Common.{refl, sym, ap, ◌∙◌, arith, append_assoc, append-nil, length-append}
use Rattle.std.proofs.Math.Seq.{take-add}
use Rattle.std.proofs.lemmas.List.{take_all, take-append-le, take_at, length-take-le}
use Rattle.std.specs.Io.KnownBytes.{Consumes, Keeps}
use Rattle.book_http.specs.Reading.{HasRead}

-- the front of a longer list is the list
pub front_kept : (old ys : List ℕ) (size more : ℕ) → size ≡ length old → take size (take (size + more) old ++ ys) ≡ old
front_kept old ys size more e =
    let all : take (size + more) old ≡ old = take_all (size + more) old (omega arith) in
    ap (λ l. take size (l ++ ys)) all ∙ take_at old ys size (sym e)

-- the front of the bytes that a call has written, with what stands behind
pub piece_kept : (old written rest : List ℕ) (n size count : ℕ) → take size written ≡ old
    → size + count ≤ length written
    → size + count ≤ n
    → take (size + count) (take n (written ++ rest)) ≡ old ++ take count (drop size written)
piece_kept old written rest n size count front fits room =
    let all = written ++ rest in
    let m = size + count in
    let long : m ≤ length all = omega (arith, length-append written rest) in
    let short : length (take m all) ≡ m = length-take-le m all long in
    let parts : n ≡ m + (n - m) = omega arith in
    ap (λ l. take m l) (ap (λ k. take k all) parts ∙ take-add m (n - m) all)
    ∙ take_at (take m all) (take (n - m) (drop m all)) m short
    ∙ take-append-le m written rest fits
    ∙ take-add size count written
    ∙ ap (λ l. l ++ take count (drop size written)) front

-- the same where nothing was read
pub piece_dropped : (old written rest : List ℕ) (n size : ℕ) → take size written ≡ old → size ≤ length written
    → size ≤ n
    → take size (take n (written ++ rest)) ≡ old
piece_dropped old written rest n size front fits room =
    let none : size + 0 ≡ size = omega arith in
    ap (λ k. take k (take n (written ++ rest))) (sym none)
    ∙ piece_kept old written rest n size 0 front (omega arith) (omega arith) ∙ append-nil old

-- a piece was read
pub HasRead-piece : (begun kept read : List ℕ) (a b : Option (List ℕ)) (old : List ℕ) → old ≡ begun → kept ≡ old ++ read
    → Consumes a b read → HasRead begun kept a b
HasRead-piece begun kept read a b old is e took = record {
  read = read;
  took = took;
  kept_is = e ∙ ap (λ l. l ++ read) is;
}

-- nothing was read
pub HasRead-nothing : (begun kept : List ℕ) (a b : Option (List ℕ)) (old : List ℕ) → old ≡ begun → kept ≡ old
    → Keeps a b → HasRead begun kept a b
HasRead-nothing begun kept None b old is e k =
    record { read = []; took = tt; kept_is = e ∙ is ∙ sym (append-nil begun) }
HasRead-nothing begun kept (Some x) None old is e k = absurd k
HasRead-nothing begun kept (Some x) (Some y) old is e k = record {
  read = [];
  took = sym k;
  kept_is = e ∙ is ∙ sym (append-nil begun);
}

-- nothing was read yet
pub HasRead-start : (begun : List ℕ) (a : Option (List ℕ)) → HasRead begun begun a a
HasRead-start begun None = record { read = []; took = tt; kept_is = sym (append-nil begun) }
HasRead-start begun (Some x) = record { read = []; took = refl; kept_is = sym (append-nil begun) }

Consumes-append : (a b c : Option (List ℕ)) (x y : List ℕ) → Consumes a b x → Consumes b c y → Consumes a c (x ++ y)
Consumes-append None b c x y p q = tt
Consumes-append (Some u) None c x y p q = absurd p
Consumes-append (Some u) (Some v) None x y p q = absurd q
Consumes-append (Some u) (Some v) (Some w) x y p q = p ∙ ap (λ l. x ++ l) q ∙ sym (append_assoc x y w)

-- one reading after another
pub HasRead-append : (begun mid kept : List ℕ) (a b c : Option (List ℕ)) → HasRead begun mid a b → HasRead mid kept b c
    → HasRead begun kept a c
HasRead-append begun mid kept a b c first next = record {
  read = first.read ++ next.read;
  took = Consumes-append a b c first.read next.read first.took next.took;
  kept_is = next.kept_is ∙ ap (λ l. l ++ next.read) first.kept_is ∙ append_assoc begun first.read next.read;
}
