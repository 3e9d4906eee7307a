-- What was taken and what was written, over one call after another.
use Rattle.std.proofs.Common.{ℕ, List, [], ◌++◌, Option, None, Some, refl, sym, ap, subst, ◌∙◌, append_assoc}
use Rattle.std.proofs.Common.{append-nil, length-append, arith}
use Rattle.std.specs.Io.KnownBytes.{Consumes, IsAtEnd}
use Rattle.book_keeper.specs.Stream.{Are, Wrote, WrotePart}

-- nothing written
pub Wrote-nil : (a : List ℕ → Type 0) → Wrote a a []
Wrote-nil a = record { each = λ before held. subst a (sym (append-nil before)) held }

-- what was written first, and then what was written next
pub Wrote-append : (a b c : List ℕ → Type 0) (first next : List ℕ)
    → Wrote a b first → Wrote b c next → Wrote a c (first ++ next)
Wrote-append a b c first next p q = record {
  each = λ before held. subst c (append_assoc before first next) (q.each (before ++ first) (p.each before held));
}

-- there always are bytes that the reported ones are
pub Are-some : (a : Option (List ℕ)) → (bytes : List ℕ) × Are a bytes
Are-some None = ([], tt)
Are-some (Some xs) = (xs, refl)

-- at the end nothing is left
pub Are-end : (a : Option (List ℕ)) → IsAtEnd a → Are a []
Are-end None p = tt
Are-end (Some xs) p = p

-- what was left are the bytes taken and then the bytes that are left now
pub Are-Consumes : (a b : Option (List ℕ)) (taken left : List ℕ) → Consumes a b taken → Are b left
    → Are a (taken ++ left)
Are-Consumes None b taken left p q = tt
Are-Consumes (Some x) None taken left p q = absurd p
Are-Consumes (Some x) (Some y) taken left p q = p ∙ ap (λ l. taken ++ l) q

-- a part of bytes is a part of longer ones
pub WrotePart-longer : (a b : List ℕ → Type 0) (bytes more : List ℕ) → WrotePart a b bytes
    → WrotePart a b (bytes ++ more)
WrotePart-longer a b bytes more part = record {
  part = part.part;
  rest = part.rest ++ more;
  parts = ap (λ l. l ++ more) part.parts ∙ append_assoc part.part part.rest more;
  short = let short = part.short in omega (arith, length-append part.rest more);
  wrote = part.wrote;
}
