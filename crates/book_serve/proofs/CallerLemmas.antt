-- For callers: what a link's clause says, said over another type of states, and of a whole of which the two sides of
-- the link are parts.
use Rattle.std.proofs.Common.{ℕ, List, [], ◌∷◌, ◌++◌, Option, ap, inl, inr}
use Rattle.std.specs.Io.KnownBytes.{Keeps}
use Rattle.book_keeper.specs.Stream.{Wrote}
use Rattle.book_lines.specs.Marks.{Mark}
use Rattle.book_lines.specs.RunClause.{Moment, at}
use Rattle.book_http.specs.declared.next.Request.{Request}
use Rattle.book_serve.specs.Statuses.{mark_of}
use Rattle.book_serve.specs.Exchange.{RequestRelation, Exchange}
use Rattle.book_serve.specs.Link.{IsExchange, HasAnswered, HasRefused, HasClosed, IsCutShort, HasCutResponse}
use Rattle.book_serve.specs.Link.{HasCutRefusal}
use Rattle.book_serve.specs.Link.{LinkClause, IsServed}
use Rattle.book_serve.specs.declared.link_end.LinkEnd.{LinkEnd}
use Rattle.book_serve.specs.declared.link_end.LinkEnd.TheVariants.{Done, Cut, ReadFault, WriteFault, Limit, OutOfMemory}
use Rattle.book_serve.proofs.ServedLemmas.{Are-kept}

-- A map of states takes each answer of A to an answer of B.
pub record Maps {S T : Type 0} (A : RequestRelation S) (B : RequestRelation T) (f : S → T) : Type 0 where
  pub each : (old : S) (request : Request) (mark : Mark) (status : ℕ) (body : List ℕ) (new : S)
      → A old request mark status body new → B (f old) request mark status body (f new)

-- the moment with the state that a map gives, of what was written elsewhere
abbrev pub moment_map : {S T : Type 0} → (S → T) → (List ℕ → Type 0) → Moment S → Moment T
moment_map f written m = at (f m.machine) written m.faults

pub Exchange-map : {S T : Type 0} (A : RequestRelation S) (B : RequestRelation T) (f : S → T) → Maps A B f
    → (a : S) (xs : List Request) (ss t : List ℕ) (b : S) → Exchange A a xs ss t b → Exchange B (f a) xs ss t (f b)
Exchange-map A B f h a [] [] t b p = (p.0, ap f p.1)
Exchange-map A B f h a [] (s ∷ ss) t b p = absurd p
Exchange-map A B f h a (x ∷ xs) [] t b p = absurd p
Exchange-map A B f h a (x ∷ xs) (s ∷ ss) t b p =
    (p.0, f p.1, p.2, h.each a x (mark_of s) s p.0 p.1 p.3, p.4, Exchange-map A B f h p.1 xs ss p.2 b p.5)

IsExchange-map : {S T : Type 0} (A : RequestRelation S) (B : RequestRelation T) (f : S → T) → Maps A B f
    → (w v : List ℕ → Type 0) (a b : Moment S) (xs : List Request) (t : List ℕ) → IsExchange A a xs t b
    → IsExchange B (moment_map f w a) xs t (moment_map f v b)
IsExchange-map A B f h w v a b xs t p = record {
  statuses = p.statuses;
  responses = Exchange-map A B f h a.machine xs p.statuses t b.machine p.responses;
  kept = p.kept;
}

HasAnswered-map : {S T : Type 0} (A : RequestRelation S) (B : RequestRelation T) (f : S → T) → Maps A B f
    → (w v : List ℕ → Type 0) (a b : Moment S) (most : ℕ) (bytes rest t : List ℕ) → HasAnswered A most a bytes rest t b
    → HasAnswered B most (moment_map f w a) bytes rest t (moment_map f v b)
HasAnswered-map A B f h w v a b most bytes rest t p = record {
  requests = p.requests;
  few = p.few;
  requests_are = p.requests_are;
  exchange = IsExchange-map A B f h w v a b p.requests t p.exchange;
}

HasRefused-map : {S T : Type 0} (A : RequestRelation S) (B : RequestRelation T) (f : S → T) → Maps A B f
    → (w v : List ℕ → Type 0) (a b : Moment S) (most : ℕ) (bytes t : List ℕ) → HasRefused A most a bytes t b
    → HasRefused B most (moment_map f w a) bytes t (moment_map f v b)
HasRefused-map A B f h w v a b most bytes t p = record {
  rest = p.rest;
  status = p.status;
  front = p.front;
  answered = HasAnswered-map A B f h w v a b most bytes p.rest p.front p.answered;
  refused = p.refused;
  text_is = p.text_is;
}

HasClosed-map : {S T : Type 0} (A : RequestRelation S) (B : RequestRelation T) (f : S → T) → Maps A B f
    → (w v : List ℕ → Type 0) (a b : Moment S) (most : ℕ) (bytes t : List ℕ) → HasClosed A most a bytes t b
    → HasClosed B most (moment_map f w a) bytes t (moment_map f v b)
HasClosed-map A B f h w v a b most bytes t p = record {
  requests = p.requests;
  few = p.few;
  rest = p.rest;
  requests_are = p.requests_are;
  request = p.request;
  behind = p.behind;
  next = p.next;
  close = p.close;
  exchange = IsExchange-map A B f h w v a b (p.requests ++ p.request ∷ []) t p.exchange;
}

IsCutShort-map : {S T : Type 0} (A : RequestRelation S) (B : RequestRelation T) (f : S → T) → Maps A B f
    → (w v : List ℕ → Type 0) (a b : Moment S) (xs : List Request) (x : Request) (t : List ℕ) → IsCutShort A a xs x t b
    → IsCutShort B (moment_map f w a) xs x t (moment_map f v b)
IsCutShort-map A B f h w v a b xs x t p = record {
  statuses = p.statuses;
  front = p.front;
  mid = f p.mid;
  responses = Exchange-map A B f h a.machine xs p.statuses p.front p.mid p.responses;
  status = p.status;
  body = p.body;
  answered = h.each p.mid x (mark_of p.status) p.status p.body b.machine p.answered;
  part = p.part;
  more = p.more;
  parts = p.parts;
  short = p.short;
  text_is = p.text_is;
  kept = p.kept;
}

HasCutResponse-map : {S T : Type 0} (A : RequestRelation S) (B : RequestRelation T) (f : S → T) → Maps A B f
    → (w v : List ℕ → Type 0) (a b : Moment S) (most : ℕ) (bytes t : List ℕ) → HasCutResponse A most a bytes t b
    → HasCutResponse B most (moment_map f w a) bytes t (moment_map f v b)
HasCutResponse-map A B f h w v a b most bytes t p = record {
  requests = p.requests;
  few = p.few;
  rest = p.rest;
  requests_are = p.requests_are;
  request = p.request;
  behind = p.behind;
  next = p.next;
  cut = IsCutShort-map A B f h w v a b p.requests p.request t p.cut;
}

HasCutRefusal-map : {S T : Type 0} (A : RequestRelation S) (B : RequestRelation T) (f : S → T) → Maps A B f
    → (w v : List ℕ → Type 0) (a b : Moment S) (most : ℕ) (bytes t : List ℕ) → HasCutRefusal A most a bytes t b
    → HasCutRefusal B most (moment_map f w a) bytes t (moment_map f v b)
HasCutRefusal-map A B f h w v a b most bytes t p = record {
  rest = p.rest;
  status = p.status;
  front = p.front;
  answered = HasAnswered-map A B f h w v a b most bytes p.rest p.front p.answered;
  refused = p.refused;
  part = p.part;
  more = p.more;
  parts = p.parts;
  short = p.short;
  text_is = p.text_is;
}

pub LinkClause-map : {S T : Type 0} (A : RequestRelation S) (B : RequestRelation T) (f : S → T) → Maps A B f
    → (w v : List ℕ → Type 0) (a b : Moment S) (most : ℕ) (read left t : List ℕ) (end : LinkEnd)
    → LinkClause A most a read left t b end
    → LinkClause B most (moment_map f w a) read left t (moment_map f v b) end
LinkClause-map A B f h w v a b most read left t Done p = elim p [
  | inl ended ↦ inl (HasAnswered-map A B f h w v a b most (read ++ left) [] t ended.0, ended.1)
  | inr other ↦ elim other [
    | inl refused ↦ inr (inl (HasRefused-map A B f h w v a b most (read ++ left) t refused))
    | inr closed ↦ inr (inr (HasClosed-map A B f h w v a b most (read ++ left) t closed))
  ]
]
LinkClause-map A B f h w v a b most read left t Cut p = record {
  rest = p.rest;
  answered = HasAnswered-map A B f h w v a b most (read ++ left) p.rest t p.answered;
  unfinished = p.unfinished;
  some = p.some;
  none_left = p.none_left;
}
LinkClause-map A B f h w v a b most read left t ReadFault p = record {
  rest = p.rest;
  answered = HasAnswered-map A B f h w v a b most read p.rest t p.answered;
  unfinished = p.unfinished;
}
LinkClause-map A B f h w v a b most read left t WriteFault p = elim p [
  | inl broken ↦ inl (HasCutResponse-map A B f h w v a b most (read ++ left) t broken)
  | inr broken ↦ inr (HasCutRefusal-map A B f h w v a b most (read ++ left) t broken)
]
LinkClause-map A B f h w v a b most read left t Limit p = record {
  requests = p.requests;
  count = p.count;
  rest = p.rest;
  requests_are = p.requests_are;
  exchange = IsExchange-map A B f h w v a b p.requests t p.exchange;
}
LinkClause-map A B f h w v a b most read left t OutOfMemory p =
    record { rest = p.rest; answered = HasAnswered-map A B f h w v a b most read p.rest t p.answered }

-- the whole clause, over the states that a map gives, of a whole that reports no more than the two sides do
pub IsServed-map : {S T : Type 0} (A : RequestRelation S) (B : RequestRelation T) (f : S → T) → Maps A B f
    → (w v : List ℕ → Type 0) (a b : Moment S) (most : ℕ) (begun : List ℕ)
    (before after before' after' : Option (List ℕ)) (end : LinkEnd) → Keeps before' before → Keeps after' after
    → ((text : List ℕ) → Wrote a.written b.written text → Wrote w v text)
    → IsServed A most begun before after a b end
    → IsServed B most begun before' after' (moment_map f w a) (moment_map f v b) end
IsServed-map A B f h w v a b most begun before after before' after' end first last writes p = record {
  read = p.read;
  left = p.left;
  text = p.text;
  bytes_are = Are-kept before' before (p.read ++ p.left) first p.bytes_are;
  left_are = Are-kept after' after p.left last p.left_are;
  wrote = writes p.text p.wrote;
  clause = LinkClause-map A B f h w v a b most (begun ++ p.read) p.left p.text end p.clause;
}

-- each answer is itself
pub same_answers : {S : Type 0} (A : RequestRelation S) → Maps A A (λ s. s)
same_answers A = record { each = λ old request mark status body new p. p }
