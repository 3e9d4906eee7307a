-- What is said of bytes stays where more of them come, and what that says of a link.
use Rattle.std.proofs.Common.{◌≡◌, ℕ, zero, suc, ◌+◌, ◌^◌, ◌<◌, ◌≤◌, ◌==◌, Bool, false, cond, List, [], ◌∷◌, ◌++◌}
use Rattle.std.proofs.Common.{length, take, drop, Option}
use Rattle.std.proofs.Common.{Result, Ok, Err, refl, sym, ap, ◌∙◌, subst, arith, length-append, append_assoc}
use Rattle.std.proofs.Common.{append-nil, inl, inr}
use Rattle.std.proofs.Math.Seq.{drop-append-add}
use Rattle.std.proofs.lemmas.List.{take-append-drop, take-append-le, length-take-le}
use Rattle.std.proofs.lemmas.Bool.{eqb-false}
use Rattle.std.specs.Io.KnownBytes.{IsAtEnd}
use Rattle.std.proofs.KnownBytes.{Consumes-trans}
use Rattle.httparse.specs.Grammar.{RequestHead, print_request, HasNoRequest, NeverHasRequest, MayBecomeRequest}
use Rattle.httparse.proofs.GrammarLemmas.{ReadsRequest-append}
use Rattle.book_keeper.specs.Stream.{Are}
use Rattle.book_keeper.proofs.StreamLemmas.{Are-some, Are-end, Are-Consumes}
use Rattle.book_http.specs.declared.judgement.AcceptedHead.{AcceptedHead}
use Rattle.book_http.specs.declared.next.Request.{Request}
use Rattle.book_http.specs.declared.next.Next.{Next}
use Rattle.book_http.specs.declared.next.Next.TheVariants.{Request as Asked, Refused, End, Cut}
use Rattle.book_http.specs.declared.next.NextError.{NextError}
use Rattle.book_http.specs.declared.next.NextError.TheVariants.{ReadFault, OutOfMemory}
use Rattle.book_http.specs.Route.{kind_of, takes_body}
use Rattle.book_http.specs.Exchange.{head_window, HasHead, IsRequest, IsRefused, LacksHead}
use Rattle.book_http.specs.Exchange.{LacksBody, IsUnfinished, NextIs, ExchangeIs, IsNext}
use Rattle.book_http.specs.Judgement.{BeginsAccepted}
use Rattle.book_http.specs.Reading.{HasRead}
use Rattle.book_http.proofs.HeadLemmas.{head_long}

-- ---- more bytes

HasHead-append : (bytes more : List ℕ) (head : RequestHead) (behind : List ℕ) → HasHead bytes head behind
    → HasHead (bytes ++ more) head (behind ++ more)
HasHead-append bytes more head behind has = record {
  reads = ReadsRequest-append bytes head behind more has.reads;
  short = has.short;
}

-- a request stays, and the bytes come behind it
pub IsRequest-append : (bytes more : List ℕ) (request : Request) (rest : List ℕ) → IsRequest bytes request rest
    → IsRequest (bytes ++ more) request (rest ++ more)
IsRequest-append bytes more request rest is = record {
  head = is.head;
  body = is.body;
  has_head = subst (λ (behind : List ℕ). HasHead (bytes ++ more) is.head behind) (append_assoc is.body rest more)
      (HasHead-append bytes more is.head (is.body ++ rest) is.has_head);
  accepted = is.accepted;
  long = is.long;
  body_is = is.body_is;
  close_is = is.close_is;
}

-- the front of a longer list begins with the front of the list
take-append : (n : ℕ) (bytes more : List ℕ) → (part : List ℕ) × (take n (bytes ++ more) ≡ take n bytes ++ part)
take-append zero bytes more = ([], refl)
take-append (suc n) [] more = (take (suc n) more, refl)
take-append (suc n) (byte ∷ bytes) more =
    let front = take-append n bytes more in (front.0, ap (λ l. byte ∷ l) front.1)

-- and so does its window
window-append : (bytes more : List ℕ) → (part : List ℕ) × (head_window (bytes ++ more) ≡ head_window bytes ++ part)
unfolding head_window
window-append bytes more = take-append (2 ^ 14) bytes more

-- a full window stays
window_stays : (bytes more : List ℕ) → 2 ^ 14 ≤ length bytes → head_window (bytes ++ more) ≡ head_window bytes
unfolding head_window
window_stays bytes more full = take-append-le (2 ^ 14) bytes more full

Never-append : (bytes more : List ℕ) → NeverHasRequest bytes → NeverHasRequest (bytes ++ more)
Never-append bytes more never = λ other.
    subst HasNoRequest (sym (append_assoc bytes more other)) (never (more ++ other))

-- a refusal stays
pub IsRefused-append : (bytes more : List ℕ) (status : ℕ) → IsRefused bytes status → IsRefused (bytes ++ more) status
IsRefused-append bytes more status is = elim is [
  | inl head ↦ inl (record {
    head = head.head;
    behind = head.behind ++ more;
    has_head = HasHead-append bytes more head.head head.behind head.has_head;
    refused = head.refused;
  })
  | inr other ↦ elim other [
    | inl never ↦
        let window = window-append bytes more in
        inr (inl (
          never.0,
          subst NeverHasRequest (sym window.1) (Never-append (head_window bytes) window.0 never.1),
        ))
    | inr long ↦
        let same = window_stays bytes more long.1.full in
        let full = long.1.full in
        inr (inr (
          long.0,
          record {
            full = omega (arith, length-append bytes more);
            none = subst HasNoRequest (sym same) long.1.none;
            begun = subst MayBecomeRequest (sym same) long.1.begun;
          },
        ))
  ]
]

-- an accepted head stays
pub BeginsAccepted-append : (bytes more : List ℕ) (a : AcceptedHead) → BeginsAccepted bytes a
    → BeginsAccepted (bytes ++ more) a
BeginsAccepted-append bytes more a is = record {
  head = is.head;
  behind = is.behind ++ more;
  has_head = HasHead-append bytes more is.head is.behind is.has_head;
  accepts = is.accepts;
}

pub BeginsAccepted-read : (begun kept : List ℕ) (a : AcceptedHead) (before after : Option (List ℕ))
    → BeginsAccepted begun a → HasRead begun kept before after → BeginsAccepted kept a
BeginsAccepted-read begun kept a before after is read =
    subst (λ (bytes : List ℕ). BeginsAccepted bytes a) (sym read.kept_is) (BeginsAccepted-append begun read.read a is)

-- ---- the next of a link

-- what was read makes the next
next_of : (begun mid kept : List ℕ) (before after : Option (List ℕ)) (result : Result Next NextError) (left : List ℕ)
    → HasRead begun mid before after → Are after left → NextIs mid kept after result
    → ExchangeIs (mid ++ left) (kept ++ left) result → IsNext begun kept before after result
next_of begun mid kept before after result left had are next exchange = record {
  read = had.read;
  left = left;
  took = had.took;
  bytes_are = Are-Consumes before after had.read left had.took are;
  left_are = are;
  next = subst (λ (bytes : List ℕ). NextIs bytes kept after result) had.kept_is next;
  exchange = subst (λ (bytes : List ℕ). ExchangeIs bytes (kept ++ left) result)
      (ap (λ l. l ++ left) had.kept_is ∙ append_assoc begun had.read left) exchange;
}

nothing_more : (kept bytes : List ℕ) → kept ≡ bytes → kept ++ [] ≡ bytes ++ []
nothing_more kept bytes e = ap (λ l. l ++ []) e

-- the next of the bytes that were read is the next of the link
pub IsNext-read : (begun mid kept : List ℕ) (before after : Option (List ℕ)) (result : Result Next NextError)
    → HasRead begun mid before after → NextIs mid kept after result → IsNext begun kept before after result
IsNext-read begun mid kept before after (Ok (Asked request)) had next =
    let left = Are-some after in
    next_of begun mid kept before after (Ok (Asked request)) left.0 had left.1 next
    (IsRequest-append mid left.0 request kept next)
IsNext-read begun mid kept before after (Ok (Refused status)) had next =
    let left = Are-some after in
    next_of begun mid kept before after (Ok (Refused status)) left.0 had left.1 next
    (IsRefused-append mid left.0 status next.0, ap (λ l. l ++ left.0) next.1)
IsNext-read begun mid kept before after (Ok End) had next =
    next_of begun mid kept before after (Ok End) [] had (Are-end after next.2) next
    (ap (λ l. l ++ []) next.0, ap (λ l. l ++ []) next.1)
IsNext-read begun mid kept before after (Ok Cut) had next =
    let same = sym (append-nil mid) in
    next_of begun mid kept before after (Ok Cut) [] had (Are-end after next.3) next
    (subst IsUnfinished same next.0, subst (λ (l : List ℕ). 0 < length l) same next.1, ap (λ l. l ++ []) next.2)
IsNext-read begun mid kept before after (Err ReadFault) had next =
    let left = Are-some after in
    next_of begun mid kept before after (Err ReadFault) left.0 had left.1 next (ap (λ l. l ++ left.0) next.1)
IsNext-read begun mid kept before after (Err OutOfMemory) had next =
    let left = Are-some after in
    next_of begun mid kept before after (Err OutOfMemory) left.0 had left.1 next (ap (λ l. l ++ left.0) next)

-- what was read first, and then the next
pub IsNext-behind : (begun mid kept : List ℕ) (before between after : Option (List ℕ)) (result : Result Next NextError)
    → HasRead begun mid before between → IsNext mid kept between after result → IsNext begun kept before after result
IsNext-behind begun mid kept before between after result had next =
    let bytes : mid ++ next.read ≡ begun ++ (had.read ++ next.read) =
    ap (λ l. l ++ next.read) had.kept_is ∙ append_assoc begun had.read next.read in
    let all : mid ++ (next.read ++ next.left) ≡ begun ++ ((had.read ++ next.read) ++ next.left) =
    ap (λ l. l ++ (next.read ++ next.left)) had.kept_is ∙ append_assoc begun had.read (next.read ++ next.left)
    ∙ ap (λ l. begun ++ l) (sym (append_assoc had.read next.read next.left)) in record {
      read = had.read ++ next.read;
      left = next.left;
      took = Consumes-trans before between after had.read next.read had.took next.took;
      bytes_are = subst (λ (l : List ℕ). Are before l) (sym (append_assoc had.read next.read next.left))
          (Are-Consumes before between had.read (next.read ++ next.left) had.took next.bytes_are);
      left_are = next.left_are;
      next = subst (λ (l : List ℕ). NextIs l kept after result) bytes next.next;
      exchange = subst (λ (l : List ℕ). ExchangeIs l (kept ++ next.left) result) all next.exchange;
    }

-- ---- bodies

-- bytes behind an accepted head that are too few for its body
body_lacks : (bytes : List ℕ) (a : AcceptedHead) → BeginsAccepted bytes a → length bytes < a.head + a.body
    → LacksBody bytes
body_lacks bytes a is few = record {
  head = is.head;
  behind = is.behind;
  route = a.route;
  has_head = is.has_head;
  accepted = is.accepts.accepted_is;
  few =
      let size = is.accepts.head_is in
      let body = is.accepts.body_is in
      omega (arith, ap length is.has_head.reads.1, length-append (print_request is.head) is.behind);
}

-- the link was cut within a body
pub body_cut : (bytes : List ℕ) (a : AcceptedHead) (after : Option (List ℕ)) → BeginsAccepted bytes a
    → length bytes < a.head + a.body → IsAtEnd after → NextIs bytes bytes after (Ok Cut)
body_cut bytes a after is few end = (
  inr (body_lacks bytes a is few),
  (let long = head_long is.head is.has_head.reads.0 in
      omega (arith, ap length is.has_head.reads.1, length-append (print_request is.head) is.behind)),
  refl,
  end,
)

-- the link could not be read within a body
pub body_failed : (bytes : List ℕ) (a : AcceptedHead) (after : Option (List ℕ)) (error : NextError)
    → BeginsAccepted bytes a → length bytes < a.head + a.body → NextIs bytes bytes after (Err error)
body_failed bytes a after ReadFault is few = (inr (body_lacks bytes a is few), refl)
body_failed bytes a after OutOfMemory is few = refl

some : (n : ℕ) → (n ≡ 0 → ⊥) → 0 < n
some n h = omega arith

-- a list that is not empty
pub some_left : (bytes view : List ℕ) (t : Bool) → view ≡ bytes → t ≡ (length view == 0) → t ≡ false → 0 < length bytes
some_left bytes view t same test unset =
    let filled = eqb-false (length view) 0 (sym test ∙ unset) in
    some (length bytes) (λ e. filled (ap length same ∙ e))

-- the link has ended within a head
pub head_cut : (bytes : List ℕ) (after : Option (List ℕ)) → LacksHead bytes → 0 < length bytes → IsAtEnd after
    → NextIs bytes bytes after (Ok Cut)
head_cut bytes after lacks some end = (inl lacks, some, refl, end)

-- the link could not be read within a head
pub head_failed : (bytes : List ℕ) (after : Option (List ℕ)) (error : NextError)
    → (error ≡ ReadFault → LacksHead bytes) → NextIs bytes bytes after (Err error)
head_failed bytes after ReadFault lacks = (inl (lacks refl), refl)
head_failed bytes after OutOfMemory lacks = refl

-- a head and a body were taken
pub body_taken : (bytes : List ℕ) (a : AcceptedHead) (after : Option (List ℕ)) (kept rest : List ℕ)
    → BeginsAccepted bytes a → a.head + a.body ≤ length bytes
    → kept ≡ cond (takes_body (kind_of a.route)) (take a.body (drop a.head bytes)) []
    → rest ≡ drop (a.head + a.body) bytes
    → NextIs bytes rest after (Ok (Asked (record { route = a.route; body = kept; close = a.close })))
body_taken bytes a after kept rest is fits kept_is rest_is =
    let front = print_request is.head in
    let reads = is.has_head.reads.1 in
    let size : a.head ≡ length front + 0 = let e = is.accepts.head_is in omega arith in
    let whole : a.head + a.body ≡ length front + a.body = let e = is.accepts.head_is in omega arith in
    let behind : drop a.head bytes ≡ is.behind =
    ap (λ n. drop n bytes) size ∙ ap (λ (l : List ℕ). drop (length front + 0) l) reads
    ∙ drop-append-add front is.behind 0 in
    let left : rest ≡ drop a.body is.behind =
    rest_is ∙ ap (λ n. drop n bytes) whole ∙ ap (λ (l : List ℕ). drop (length front + a.body) l) reads
    ∙ drop-append-add front is.behind a.body in
    let body = take a.body is.behind in
    let parts : body ++ rest ≡ is.behind = ap (λ l. body ++ l) left ∙ take-append-drop a.body is.behind in
    let long : a.body ≤ length is.behind =
    let e = is.accepts.head_is in omega (arith, ap length reads, length-append front is.behind) in record {
      head = is.head;
      body = body;
      has_head = subst (λ (l : List ℕ). HasHead bytes is.head l) (sym parts) is.has_head;
      accepted = is.accepts.accepted_is;
      long = length-take-le a.body is.behind long ∙ is.accepts.body_is;
      body_is = kept_is ∙ ap (λ (l : List ℕ). cond (takes_body (kind_of a.route)) (take a.body l) []) behind;
      close_is = is.accepts.close_is;
    }
