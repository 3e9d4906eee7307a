-- What the parser says of a window, and what that says of the bytes.
use Rattle.std.proofs.Common.{◌≡◌, ℕ, suc, ◌+◌, ◌*◌, ◌^◌, ◌<◌, ◌≤◌, ◌==◌, ◌||◌, List, []}
use Rattle.std.proofs.Common.{◌∷◌, ◌++◌, length, map, take, drop, min, None, Some, All, refl, sym, ap, ◌∙◌, subst}
use Rattle.std.proofs.Common.{arith}
use Rattle.std.proofs.Common.{length-append, inl, inr, length-take}
use Rattle.std.proofs.lemmas.List.{take-append-drop, take_all, length-map, length-take-le}
use Rattle.std.specs.List.{flat_map}
use Rattle.httparse.specs.Grammar.{LineEnd, crlf, lf, print_end, Field, print_field, IsField}
use Rattle.httparse.specs.Grammar.{RequestHead, print_request, IsRequestHead, ReadsRequest, HasNoRequest}
use Rattle.httparse.specs.Grammar.{NeverHasRequest}
use Rattle.httparse.specs.Grammar.{MayBecomeRequest}
use Rattle.httparse.specs.Spans.{name_and_value, header_bytes, RequestExceeds, IsRequestAt}
use Rattle.httparse.specs.declared.spans.HeaderSpan.{HeaderSpan}
use Rattle.httparse.specs.declared.spans.RequestSpans.{RequestSpans}
use Rattle.httparse.proofs.GrammarLemmas.{print_request-append, ReadsRequest-append}
use Rattle.book_commodity.specs.Rules.{first_broken}
use Rattle.book_http.specs.declared.fields.Fields.{Fields}
use Rattle.book_http.specs.declared.route.Route.{Route}
use Rattle.book_http.specs.declared.judgement.AcceptedHead.{AcceptedHead}
use Rattle.book_http.specs.declared.judgement.Judgement.{Judgement}
use Rattle.book_http.specs.declared.judgement.Judgement.TheVariants.{Unfinished, Refused, Accepted}
use Rattle.book_http.specs.Route.{IsRoute, Finds}
use Rattle.book_http.specs.Fields.{said}
use Rattle.book_http.specs.Head.{said_by, size_of, field_refusals, route_refusals, refused_by_fields, refused_by_route}
use Rattle.book_http.specs.Head.{IsRefusedHead}
use Rattle.book_http.specs.Exchange.{head_window, HasHead, IsRefused, LacksHead}
use Rattle.book_http.specs.Judgement.{Accepts, IsJudgedHead, IsJudged}

-- what was read of the fields of a head: how many there are, and what they say
pub record IsReading (head : RequestHead) (count : ℕ) (fields : Fields) : Type 0 where
  pub count_is : count ≡ length head.fields
  pub fields_are : fields ≡ said_by head

-- the spans of a head show its fields
pub reading : (buf : List ℕ) (spans : List HeaderSpan) (r : RequestSpans) (head : RequestHead) (fields : Fields)
    → IsRequestAt buf spans r head → r.headers ≤ length spans
    → fields ≡ said (map (header_bytes buf) (take r.headers spans)) → IsReading head r.headers fields
reading buf spans r head fields is fits e = record {
  count_is =
      let here : length (map (header_bytes buf) (take r.headers spans)) ≡ r.headers =
      length-map (take r.headers spans) (header_bytes buf) ∙ length-take-le r.headers spans fits in
      sym here ∙ ap length is.fields ∙ length-map head.fields name_and_value;
  fields_are = e ∙ ap said is.fields;
}

refusals_are : (head : RequestHead) (count : ℕ) (fields : Fields) → IsReading head count fields
    → first_broken (field_refusals count fields) ≡ refused_by_fields head
refusals_are head count fields is =
    ap (λ n. first_broken (field_refusals n fields)) is.count_is
    ∙ ap (λ (f : Fields). first_broken (field_refusals (length head.fields) f)) is.fields_are

-- the fields refuse the head
pub refused_fields : (head : RequestHead) (count : ℕ) (fields : Fields) (status : ℕ) → IsReading head count fields
    → first_broken (field_refusals count fields) ≡ Some status → IsRefusedHead head status
refused_fields head count fields status is refused = inl (sym (refusals_are head count fields is) ∙ refused)

-- the head has no route
pub refused_routeless : (head : RequestHead) (count : ℕ) (fields : Fields) → IsReading head count fields
    → first_broken (field_refusals count fields) ≡ None → Finds head.target None → IsRefusedHead head 404
refused_routeless head count fields is passed none =
    inr (sym (refusals_are head count fields is) ∙ passed, None, none, refl)

route_refusals_are : (head : RequestHead) (count : ℕ) (fields : Fields) (method : List ℕ) (route : Route)
    → IsReading head count fields → method ≡ head.method
    → first_broken (route_refusals method fields.length (Some route)) ≡ refused_by_route head (Some route)
route_refusals_are head count fields method route is same =
    ap (λ (m : List ℕ). first_broken (route_refusals m fields.length (Some route))) same
    ∙ ap (λ (f : Fields). first_broken (route_refusals head.method f.length (Some route))) is.fields_are

-- the route refuses the head
pub refused_route : (head : RequestHead) (count : ℕ) (fields : Fields) (method : List ℕ) (route : Route) (status : ℕ)
    → IsReading head count fields → first_broken (field_refusals count fields) ≡ None → IsRoute head.target route
    → method ≡ head.method → first_broken (route_refusals method fields.length (Some route)) ≡ Some status
    → IsRefusedHead head status
refused_route head count fields method route status is passed found same refused =
    inr (
      sym (refusals_are head count fields is) ∙ passed,
      Some route,
      found,
      sym (route_refusals_are head count fields method route is same) ∙ refused,
    )

-- nothing refuses the head
pub accepted : (head : RequestHead) (count : ℕ) (fields : Fields) (method : List ℕ) (size minor : ℕ) (a : AcceptedHead)
    → IsReading head count fields → first_broken (field_refusals count fields) ≡ None → IsRoute head.target a.route
    → method ≡ head.method → first_broken (route_refusals method fields.length (Some a.route)) ≡ None
    → a.head ≡ size → a.body ≡ size_of fields.length → a.body ≤ 2 ^ 23 → minor ≡ head.minor
    → a.close ≡ ((minor == 0) || fields.close) → Accepts head size a
accepted head count fields method size minor a is passed found same kept head_is body_is few minor_is close_is =
    record {
      accepted_is = record {
        fields = sym (refusals_are head count fields is) ∙ passed;
        has_route = found;
        by_route = sym (route_refusals_are head count fields method a.route is same) ∙ kept;
      };
      head_is = head_is;
      body_is = body_is ∙ ap (λ (f : Fields). size_of f.length) is.fields_are;
      few = few;
      close_is = close_is ∙ ap (λ n. (n == 0) || fields.close) minor_is
          ∙ ap (λ (f : Fields). (head.minor == 0) || f.close) is.fields_are;
    }

-- ---- windows

-- the window and then the other bytes
window_parts : (bytes : List ℕ) → head_window bytes ++ drop (2 ^ 14) bytes ≡ bytes
unfolding head_window
window_parts bytes = take-append-drop (2 ^ 14) bytes

pub length-window : (bytes : List ℕ) → length (head_window bytes) ≡ min (2 ^ 14) (length bytes)
unfolding head_window
length-window bytes = length-take (2 ^ 14) bytes

-- few bytes are their own window
pub window_all : (bytes : List ℕ) → length (head_window bytes) < 2 ^ 14 → head_window bytes ≡ bytes
unfolding head_window
window_all bytes short = take_all (2 ^ 14) bytes (let e = length-window bytes in omega (arith, e))

-- a head in the window is a head of the bytes
pub window_head : (bytes : List ℕ) (head : RequestHead) (behind : List ℕ) → ReadsRequest (head_window bytes) head behind
    → HasHead bytes head (behind ++ drop (2 ^ 14) bytes)
window_head bytes head behind reads = record {
  reads = subst (λ (all : List ℕ). ReadsRequest all head (behind ++ drop (2 ^ 14) bytes)) (window_parts bytes)
      (ReadsRequest-append (head_window bytes) head behind (drop (2 ^ 14) bytes) reads);
  short =
      omega (arith, ap length reads.1, length-append (print_request head) behind, length-window bytes);
}

judged : (bytes : List ℕ) (head : RequestHead) (behind : List ℕ) (size : ℕ) (judgement : Judgement)
    → HasHead bytes head behind → size ≡ length (print_request head) → IsJudgedHead head size judgement
    → IsJudged bytes judgement
judged bytes head behind size Unfinished has size_is h = absurd h
judged bytes head behind size (Refused status) has size_is h =
    inl (record { head = head; behind = behind; has_head = has; refused = h })
judged bytes head behind size (Accepted a) has size_is h = record {
  head = head;
  behind = behind;
  has_head = has;
  accepts = subst (λ n. Accepts head n a) size_is h;
}

-- a judged head in the window judges the bytes
pub window_judged : (w bytes : List ℕ) (spans : List HeaderSpan) (r : RequestSpans) (head : RequestHead)
    (judgement : Judgement) → w ≡ head_window bytes → IsRequestAt w spans r head → IsJudgedHead head r.len judgement
    → IsJudged bytes judgement
window_judged w bytes spans r head judgement is at h =
    judged bytes head (drop r.len w ++ drop (2 ^ 14) bytes) r.len judgement
    (window_head bytes head (drop r.len w) (subst (λ (l : List ℕ). ReadsRequest l head (drop r.len w)) is at.reads))
    at.len h

-- a window without a head, which may have begun
pub window_short : (w bytes : List ℕ) → w ≡ head_window bytes → length w < 2 ^ 14 → HasNoRequest w
    → MayBecomeRequest w → LacksHead bytes
window_short w bytes is short none begun =
    let all : w ≡ bytes = is ∙ window_all bytes (subst (λ (l : List ℕ). length l < 2 ^ 14) is short) in record {
      few = subst (λ (l : List ℕ). length l < 2 ^ 14) all short;
      none = subst HasNoRequest all none;
      begun = subst MayBecomeRequest all begun;
    }

-- the same of a full window
pub window_full : (w bytes : List ℕ) → w ≡ head_window bytes → 2 ^ 14 ≤ length w → HasNoRequest w
    → MayBecomeRequest w → IsRefused bytes 431
window_full w bytes is full none begun = inr (inr (
  refl,
  record {
    full = omega (arith, ap length is, length-window bytes);
    none = subst HasNoRequest is none;
    begun = subst MayBecomeRequest is begun;
  },
))

-- bytes that never begin with a head
pub window_never : (w bytes : List ℕ) → w ≡ head_window bytes → NeverHasRequest w → IsRefused bytes 400
window_never w bytes is never = inr (inl (refl, subst NeverHasRequest is never))

-- ---- room for the spans

some_end : (end : LineEnd) → 1 ≤ length (print_end end)
some_end crlf = omega arith
some_end lf = omega arith

-- a field has at least three bytes
field_long : (field : Field) → IsField field → 3 ≤ length (print_field field)
field_long field is =
    let end = some_end field.end in
    let name = is.name.0 in
    omega (
      arith,
      length-append (field.name ++ 58 ∷ field.raw) (print_end field.end),
      length-append field.name (58 ∷ field.raw),
    )

fields_long : (fields : List Field) → All IsField fields → 3 * length fields ≤ length (flat_map print_field fields)
fields_long [] all = omega arith
fields_long (field ∷ more) all =
    let first : 3 ≤ length (print_field field) = field_long field (all 0 field (omega arith)) in
    let rest = fields_long more (λ k d low. all (suc k) d (omega arith)) in
    omega (arith, length-append (print_field field) (flat_map print_field more))

-- a head is longer than three bytes for each of its fields
pub head_long : (head : RequestHead) → IsRequestHead head → 3 * length head.fields + 2 ≤ length (print_request head)
head_long head is =
    let fields = fields_long head.fields is.fields in
    let e = ap length (print_request-append head []) in
    let last = some_end head.last in
    omega (arith, length-append {A = ℕ})

-- room for a third of the bytes is enough for the fields of any head in them
pub no_excess : (room : ℕ) (buf : List ℕ) → length buf < 3 * room → RequestExceeds room buf → ⊥
no_excess room buf fits h =
    let long = head_long h.3 h.4.0 in
    let over = h.5 in
    omega (arith, ap length h.4.1, ap length h.2, length-append {A = ℕ})
