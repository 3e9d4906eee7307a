-- What holds at the end of a link, of requests that are answered after others.
use Rattle.std.proofs.Common.{◌≡◌, ℕ, ◌+◌, ◌≤◌, true, List, [], ◌∷◌, ◌++◌, length, Option, refl, sym, ap, ◌∙◌, subst}
use Rattle.std.proofs.Common.{append_assoc, length-append, arith, inl, inr}
use Rattle.book_keeper.specs.Stream.{Are}
use Rattle.book_keeper.proofs.StreamLemmas.{Are-Consumes, Wrote-append}
use Rattle.book_lines.specs.Marks.{RoseForEach}
use Rattle.book_lines.specs.RunClause.{Moment}
use Rattle.book_lines.proofs.MarkLemmas.{RoseForEach-append}
use Rattle.book_http.specs.declared.next.Request.{Request}
use Rattle.book_http.specs.Response.{response, refusal}
use Rattle.book_serve.specs.Statuses.{mark_of, marks}
use Rattle.book_serve.specs.Exchange.{RequestRelation}
use Rattle.book_serve.specs.Link.{AreOpen, IsExchange, HasAnswered, HasRefused, HasClosed, IsCutShort, HasCutResponse}
use Rattle.book_serve.specs.Link.{HasCutRefusal, LinkClause, IsServed}
use Rattle.book_serve.specs.Serving.{HasServed}
use Rattle.book_serve.specs.declared.link_end.LinkEnd.{LinkEnd}
use Rattle.book_serve.specs.declared.link_end.LinkEnd.TheVariants.{Done, Cut, ReadFault, WriteFault, Limit, OutOfMemory}
use Rattle.book_serve.proofs.ExchangeLemmas.{Exchange-append, IsExchange-append, AreOpen-more, AreOpen-append}
use Rattle.std.proofs.lemmas.List.{map-append}

-- The bytes begin with so many requests that leave the link open and were answered in this text; `mid` comes behind.
record Begins {S : Type 0} (answers : RequestRelation S) (count : ℕ) (a b : Moment S) (bytes mid text : List ℕ)
    : Type 0 where
  requests : List Request
  count_is : length requests ≡ count
  requests_are : AreOpen bytes requests mid
  exchange : IsExchange answers a requests text b

behind_answered : {S : Type 0} (answers : RequestRelation S) (count most all : ℕ) (a b c : Moment S)
    (bytes mid rest t u : List ℕ) → count + most ≤ all → Begins answers count a b bytes mid t
    → HasAnswered answers most b mid rest u c → HasAnswered answers all a bytes rest (t ++ u) c
behind_answered answers count most all a b c bytes mid rest t u fits p q = record {
  requests = p.requests ++ q.requests;
  few = omega (arith, length-append p.requests q.requests, p.count_is, q.few, fits);
  requests_are = AreOpen-append bytes p.requests mid q.requests rest p.requests_are q.requests_are;
  exchange = IsExchange-append answers a b c p.requests q.requests t u p.exchange q.exchange;
}

behind_refused : {S : Type 0} (answers : RequestRelation S) (count most all : ℕ) (a b c : Moment S)
    (bytes mid t u : List ℕ) → count + most ≤ all → Begins answers count a b bytes mid t
    → HasRefused answers most b mid u c → HasRefused answers all a bytes (t ++ u) c
behind_refused answers count most all a b c bytes mid t u fits p q = record {
  rest = q.rest;
  status = q.status;
  front = t ++ q.front;
  answered = behind_answered answers count most all a b c bytes mid q.rest t q.front fits p q.answered;
  refused = q.refused;
  text_is = ap (λ l. t ++ l) q.text_is ∙ sym (append_assoc t q.front (response q.status (refusal q.status) true));
}

behind_closed : {S : Type 0} (answers : RequestRelation S) (count most all : ℕ) (a b c : Moment S)
    (bytes mid t u : List ℕ) → count + most ≤ all → Begins answers count a b bytes mid t
    → HasClosed answers most b mid u c → HasClosed answers all a bytes (t ++ u) c
behind_closed answers count most all a b c bytes mid t u fits p q = record {
  requests = p.requests ++ q.requests;
  few = omega (arith, length-append p.requests q.requests, p.count_is, q.few, fits);
  rest = q.rest;
  requests_are = AreOpen-append bytes p.requests mid q.requests q.rest p.requests_are q.requests_are;
  request = q.request;
  behind = q.behind;
  next = q.next;
  close = q.close;
  exchange = subst (λ l. IsExchange answers a l (t ++ u) c)
      (sym (append_assoc p.requests q.requests (q.request ∷ [])))
      (IsExchange-append answers a b c p.requests (q.requests ++ q.request ∷ []) t u p.exchange q.exchange);
}

behind_short : {S : Type 0} (answers : RequestRelation S) (a b c : Moment S) (xs ys : List Request) (request : Request)
    (t u : List ℕ) → IsExchange answers a xs t b → IsCutShort answers b ys request u c
    → IsCutShort answers a (xs ++ ys) request (t ++ u) c
behind_short answers a b c xs ys request t u p q =
    let all = q.statuses ++ q.status ∷ [] in
    let split : marks ((p.statuses ++ q.statuses) ++ q.status ∷ []) ≡ marks p.statuses ++ marks all =
    ap (λ l. marks l) (append_assoc p.statuses q.statuses (q.status ∷ []))
    ∙ map-append mark_of p.statuses all in record {
      statuses = p.statuses ++ q.statuses;
      front = t ++ q.front;
      mid = q.mid;
      responses = Exchange-append answers a.machine xs p.statuses t b.machine ys q.statuses q.front q.mid p.responses
          q.responses;
      status = q.status;
      body = q.body;
      answered = q.answered;
      part = q.part;
      more = q.more;
      parts = q.parts;
      short = q.short;
      text_is = ap (λ l. t ++ l) q.text_is ∙ sym (append_assoc t q.front q.part);
      kept = subst (λ m. RoseForEach a.faults c.faults m) (sym split)
          (RoseForEach-append a.faults b.faults c.faults (marks p.statuses) (marks all) p.kept q.kept);
    }

behind_broken : {S : Type 0} (answers : RequestRelation S) (count most all : ℕ) (a b c : Moment S)
    (bytes mid t u : List ℕ) → count + most ≤ all → Begins answers count a b bytes mid t
    → HasCutResponse answers most b mid u c → HasCutResponse answers all a bytes (t ++ u) c
behind_broken answers count most all a b c bytes mid t u fits p q = record {
  requests = p.requests ++ q.requests;
  few = omega (arith, length-append p.requests q.requests, p.count_is, q.few, fits);
  rest = q.rest;
  requests_are = AreOpen-append bytes p.requests mid q.requests q.rest p.requests_are q.requests_are;
  request = q.request;
  behind = q.behind;
  next = q.next;
  cut = behind_short answers a b c p.requests q.requests q.request t u p.exchange q.cut;
}

behind_broken_refusal : {S : Type 0} (answers : RequestRelation S) (count most all : ℕ) (a b c : Moment S)
    (bytes mid t u : List ℕ) → count + most ≤ all → Begins answers count a b bytes mid t
    → HasCutRefusal answers most b mid u c → HasCutRefusal answers all a bytes (t ++ u) c
behind_broken_refusal answers count most all a b c bytes mid t u fits p q = record {
  rest = q.rest;
  status = q.status;
  front = t ++ q.front;
  answered = behind_answered answers count most all a b c bytes mid q.rest t q.front fits p q.answered;
  refused = q.refused;
  part = q.part;
  more = q.more;
  parts = q.parts;
  short = q.short;
  text_is = ap (λ l. t ++ l) q.text_is ∙ sym (append_assoc t q.front q.part);
}

-- what holds at an end behind requests that were answered
behind_clause : {S : Type 0} (answers : RequestRelation S) (count most all : ℕ) (a b c : Moment S)
    (known kept read left t u : List ℕ) (end : LinkEnd) → count + most ≤ all → (end ≡ Limit → ⊥)
    → Begins answers count a b known kept t → LinkClause answers most b (kept ++ read) left u c end
    → LinkClause answers all a (known ++ read) left (t ++ u) c end
behind_clause answers count most all a b c known kept read left t u end fits open' p q =
    let here : Begins answers count a b (known ++ read) (kept ++ read) t = record {
      requests = p.requests;
      count_is = p.count_is;
      requests_are = AreOpen-more known read p.requests kept p.requests_are;
      exchange = p.exchange;
    } in
    let whole : Begins answers count a b ((known ++ read) ++ left) ((kept ++ read) ++ left) t = record {
      requests = p.requests;
      count_is = p.count_is;
      requests_are = AreOpen-more (known ++ read) left p.requests (kept ++ read) here.requests_are;
      exchange = p.exchange;
    } in
    let bytes = (known ++ read) ++ left in
    let mid = (kept ++ read) ++ left in
    let P : LinkEnd → Type 0 = λ e. (e ≡ Limit → ⊥) → LinkClause answers most b (kept ++ read) left u c e
    → LinkClause answers all a (known ++ read) left (t ++ u) c e in
    (elim end as P [
      | Done ↦ λ _ h. elim h [
        | inl ended ↦ inl (behind_answered answers count most all a b c bytes mid [] t u fits whole ended.0, ended.1)
        | inr other ↦ elim other [
          | inl refused ↦ inr (inl (behind_refused answers count most all a b c bytes mid t u fits whole refused))
          | inr closed ↦ inr (inr (behind_closed answers count most all a b c bytes mid t u fits whole closed))
        ]
      ]
      | Cut ↦ λ _ h. record {
        rest = h.rest;
        answered = behind_answered answers count most all a b c bytes mid h.rest t u fits whole h.answered;
        unfinished = h.unfinished;
        some = h.some;
        none_left = h.none_left;
      }
      | ReadFault ↦ λ _ h. record {
        rest = h.rest;
        answered = behind_answered answers count most all a b c (known ++ read) (kept ++ read) h.rest t u fits here
            h.answered;
        unfinished = h.unfinished;
      }
      | WriteFault ↦ λ _ h. elim h [
        | inl broken ↦ inl (behind_broken answers count most all a b c bytes mid t u fits whole broken)
        | inr broken ↦ inr (behind_broken_refusal answers count most all a b c bytes mid t u fits whole broken)
      ]
      | Limit ↦ λ other _. absurd (other refl)
      | OutOfMemory ↦ λ _ h. record {
        rest = h.rest;
        answered = behind_answered answers count most all a b c (known ++ read) (kept ++ read) h.rest t u fits here
            h.answered;
      }
    ]) open' q

-- a link that was served to its end behind requests that were answered
pub IsServed-behind : {S : Type 0} (answers : RequestRelation S) (count most all : ℕ) (kept : List ℕ)
    (before between after : Option (List ℕ)) (a b c : Moment S) (end : LinkEnd) → count + most ≤ all
    → (end ≡ Limit → ⊥) → HasServed answers kept before between a b count
    → IsServed answers most kept between after b c end → IsServed answers all [] before after a c end
IsServed-behind answers count most all kept before between after a b c end fits open' p q = record {
  read = p.read ++ q.read;
  left = q.left;
  text = p.text ++ q.text;
  bytes_are = subst (λ l. Are before l) (sym (append_assoc p.read q.read q.left))
      (Are-Consumes before between p.read (q.read ++ q.left) p.took q.bytes_are);
  left_are = q.left_are;
  wrote = Wrote-append a.written b.written c.written p.text q.text p.wrote q.wrote;
  clause = behind_clause answers count most all a b c p.read kept q.read q.left p.text q.text end fits open'
      (record {
        requests = p.requests;
        count_is = p.count_is;
        requests_are = p.requests_are;
        exchange = p.exchange;
      }) q.clause;
}
