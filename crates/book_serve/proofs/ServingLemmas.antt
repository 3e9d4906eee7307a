-- One request of a link after another.
use Rattle.std.proofs.Common.{◌≡◌, ℕ, ◌+◌, ◌≤◌, true, false, List, [], ◌∷◌, ◌++◌, Option, Result, Ok, Err}
use Rattle.std.proofs.Common.{refl, sym, ◌∙◌, subst, append-nil, length-append, arith, inl, inr}
use Rattle.std.specs.Prelude.{IfOk}
use Rattle.std.proofs.KnownBytes.{Consumes-nil, Consumes-trans}
use Rattle.book_keeper.specs.Faults.{Rose}
use Rattle.book_keeper.proofs.StreamLemmas.{Are-some, Are-end, Are-Consumes, Wrote-nil, Wrote-append}
use Rattle.book_lines.specs.Marks.{Mark, Memory, Keeper, RoseForEach, memory_answer, keeper_answer}
use Rattle.book_lines.specs.RunClause.{Moment, at}
use Rattle.book_lines.specs.declared.machine.Unanswered.{Unanswered}
use Rattle.book_lines.specs.declared.machine.Unanswered.TheVariants.{Memory as NoMemory, Keeper as NotKept}
use Rattle.book_http.specs.declared.next.Request.{Request}
use Rattle.book_http.specs.declared.next.Next.TheVariants.{Request as Asked, Refused, End, Cut as NextCut}
use Rattle.book_http.specs.declared.next.NextError.TheVariants.{ReadFault as NotRead, OutOfMemory as NoRoom}
use Rattle.book_http.specs.Exchange.{IsNext}
use Rattle.book_http.specs.Response.{response, refusal}
use Rattle.book_http.proofs.ExchangeLemmas.{IsRequest-append, IsRefused-append}
use Rattle.book_serve.specs.Exchange.{RequestRelation, IsResponse}
use Rattle.book_serve.specs.Link.{IsExchange, HasAnswered, IsServed, HasAnsweredLink}
use Rattle.book_serve.specs.Serving.{response_of, GaveResponse, HasReplied, EndsByRequest, EndsByRefusal}
use Rattle.book_serve.specs.Serving.{HasAnsweredNext, HasServed}
use Rattle.book_serve.specs.declared.link_end.LinkEnd.{LinkEnd}
use Rattle.book_serve.specs.declared.link_end.LinkEnd.TheVariants.{Done, Cut, ReadFault, WriteFault, Limit, OutOfMemory}
use Rattle.book_serve.proofs.ExchangeLemmas.{IsExchange-append, IsExchange-nil, AreOpen-more, AreOpen-append}

-- ---- one request

-- what answered a request, whatever it was
pub gave : {S : Type 0} (answers : RequestRelation S) (old : S) (request : Request)
    (result : Result (List ℕ) Unanswered)
    (new : S) (f g : ℕ)
    → IfOk result (λ bytes. IsResponse answers old request bytes new)
    → (result ≡ Err NoMemory → answers old request Memory 507 memory_answer new)
    → (result ≡ Err NotKept → answers old request Keeper 503 keeper_answer new × Rose f g)
    → f ≤ g → GaveResponse answers old request (response_of request.close result) new f g
gave answers old request (Ok bytes) new f g answered memory keeper later = record {
  status = answered.status;
  body = answered.body;
  bytes_are = answered.bytes_are;
  answered = subst (λ m. answers old request m answered.status answered.body new) (sym answered.own) answered.answered;
  kept = let P : Mark → Type 0 = λ m. RoseForEach f g (m ∷ []) in subst P (sym answered.own) (omega arith);
}
gave answers old request (Err NoMemory) new f g answered memory keeper later = record {
  status = 507;
  body = memory_answer;
  bytes_are = refl;
  answered = memory refl;
  kept = omega arith;
}
gave answers old request (Err NotKept) new f g answered memory keeper later =
    let rose = (keeper refl).1 in record {
      status = 503;
      body = keeper_answer;
      bytes_are = refl;
      answered = (keeper refl).0;
      kept = omega arith;
    }

-- one request that was answered
one : {S : Type 0} (answers : RequestRelation S) (a b : Moment S) (request : Request) (text : List ℕ)
    → GaveResponse answers a.machine request text b.machine a.faults b.faults
    → IsExchange answers a (request ∷ []) text b
one answers a b request text p = record {
  statuses = p.status ∷ [];
  responses = (
    p.body,
    b.machine,
    [],
    p.answered,
    p.bytes_are ∙ sym (append-nil (response p.status p.body request.close)),
    (refl, refl),
  );
  kept = p.kept;
}

-- no request has been answered yet
none_yet : {S : Type 0} (answers : RequestRelation S) (machine : S) (w v : List ℕ → Type 0) (faults : ℕ)
    (bytes rest : List ℕ) → bytes ≡ rest
    → HasAnswered answers 1 (at machine w faults) bytes rest [] (at machine v faults)
none_yet answers machine w v faults bytes rest same = record {
  requests = [];
  few = omega arith;
  requests_are = same;
  exchange = IsExchange-nil answers (at machine w faults) (at machine v faults) refl (omega arith);
}

-- ---- the next of a link

-- a request that leaves the link open
pub step_open : {S : Type 0} (answers : RequestRelation S) (begun kept : List ℕ) (before after : Option (List ℕ))
    (request : Request) (a b : Moment S)
    → IsNext begun kept before after (Ok (Asked request)) → HasReplied answers a request b → request.close ≡ false
    → HasAnsweredNext answers begun kept before after a b
step_open answers begun kept before after request a b next replied stays = record {
  read = next.read;
  took = next.took;
  request = request;
  request_is = next.next;
  stays = stays;
  replied = replied;
}

-- a request that is the last of its link
pub step_last : {S : Type 0} (answers : RequestRelation S) (begun kept : List ℕ) (before after : Option (List ℕ))
    (request : Request) (a b : Moment S) (end : LinkEnd)
    → IsNext begun kept before after (Ok (Asked request)) → EndsByRequest answers a request b end
    → IsServed answers 1 begun before after a b end
step_last answers begun kept before after request a b Cut next h = absurd h
step_last answers begun kept before after request a b ReadFault next h = absurd h
step_last answers begun kept before after request a b Limit next h = absurd h
step_last answers begun kept before after request a b OutOfMemory next h = absurd h
step_last answers begun kept before after request a b Done next h =
    let left = Are-some after in
    let come = begun ++ next.read in record {
      read = next.read;
      left = left.0;
      text = h.0.text;
      bytes_are = Are-Consumes before after next.read left.0 next.took left.1;
      left_are = left.1;
      wrote = h.0.wrote;
      clause = inr (inr (record {
        requests = [];
        few = omega arith;
        rest = come ++ left.0;
        requests_are = refl;
        request = request;
        behind = kept ++ left.0;
        next = IsRequest-append come left.0 request kept next.next;
        close = h.1;
        exchange = one answers a b request h.0.text h.0.gave;
      }));
    }
step_last answers begun kept before after request a b WriteFault next h =
    let left = Are-some after in
    let come = begun ++ next.read in record {
      read = next.read;
      left = left.0;
      text = h.text;
      bytes_are = Are-Consumes before after next.read left.0 next.took left.1;
      left_are = left.1;
      wrote = h.wrote;
      clause = inl (record {
        requests = [];
        few = omega arith;
        rest = come ++ left.0;
        requests_are = refl;
        request = request;
        behind = kept ++ left.0;
        next = IsRequest-append come left.0 request kept next.next;
        cut = record {
          statuses = [];
          front = [];
          mid = a.machine;
          responses = (refl, refl);
          status = h.gave.status;
          body = h.gave.body;
          answered = h.gave.answered;
          part = h.text;
          more = h.more;
          parts = sym h.gave.bytes_are;
          short = h.short;
          text_is = refl;
          kept = h.gave.kept;
        };
      });
    }

-- a request that is refused
pub step_refused : {S : Type 0} (answers : RequestRelation S) (begun kept : List ℕ) (before after : Option (List ℕ))
    (status : ℕ) (machine : S) (w v : List ℕ → Type 0) (faults : ℕ) (end : LinkEnd)
    → IsNext begun kept before after (Ok (Refused status)) → EndsByRefusal w v status end
    → IsServed answers 1 begun before after (at machine w faults) (at machine v faults) end
step_refused answers begun kept before after status machine w v faults Cut next h = absurd h
step_refused answers begun kept before after status machine w v faults ReadFault next h = absurd h
step_refused answers begun kept before after status machine w v faults Limit next h = absurd h
step_refused answers begun kept before after status machine w v faults Done next h =
    let left = Are-some after in
    let come = begun ++ next.read in record {
      read = next.read;
      left = left.0;
      text = response status (refusal status) true;
      bytes_are = Are-Consumes before after next.read left.0 next.took left.1;
      left_are = left.1;
      wrote = h;
      clause = inr (inl (record {
        rest = come ++ left.0;
        status = status;
        front = [];
        answered = none_yet answers machine w v faults (come ++ left.0) (come ++ left.0) refl;
        refused = IsRefused-append come left.0 status next.next.0;
        text_is = refl;
      }));
    }
step_refused answers begun kept before after status machine w v faults WriteFault next h =
    let left = Are-some after in
    let come = begun ++ next.read in record {
      read = next.read;
      left = left.0;
      text = h.part;
      bytes_are = Are-Consumes before after next.read left.0 next.took left.1;
      left_are = left.1;
      wrote = h.wrote;
      clause = inr (record {
        rest = come ++ left.0;
        status = status;
        front = [];
        answered = none_yet answers machine w v faults (come ++ left.0) (come ++ left.0) refl;
        refused = IsRefused-append come left.0 status next.next.0;
        part = h.part;
        more = h.rest;
        parts = h.parts;
        short = h.short;
        text_is = refl;
      });
    }
step_refused answers begun kept before after status machine w v faults OutOfMemory next h =
    let left = Are-some after in
    let come = begun ++ next.read in record {
      read = next.read;
      left = left.0;
      text = [];
      bytes_are = Are-Consumes before after next.read left.0 next.took left.1;
      left_are = left.1;
      wrote = h;
      clause = record { rest = come; answered = none_yet answers machine w v faults come come refl };
    }

-- the link has ended, and all its bytes were used
pub step_end : {S : Type 0} (answers : RequestRelation S) (begun kept : List ℕ) (before after : Option (List ℕ))
    (machine : S) (w : List ℕ → Type 0) (faults : ℕ)
    → IsNext begun kept before after (Ok End)
    → IsServed answers 1 begun before after (at machine w faults) (at machine w faults) Done
step_end answers begun kept before after machine w faults next =
    let nothing = Are-end after next.next.2 in
    let come = begun ++ next.read in record {
      read = next.read;
      left = [];
      text = [];
      bytes_are = Are-Consumes before after next.read [] next.took nothing;
      left_are = nothing;
      wrote = Wrote-nil w;
      clause =
          inl (none_yet answers machine w w faults (come ++ []) [] (append-nil come ∙ next.next.0), refl);
    }

-- the link has ended within a request
pub step_cut : {S : Type 0} (answers : RequestRelation S) (begun kept : List ℕ) (before after : Option (List ℕ))
    (machine : S) (w : List ℕ → Type 0) (faults : ℕ)
    → IsNext begun kept before after (Ok NextCut)
    → IsServed answers 1 begun before after (at machine w faults) (at machine w faults) Cut
step_cut answers begun kept before after machine w faults next =
    let nothing = Are-end after next.next.3 in
    let come = begun ++ next.read in record {
      read = next.read;
      left = [];
      text = [];
      bytes_are = Are-Consumes before after next.read [] next.took nothing;
      left_are = nothing;
      wrote = Wrote-nil w;
      clause = record {
        rest = come;
        answered = none_yet answers machine w w faults (come ++ []) come (append-nil come);
        unfinished = next.next.0;
        some = next.next.1;
        none_left = refl;
      };
    }

-- the link could not be read
pub step_failed : {S : Type 0} (answers : RequestRelation S) (begun kept : List ℕ) (before after : Option (List ℕ))
    (machine : S) (w : List ℕ → Type 0) (faults : ℕ)
    → IsNext begun kept before after (Err NotRead)
    → IsServed answers 1 begun before after (at machine w faults) (at machine w faults) ReadFault
step_failed answers begun kept before after machine w faults next =
    let left = Are-some after in
    let come = begun ++ next.read in record {
      read = next.read;
      left = left.0;
      text = [];
      bytes_are = Are-Consumes before after next.read left.0 next.took left.1;
      left_are = left.1;
      wrote = Wrote-nil w;
      clause = record {
        rest = come;
        answered = none_yet answers machine w w faults come come refl;
        unfinished = next.next.0;
      };
    }

-- there was no memory for the next request
pub step_stopped : {S : Type 0} (answers : RequestRelation S) (begun kept : List ℕ) (before after : Option (List ℕ))
    (machine : S) (w : List ℕ → Type 0) (faults : ℕ)
    → IsNext begun kept before after (Err NoRoom)
    → IsServed answers 1 begun before after (at machine w faults) (at machine w faults) OutOfMemory
step_stopped answers begun kept before after machine w faults next =
    let left = Are-some after in
    let come = begun ++ next.read in record {
      read = next.read;
      left = left.0;
      text = [];
      bytes_are = Are-Consumes before after next.read left.0 next.took left.1;
      left_are = left.1;
      wrote = Wrote-nil w;
      clause = record { rest = come; answered = none_yet answers machine w w faults come come refl };
    }

-- ---- the loop

-- before the first request
pub HasServed-nil : {S : Type 0} (answers : RequestRelation S) (before : Option (List ℕ)) (a : Moment S)
    → HasServed answers [] before before a a 0
HasServed-nil answers before a = record {
  read = [];
  took = Consumes-nil before;
  requests = [];
  count_is = refl;
  requests_are = refl;
  text = [];
  wrote = Wrote-nil a.written;
  exchange = IsExchange-nil answers a a refl (omega arith);
}

-- one more request
pub HasServed-step : {S : Type 0} (answers : RequestRelation S) (kept then' : List ℕ)
    (before between after : Option (List ℕ)) (a b c : Moment S) (count : ℕ)
    → HasServed answers kept before between a b count → HasAnsweredNext answers kept then' between after b c
    → HasServed answers then' before after a c (count + 1)
HasServed-step answers kept then' before between after a b c count p q = record {
  read = p.read ++ q.read;
  took = Consumes-trans before between after p.read q.read p.took q.took;
  requests = p.requests ++ q.request ∷ [];
  count_is = omega (arith, length-append p.requests (q.request ∷ []), p.count_is);
  requests_are = AreOpen-append (p.read ++ q.read) p.requests (kept ++ q.read) (q.request ∷ []) then'
      (AreOpen-more p.read q.read p.requests kept p.requests_are) (then', q.request_is, q.stays, refl);
  text = p.text ++ q.replied.text;
  wrote = Wrote-append a.written b.written c.written p.text q.replied.text p.wrote q.replied.wrote;
  exchange = IsExchange-append answers a b c p.requests (q.request ∷ []) p.text q.replied.text p.exchange
      (one answers b c q.request q.replied.text q.replied.gave);
}

-- the most requests that are answered
pub HasAnsweredLink-most : {S : Type 0} (answers : RequestRelation S) (kept : List ℕ) (before after : Option (List ℕ))
    (a b : Moment S) (count : ℕ) → HasServed answers kept before after a b count → count ≡ 1000000
    → HasAnsweredLink answers before after a b Limit
HasAnsweredLink-most answers kept before after a b count p full =
    let left = Are-some after in record {
      read = p.read;
      left = left.0;
      text = p.text;
      bytes_are = Are-Consumes before after p.read left.0 p.took left.1;
      left_are = left.1;
      wrote = p.wrote;
      clause = record {
        requests = p.requests;
        count = p.count_is ∙ full;
        rest = kept ++ left.0;
        requests_are = AreOpen-more p.read left.0 p.requests kept p.requests_are;
        exchange = p.exchange;
      };
    }
