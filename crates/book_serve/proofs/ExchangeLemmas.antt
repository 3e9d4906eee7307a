-- Requests that are answered after others.
use Rattle.std.proofs.Common.{◌≡◌, ℕ, ◌≤◌, List, [], ◌∷◌, ◌++◌, refl, sym, ap, ◌∙◌, subst, append_assoc, arith}
use Rattle.std.proofs.lemmas.List.{map-append}
use Rattle.book_lines.specs.Marks.{RoseForEach}
use Rattle.book_lines.specs.RunClause.{Moment}
use Rattle.book_lines.proofs.MarkLemmas.{RoseForEach-append}
use Rattle.book_http.specs.declared.next.Request.{Request}
use Rattle.book_http.specs.Response.{response}
use Rattle.book_http.proofs.ExchangeLemmas.{IsRequest-append}
use Rattle.book_serve.specs.Statuses.{mark_of, marks}
use Rattle.book_serve.specs.Exchange.{RequestRelation, Exchange}
use Rattle.book_serve.specs.Link.{AreOpen, IsExchange}

-- requests that are answered after others
pub Exchange-append : {S : Type 0} (answers : RequestRelation S) (a : S) (xs : List Request) (ss t : List ℕ) (b : S)
    (ys : List Request) (us v : List ℕ) (c : S)
    → Exchange answers a xs ss t b → Exchange answers b ys us v c
    → Exchange answers a (xs ++ ys) (ss ++ us) (t ++ v) c
Exchange-append answers a [] [] t b ys us v c p q =
    subst (λ s. Exchange answers s ys us (t ++ v) c) p.1 (subst (λ l. Exchange answers b ys us (l ++ v) c) (sym p.0) q)
Exchange-append answers a [] (s ∷ ss) t b ys us v c p q = absurd p
Exchange-append answers a (x ∷ xs) [] t b ys us v c p q = absurd p
Exchange-append answers a (x ∷ xs) (s ∷ ss) t b ys us v c p q = (
  p.0,
  p.1,
  p.2 ++ v,
  p.3,
  ap (λ l. l ++ v) p.4 ∙ append_assoc (response s p.0 x.close) p.2 v,
  Exchange-append answers p.1 xs ss p.2 b ys us v c p.5 q,
)

-- the same with the faults of what is kept
pub IsExchange-append : {S : Type 0} (answers : RequestRelation S) (a b c : Moment S) (xs ys : List Request)
    (t v : List ℕ) → IsExchange answers a xs t b → IsExchange answers b ys v c → IsExchange answers a (xs ++ ys)
    (t ++ v) c
IsExchange-append answers a b c xs ys t v p q = record {
  statuses = p.statuses ++ q.statuses;
  responses = Exchange-append answers a.machine xs p.statuses t b.machine ys q.statuses v c.machine p.responses
      q.responses;
  kept = subst (λ m. RoseForEach a.faults c.faults m) (sym (map-append mark_of p.statuses q.statuses))
      (RoseForEach-append a.faults b.faults c.faults (marks p.statuses) (marks q.statuses) p.kept q.kept);
}

-- no request is answered by nothing
pub IsExchange-nil : {S : Type 0} (answers : RequestRelation S) (a b : Moment S) → b.machine ≡ a.machine
    → a.faults ≤ b.faults → IsExchange answers a [] [] b
IsExchange-nil answers a b same later =
    record { statuses = []; responses = (refl, same); kept = omega (arith, later) }

-- requests stay, and more bytes come behind them
pub AreOpen-more : (bytes more : List ℕ) (requests : List Request) (rest : List ℕ) → AreOpen bytes requests rest
    → AreOpen (bytes ++ more) requests (rest ++ more)
AreOpen-more bytes more [] rest p = ap (λ l. l ++ more) p
AreOpen-more bytes more (request ∷ requests) rest p =
    (p.0 ++ more, IsRequest-append bytes more request p.0 p.1, p.2, AreOpen-more p.0 more requests rest p.3)

-- requests behind others
pub AreOpen-append : (bytes : List ℕ) (xs : List Request) (mid : List ℕ) (ys : List Request) (rest : List ℕ)
    → AreOpen bytes xs mid → AreOpen mid ys rest → AreOpen bytes (xs ++ ys) rest
AreOpen-append bytes [] mid ys rest p q = subst (λ l. AreOpen l ys rest) (sym p) q
AreOpen-append bytes (x ∷ xs) mid ys rest p q = (p.0, p.1, p.2, AreOpen-append p.0 xs mid ys rest p.3 q)
