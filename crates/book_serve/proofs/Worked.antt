-- Worked rows of the definitions.
use Rattle.std.proofs.Common.{◌≡◌, ℕ, ◌+◌, true, false, List, [], ◌∷◌, ◌++◌, refl, arith, codes}
use Rattle.std.specs.Fmt.{digits}
use Rattle.book_lines.specs.Marks.{Mark, Answered, Memory, Keeper, memory_answer}
use Rattle.book_lines.specs.RunClause.{at}
use Rattle.book_http.specs.declared.next.Request.{Request}
use Rattle.book_http.specs.declared.route.Route.TheVariants.{Command, Status}
use Rattle.book_http.specs.Exchange.{IsRequest, IsRefused}
use Rattle.book_http.specs.Response.{phrase}
use Rattle.book_serve.specs.Statuses.{marks}
use Rattle.book_serve.specs.Exchange.{Exchange}
use Rattle.book_serve.specs.Link.{HasRefused, HasClosed}

-- the marks of statuses
four_marks : marks (200 ∷ 507 ∷ 409 ∷ 503 ∷ []) ≡ Answered ∷ Memory ∷ Answered ∷ Keeper ∷ []
four_marks = refl

-- A machine that counts the requests that it answers, each by its own body; for one of no body it has no memory.
Counts : ℕ → Request → Mark → ℕ → List ℕ → ℕ → Type 0
Counts old request Answered status body new = (status ≡ 200) × (body ≡ request.body) × (new ≡ old + 1)
Counts old request Memory status body new =
    (status ≡ 507) × (body ≡ memory_answer) × (request.body ≡ []) × (new ≡ old)
Counts old request Keeper status body new = ⊥

command : Request
command = record { route = Command; body = codes "{}"; close = false }

last : Request
last = record { route = Status; body = []; close = true }

-- one request is answered, and for the next there was no memory
two : Exchange Counts 0 (command ∷ last ∷ []) (200 ∷ 507 ∷ [])
    (codes "HTTP/1.1 200 OK\r\nContent-Type: application/json\r\nContent-Length: 2\r\n\r\n{}"
    ++ (codes "HTTP/1.1 507 Insufficient Storage\r\nContent-Type: application/json\r\nContent-Length: 20\r\n"
    ++ codes "Connection: close\r\n\r\n{\"refused\":\"memory\"}")) 1
unfolding Counts command last phrase digits memory_answer
two = (
  codes "{}",
  1,
  codes "HTTP/1.1 507 Insufficient Storage\r\nContent-Type: application/json\r\nContent-Length: 20\r\n"
      ++ codes "Connection: close\r\n\r\n{\"refused\":\"memory\"}",
  (refl, refl, refl),
  refl,
  (memory_answer, 1, [], (refl, refl, refl, refl), refl, (refl, refl)),
)

-- a session of two requests, of which the second closes the link; bytes behind it are not answered
session : (w v : List ℕ → Type 0) (bytes mid behind : List ℕ) → IsRequest bytes command mid → IsRequest mid last behind
    → HasClosed Counts 1000000 (at 0 w 7) bytes
    (codes "HTTP/1.1 200 OK\r\nContent-Type: application/json\r\nContent-Length: 2\r\n\r\n{}"
    ++ (codes "HTTP/1.1 507 Insufficient Storage\r\nContent-Type: application/json\r\nContent-Length: 20\r\n"
    ++ codes "Connection: close\r\n\r\n{\"refused\":\"memory\"}")) (at 1 v 7)
unfolding command last
session w v bytes mid behind first next = record {
  requests = command ∷ [];
  few = omega arith;
  rest = mid;
  requests_are = (mid, first, refl, refl);
  request = last;
  behind = behind;
  next = next;
  close = refl;
  exchange = record { statuses = 200 ∷ 507 ∷ []; responses = two; kept = omega arith };
}

-- a refused request is answered by its status, and the link closes
refused : (w v : List ℕ → Type 0) (bytes : List ℕ) → IsRefused bytes 404
    → HasRefused Counts 1000000 (at 3 w 0) bytes
    (codes "HTTP/1.1 404 Not Found\r\nContent-Type: application/json\r\nContent-Length: 14\r\nConnection: close\r\n"
    ++ codes "\r\n{\"status\":404}") (at 3 v 0)
unfolding phrase digits
refused w v bytes is = record {
  rest = bytes;
  status = 404;
  front = [];
  answered = record {
    requests = [];
    few = omega arith;
    requests_are = refl;
    exchange = record { statuses = []; responses = (refl, refl); kept = omega arith };
  };
  refused = is;
  text_is = refl;
}
