-- A machine that answers each request with the request's own body.
use Rattle.std.specs.Prelude.{◌≡◌, ℕ, List, ⊤}
use Rattle.book_lines.specs.Marks.{Mark, Answered, Memory, Keeper}
use Rattle.book_http.specs.declared.next.Request.{Request}

-- A request is answered with status 200 and its own body. Out of memory needs no cause, and nothing is kept that could
-- fail.
abbrev pub Echoes : Request → Mark → ℕ → List ℕ → Type 0
Echoes request Answered status body = (status ≡ 200) × (body ≡ request.body)
Echoes request Memory status body = ⊤
Echoes request Keeper status body = ⊥
