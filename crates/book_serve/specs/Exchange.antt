-- What a machine answers to requests, over any type of states.
use Rattle.std.specs.Prelude.{◌≡◌, ℕ, List, [], ◌∷◌, ◌++◌}
use Rattle.book_lines.specs.Marks.{Mark, Answered}
use Rattle.book_http.specs.declared.next.Request.{Request}
use Rattle.book_http.specs.Response.{response}
use Rattle.book_serve.specs.Statuses.{mark_of}

-- How requests are answered: from a state, a request with a mark is answered by a status and a body, and a state
-- follows.
abbrev pub RequestRelation : Type 0 → Type 1
RequestRelation S = S → Request → Mark → ℕ → List ℕ → S → Type 0

-- The machine's own response to a request: its status is none of the two that say why there is no answer.
pub record IsResponse {S : Type 0} (answers : RequestRelation S) (old : S) (request : Request) (bytes : List ℕ)
    (new : S) : Type 0 where
  pub status : ℕ
  pub body : List ℕ
  pub own : mark_of status ≡ Answered
  pub bytes_are : bytes ≡ response status body request.close
  pub answered : answers old request Answered status body new

-- From the state `old` the requests are answered in turn, with one response each, and `new` is the state after the
-- last. `text` is the responses, one behind the other, and `statuses` are theirs; how a request was answered is read
-- from its status.
abbrev pub Exchange : {S : Type 0} → RequestRelation S → S → List Request → List ℕ → List ℕ → S → Type 0
Exchange answers old [] [] text new = (text ≡ []) × (new ≡ old)
Exchange {S} answers old (request ∷ more) (status ∷ others) text new = (body : List ℕ) × (mid : S) × (rest : List ℕ)
    × answers old request (mark_of status) status body mid × (text ≡ response status body request.close ++ rest)
    × Exchange answers mid more others rest new
Exchange answers old [] (status ∷ others) text new = ⊥
Exchange answers old (request ∷ more) [] text new = ⊥
