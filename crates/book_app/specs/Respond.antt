-- The responses of an engine to requests.
use Rattle.std.specs.Prelude.{◌≡◌, ℕ, Bool, List, Result, Ok}
use Rattle.book_http.specs.declared.next.Request.{Request}
use Rattle.book_http.specs.Response.{response}
use Rattle.book_lines.specs.Marks.{Mark}
use Rattle.book_engine.specs.Books.{machine_kept}
use Rattle.book_engine.specs.Kept.{Kept}
use Rattle.book_engine.specs.Machine.{Machine, Reply}
use Rattle.book_app.specs.Machine.{IsOutcome, request_answers, status_of_outcome}

-- What an engine answers to requests is what the machine of whole books answers on its state.
abbrev pub kept_answers : Kept → Request → Mark → ℕ → List ℕ → Kept → Type 0
kept_answers old request mark status body new =
    request_answers (machine_kept old) request mark status body (machine_kept new)

-- The response of this status whose body is the text that was made.
abbrev pub IsResponseOf : {E : Type 0} → ℕ → Result (List ℕ) E → Bool → List ℕ → Type 0
IsResponseOf status text close bytes = (body : List ℕ) × (text ≡ Ok body) × (bytes ≡ response status body close)

-- The response to an outcome.
pub record IsOutcomeResponse (reply : Reply) (old : Machine) (bytes : List ℕ) (close : Bool) (new : Machine) : Type 0 where
  pub body : List ℕ
  pub bytes_are : bytes ≡ response (status_of_outcome reply) body close
  pub outcome : IsOutcome reply old body new
