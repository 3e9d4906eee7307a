-- What is said of the head that bytes begin with, before their body has come.
use Rattle.std.specs.Prelude.{◌≡◌, ℕ, ◌^◌, ◌≤◌, List, length, Option, ⊤}
use Rattle.std.specs.Io.KnownBytes.{IsAtEnd}
use Rattle.httparse.specs.Grammar.{RequestHead, print_request}
use Rattle.book_http.specs.declared.judgement.AcceptedHead.{AcceptedHead}
use Rattle.book_http.specs.declared.judgement.Judgement.{Judgement}
use Rattle.book_http.specs.declared.judgement.Judgement.TheVariants.{Unfinished, Refused, Accepted}
use Rattle.book_http.specs.Head.{body_size, closes, IsRefusedHead, IsAcceptedHead}
use Rattle.book_http.specs.Exchange.{HasHead, IsRefused, LacksHead}

-- A head of this length is accepted with what is said here of the request.
pub record Accepts (head : RequestHead) (size : ℕ) (accepted : AcceptedHead) : Type 0 where
  pub accepted_is : IsAcceptedHead head accepted.route
  pub head_is : accepted.head ≡ size
  pub body_is : accepted.body ≡ body_size head
  pub few : accepted.body ≤ 2 ^ 23
  pub close_is : accepted.close ≡ closes head

-- What is said of a whole head of this length.
abbrev pub IsJudgedHead : RequestHead → ℕ → Judgement → Type 0
IsJudgedHead head size Unfinished = ⊥
IsJudgedHead head size (Refused status) = IsRefusedHead head status
IsJudgedHead head size (Accepted accepted) = Accepts head size accepted

-- The bytes begin with a head that is accepted with what is said here of the request.
pub record BeginsAccepted (bytes : List ℕ) (accepted : AcceptedHead) : Type 0 where
  pub head : RequestHead
  pub behind : List ℕ
  pub has_head : HasHead bytes head behind
  pub accepts : Accepts head (length (print_request head)) accepted

-- What is said of bytes.
abbrev pub IsJudged : List ℕ → Judgement → Type 0
IsJudged bytes Unfinished = LacksHead bytes
IsJudged bytes (Refused status) = IsRefused bytes status
IsJudged bytes (Accepted accepted) = BeginsAccepted bytes accepted

-- Where no head has ended, the link has.
abbrev pub IsEnded : Option (List ℕ) → Judgement → Type 0
IsEnded left Unfinished = IsAtEnd left
IsEnded left (Refused status) = ⊤
IsEnded left (Accepted accepted) = ⊤
