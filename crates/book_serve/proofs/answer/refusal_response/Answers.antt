use Rattle.std.proofs.Common.{◌≡◌, ◌∙◌, subst, true, List, ℕ}
use Rattle.std.specs.Prelude.{IfOk}
use Rattle.book_http.specs.Response.{response}
use Rattle.book_serve.proofs.answer.refusal_response.Goals as goal

pub returns : goal.returns
returns c =
    subst (λ (body : List ℕ). IfOk c.response_bytes.result (λ bytes. bytes ≡ response c.args.status body true))
    (c.as_slice.ensures ∙ c.in_ok-body.ensures) c.response_bytes.ensures
