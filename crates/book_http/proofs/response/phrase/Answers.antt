use Rattle.std.proofs.Common.{◌∙◌, ap, List, [], ℕ}
use Rattle.std.specs.Prelude.{unwrap_or, Option}
use Rattle.http.specs.StatusCode.{reason_phrase}
use Rattle.book_http.specs.Response.{phrase}
use Rattle.book_http.proofs.ResponseLemmas.{unwrapped}
use Rattle.book_http.proofs.response.phrase.Goals as goal

pub returns : goal.returns
unfolding phrase
returns c =
    ap (λ text. text.now) c.unwrap_or.ensures ∙ unwrapped c.canonical_reason.result _
    ∙ ap (λ (found : Option (List ℕ)). unwrap_or found [])
    (c.canonical_reason.ensures.value ∙ ap reason_phrase c.in-Ok.ensures.1)
