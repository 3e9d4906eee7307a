use Rattle.std.proofs.Common.{◌∙◌, sym, ap}
use Rattle.book_lines.specs.Marks.{keeper_answer}
use Rattle.book_http.specs.Response.{response}
use Rattle.book_serve.proofs.StatusLemmas.{keeper_open, keeper_last}
use Rattle.book_serve.proofs.answer.keeper_response.Goals as goal

pub returns-then-close : goal.returns-then-close
returns-then-close c = sym keeper_last ∙ ap (λ t. response 503 keeper_answer t) (sym c.if-close.true)

pub returns-else-close : goal.returns-else-close
returns-else-close c = sym keeper_open ∙ ap (λ t. response 503 keeper_answer t) (sym c.if-close.false)
