use Rattle.std.proofs.Common.{◌∙◌, sym, ap}
use Rattle.book_lines.specs.Marks.{memory_answer}
use Rattle.book_http.specs.Response.{response}
use Rattle.book_serve.proofs.StatusLemmas.{memory_open, memory_last}
use Rattle.book_serve.proofs.answer.memory_response.Goals as goal

pub returns-then-close : goal.returns-then-close
returns-then-close c = sym memory_last ∙ ap (λ t. response 507 memory_answer t) (sym c.if-close.true)

pub returns-else-close : goal.returns-else-close
returns-else-close c = sym memory_open ∙ ap (λ t. response 507 memory_answer t) (sym c.if-close.false)
