use Rattle.book_app.proofs.ResponseLemmas.{answer_made}
use Rattle.book_app.proofs.respond.answer_response.Goals as goal

pub returns : goal.returns
returns c =
    answer_made c.answer_text.result c.response.result c.answer.result.now c.args.plan.now.answer c.version.result
    c.args.plan.now.version c.args.close c.answer.ensures c.version.ensures c.answer_text.ensures c.response.ensures
