use Rattle.std.proofs.Common.{Vec, Global, ◌∙◌, sym, ap}
use Rattle.book_commodity.specs.declared.text.Text.{Text}
use Rattle.book_app.specs.Words.{given_serve, named_serve}
use Rattle.book_app.proofs.ServeLemmas.{named_same}
use Rattle.book_app.proofs.StatusClauseLemmas.{not_asked, run_without_words}
use Rattle.book_app.proofs.ended.run_words.Goals as goal

pub returns-in-Err-clause-run : goal.returns-in-Err-clause-run
returns-in-Err-clause-run g c =
    rw (c.in-Err.is, c.new.ensures, c.new-in-Err.ensures)
    (run_without_words _ _ _ _ (not_asked g.K.Keeper c.args.keeper.now) c.status_without_words.ensures.memory)

pub returns-in-Ok-clause-serve : goal.returns-in-Ok-clause-serve
returns-in-Ok-clause-serve g c =
    named_same _ _ _ (ap named_serve c.as_slice.ensures.value ∙ sym (ap (given_serve (λ (given : Vec Text Global). given.items)) c.in-Ok.is))
    c.run_over.ensures.serve
