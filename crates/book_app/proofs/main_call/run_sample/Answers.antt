use Rattle.book_app.proofs.StatusClauseLemmas.{nothing_shown, sample_shown}
use Rattle.book_app.proofs.main_call.run_sample.Goals as goal

pub returns-in_default-clause-shown : goal.returns-in_default-clause-shown
returns-in_default-clause-shown g c = nothing_shown c.args.number _

pub returns-clause-shown : goal.returns-clause-shown
returns-clause-shown g c =
    sample_shown c.args.number _ _ c.show_in_memory.result c.status_shown.result c.status_shown.ensures
    c.show_in_memory.ensures.shown
