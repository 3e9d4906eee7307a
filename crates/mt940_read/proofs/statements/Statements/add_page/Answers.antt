use Rattle.std.proofs.Common.{sym, ◌∙◌}
use Rattle.mt940_read.specs.Pages.{with_end}
use Rattle.mt940_read.proofs.AnswerLemmas.{last_changed}
use Rattle.mt940_read.proofs.statements.Statements.add_page.Goals as goal

pub returns : goal.returns
returns c =
    last_changed (with_end c.args.closing c.args.day c.args.lines.items) c.args.self.now c.pop.new.self.items
    c.push.new.self.items c.in-Some.statement c.in_ok-with_end.field-0
    (sym c.self.view_is ∙ c.in-Some.ensures.items) c.in_ok-with_end.ensures c.in_ok-push.ensures.items
