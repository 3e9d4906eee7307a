use Rattle.std.proofs.Common.{sym, ◌∙◌}
use Rattle.mt940_read.proofs.AnswerLemmas.{ok_then, text_added}
use Rattle.mt940_read.proofs.lines.Lines.add_text.Goals as goal

pub returns : goal.returns
returns c =
    ok_then c.push.result _ _
    (λ n. text_added c.args.self.now c.pop.new.self.items c.push.new.self c.in-Some.line c.add_piece.new.text
    c.args.piece.now
    (sym c.self.view_is ∙ c.in-Some.ensures.items) c.in_ok-add_piece.ensures n)
    c.push.ensures
