use Rattle.std.proofs.Common.{◌≡◌, ◌∙◌, ◌-◌, ℕ, ap, length, min}
use Rattle.book_complete.proofs.KeptLaws.{taken_kept, taken_wrote}
use Rattle.book_complete.proofs.no_fail_sink.NoFailSinkSink.write.Goals as goal

pub returns-clause-kept : goal.returns-clause-kept
returns-clause-kept g c =
    let view : c.self.inside.bytes.items ≡ c.args.self.now = c.self.view_is in
    taken_kept g.row.ROOM c.self.inside.bytes.items c.args.self.now c.extend_from_slice.new.self.items c.args.bytes.now
    c.min-count.result view
    (c.min-count.ensures ∙ ap (λ (n : ℕ). min (length c.args.bytes.now) (g.row.ROOM - n))
    (c.len.ensures ∙ c.self.inside.bytes.ok.0))
    c.in-Ok.ensures.items

pub returns-clause-added : goal.returns-clause-added
returns-clause-added g c =
    taken_wrote g.row.ROOM c.args.self.now c.extend_from_slice.new.self.items c.args.bytes.now
    (returns-clause-kept g c)
