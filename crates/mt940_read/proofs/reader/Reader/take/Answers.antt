use Rattle.std.proofs.Common.{sym, ap, ◌∙◌}
use Rattle.mt940_read.specs.declared.tag.Kind.TheVariants.{Begins, Ends, More}
use Rattle.mt940_read.specs.Kinds.{kind_of}
use Rattle.mt940_read.specs.Steps.{next}
use Rattle.mt940_read.proofs.StepLemmas.{tag_of_kind, steps_kind, steps_free}
use Rattle.mt940_read.proofs.reader.Reader.take.Goals as goal

pub field-requires-clause-tag : goal.field-requires-clause-tag
field-requires-clause-tag c =
    tag_of_kind c.args.line.now c.in-Field.tag (ap kind_of (sym c.as_bytes.ensures.value) ∙ sym c.kind_of.ensures
    ∙ c.in-Field.is)

pub returns-in-Begins : goal.returns-in-Begins
returns-in-Begins c =
    steps_kind c.args.known.now.entries c.args.before (kind_of c.args.line.now) Begins c.args.line.now
    c.args.self.now c.begin.result c.begin.new.self
    (ap kind_of (sym c.as_bytes.ensures.value) ∙ sym c.kind_of.ensures ∙ c.in-Begins.is)
    (c.begin.ensures c.args.known.now.entries c.args.line.now)

pub returns-in-Ends : goal.returns-in-Ends
returns-in-Ends c =
    steps_kind c.args.known.now.entries c.args.before (kind_of c.args.line.now) Ends c.args.line.now c.args.self.now
    c.end.result c.end.new.self
    (ap kind_of (sym c.as_bytes.ensures.value) ∙ sym c.kind_of.ensures ∙ c.in-Ends.is)
    (c.end.ensures c.args.known.now.entries)

pub returns-in-More : goal.returns-in-More
returns-in-More c =
    steps_kind c.args.known.now.entries c.args.before (kind_of c.args.line.now) More c.args.line.now c.args.self.now
    c.more.result c.more.new.self
    (ap kind_of (sym c.as_bytes.ensures.value) ∙ sym c.kind_of.ensures ∙ c.in-More.is)
    (steps_free 0 c.args.before (next c.args.known.now.entries More c.args.line.now c.args.self.now) c.more.result
    c.more.new.self (c.more.ensures c.args.known.now.entries))
