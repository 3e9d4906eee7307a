use Rattle.std.proofs.Common.{sym, subst}
use Rattle.std.specs.Str.{IsUtf8}
use Rattle.book_sample.proofs.SampleLemmas.{day_text_utf8}
use Rattle.book_sample.proofs.lines.post_line.Goals as goal

-- the bytes of a day's text are text
pub unreachable-requires : goal.unreachable-requires
unreachable-requires c =
    c.in_default.ensures.cases.0 (subst IsUtf8 (sym c.text-bytes.ensures) (day_text_utf8 c.args.draw.now.day c.requires))
