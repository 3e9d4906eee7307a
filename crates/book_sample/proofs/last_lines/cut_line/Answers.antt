use Rattle.std.proofs.Common.{length, refl, subst, sym, true, ◌≡◌}
use Rattle.book_lines.specs.Marks.{is_one_line}
use Rattle.book_lines.proofs.LineLemmas.{one_line-before, one_line-none}
use Rattle.book_sample.proofs.LastLemmas.{cut_parts}
use Rattle.book_sample.proofs.last_lines.cut_line.Goals as goal

-- there is no line feed
pub returns-in_default : goal.returns-in_default
returns-in_default c = one_line-none c.args.text.now c.in_default.ensures

pub returns : goal.returns
returns c =
    let first = c.in-Some.ensures in (
      subst (λ l. is_one_line l ≡ true) (sym c.split_at.ensures.front)
          (one_line-before c.args.text.now c.in-Some.end first.0),
      cut_parts c.args.text.now c.split_at.result.0.now c.split_at.result.1.now c.in-Some.end
          (length c.split_at.result.1.now) c.split_at.ensures.front c.split_at.ensures.back first.1 first.0.high refl,
    )
