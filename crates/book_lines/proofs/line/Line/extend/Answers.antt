use Rattle.std.proofs.Common.{◌≡◌, ◌∙◌, sym, ap, ◌&&◌, ◌++◌, ◌-◌, ◌+◌, length, take, arith}
use Rattle.book_lines.specs.Lines.{is_blank}
use Rattle.book_lines.specs.Room.{front_of}
use Rattle.book_lines.proofs.RoomLemmas.{seen-append, front_is, size_is, blank_is}
use Rattle.book_lines.proofs.line.Line.extend.Goals as goal
use Rattle.book_lines.proofs.line.Line.extend.Goals.{then-self, else-self}

pub returns : goal.returns
returns c line h =
    let was = c.self.view_is ∙ h in
    let items = c.in-Ok.ensures.items in
    let front = front_is _ line was in
    let blank = blank_is _ line was in
    let kept = c.min-kept.ensures in
    let len = c.len.ensures in
    let blanks : c.if-self.self ≡ (is_blank line && is_blank c.args.segment.now) =
    elim c.if-self.branch [
      | then-self w ↦ w.self-is ∙ w.are_blank-self-inside.ensures
          ∙ sym (ap (λ t. t && is_blank c.args.segment.now) (sym blank ∙ w.if-self.true))
      | else-self w ↦ w.self-is ∙ w.if-self.false
          ∙ sym (ap (λ t. t && is_blank c.args.segment.now) (sym blank ∙ w.if-self.false))
    ] in
    seen-append line c.args.segment.now c.extend_from_slice.new.self.items _ (8388608 - c.len.result) _
    (items ∙ ap (λ l. l ++ take c.min-kept.result c.args.segment.now) front
    ∙ ap (λ k. front_of line ++ take k c.args.segment.now) kept)
    (omega (arith, ap length front, c.self.inside.bytes.ok))
    (ap (λ n. n + length c.args.segment.now) (size_is _ line was)) blanks
