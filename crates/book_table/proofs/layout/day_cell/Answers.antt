use Rattle.std.proofs.Common.{ℕ, List, is_ok, rules, sym, ap, subst, ◌∙◌}
use Rattle.std.specs.Str.{IsUtf8}
use Rattle.std.proofs.lemmas.Str.{IsUtf8-from_ascii}
use Rattle.book_commodity.specs.Day.{IsDay, day_text}
use Rattle.book_commodity.proofs.DayTextLemmas.{day_text_bytes}
use Rattle.book_table.proofs.DayBytes.{day_bytes_are_ascii}
use Rattle.book_table.proofs.layout.day_cell.Goals as goal

pub unreachable-requires : goal.unreachable-requires
unreachable-requires c =
    let text = day_text c.args.day in
    let inside : IsDay c.args.day = search rules in
    let plain = IsUtf8-from_ascii text (day_bytes_are_ascii text (day_text_bytes c.args.day inside)) in
    let same = c.in_ok-bytes.ensures.items ∙ c.text.ensures in
    let ok = c.from_utf8.ensures.succeeds (subst (λ (bytes : List ℕ). IsUtf8 bytes) (sym same) plain) in
    absurd (let both = sym (ap is_ok c.in_default.is) ∙ ok in cc)
