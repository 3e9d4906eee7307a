use Rattle.std.proofs.Common.{◌≡◌, ◌+◌, ◌<◌, List, ℕ, get_or, drop, sym, ap, subst, ◌∙◌, arith, to_z, of_z, w64}
use Rattle.std.proofs.lemmas.Int.{ints}
use Rattle.std.specs.Str.{IsAscii}
use Rattle.mt940_read.specs.LineField.{before_slashes, behind_slashes, kind_part, kind_place, line_days, references}
use Rattle.mt940_read.proofs.FormLemmas.{line_parts, no_days, kind_within, kind_ascii, line_is}
use Rattle.mt940_read.proofs.line_field.line.Goals as goal

pub unreachable-requires : goal.unreachable-requires
unreachable-requires c =
    no_days c.args.text.now (ap line_days (sym c.as_bytes-bytes.ensures.value) ∙ sym c.days.ensures
    ∙ c.in_default.is) (line_parts c.args.text.now c.requires).days

pub ascii_text-requires : goal.ascii_text-requires
ascii_text-requires c =
    let same : kind_part c.args.text.now ≡ c.parts_of-parts.result.kind.now = ap kind_part
    (sym c.as_bytes-bytes.ensures.value) ∙ sym c.parts_of-parts.ensures.kind in
    let P : List ℕ → Type 0 = λ l. IsAscii l in
    subst P same (line_parts c.args.text.now c.requires).kind

pub text_behind-references-requires-clause-within : goal.text_behind-references-requires-clause-within
text_behind-references-requires-clause-within c =
    let place : kind_place c.args.text.now ≡ c.parts_of-parts.result.kind_place = ap kind_place
    (sym c.as_bytes-bytes.ensures.value) ∙ sym c.parts_of-parts.ensures.place in
    omega (arith, place, kind_within c.args.text.now (line_parts c.args.text.now c.requires))

pub text_behind-references-requires-clause-ascii : goal.text_behind-references-requires-clause-ascii
text_behind-references-requires-clause-ascii c =
    let place : kind_place c.args.text.now ≡ c.parts_of-parts.result.kind_place = ap kind_place
    (sym c.as_bytes-bytes.ensures.value) ∙ sym c.parts_of-parts.ensures.place in
    subst (λ n. get_or c.args.text.now (n + 3) 0 < 128) place
    (kind_ascii c.args.text.now (line_parts c.args.text.now c.requires))

pub returns : goal.returns
returns c fraction is =
    let bytes = c.as_bytes-bytes.ensures.value in
    let place : kind_place c.args.text.now ≡ c.parts_of-parts.result.kind_place = ap kind_place (sym bytes)
    ∙ sym c.parts_of-parts.ensures.place in
    let rest : c.text_behind-references.result.now ≡ references c.args.text.now =
    c.text_behind-references.ensures ∙ ap (λ n. drop n c.args.text.now) (omega (arith, place)) in
    line_is fraction c.args.text.now c.in-Some.days (to_z w64 (of_z w64 c.args.amount)) c.in_ok-kind.kind
    c.in_ok-text_of.field-0 c.in_ok-text_of-2.field-0 c.new.result c.new-2.result c.new-3.result
    (ap line_days (sym bytes) ∙ sym c.days.ensures ∙ c.in-Some.is)
    (omega (arith, ints, is))
    (c.in_ok-kind.ensures ∙ c.parts_of-parts.ensures.kind ∙ ap kind_part bytes)
    (c.in_ok-text_of.ensures ∙ c.parted_by_slashes-parted.ensures.before ∙ ap before_slashes rest)
    (c.in_ok-text_of-2.ensures ∙ c.parted_by_slashes-parted.ensures.behind
    ∙ ap behind_slashes rest) c.new.ensures c.new-2.ensures c.new-3.ensures

pub days-requires : goal.days-requires
days-requires c = c.parts_of-parts.ensures.entry
