use Rattle.std.proofs.Common.{◌∙◌, sym, subst, List, ℕ}
use Rattle.std.specs.Str.Parse.{ParsesUnsigned}
use Rattle.book_http.proofs.FieldLemmas.{length_text, length_read}
use Rattle.book_http.proofs.fields.one_length.Goals as goal

-- a length is a text
pub unreachable-requires : goal.unreachable-requires
unreachable-requires c =
    c.in_default.ensures.cases.0 (length_text c.args.value.now (sym c.is_length.ensures ∙ c.if-not-is_length.false))

-- and it is read as a number
pub unreachable-requires-in-Err : goal.unreachable-requires-in-Err
unreachable-requires-in-Err c =
    let same = c.in-Ok.ensures.cases.0 in
    let parses = subst (λ (word : List ℕ). ParsesUnsigned 64 10 word c.parse.result) same c.parse.ensures.value.0 in
    let read = length_read c.args.value.now c.parse.result
    (sym c.is_length.ensures ∙ c.if-not-is_length.false) parses in
    let failed = c.in-Err.is in
    absurd (cc)
