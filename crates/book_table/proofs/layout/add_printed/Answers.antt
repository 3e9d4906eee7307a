use Rattle.std.proofs.Common.{ℕ, List, ◌++◌, string_bytes, sym, ap, ◌∙◌, append_assoc, append-nil}
use Rattle.std.proofs.lemmas.Str.{IsUtf8-past_char}
use Rattle.book_reports.proofs.TextLemmas.{printed_none, printed_step}
use Rattle.book_table.proofs.layout.add_printed.Goals as goal

pub loop-letter-preserved : goal.loop-letter-preserved
loop-letter-preserved c =
    let held = c.loop-letter.invariant in
    let parts = c.in-Some.ensures.steps.0 in
    let step = printed_step c.in-Some.letter _ _ parts in (
      IsUtf8-past_char _ _ c.in-Some.letter held.0 parts,
      rw (c.in_ok-push.ensures.bytes, c.printed_letter.ensures, append_assoc) (rw step at held.1),
    )

pub returns : goal.returns
returns c =
    sym (append-nil (string_bytes c.loop-letter.out))
    ∙ ap (λ (l : List ℕ). string_bytes c.loop-letter.out ++ l) (sym (printed_none _ (sym c.in-None.ensures.steps.0.0)))
    ∙ c.loop-letter.invariant.1
