use Rattle.std.proofs.Common.{ℕ, [], ◌∷◌, Option, ap, get_or, sym, take, ◌∙◌}
use Rattle.std.proofs.lemmas.List.{take_more}
use Rattle.std.specs.Option.{option_or}
use Rattle.book_listings.specs.Account.{line_of}
use Rattle.book_listings.proofs.LineLemmas.{line_more}
use Rattle.book_listings.proofs.account.by_split.Goals as goal

pub loop-entry-preserved : goal.loop-entry-preserved
loop-entry-preserved c = λ split.
    let i = c.loop-entry.entry-index in
    let lines = c.args.lines.now in
    let entry = get_or lines i (0, 0) in
    c.in_ok-add_first.ensures split
    ∙ ap (λ (found : Option ℕ). option_or found (line_of split (entry ∷ []))) (c.loop-entry.invariant split)
    ∙ sym (line_more split (take i lines) entry) ∙ ap (line_of split) (sym (take_more lines i (0, 0) c.loop-entry-test.true))
