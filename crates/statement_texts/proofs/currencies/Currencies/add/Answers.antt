use Rattle.std.proofs.Common.{List, ℕ, sym, ap, subst, ◌∙◌}
use Rattle.book_commodity.specs.declared.commodity.Commodity.{Commodity}
use Rattle.book_commodity.specs.Table.{with_entry}
use Rattle.book_statement.specs.Currencies.{IsFraction, HaveFractions}
use Rattle.book_statement.proofs.CurrencyLemmas.{fractions-put}
use Rattle.statement_texts.proofs.currencies.Currencies.add.Goals as goal

pub invariant_of-self-2 : goal.invariant_of-self-2
invariant_of-self-2 c =
    let added = c.in_ok-added.added in
    let P : List (ℕ × Commodity) → Type 0 = λ es. HaveFractions es in
    let Q : ℕ → Type 0 = λ n. IsFraction n in
    subst P (sym (c.put.ensures.entries ∙ ap (with_entry _ added) c.reserve.ensures.entries))
    (fractions-put _ added _ (subst Q (sym (ap (λ made. made.fraction) c.in_ok-added.ensures)) c.requires)
    c.self.invariant)
