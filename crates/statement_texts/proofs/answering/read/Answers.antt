use Rattle.std.proofs.Common.{List, ℕ, sym, subst}
use Rattle.book_commodity.specs.declared.commodity.Commodity.{Commodity}
use Rattle.book_statement.specs.Checks.{Gives}
use Rattle.bai2_read.specs.Reading.{reading}
use Rattle.statement_texts.specs.Answers.{said}
use Rattle.statement_texts.specs.declared.asked.Format.{Format}
use Rattle.statement_texts.proofs.answering.read.Goals as goal

pub returns-in-Bai2 : goal.returns-in-Bai2
returns-in-Bai2 c =
    let InFormat : Format → Type 0 = λ f. Gives (said f c.args.known.now c.args.bytes.now) c.read_bai2.result in
    let OfText : List ℕ → Type 0 = λ text. Gives (reading c.args.known.now text) c.read_bai2.result in
    let Knowing : List (ℕ × Commodity) → Type 0 = λ es. Gives (reading es c.in_ok-text.text) c.read_bai2.result in
    subst InFormat (sym c.in-Bai2.is)
    (subst OfText c.in_ok-text.ensures (subst Knowing c.commodities-in-Bai2.ensures.entries c.read_bai2.ensures.exact))
