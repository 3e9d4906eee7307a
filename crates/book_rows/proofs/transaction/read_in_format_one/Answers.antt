-- The fields that the bytes spell are those of the transaction, of which nothing is kept.
use Rattle.std.proofs.Common.{◌≡◌, ℕ, ℤ, true, not, List, Option, None, is_none, ap, sym, ◌∙◌}
use Rattle.std.proofs.Common.{arith}
use Rattle.std.proofs.lemmas.Bool.{and_parts}
use Rattle.std.proofs.lemmas.Bool.Decides.{nat_tests}
use Rattle.book_splits.specs.TransactionRules.{has_voided, is_not_voided}
use Rattle.book_splits.specs.declared.split.Split.{Split}
use Rattle.book_splits.specs.declared.transaction.Txn.{Txn}
use Rattle.book_splits.specs.declared.void.Void.{Void}
use Rattle.book_splits.proofs.TransactionRuleLemmas.{is_none_of}
use Rattle.book_rows.specs.TransactionBytes.{txn_made}
use Rattle.book_rows.proofs.transaction.read_in_format_one.Goals as goal

-- The fields that format 1 has of a transaction.
abbrev Fields : Type 0
Fields = ℕ × (ℤ × (List ℕ × (List ℕ × List Split)))

abbrev fields : Txn → Fields
fields it = (it.currency, (it.day, (it.num, (it.description, it.splits))))

-- One that is not voided is made of these alone.
made_again : (it : Txn) → is_not_voided it ≡ true → txn_made (fields it, None) ≡ it
made_again it unvoided =
    let parts = and_parts (is_none it.voided) (not (has_voided it.splits)) unvoided in
    ap (λ (v : Option Void). txn_made (fields it, v)) (sym (is_none_of it.voided parts.0))

pub returns-in-Err-clause-again : goal.returns-in-Err-clause-again
returns-in-Err-clause-again c it rest fit told = c.in-Err.ensures.again (fields it) rest fit.0 told

pub returns-then-not-is_not_voided-clause-again : goal.returns-then-not-is_not_voided-clause-again
returns-then-not-is_not_voided-clause-again c it rest fit told =
    let same = c.in-Ok.ensures.again (fields it) rest fit.0 told in
    let made = ap (λ (p : Fields × List ℕ). txn_made (p.0, None)) same ∙ made_again it fit.1 in
    let is = ap is_not_voided (c.txn_of-transaction.ensures ∙ made) ∙ fit.1 in
    let test = c.if-not-is_not_voided.true in
    let told = c.is_not_voided.ensures in
    absurd (grind (arith, nat_tests, test, told, is))

pub returns-clause-again : goal.returns-clause-again
returns-clause-again c it rest fit told =
    let same = c.in-Ok.ensures.again (fields it) rest fit.0 told in
    rw c.txn_of-transaction.ensures
    (ap (λ (p : Fields × List ℕ). (txn_made (p.0, None), p.1)) same
    ∙ ap (λ (t : Txn). (t, rest)) (made_again it fit.1))
