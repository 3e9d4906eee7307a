use Rattle.std.proofs.Common.{rules, ◌≡◌, ℕ, ℤ, List, FitsSigned, w64, to_z, of_z, [], ◌∷◌, None, Err, ap, sym, subst, ◌∙◌}
use Rattle.std.proofs.lemmas.Int.{to_z-of_z}
use Rattle.book_commodity.specs.Rules.{first_broken}
use Rattle.book_commodity.proofs.RuleLemmas.{first-past}
use Rattle.book_splits.specs.declared.reconciliation.Recon.{Recon}
use Rattle.book_ledger.specs.Ledger.{register_of}
use Rattle.book_reconcile.specs.Reconciliation.{difference}
use Rattle.book_sound.specs.ReconciliationRules.{marked_numbers}
use Rattle.book_undo.specs.declared.edit.Edit.{Edit}
use Rattle.book_step.specs.Reconciling.{IsFinish, differs, finished, reconciling, too_many_reconciliations}
use Rattle.book_step.specs.Schedules.{Finds}
use Rattle.book_step.proofs.ExactReconciling.{finds-broken, finds-refused}
use Rattle.book_step.proofs.reconciling.finish.Goals as goal

pub planned-requires : goal.planned-requires
planned-requires c = c.register_or-register.ensures c.args.present.now.book c.requires

pub reconciling-requires : goal.reconciling-requires
reconciling-requires c =
    let book = c.args.present.now.book in
    c.register_or-register.ensures book c.requires
    ∙ ap (λ (r : Recon). register_of r.account book.transactions) (sym c.in-Ok.ensures.1)

pub returns-in-Err : goal.returns-in-Err
returns-in-Err c =
    let book = c.args.present.now.book in
    let by : ℤ → ℤ = λ closing. difference c.args.account c.args.day closing book.transactions in
    let fits : FitsSigned w64 c.args.closing = search rules in
    let same : to_z w64 (of_z w64 c.args.closing) ≡ c.args.closing = to_z-of_z w64 c.args.closing fits in
    let refused = subst (λ (closing : ℤ). Finds {T = Recon} (differs (by closing) ∷ [])
    (λ recon. recon ≡ finished book c.args.account c.args.day closing) (Err c.in-Err.refusal)) same c.in-Err.ensures in
    finds-refused {T = Recon} {U = Edit × List ℕ} (differs (by c.args.closing) ∷ [])
    (too_many_reconciliations book.reconciliations ∷ [])
    (λ recon. recon ≡ finished book c.args.account c.args.day c.args.closing)
    (IsFinish book c.args.present.now.next c.args.account c.args.day c.args.closing) c.in-Err.refusal refused

pub returns-in_err-check_count : goal.returns-in_err-check_count
returns-in_err-check_count c =
    let book = c.args.present.now.book in
    let by : ℤ → ℤ = λ closing. difference c.args.account c.args.day closing book.transactions in
    let fits : FitsSigned w64 c.args.closing = search rules in
    let same : to_z w64 (of_z w64 c.args.closing) ≡ c.args.closing = to_z-of_z w64 c.args.closing fits in
    let none = subst (λ (closing : ℤ). first_broken (differs (by closing) ∷ []) ≡ None) same c.in-Ok.ensures.0 in
    let first = differs (by c.args.closing) ∷ [] in
    let more = too_many_reconciliations book.reconciliations ∷ [] in
    finds-broken (differs (by c.args.closing) ∷ too_many_reconciliations book.reconciliations ∷ []) _
    c.in_err-check_count.field-0.0 c.from_residual.result c.from_residual.ensures.1
    (first-past first more none ∙ c.in_err-check_count.ensures)

pub returns : goal.returns
returns c =
    let book = c.args.present.now.book in
    let by : ℤ → ℤ = λ closing. difference c.args.account c.args.day closing book.transactions in
    let fits : FitsSigned w64 c.args.closing = search rules in
    let same : to_z w64 (of_z w64 c.args.closing) ≡ c.args.closing = to_z-of_z w64 c.args.closing fits in
    let none = subst (λ (closing : ℤ). first_broken (differs (by closing) ∷ []) ≡ None) same c.in-Ok.ensures.0 in
    let first = differs (by c.args.closing) ∷ [] in
    let more = too_many_reconciliations book.reconciliations ∷ [] in
    let recon = c.in-Ok.ensures.1 ∙ ap (λ (closing : ℤ). finished book c.args.account c.args.day closing) same in (
      first-past first more none ∙ c.in_ok-check_count.ensures,
      (
        c.in_ok-edit.ensures ∙ ap (λ (r : Recon). reconciling book c.args.present.now.next r) recon,
        c.in_ok-marked.ensures ∙ ap (λ (r : Recon). marked_numbers r.marked) recon,
      ),
    )
