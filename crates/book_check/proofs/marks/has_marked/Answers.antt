-- The mark is one of the reconciliation that is there.
use Rattle.std.proofs.Common.{◌≡◌, ◌==◌, true, sym, ap, ◌∙◌, arith}
use Rattle.std.specs.Prelude.{◌&&◌}
use Rattle.std.proofs.lemmas.Bool.Decides.{nat_tests}
use Rattle.book_sound.specs.MarkedTransactionRules.{has_marked}
use Rattle.book_check.specs.Marks.{is_listed, mark_cmp}
use Rattle.book_check.specs.Seen.{is_seen}
use Rattle.book_check.proofs.MarkLemmas.{made_of}
use Rattle.book_check.proofs.marks.has_marked.Goals as goal

pub returns-then-reconciliation-split : goal.returns-then-reconciliation-split
returns-then-reconciliation-split c =
    let split = c.args.split.now in
    let entries = c.args.reconciliations.now.entries in
    let reconciliation = c.in-Some.reconciliation.now in
    let there = c.in-Some.ensures in
    let same : (reconciliation.account == split.account) ≡ true = (let test = c.if-reconciliation-split.true in
    grind (arith, nat_tests, test)) in
    let listed =
    c.has.ensures ∙ ap (is_seen mark_cmp c.args.marks.now) c.split_key.ensures
    ∙ c.requires.same (c.args.number, split.id, split.quantity)
    ∙ made_of c.args.number split.id split.quantity entries reconciliation c.requires.rise (sym there) in
    listed ∙ ap (λ t. t && is_listed split.id split.quantity reconciliation.marked) (sym same)
    ∙ ap (has_marked split) there
