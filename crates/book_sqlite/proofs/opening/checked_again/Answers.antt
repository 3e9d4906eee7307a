use Rattle.std.proofs.Common.{◌≡◌, false, ap, sym, subst, ◌∙◌, arith}
use Rattle.sqlite_trees.specs.View.{IsClean}
use Rattle.sqlite_catalog.specs.Listing.{IsSound}
use Rattle.sqlite.specs.Effect.{Database}
use Rattle.sqlite_trees.specs.Tree.{Trees, IsTable, rowid}
use Rattle.sqlite_trees.specs.View.{is_int}
use Rattle.std.specs.List.{AllByRecursion}
use Rattle.std.proofs.Common.{IsTrue}
use Rattle.book_sqlite.proofs.OpeningLemmas.{has_rowids, open_while_whole}
use Rattle.book_sqlite.proofs.opening.checked_again.Goals as goal

pub returns-in-Ok-clause-rowids : goal.returns-in-Ok-clause-rowids
returns-in-Ok-clause-rowids g c = λ sure schema_is.
    let s = c.into_store-store.result in
    let conn = c.in-Ok.connection in
    let clean : IsClean (g.S.Store.view s) = omega (arith, sure.0, c.in-Ok.ensures.clean) in
    let whole : (g.S.Store.view s).is_broken ≡ false = sym (c.is_broken.ensures clean) ∙ c.if-is_broken.false in
    let trees = c.in-Ok.ensures.trees sure.0 in
    let sound = ((c.in-Ok.ensures.opens sure.0).1 sure.1).0 in
    subst (λ (t : Trees). IsTable (t 0) × AllByRecursion (λ r. IsTrue (is_int (rowid r))) (t 0)) (sym trees)
    (has_rowids (g.S.Store.view s).trees (g.S.Store.view s).shape (g.S.Store.view s).reals conn.schema
    (g.met.S.Alter.listed s whole) (g.met.S.Store.ordered s whole) (subst (IsSound conn.schema) trees sound) schema_is)

pub returns-in-Ok-clause-trees : goal.returns-in-Ok-clause-trees
returns-in-Ok-clause-trees g c = λ clean.
    let s = c.into_store-store.result in
    let was : IsClean (g.S.Store.view s) = omega (arith, clean, c.in-Ok.ensures.clean) in
    let whole : (g.S.Store.view s).is_broken ≡ false = sym (c.is_broken.ensures was) ∙ c.if-is_broken.false in
    let undone = (c.into_store-store.ensures.undone.undone
    (open_while_whole (g.S.Store.view s).is_open (g.S.Store.view s).is_broken (g.met.S.Store.broken_if_shut s) whole)).0 in
    let opens = c.in-Ok.ensures.opens clean in
    ap (λ (d : Database). d.trees) (sym opens.0.clean) ∙ c.in-Ok.ensures.trees clean ∙ undone
