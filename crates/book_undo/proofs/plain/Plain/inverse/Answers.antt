use Rattle.std.proofs.Common.{◌≡◌, Result, Ok, Err, IfOk, map}
use Rattle.book_undo.specs.Book.{Book, IsRising, book_of}
use Rattle.book_undo.specs.Edit.{leaves, depth}
use Rattle.book_undo.specs.EditRules.{IsAllowed}
use Rattle.book_undo.specs.Inverse.{leaf_back, LeadsBack}
use Rattle.book_undo.specs.declared.edit.Edit.{Edit}
use Rattle.book_undo.proofs.InverseLaws.{leads_back}
use Rattle.book_undo.proofs.plain.Plain.inverse.Goals as goal

backs :
    {E : Type 0} (b : Book) (e : Edit) (result : Result Edit E) → IsRising b → IsAllowed b e
    → IfOk result (λ f. leaves f ≡ map (leaf_back b) (leaves e)) → IfOk result (λ f. depth f ≡ depth e)
    → IfOk result (λ f. LeadsBack b e f)
backs b e (Ok f) r allowed same deep = leads_back b e f r allowed same deep
backs b e (Err x) r allowed same deep = tt

pub returns-clause-back : goal.returns-clause-back
returns-clause-back c =
    backs (book_of c.args.self.now) c.args.edit.now c.back.result c.rising.ensures c.requires c.back.ensures.leaves
    c.back.ensures.depth
