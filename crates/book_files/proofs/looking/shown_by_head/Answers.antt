use Rattle.std.proofs.Common.{IsTrue, Option, subst, sym}
use Rattle.std.specs.Prelude.{IfSome}
use Rattle.book_verdict.specs.declared.fault.FileFault.{FileFault}
use Rattle.book_files.specs.Faults.{shows_before}
use Rattle.book_files.proofs.FaultLemmas.{shown_by_head}
use Rattle.book_files.proofs.looking.shown_by_head.Goals as goal

pub returns-clause-before : goal.returns-clause-before
returns-clause-before c =
    subst (λ (found : Option FileFault). IfSome found (λ fault. IsTrue (shows_before fault)))
    (sym c.fault_of_head.ensures) (shown_by_head c.args.head.now c.args.length)
