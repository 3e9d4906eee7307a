-- What the head of a file shows is shown before a keeper opens it.
use Rattle.std.proofs.Common.{Bool, true, false, if◌then◌else◌, nat_lt, ◌*◌, ℕ, List, Some, None, IsTrue, refl}
use Rattle.std.specs.Prelude.{IfSome}
use Rattle.book_verdict.specs.Head.{fault_of_head, has_no_table, has_other_things, is_database}
use Rattle.book_verdict.specs.Head.{page_bytes, page_count}
use Rattle.book_verdict.specs.declared.fault.FileFault.TheVariants.{CutShort, NoDatabase, NoTable, OtherDatabase}
use Rattle.book_files.specs.Faults.{shows_before}

shown_by :
    (database cut bare other : Bool)
    → IfSome
    (if database then (if cut then Some CutShort else if bare then Some NoTable else if other then Some OtherDatabase
    else None) else Some NoDatabase)
    (λ fault. IsTrue (shows_before fault))
shown_by false cut bare other = refl
shown_by true true bare other = refl
shown_by true false true other = refl
shown_by true false false true = refl
shown_by true false false false = tt

pub shown_by_head :
    (head : List ℕ) (size : ℕ) → IfSome (fault_of_head head size) (λ fault. IsTrue (shows_before fault))
shown_by_head head size =
    shown_by (is_database head) (nat_lt size (page_bytes head * page_count head)) (has_no_table head)
    (has_other_things head)
