-- One reader after another, up to the one that fails.
use Rattle.std.proofs.Common.{◌≡◌, ℕ, List, Result, Err, refl, subst, sym}
use Rattle.serde_json.specs.Data.{Members}
use Rattle.book_json.specs.Members.{Reader, then_read}
use Rattle.book_json.specs.Reads.{Gives}
use Rattle.book_json.specs.declared.fault.Fault.{Fault}
use Rattle.book_json.specs.declared.fault.Fault.TheVariants.{Member, OutOfMemory}

stopped : {X Y : Type 0} (read : Result (X × Members) (List ℕ)) (next : X → Reader Y) (fault : Fault)
    (now left : Members) → Gives read (Err fault) now → Gives (then_read read next) (Err fault) left
stopped read next (Member name) now left e = rw e refl
stopped read next OutOfMemory now left e = tt

-- where a reader fails, all that begins with it fails so
pub stop : {X Y : Type 0} (read : Result (X × Members) (List ℕ)) (next : X → Reader Y) (fault : Fault)
    (now left : Members) (result : Result Y Fault) → Gives read (Err fault) now → result ≡ Err fault
    → Gives (then_read read next) result left
stop read next fault now left result e is = subst (λ (r : Result _ Fault). Gives (then_read read next) r left)
    (sym is) (stopped read next fault now left e)
