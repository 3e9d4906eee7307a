-- What the parts of the serving of a link do.
use Rattle.std.specs.Prelude.{◌≡◌, ℕ, ◌<◌, Bool, true, false, List, [], ◌∷◌, ◌++◌, Option, Result, Ok, Err, length}
use Rattle.std.specs.Io.KnownBytes.{Consumes}
use Rattle.book_keeper.specs.Stream.{Wrote, WrotePart}
use Rattle.book_lines.specs.Marks.{RoseForEach}
use Rattle.book_lines.specs.Loop.{text_of}
use Rattle.book_lines.specs.RunClause.{Moment}
use Rattle.book_lines.specs.declared.machine.Unanswered.{Unanswered}
use Rattle.book_lines.specs.declared.machine.Unanswered.TheVariants.{Memory as NoMemory, Keeper as NotKept}
use Rattle.book_http.specs.declared.next.Request.{Request}
use Rattle.book_http.specs.Exchange.{IsRequest}
use Rattle.book_http.specs.Response.{response, refusal}
use Rattle.book_serve.specs.Statuses.{mark_of}
use Rattle.book_serve.specs.Exchange.{RequestRelation}
use Rattle.book_serve.specs.Link.{AreOpen, IsExchange}
use Rattle.book_serve.specs.declared.link_end.LinkEnd.{LinkEnd}
use Rattle.book_serve.specs.declared.link_end.LinkEnd.TheVariants.{Done, Cut, ReadFault, WriteFault, Limit, OutOfMemory}

-- The status that says why the machine gave no response.
abbrev pub status_of : Unanswered → ℕ
status_of NoMemory = 507
status_of NotKept = 503

-- The bytes that answer a request, whether the machine gave them or not.
abbrev pub response_of : Bool → Result (List ℕ) Unanswered → List ℕ
response_of close (Ok bytes) = bytes
response_of close (Err unanswered) = response (status_of unanswered) (text_of unanswered) close

-- The machine, or the link's server in its place, gave these bytes as the response to the request.
pub record GaveResponse {S : Type 0} (answers : RequestRelation S) (old : S) (request : Request) (bytes : List ℕ)
    (new : S) (faults_before faults_after : ℕ) : Type 0 where
  pub status : ℕ
  pub body : List ℕ
  pub bytes_are : bytes ≡ response status body request.close
  pub answered : answers old request (mark_of status) status body new
  pub kept : RoseForEach faults_before faults_after (mark_of status ∷ [])

-- The request was answered and the response written.
pub record HasReplied {S : Type 0} (answers : RequestRelation S) (old : Moment S) (request : Request) (new : Moment S)
    : Type 0 where
  pub text : List ℕ
  pub wrote : Wrote old.written new.written text
  pub gave : GaveResponse answers old.machine request text new.machine old.faults new.faults

-- The request was answered, and the response was not written whole.
pub record HasRepliedInPart {S : Type 0} (answers : RequestRelation S) (old : Moment S) (request : Request)
    (new : Moment S)
    : Type 0 where
  pub text : List ℕ
  pub more : List ℕ
  pub wrote : Wrote old.written new.written text
  pub short : 0 < length more
  pub gave : GaveResponse answers old.machine request (text ++ more) new.machine old.faults new.faults

-- How a request ends its link: it closes it, or its response was not written whole.
abbrev pub EndsByRequest : {S : Type 0} → RequestRelation S → Moment S → Request → Moment S → LinkEnd → Type 0
EndsByRequest answers old request new Done = HasReplied answers old request new × (request.close ≡ true)
EndsByRequest answers old request new WriteFault = HasRepliedInPart answers old request new
EndsByRequest answers old request new Cut = ⊥
EndsByRequest answers old request new ReadFault = ⊥
EndsByRequest answers old request new Limit = ⊥
EndsByRequest answers old request new OutOfMemory = ⊥

-- How a refused request ends its link: its response was written, or a part of it, or there was no memory for it.
abbrev pub EndsByRefusal : (List ℕ → Type 0) → (List ℕ → Type 0) → ℕ → LinkEnd → Type 0
EndsByRefusal old new status Done = Wrote old new (response status (refusal status) true)
EndsByRefusal old new status WriteFault = WrotePart old new (response status (refusal status) true)
EndsByRefusal old new status OutOfMemory = Wrote old new []
EndsByRefusal old new status Cut = ⊥
EndsByRefusal old new status ReadFault = ⊥
EndsByRefusal old new status Limit = ⊥

-- The next request of a link was read and answered, and it leaves the link open. `begun` was read before and not used,
-- and `kept` is so now.
pub record HasAnsweredNext {S : Type 0} (answers : RequestRelation S) (begun kept : List ℕ)
    (before after : Option (List ℕ))
    (old new : Moment S) : Type 0 where
  pub read : List ℕ
  pub took : Consumes before after read
  pub request : Request
  pub request_is : IsRequest (begun ++ read) request kept
  pub stays : request.close ≡ false
  pub replied : HasReplied answers old request new

-- So many requests of a link were read and answered, each of which leaves the link open; `kept` was read and is not
-- used.
pub record HasServed {S : Type 0} (answers : RequestRelation S) (kept : List ℕ) (before after : Option (List ℕ))
    (old new : Moment S) (count : ℕ) : Type 0 where
  pub read : List ℕ
  pub took : Consumes before after read
  pub requests : List Request
  pub count_is : length requests ≡ count
  pub requests_are : AreOpen read requests kept
  pub text : List ℕ
  pub wrote : Wrote old.written new.written text
  pub exchange : IsExchange answers old requests text new
