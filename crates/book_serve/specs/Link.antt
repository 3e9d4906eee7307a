-- What holds at each end of a link.
use Rattle.std.specs.Prelude.{◌≡◌, ℕ, ◌<◌, true, false, ◌⊎◌, List, [], ◌∷◌, ◌++◌, Option, length}
use Rattle.book_keeper.specs.Stream.{Are, Wrote}
use Rattle.book_lines.specs.Marks.{RoseForEach}
use Rattle.book_lines.specs.RunClause.{Moment}
use Rattle.book_http.specs.declared.next.Request.{Request}
use Rattle.book_http.specs.Exchange.{IsRequest, IsRefused, IsUnfinished}
use Rattle.book_http.specs.Response.{response, refusal}
use Rattle.book_serve.specs.Statuses.{mark_of, marks}
use Rattle.book_serve.specs.Exchange.{RequestRelation, Exchange}
use Rattle.book_serve.specs.declared.link_end.LinkEnd.{LinkEnd}
use Rattle.book_serve.specs.declared.link_end.LinkEnd.TheVariants.{Done, Cut, ReadFault, WriteFault, Limit, OutOfMemory}

-- The bytes begin with these requests, each of which leaves the link open, and `rest` comes behind them.
abbrev pub AreOpen : List ℕ → List Request → List ℕ → Type 0
AreOpen bytes [] rest = bytes ≡ rest
AreOpen bytes (request ∷ more) rest =
    (behind : List ℕ) × IsRequest bytes request behind × (request.close ≡ false) × AreOpen behind more rest

-- The text is the responses to these requests, and the faults rose with each status that speaks of what is kept.
pub record IsExchange {S : Type 0} (answers : RequestRelation S) (old : Moment S) (requests : List Request)
    (text : List ℕ) (new : Moment S) : Type 0 where
  pub statuses : List ℕ
  pub responses : Exchange answers old.machine requests statuses text new.machine
  pub kept : RoseForEach old.faults new.faults (marks statuses)

-- The bytes begin with requests that leave the link open, fewer than `most`; the text is the responses to these, and
-- `rest` comes behind them.
pub record HasAnswered {S : Type 0} (answers : RequestRelation S) (most : ℕ) (old : Moment S) (bytes rest text : List ℕ)
    (new : Moment S) : Type 0 where
  pub requests : List Request
  pub few : length requests < most
  pub requests_are : AreOpen bytes requests rest
  pub exchange : IsExchange answers old requests text new

-- Behind the requests that were answered comes a refused one; its response stands last in the text.
pub record HasRefused {S : Type 0} (answers : RequestRelation S) (most : ℕ) (old : Moment S) (bytes text : List ℕ)
    (new : Moment S) : Type 0 where
  pub rest : List ℕ
  pub status : ℕ
  pub front : List ℕ
  pub answered : HasAnswered answers most old bytes rest front new
  pub refused : IsRefused rest status
  pub text_is : text ≡ front ++ response status (refusal status) true

-- Behind requests that leave the link open comes one that closes it; the text is the responses to all of these.
pub record HasClosed {S : Type 0} (answers : RequestRelation S) (most : ℕ) (old : Moment S) (bytes text : List ℕ)
    (new : Moment S) : Type 0 where
  pub requests : List Request
  pub few : length requests < most
  pub rest : List ℕ
  pub requests_are : AreOpen bytes requests rest
  pub request : Request
  pub behind : List ℕ
  pub next : IsRequest rest request behind
  pub close : request.close ≡ true
  pub exchange : IsExchange answers old (requests ++ request ∷ []) text new

-- The text is the responses to these requests and a part of the response to one more, from its front on and not all of
-- it. The machine has answered that one too.
pub record IsCutShort {S : Type 0} (answers : RequestRelation S) (old : Moment S) (requests : List Request)
    (request : Request) (text : List ℕ) (new : Moment S) : Type 0 where
  pub statuses : List ℕ
  pub front : List ℕ
  pub mid : S
  pub responses : Exchange answers old.machine requests statuses front mid
  pub status : ℕ
  pub body : List ℕ
  pub answered : answers mid request (mark_of status) status body new.machine
  pub part : List ℕ
  pub more : List ℕ
  pub parts : response status body request.close ≡ part ++ more
  pub short : 0 < length more
  pub text_is : text ≡ front ++ part
  pub kept : RoseForEach old.faults new.faults (marks (statuses ++ status ∷ []))

-- The response to the request behind those that were answered was cut short.
pub record HasCutResponse {S : Type 0} (answers : RequestRelation S) (most : ℕ) (old : Moment S) (bytes text : List ℕ)
    (new : Moment S) : Type 0 where
  pub requests : List Request
  pub few : length requests < most
  pub rest : List ℕ
  pub requests_are : AreOpen bytes requests rest
  pub request : Request
  pub behind : List ℕ
  pub next : IsRequest rest request behind
  pub cut : IsCutShort answers old requests request text new

-- The response to the refused request behind those that were answered was cut short.
pub record HasCutRefusal {S : Type 0} (answers : RequestRelation S) (most : ℕ) (old : Moment S) (bytes text : List ℕ)
    (new : Moment S) : Type 0 where
  pub rest : List ℕ
  pub status : ℕ
  pub front : List ℕ
  pub answered : HasAnswered answers most old bytes rest front new
  pub refused : IsRefused rest status
  pub part : List ℕ
  pub more : List ℕ
  pub parts : response status (refusal status) true ≡ part ++ more
  pub short : 0 < length more
  pub text_is : text ≡ front ++ part

-- So many requests, each of which left the link open, were answered.
pub record HasAnsweredMost {S : Type 0} (answers : RequestRelation S) (most : ℕ) (old : Moment S) (bytes text : List ℕ)
    (new : Moment S) : Type 0 where
  pub requests : List Request
  pub count : length requests ≡ most
  pub rest : List ℕ
  pub requests_are : AreOpen bytes requests rest
  pub exchange : IsExchange answers old requests text new

-- The requests of the bytes end: none is left and no byte, or one is refused, or one closes the link.
abbrev pub HasDone : {S : Type 0} → RequestRelation S → ℕ → Moment S → List ℕ → List ℕ → List ℕ → Moment S → Type 0
HasDone answers most old bytes left text new =
    (HasAnswered answers most old bytes [] text new × (left ≡ []))
    ⊎ HasRefused answers most old bytes text new
    ⊎ HasClosed answers most old bytes text new

-- The link has ended within a request.
pub record HasCut {S : Type 0} (answers : RequestRelation S) (most : ℕ) (old : Moment S) (bytes left text : List ℕ)
    (new : Moment S) : Type 0 where
  pub rest : List ℕ
  pub answered : HasAnswered answers most old bytes rest text new
  pub unfinished : IsUnfinished rest
  pub some : 0 < length rest
  pub none_left : left ≡ []

-- The link failed to be read within a request; those that came whole were answered.
pub record HasFailedRead {S : Type 0} (answers : RequestRelation S) (most : ℕ) (old : Moment S) (read text : List ℕ)
    (new : Moment S) : Type 0 where
  pub rest : List ℕ
  pub answered : HasAnswered answers most old read rest text new
  pub unfinished : IsUnfinished rest

-- There was no memory to read the next request, or to refuse it; those before it were answered.
pub record HasNoMemory {S : Type 0} (answers : RequestRelation S) (most : ℕ) (old : Moment S) (read text : List ℕ)
    (new : Moment S) : Type 0 where
  pub rest : List ℕ
  pub answered : HasAnswered answers most old read rest text new

-- By the end of the link, of whose bytes at most so many requests are answered: `read` is what was read of them, `left`
-- what the link has left, `text` what was written to it.
abbrev pub LinkClause :
    {S : Type 0} → RequestRelation S → ℕ → Moment S → List ℕ → List ℕ → List ℕ → Moment S → LinkEnd → Type 0
LinkClause answers most old read left text new Done = HasDone answers most old (read ++ left) left text new
LinkClause answers most old read left text new Cut = HasCut answers most old (read ++ left) left text new
LinkClause answers most old read left text new ReadFault = HasFailedRead answers most old read text new
LinkClause answers most old read left text new WriteFault =
    HasCutResponse answers most old (read ++ left) text new ⊎ HasCutRefusal answers most old (read ++ left) text new
LinkClause answers most old read left text new Limit = HasAnsweredMost answers most old (read ++ left) text new
LinkClause answers most old read left text new OutOfMemory = HasNoMemory answers most old read text new

-- A link was served up to an end, where at most so many of its requests are answered and `begun` was read of it before.
-- There are the bytes that were read in between, those that it has left now, as far as it reports them, and the text
-- that it was given, as far as it reports it. Of these holds what belongs to the end.
pub record IsServed {S : Type 0} (answers : RequestRelation S) (most : ℕ) (begun : List ℕ)
    (before after : Option (List ℕ)) (old new : Moment S) (end : LinkEnd) : Type 0 where
  pub read : List ℕ
  pub left : List ℕ
  pub text : List ℕ
  pub bytes_are : Are before (read ++ left)
  pub left_are : Are after left
  pub wrote : Wrote old.written new.written text
  pub clause : LinkClause answers most old (begun ++ read) left text new end

-- A link was served: at most a million of its requests are answered.
abbrev pub HasAnsweredLink :
    {S : Type 0} → RequestRelation S → Option (List ℕ) → Option (List ℕ) → Moment S → Moment S → LinkEnd → Type 0
HasAnsweredLink answers before after old new end = IsServed answers 1000000 [] before after old new end
