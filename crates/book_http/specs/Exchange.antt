-- The requests of a link, as its bytes have them, whatever the pieces in which they come.
use Rattle.std.specs.Prelude.{◌≡◌, ℕ, ◌^◌, ◌<◌, ◌≤◌, ◌⊎◌, List, [], ◌++◌, length, take, Option, Result, Ok, Err}
use Rattle.std.specs.Prelude.{if◌then◌else◌}
use Rattle.std.specs.Io.KnownBytes.{Consumes, IsAtEnd}
use Rattle.httparse.specs.Grammar.{RequestHead, print_request, ReadsRequest, HasNoRequest, NeverHasRequest}
use Rattle.httparse.specs.Grammar.{MayBecomeRequest}
use Rattle.book_keeper.specs.Stream.{Are}
use Rattle.book_http.specs.declared.route.Route.{Route}
use Rattle.book_http.specs.declared.next.Request.{Request}
use Rattle.book_http.specs.declared.next.Next.{Next}
use Rattle.book_http.specs.declared.next.Next.TheVariants.{Request as Asked, Refused, End, Cut}
use Rattle.book_http.specs.declared.next.NextError.{NextError}
use Rattle.book_http.specs.declared.next.NextError.TheVariants.{ReadFault, OutOfMemory}
use Rattle.book_http.specs.Route.{kind_of, takes_body}
use Rattle.book_http.specs.Head.{body_size, closes, IsRefusedHead, IsAcceptedHead}

-- The bytes in which a head has to end: the first 16 KiB.
unfoldable pub head_window : List ℕ → List ℕ
head_window bytes = take (2 ^ 14) bytes

-- The bytes begin with this head, which ends within 16 KiB, and then come these.
pub record HasHead (bytes : List ℕ) (head : RequestHead) (behind : List ℕ) : Type 0 where
  pub reads : ReadsRequest bytes head behind
  pub short : length (print_request head) ≤ 2 ^ 14

-- What is kept of a body: that of a route that takes none is dropped.
abbrev pub kept_body : Route → List ℕ → List ℕ
kept_body route body = if takes_body (kind_of route) then body else []

-- The bytes begin with a head that is accepted with this route; behind it come a body of the length that it says, of
-- which this is kept, and then the rest.
pub record IsRequest (bytes : List ℕ) (request : Request) (rest : List ℕ) : Type 0 where
  pub head : RequestHead
  pub body : List ℕ
  pub has_head : HasHead bytes head (body ++ rest)
  pub accepted : IsAcceptedHead head request.route
  pub long : length body ≡ body_size head
  pub body_is : request.body ≡ kept_body request.route body
  pub close_is : request.close ≡ closes head

-- The bytes begin with a head that is refused.
pub record HasRefusedHead (bytes : List ℕ) (status : ℕ) : Type 0 where
  pub head : RequestHead
  pub behind : List ℕ
  pub has_head : HasHead bytes head behind
  pub refused : IsRefusedHead head status

-- 16 KiB came, and no head ends in them, though one may have begun.
pub record HasLongHead (bytes : List ℕ) : Type 0 where
  pub full : 2 ^ 14 ≤ length bytes
  pub none : HasNoRequest (head_window bytes)
  pub begun : MayBecomeRequest (head_window bytes)

-- The bytes are refused with this status: their head is; or whatever follows, they begin with no head; or their head is
-- too long.
abbrev pub IsRefused : List ℕ → ℕ → Type 0
IsRefused bytes status = HasRefusedHead bytes status
    ⊎ ((status ≡ 400) × NeverHasRequest (head_window bytes))
    ⊎ ((status ≡ 431) × HasLongHead bytes)

-- No head has ended yet, and one may have begun.
pub record LacksHead (bytes : List ℕ) : Type 0 where
  pub few : length bytes < 2 ^ 14
  pub none : HasNoRequest bytes
  pub begun : MayBecomeRequest bytes

-- An accepted head has come, and of its body not all.
pub record LacksBody (bytes : List ℕ) : Type 0 where
  pub head : RequestHead
  pub behind : List ℕ
  pub route : Route
  pub has_head : HasHead bytes head behind
  pub accepted : IsAcceptedHead head route
  pub few : length behind < body_size head

-- The bytes hold no whole request, and are not refused yet.
abbrev pub IsUnfinished : List ℕ → Type 0
IsUnfinished bytes = LacksHead bytes ⊎ LacksBody bytes

-- What comes next of a link. `bytes` are those that came and were not used before, `rest` those of them that are not
-- used now, and `after` is what the link has left.
abbrev pub NextIs : List ℕ → List ℕ → Option (List ℕ) → Result Next NextError → Type 0
NextIs bytes rest after (Ok (Asked request)) = IsRequest bytes request rest
NextIs bytes rest after (Ok (Refused status)) = IsRefused bytes status × (rest ≡ bytes)
NextIs bytes rest after (Ok End) = (bytes ≡ []) × (rest ≡ []) × IsAtEnd after
NextIs bytes rest after (Ok Cut) = IsUnfinished bytes × (0 < length bytes) × (rest ≡ bytes) × IsAtEnd after
NextIs bytes rest after (Err ReadFault) = IsUnfinished bytes × (rest ≡ bytes)
NextIs bytes rest after (Err OutOfMemory) = rest ≡ bytes

-- The same of all bytes of a link: those that came and those that are to come.
abbrev pub ExchangeIs : List ℕ → List ℕ → Result Next NextError → Type 0
ExchangeIs bytes rest (Ok (Asked request)) = IsRequest bytes request rest
ExchangeIs bytes rest (Ok (Refused status)) = IsRefused bytes status × (rest ≡ bytes)
ExchangeIs bytes rest (Ok End) = (bytes ≡ []) × (rest ≡ [])
ExchangeIs bytes rest (Ok Cut) = IsUnfinished bytes × (0 < length bytes) × (rest ≡ bytes)
ExchangeIs bytes rest (Err error) = rest ≡ bytes

-- The next of a link was asked for. `begun` stood in the inbox before, and `kept` stands there now. There are the bytes
-- that were read in between and those that the link has left now, as far as it reports them.
pub record IsNext (begun kept : List ℕ) (before after : Option (List ℕ)) (result : Result Next NextError)
    : Type 0 where
  pub read : List ℕ
  pub left : List ℕ
  pub took : Consumes before after read
  pub bytes_are : Are before (read ++ left)
  pub left_are : Are after left
  pub next : NextIs (begun ++ read) kept after result
  pub exchange : ExchangeIs (begun ++ (read ++ left)) (kept ++ left) result
