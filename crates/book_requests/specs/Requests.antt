-- What a request asks.
use Rattle.std.specs.Prelude.{◌≡◌, ℕ, List, Option, Some, None, Result, IfSome, codes}
use Rattle.serde_json.specs.Data.{number, string, no_members, member, unsigned}
use Rattle.book_command.specs.declared.command.Command.{Command}
use Rattle.book_command.specs.declared.wire_error.WireError.{WireError}
use Rattle.book_http.specs.declared.next.Request.{Request}
use Rattle.book_http.specs.declared.route.Route.{Route}
use Rattle.book_http.specs.declared.route.Route.TheVariants as route
use Rattle.book_numerals.specs.Numerals.{number_of}
use Rattle.book_wire.specs.Asked.{Asked, NotCommand, LineAsks, asked_of_members, asked_of_result}

-- The command line of the word `status` asks this.
unfoldable pub asked_of_status : Asked
asked_of_status = asked_of_members (member (codes "do") (string (codes "status")) no_members)

-- The command line of this word with a day asks this.
unfoldable pub asked_of_day : List ℕ → List ℕ → Asked
asked_of_day word day =
    asked_of_members (member (codes "day") (string day) (member (codes "do") (string word) no_members))

-- The command line of the word `income` from one day to another asks this.
unfoldable pub asked_of_days : List ℕ → List ℕ → Asked
asked_of_days first last =
    asked_of_members
    (member (codes "do") (string (codes "income"))
    (member (codes "from") (string first) (member (codes "to") (string last) no_members)))

-- The command line of this word with the account of a number asks this; where no number is given, the member
-- `account` fails.
abbrev pub asked_of_number : List ℕ → Option ℕ → Asked
asked_of_number word (Some account) =
    asked_of_members
    (member (codes "account") (number (unsigned account)) (member (codes "do") (string word) no_members))
asked_of_number word None = NotCommand (codes "account")

-- The command line of this word with an account asks this. An account is named by a numeral.
unfoldable pub asked_of_account : List ℕ → List ℕ → Asked
asked_of_account word account = asked_of_number word (number_of account)

-- A route with this body asks this. For a command it is what the body asks as a line, whatever its bytes are and
-- however long it is; for the others it is what the command line of the word with the parameters of the target asks.
abbrev pub RouteAsks : Route → List ℕ → Asked → Type 0
RouteAsks route.Command body asked = LineAsks body asked
RouteAsks route.Status body asked = asked ≡ asked_of_status
RouteAsks (route.Trial day) body asked = asked ≡ asked_of_day (codes "trial") day
RouteAsks (route.Sheet day) body asked = asked ≡ asked_of_day (codes "sheet") day
RouteAsks (route.Income first last) body asked = asked ≡ asked_of_days first last
RouteAsks (route.Register account) body asked = asked ≡ asked_of_account (codes "register") account
RouteAsks (route.Lots account) body asked = asked ≡ asked_of_account (codes "lots") account

-- The one thing that a request asks.
abbrev pub RequestAsks : Request → Asked → Type 0
RequestAsks request asked = RouteAsks request.route request.body asked

-- A result says that this was asked; out of memory needs no cause.
abbrev pub HasAsked : Asked → Result Command WireError → Type 0
HasAsked asked result = IfSome (asked_of_result result) (λ found. found ≡ asked)

-- A result says what the request asks; out of memory needs no cause.
abbrev pub IsRequestRead : Request → Result Command WireError → Type 0
IsRequestRead request result = IfSome (asked_of_result result) (RequestAsks request)
