-- Which heads are refused, and with which status (RFC 9112, sections 3 and 6; RFC 9110, section 15).
use Rattle.std.specs.Prelude.{◌≡◌, ℕ, ◌^◌, ◌==◌, nat_lt, Bool, true, false, not, ◌&&◌, ◌||◌, ◌⊎◌, List, [], ◌∷◌}
use Rattle.std.specs.Prelude.{length, map}
use Rattle.std.specs.Prelude.{Option, Some, None, if◌then◌else◌, codes}
use Rattle.std.specs.Str.{bytes_eq}
use Rattle.httparse.specs.Grammar.{RequestHead}
use Rattle.httparse.specs.Spans.{name_and_value}
use Rattle.book_commodity.specs.Rules.{broken_where, first_broken}
use Rattle.book_http.specs.declared.fields.BodyLength.{BodyLength}
use Rattle.book_http.specs.declared.fields.BodyLength.TheVariants.{Absent, Given, Broken}
use Rattle.book_http.specs.declared.fields.Fields.{Fields}
use Rattle.book_http.specs.declared.route.Route.{Route}
use Rattle.book_http.specs.Route.{IsRoute, Finds, kind_of, takes_body}
use Rattle.book_http.specs.Fields.{said}

-- What the fields of a head say.
abbrev pub said_by : RequestHead → Fields
said_by head = said (map name_and_value head.fields)

-- The size of a body of this length; a body of no length is empty.
abbrev pub size_of : BodyLength → ℕ
size_of Absent = 0
size_of (Given size) = size
size_of Broken = 0

-- The size of the body behind a head.
abbrev pub body_size : RequestHead → ℕ
body_size head = size_of (said_by head).length

-- The length is said in another form, or more than once.
abbrev pub is_broken : BodyLength → Bool
is_broken Absent = false
is_broken (Given size) = false
is_broken Broken = true

-- No length is said.
abbrev pub is_absent : BodyLength → Bool
is_absent Absent = true
is_absent (Given size) = false
is_absent Broken = false

-- The method is that of the route: POST for a command, GET for the others.
abbrev pub has_method : List ℕ → Route → Bool
has_method method route = bytes_eq method (if takes_body (kind_of route) then codes "POST" else codes "GET")

-- The refusals by the fields, in their order: more than 64 of them; an encoding of the body; a length of another form,
-- or two; a body of more than 8 MiB.
abbrev pub field_refusals : ℕ → Fields → List (Option ℕ)
field_refusals count fields =
    broken_where (nat_lt 64 count) 431
    ∷ broken_where fields.encoded 501
    ∷ broken_where (is_broken fields.length) 400
    ∷ broken_where (nat_lt (2 ^ 23) (size_of fields.length)) 413
    ∷ []

-- The refusals by the route, in their order: there is none; it has another method; it takes a body of which no length
-- is given.
abbrev pub route_refusals : List ℕ → BodyLength → Option Route → List (Option ℕ)
route_refusals method length None = Some 404 ∷ []
route_refusals method length (Some route) =
    broken_where (not (has_method method route)) 405
    ∷ broken_where (takes_body (kind_of route) && is_absent length) 411
    ∷ []

-- The first refusal of a head by its fields.
abbrev pub refused_by_fields : RequestHead → Option ℕ
refused_by_fields head = first_broken (field_refusals (length head.fields) (said_by head))

-- The first refusal of a head by its route.
abbrev pub refused_by_route : RequestHead → Option Route → Option ℕ
refused_by_route head found = first_broken (route_refusals head.method (said_by head).length found)

-- A head is refused with this status: the first refusal by its fields, or else by its route.
abbrev pub IsRefusedHead : RequestHead → ℕ → Type 0
IsRefusedHead head status = (refused_by_fields head ≡ Some status)
    ⊎ ((refused_by_fields head ≡ None)
    × (found : Option Route) × Finds head.target found × (refused_by_route head found ≡ Some status))

-- A head is accepted: it has this route, and nothing refuses it.
pub record IsAcceptedHead (head : RequestHead) (route : Route) : Type 0 where
  pub fields : refused_by_fields head ≡ None
  pub has_route : IsRoute head.target route
  pub by_route : refused_by_route head (Some route) ≡ None

-- The link closes after the answer: the request is of HTTP/1.0, or it asks for it.
abbrev pub closes : RequestHead → Bool
closes head = (head.minor == 0) || (said_by head).close
