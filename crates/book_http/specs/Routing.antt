-- The routes as the rows of a router.
use Rattle.std.specs.Prelude.{ℕ, List, [], Result, Ok, Err, codes}
use Rattle.matchit.specs.Rows.{RowsOf}
use Rattle.matchit.specs.Router.{RouteOf, route_from}
use Rattle.matchit.specs.Order.{placed}
use Rattle.matchit.specs.Route.{Scan, parse_route}
use Rattle.matchit.specs.declared.error.InsertError.{InsertError}
use Rattle.book_http.specs.declared.route.RouteKind.{RouteKind}
use Rattle.book_http.specs.declared.route.RouteKind.TheVariants.{Command, Status, Trial, Sheet, Income, Register, Lots}

-- The rows of a router of routes.
abbrev pub RouteRows : Type 0
RouteRows = RowsOf (RouteOf RouteKind)

-- The rows with a route that was read, in its place.
abbrev pub with_read : Result Scan InsertError → RouteKind → RouteRows → RouteRows
with_read (Ok scan) kind rows = placed (scan.pattern, route_from scan kind) rows
with_read (Err error) kind rows = rows

-- The rows with the route that this text writes.
abbrev pub with_route : List ℕ → RouteKind → RouteRows → RouteRows
with_route text kind rows = with_read (parse_route text) kind rows

-- The seven routes.
unfoldable pub all_routes : RouteRows
all_routes =
    with_route (codes "/lots/{account}") Lots
    (with_route (codes "/register/{account}") Register
    (with_route (codes "/income/{from}/{to}") Income
    (with_route (codes "/sheet/{day}") Sheet
    (with_route (codes "/trial/{day}") Trial
    (with_route (codes "/status") Status
    (with_route (codes "/command") Command []))))))
