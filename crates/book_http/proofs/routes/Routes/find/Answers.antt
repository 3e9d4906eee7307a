use Rattle.std.proofs.Common.{◌∙◌, ◌<◌, sym, ap, subst, List, ℕ, get_or, arith}
use Rattle.std.proofs.lemmas.Result.{IfOk-weaker}
use Rattle.std.specs.Prelude.{option_map}
use Rattle.matchit.specs.Router.{RouteOf}
use Rattle.matchit.specs.Seek.{first}
use Rattle.book_http.specs.declared.route.RouteKind.{RouteKind}
use Rattle.book_http.specs.Route.{Finds}
use Rattle.book_http.specs.Routing.{all_routes}
use Rattle.book_http.proofs.RoutingLemmas.{finds, finds_none}
use Rattle.book_http.proofs.routes.Routes.find.Goals as goal

pub unreachable-requires : goal.unreachable-requires
unreachable-requires c = c.in_default.ensures.cases.0 c.requires

pub returns-in-Some : goal.returns-in-Some
returns-in-Some c =
    let low : (i : ℕ) → get_or c.args.target.now i 0 < 256 = λ i. omega (arith, c.type_inv.target i) in
    let same = c.in-Ok.ensures.cases.0 in
    IfOk-weaker c.route_of_kind.result _ _
    (λ found h. subst (λ (t : List ℕ). Finds t found) same
    (finds c.in-Ok.target.now c.in-Some.kind found
    (subst (λ (t : List ℕ). (i : ℕ) → get_or t i 0 < 256) (sym same) low)
    (sym c.kind_of.ensures ∙ c.in-Some.is) h)) c.route_of_kind.ensures

pub returns-in-None : goal.returns-in-None
returns-in-None c =
    let low : (i : ℕ) → get_or c.args.target.now i 0 < 256 = λ i. omega (arith, c.type_inv.target i) in
    let same = c.in-Ok.ensures.cases.0 in
    finds_none c.args.target.now low
    (ap (λ (t : List ℕ). option_map (λ (row : RouteOf RouteKind). row.value) (first all_routes t)) (sym same)
    ∙ sym c.kind_of.ensures ∙ c.in-None.is)
