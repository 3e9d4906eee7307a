use Rattle.std.proofs.Common.{◌∙◌, ap, codes}
use Rattle.book_http.specs.declared.route.RouteKind.TheVariants.{Command, Status, Trial, Sheet, Income, Register, Lots}
use Rattle.book_http.specs.Routing.{all_routes, with_route}
use Rattle.book_http.proofs.routes.make_router.Goals as goal

pub returns : goal.returns
unfolding all_routes
returns c =
    c.in_ok-add-7.ensures ∙ ap (with_route (codes "/lots/{account}") Lots)
    (c.in_ok-add-6.ensures ∙ ap (with_route (codes "/register/{account}") Register)
    (c.in_ok-add-5.ensures ∙ ap (with_route (codes "/income/{from}/{to}") Income)
    (c.in_ok-add-4.ensures ∙ ap (with_route (codes "/sheet/{day}") Sheet)
    (c.in_ok-add-3.ensures ∙ ap (with_route (codes "/trial/{day}") Trial)
    (c.in_ok-add-2.ensures ∙ ap (with_route (codes "/status") Status)
    (c.in_ok-add.ensures ∙ ap (with_route (codes "/command") Command) c.new-router.ensures))))))
