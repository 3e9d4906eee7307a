use Rattle.std.proofs.Common.{◌∙◌, sym, refl, subst, Option, None, Some, List, ℕ}
use Rattle.book_http.specs.declared.route.Route.{Route}
use Rattle.book_http.specs.declared.judgement.Judgement.{Judgement}
use Rattle.book_http.specs.Route.{Finds}
use Rattle.book_http.specs.Judgement.{IsJudgedHead}
use Rattle.book_http.proofs.HeadLemmas.{reading, refused_fields, refused_routeless, refused_route, accepted}
use Rattle.book_http.proofs.head.judge_head.Goals as goal

-- the fields refuse it
pub returns-in-Err : goal.returns-in-Err
returns-in-Err c head is =
    let read = reading c.args.window.now c.args.spans.now c.args.found.now head c.read_fields-fields.result is
    c.requires.within.section.count_fits c.read_fields-fields.ensures in
    refused_fields head c.args.found.now.headers c.read_fields-fields.result c.in-Err.status read
    c.in-Err.ensures.refused

-- it has no route
pub returns-in_default : goal.returns-in_default
returns-in_default c head is =
    let read = reading c.args.window.now c.args.spans.now c.args.found.now head c.read_fields-fields.result is
    c.requires.within.section.count_fits c.read_fields-fields.ensures in
    let none = subst (λ (found : Option Route). Finds c.of.result.now found) c.in_default.is c.in_ok-route.ensures in
    refused_routeless head c.args.found.now.headers c.read_fields-fields.result read c.in-Ok.ensures.refused
    (subst (λ (t : List ℕ). Finds t None) (c.of.ensures ∙ is.path) none)

-- the route refuses it
pub returns-in-Err-refuse_by_route : goal.returns-in-Err-refuse_by_route
returns-in-Err-refuse_by_route c head is =
    let read = reading c.args.window.now c.args.spans.now c.args.found.now head c.read_fields-fields.result is
    c.requires.within.section.count_fits c.read_fields-fields.ensures in
    let found = subst (λ (found : Option Route). Finds c.of.result.now found) c.in-Some.is c.in_ok-route.ensures in
    let refused = refused_route head c.args.found.now.headers c.read_fields-fields.result c.of-2.result.now
    c.in-Some.route
    c.in-Err-refuse_by_route.status read c.in-Ok.ensures.refused
    (subst (λ (t : List ℕ). Finds t (Some c.in-Some.route)) (c.of.ensures ∙ is.path) found) (c.of-2.ensures ∙ is.method)
    c.in-Err-refuse_by_route.ensures in
    subst (λ (j : Judgement). IsJudgedHead head c.args.found.now.len j) (sym c.discard.ensures) refused

-- nothing refuses it
pub returns-in-Ok-refuse_by_route : goal.returns-in-Ok-refuse_by_route
returns-in-Ok-refuse_by_route c head is =
    let read = reading c.args.window.now c.args.spans.now c.args.found.now head c.read_fields-fields.result is
    c.requires.within.section.count_fits c.read_fields-fields.ensures in
    let found = subst (λ (found : Option Route). Finds c.of.result.now found) c.in-Some.is c.in_ok-route.ensures in
    accepted head c.args.found.now.headers c.read_fields-fields.result c.of-2.result.now c.args.found.now.len
    c.args.found.now.version _ read c.in-Ok.ensures.refused
    (subst (λ (t : List ℕ). Finds t (Some c.in-Some.route)) (c.of.ensures ∙ is.path) found) (c.of-2.ensures ∙ is.method)
    c.in-Ok-refuse_by_route.ensures refl c.in-Ok.ensures.size c.in-Ok.ensures.few is.version c.closes.ensures
