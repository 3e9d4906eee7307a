use Rattle.book_http.proofs.RouteLemmas.{unsplit, split_is, unlike}
use Rattle.book_http.proofs.route.two_parameters.Goals as goal

-- no slash
pub returns-in_default-clause-none : goal.returns-in_default-clause-none
returns-in_default-clause-none c first last e p q =
    unsplit c.args.text.now c.split_once.result c.split_once.ensures.cases c.in_default.is first last e p

-- what stands before it is no parameter
pub returns-in_default-2-clause-none : goal.returns-in_default-2-clause-none
returns-in_default-2-clause-none c first last e p q =
    let same = split_is c.args.text.now c.split_once.result _ c.split_once.ensures.cases c.in-Some.is first last e p in
    unlike c.in-Some.first.now first (rw c.in_default-2.is at c.in_ok-first.ensures.none) same.0 p

-- what stands behind it is none
pub returns-in-None-clause-none : goal.returns-in-None-clause-none
returns-in-None-clause-none c first last e p q =
    let same = split_is c.args.text.now c.split_once.result _ c.split_once.ensures.cases c.in-Some.is first last e p in
    unlike c.in-Some.last.now last (rw c.in-None.is at c.in_ok-last.ensures.none) same.1 q
