-- What the router finds: the target of each route is found with that route's kind.
use Rattle.std.proofs.Common.{◌≡◌, ◌≢◌, ℕ, zero, suc, ◌+◌, ◌-◌, ◌<◌, ◌==◌, Bool, true, false, not, ◌&&◌, cond, List}
use Rattle.std.proofs.Common.{[], ◌∷◌}
use Rattle.std.proofs.Common.{◌++◌, length, get_or, Option, None, Some, refl, sym, ap, ◌∙◌, subst, arith, codes, drop}
use Rattle.std.proofs.Common.{nat_eq, inl, inr}
use Rattle.std.proofs.Common.{length-append}
use Rattle.std.specs.Prelude.{option_map, ltb}
use Rattle.std.specs.List.{list_all, ends_with}
use Rattle.std.proofs.lemmas.Bool.{lt-ltb}
use Rattle.std.proofs.lemmas.Bool.Decides.{eqb_tells}
use Rattle.std.proofs.Math.Seq.{drop-append-add}
use Rattle.std.specs.Cmp.Lexicographic.{pointwise}
use Rattle.matchit.specs.Seek.{seek, first, step, own, or_else, param_step, longest_suffix, segment, has_slash}
use Rattle.matchit.specs.Seek.{with_suffix, cuts}
use Rattle.matchit.specs.Router.{RouteOf}
use Rattle.matchit.specs.Route.{scan}
use Rattle.book_http.specs.declared.route.RouteKind.{RouteKind}
use Rattle.book_http.specs.declared.route.RouteKind.TheVariants as kind
use Rattle.book_http.specs.declared.route.Route.{Route}
use Rattle.book_http.specs.declared.route.Route.TheVariants.{Command, Status, Trial, Sheet, Income, Register, Lots}
use Rattle.book_http.specs.Route.{target_of, parameters_of, kind_of, is_parameter, is_parameter_byte, IsRoute}
use Rattle.book_http.specs.Route.{Finds, FindsOfKind}
use Rattle.book_http.specs.Routing.{RouteRows, all_routes}
use Rattle.book_http.proofs.RouteLemmas.{both_true, not_true, parameter_bytes}

abbrev Row : Type 0
Row = RouteOf RouteKind

abbrev Nowhere : RouteRows
Nowhere = []

or_none : (o : Option Row) → o ≡ None → (other : Option Row) → or_else o other ≡ other
or_none o e other = ap (λ x. or_else x other) e

-- no rows go on from none
param_step-nil : (path : List ℕ) → (param_step Nowhere path).1 ≡ []
unfolding param_step
param_step-nil path =
    let blocked : ℕ × RouteRows = (0, Nowhere) in
    let free : ℕ × RouteRows = (length path, Nowhere) in
    elim (has_slash path) as (λ t. (cond t blocked free).1 ≡ Nowhere) [ true ↦ refl | false ↦ refl ]

-- no rows, no route
seek-nil : (skip : ℕ) (path : List ℕ) → seek skip Nowhere path ≡ None
unfolding seek
seek-nil skip [] = refl
seek-nil (suc skip) (byte ∷ path) = seek-nil skip path
seek-nil zero (byte ∷ path) =
    let next = param_step Nowhere (byte ∷ path) in
    or_none (seek 0 Nowhere path) (seek-nil 0 path) _
    ∙ or_none (seek (next.0 - 1) next.1 path)
    (ap (λ (rows : RouteRows). seek (next.0 - 1) rows path) (param_step-nil (byte ∷ path))
    ∙ seek-nil (next.0 - 1) path) None

-- a walk that skips a part of the path
seek-skip : (skipped path : List ℕ) (rows : RouteRows) → seek (length skipped) rows (skipped ++ path) ≡ seek 0 rows path
unfolding seek
seek-skip [] path rows = refl
seek-skip (byte ∷ skipped) path rows = seek-skip skipped path rows

-- a walk that skips all of the path
seek-end : (path : List ℕ) (rows : RouteRows) → seek (length path) rows path ≡ own rows
unfolding seek
seek-end [] rows = refl
seek-end (byte ∷ path) rows = seek-end path rows

seek-own : (rows : RouteRows) → seek 0 rows [] ≡ own rows
unfolding seek
seek-own rows = refl

-- a byte of the path that stands for itself in a route
seek-step : (byte : ℕ) (rows : RouteRows) (path : List ℕ) (r : Row) → seek 0 (step byte rows) path ≡ Some r
    → seek 0 rows (byte ∷ path) ≡ Some r
unfolding seek
seek-step byte rows path r e =
    let wild = param_step (step 256 rows) (byte ∷ path) in
    ap (λ o. or_else o (or_else (seek (wild.0 - 1) wild.1 path) (own (step 257 rows)))) e

-- the rows that go on with these bytes
abbrev steps : List ℕ → RouteRows → RouteRows
steps [] rows = rows
steps (byte ∷ more) rows = steps more (step byte rows)

seek-steps : (front path : List ℕ) (rows : RouteRows) (r : Row) → seek 0 (steps front rows) path ≡ Some r
    → seek 0 rows (front ++ path) ≡ Some r
seek-steps [] path rows r e = e
seek-steps (byte ∷ more) path rows r e = seek-step byte rows (more ++ path) r
    (seek-steps more path (step byte rows) r e)

-- each byte is below 256
pub Small : List ℕ → Type 0
Small bytes = (i : ℕ) → get_or bytes i 0 < 256

pub small : (bytes : List ℕ) → ((i : ℕ) → get_or bytes i 0 < 256) → Small bytes
unfolding Small
small bytes h = h

small-behind : (front bytes : List ℕ) → Small (front ++ bytes) → Small bytes
unfolding Small
small-behind [] bytes h = h
small-behind (byte ∷ front) bytes h = small-behind front bytes (λ i. h (suc i))

unequal : (a b : ℕ) → a ≢ b → (a == b) ≡ false
unequal a b h = elim (eqb_tells a b) [ inl t ↦ absurd (h t.1) | inr t ↦ t.0 ]

small_first : (byte : ℕ) (more : List ℕ) → Small (byte ∷ more) → (256 == byte) ≡ false
unfolding Small
small_first byte more h =
    let low : byte < 256 = h 0 in
    unequal 256 byte (λ e. absurd (omega arith))

-- a parameter has no slash
no_slash : (bytes : List ℕ) → list_all is_parameter_byte bytes ≡ true → has_slash bytes ≡ false
no_slash [] h = refl
no_slash (byte ∷ more) h =
    let parts = both_true (is_parameter_byte byte) (list_all is_parameter_byte more) h in
    let here = both_true (not (byte == 47)) (not (byte == 63)) parts.0 in
    ap (λ t. cond t true (has_slash more)) (not_true (byte == 47) here.0) ∙ no_slash more parts.1

-- a part before a slash
segment-front : (bytes rest : List ℕ) → list_all is_parameter_byte bytes ≡ true
    → segment (bytes ++ 47 ∷ rest) ≡ bytes ++ 47 ∷ []
segment-front [] rest h = refl
segment-front (byte ∷ more) rest h =
    let parts = both_true (is_parameter_byte byte) (list_all is_parameter_byte more) h in
    let here = both_true (not (byte == 47)) (not (byte == 63)) parts.0 in
    ap (λ t. cond t (byte ∷ []) (byte ∷ segment (more ++ 47 ∷ rest))) (not_true (byte == 47) here.0)
    ∙ ap (λ l. byte ∷ l) (segment-front more rest parts.1)

no_bytes : {P : Type 0} → is_parameter [] ≡ true → P
no_bytes h = absurd (let e : false ≡ true = h in cc)

-- the parameter at the end of a route
last_parameter : (r : Row) (bytes : List ℕ) → Small bytes → is_parameter bytes ≡ true
    → seek 0 ((256 ∷ [], r) ∷ []) bytes ≡ Some r
unfolding seek param_step
last_parameter r [] low h = no_bytes h
last_parameter r (byte ∷ more) low h =
    let rows : RouteRows = (256 ∷ [], r) ∷ [] in
    let left : RouteRows = ([], r) ∷ [] in
    let whole = byte ∷ more in
    let blocked : ℕ × RouteRows = (0, []) in
    let free : ℕ × RouteRows = (length whole, left) in
    let size : length whole - 1 ≡ length more = omega arith in
    or_none (seek 0 (step byte rows) more)
    (ap (λ t. seek 0 (cond t left []) more) (small_first byte more low) ∙ seek-nil 0 more) _
    ∙ ap (λ t. or_else (seek ((cond t blocked free).0 - 1) (cond t blocked free).1 more) None)
    (no_slash whole (parameter_bytes whole h))
    ∙ ap (λ n. or_else (seek n left more) None) size
    ∙ ap (λ o. or_else o None) (seek-end more left)

-- the slash ends the part before it
cuts-front : (byte : ℕ) (more : List ℕ) → cuts ((byte ∷ more) ++ 47 ∷ []) (47 ∷ []) ≡ true
cuts-front byte more =
    let seg = (byte ∷ more) ++ 47 ∷ [] in
    let long : length seg ≡ length more + 2 = omega (arith, length-append (byte ∷ more) (47 ∷ [])) in
    let behind : drop (length seg - 1) seg ≡ 47 ∷ [] =
    ap (λ n. drop n seg) (let e : length seg - 1 ≡ length (byte ∷ more) + 0 = omega arith in e)
    ∙ drop-append-add (byte ∷ more) (47 ∷ []) 0 in
    ap (λ t. t && ends_with nat_eq seg (47 ∷ [])) (lt-ltb 1 (length seg) (omega arith))
    ∙ ap (λ l. pointwise nat_eq (47 ∷ []) l) behind

-- the first of two parameters
first_parameter : (r : Row) (bytes last : List ℕ) → Small (bytes ++ 47 ∷ last) → is_parameter bytes ≡ true
    → is_parameter last ≡ true → seek 0 ((256 ∷ 47 ∷ 256 ∷ [], r) ∷ []) (bytes ++ 47 ∷ last) ≡ Some r
unfolding seek param_step
first_parameter r [] last low h k = no_bytes h
first_parameter r (byte ∷ more) last low h k =
    let rows : RouteRows = (256 ∷ 47 ∷ 256 ∷ [], r) ∷ [] in
    let left : RouteRows = (47 ∷ 256 ∷ [], r) ∷ [] in
    let rest = more ++ 47 ∷ last in
    let path = byte ∷ rest in
    let seg = segment path in
    let seg_is : seg ≡ (byte ∷ more) ++ 47 ∷ [] = segment-front (byte ∷ more) last (parameter_bytes (byte ∷ more) h) in
    let suffix : longest_suffix seg left ≡ 47 ∷ [] =
    ap (λ t. cond (true && t) (47 ∷ []) []) (ap (λ l. cuts l (47 ∷ [])) seg_is ∙ cuts-front byte more) in
    let other : ℕ × RouteRows = cond (has_slash path) (0, []) (length path, left) in
    let wild : param_step left path ≡ (length seg - 1, left) =
    ap (λ l. cond (ltb 0 (length l)) (length seg - length l, with_suffix l left) other) suffix in
    let size : (length seg - 1) - 1 ≡ length more =
    omega (arith, ap length seg_is, length-append (byte ∷ more) (47 ∷ [])) in
    or_none (seek 0 (step byte rows) rest)
    (ap (λ t. seek 0 (cond t left []) rest) (small_first byte rest low) ∙ seek-nil 0 rest) _
    ∙ ap (λ (w : ℕ × RouteRows). or_else (seek (w.0 - 1) w.1 rest) None) wild
    ∙ ap (λ n. or_else (seek n left rest) None) size
    ∙ ap (λ o. or_else o None)
    (seek-skip more (47 ∷ last) left
    ∙ seek-step 47 left last r
    (last_parameter r last (small-behind (47 ∷ []) last (small-behind (byte ∷ more) (47 ∷ last) low)) k))

-- the row that is left
abbrev row_of : RouteRows → Row
row_of [] = record { pattern = []; text = []; names = []; value = kind.Command }
row_of (row ∷ more) = row.1

found : (front path : List ℕ) (r : Row) → seek 0 (steps front all_routes) path ≡ Some r
    → option_map (λ row. row.value) (first all_routes (front ++ path)) ≡ Some r.value
found front path r e = ap (option_map (λ (row : Row). row.value)) (seek-steps front path all_routes r e)

one_true : (a : Bool) → (a && true) ≡ true → a ≡ true
one_true true h = h
one_true false h = h

-- the target of a route is found with its kind
kind_found : (route : Route) → list_all is_parameter (parameters_of route) ≡ true → Small (target_of route)
    → option_map (λ row. row.value) (first all_routes (target_of route)) ≡ Some (kind_of route)
unfolding all_routes scan
kind_found Command h low =
    let front = codes "/command" in
    found front [] (row_of (steps front all_routes)) (seek-own (steps front all_routes))
kind_found Status h low =
    let front = codes "/status" in
    found front [] (row_of (steps front all_routes)) (seek-own (steps front all_routes))
kind_found (Trial day) h low =
    let front = codes "/trial/" in
    let r = row_of (steps front all_routes) in
    found front day r (last_parameter r day (small-behind front day low) (one_true (is_parameter day) h))
kind_found (Sheet day) h low =
    let front = codes "/sheet/" in
    let r = row_of (steps front all_routes) in
    found front day r (last_parameter r day (small-behind front day low) (one_true (is_parameter day) h))
kind_found (Income from to) h low =
    let front = codes "/income/" in
    let r = row_of (steps front all_routes) in
    let parts = both_true (is_parameter from) (is_parameter to && true) h in
    found front (from ++ 47 ∷ to) r
    (first_parameter r from to (small-behind front (from ++ 47 ∷ to) low) parts.0 (one_true (is_parameter to) parts.1))
kind_found (Register account) h low =
    let front = codes "/register/" in
    let r = row_of (steps front all_routes) in
    found front account r
    (last_parameter r account (small-behind front account low) (one_true (is_parameter account) h))
kind_found (Lots account) h low =
    let front = codes "/lots/" in
    let r = row_of (steps front all_routes) in
    found front account r
    (last_parameter r account (small-behind front account low) (one_true (is_parameter account) h))

-- what the router finds for the target of a route
pub found_kind : (target : List ℕ) (route : Route) → ((i : ℕ) → get_or target i 0 < 256) → IsRoute target route
    → option_map (λ row. row.value) (first all_routes target) ≡ Some (kind_of route)
unfolding Small
found_kind target route low is =
    ap (λ t. option_map (λ (row : Row). row.value) (first all_routes t)) is.target_is
    ∙ kind_found route is.parameters (subst (λ (t : List ℕ). (i : ℕ) → get_or t i 0 < 256) is.target_is low)

-- what was found of the kind that the router finds is what the target has
pub finds : (target : List ℕ) (kind : RouteKind) (found : Option Route) → ((i : ℕ) → get_or target i 0 < 256)
    → option_map (λ row. row.value) (first all_routes target) ≡ Some kind → FindsOfKind target kind found
    → Finds target found
finds target kind (Some route) low e h = h.0
finds target kind None low e h = λ route is.
    h route is (let same : Some (kind_of route) ≡ Some kind = sym (found_kind target route low is) ∙ e in cc)

-- where the router finds none, the target has no route
pub finds_none : (target : List ℕ) → ((i : ℕ) → get_or target i 0 < 256)
    → option_map (λ row. row.value) (first all_routes target) ≡ None → Finds target None
finds_none target low e = λ route is.
    let same : Some (kind_of route) ≡ None = sym (found_kind target route low is) ∙ e in absurd (cc)
