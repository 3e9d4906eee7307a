-- The routes: the targets that a request may have. The whole target is compared, so one with a question mark has none.
use Rattle.std.specs.Prelude.{◌≡◌, ℕ, ◌==◌, Bool, true, false, not, ◌&&◌, List, [], ◌∷◌, ◌++◌, length}
use Rattle.std.specs.Prelude.{Option, Some, None, codes}
use Rattle.std.specs.List.{list_all}
use Rattle.book_http.specs.declared.route.Route.{Route}
use Rattle.book_http.specs.declared.route.Route.TheVariants.{Command, Status, Trial, Sheet, Income, Register, Lots}
use Rattle.book_http.specs.declared.route.RouteKind.{RouteKind}
use Rattle.book_http.specs.declared.route.RouteKind.TheVariants as kind

-- The target of a route, with its parameters in it.
abbrev pub target_of : Route → List ℕ
target_of Command = codes "/command"
target_of Status = codes "/status"
target_of (Trial day) = codes "/trial/" ++ day
target_of (Sheet day) = codes "/sheet/" ++ day
target_of (Income first last) = codes "/income/" ++ (first ++ 47 ∷ last)
target_of (Register account) = codes "/register/" ++ account
target_of (Lots account) = codes "/lots/" ++ account

-- The parameters of a route.
abbrev pub parameters_of : Route → List (List ℕ)
parameters_of Command = []
parameters_of Status = []
parameters_of (Trial day) = day ∷ []
parameters_of (Sheet day) = day ∷ []
parameters_of (Income first last) = first ∷ last ∷ []
parameters_of (Register account) = account ∷ []
parameters_of (Lots account) = account ∷ []

-- The route without its parameters.
abbrev pub kind_of : Route → RouteKind
kind_of Command = kind.Command
kind_of Status = kind.Status
kind_of (Trial day) = kind.Trial
kind_of (Sheet day) = kind.Sheet
kind_of (Income first last) = kind.Income
kind_of (Register account) = kind.Register
kind_of (Lots account) = kind.Lots

-- A byte of a parameter: no slash and no question mark.
abbrev pub is_parameter_byte : ℕ → Bool
is_parameter_byte byte = not (byte == 47) && not (byte == 63)

-- A parameter has at least one byte.
abbrev pub is_parameter : List ℕ → Bool
is_parameter bytes = not (length bytes == 0) && list_all is_parameter_byte bytes

-- The target is that of the route.
pub record IsRoute (target : List ℕ) (route : Route) : Type 0 where
  pub target_is : target ≡ target_of route
  pub parameters : list_all is_parameter (parameters_of route) ≡ true

-- The route that a target has, or that it has none.
abbrev pub Finds : List ℕ → Option Route → Type 0
Finds target (Some route) = IsRoute target route
Finds target None = (route : Route) → ¬ (IsRoute target route)

-- The route of this kind that a target has, or that it has none of this kind.
abbrev pub FindsOfKind : List ℕ → RouteKind → Option Route → Type 0
FindsOfKind target kind (Some route) = IsRoute target route × (kind_of route ≡ kind)
FindsOfKind target kind None = (route : Route) → IsRoute target route → kind_of route ≡ kind → ⊥

-- A route takes a command in the body.
abbrev pub takes_body : RouteKind → Bool
takes_body kind.Command = true
takes_body kind.Status = false
takes_body kind.Trial = false
takes_body kind.Sheet = false
takes_body kind.Income = false
takes_body kind.Register = false
takes_body kind.Lots = false
