-- Statuses of refusals, and the responses that take no memory.
use Rattle.std.proofs.Common.{◌≡◌, ℕ, Bool, true, false, List, [], ◌∷◌, ◌++◌, Option, Some, None, refl, sym, subst}
use Rattle.std.proofs.Common.{IsTrue, codes}
use Rattle.std.proofs.Common.{length, not, ◌&&◌, nat_lt, ◌^◌, inl, inr}
use Rattle.std.specs.Fmt.{digits}
use Rattle.std.specs.Prelude.{⊤}
use Rattle.book_commodity.specs.Rules.{broken_where, first_broken}
use Rattle.book_lines.specs.Marks.{memory_answer, keeper_answer}
use Rattle.book_http.specs.declared.route.Route.{Route}
use Rattle.book_http.specs.declared.fields.BodyLength.{BodyLength}
use Rattle.book_http.specs.declared.fields.Fields.{Fields}
use Rattle.book_http.specs.Route.{kind_of, takes_body}
use Rattle.book_http.specs.Head.{said_by, size_of, is_broken, is_absent, has_method, field_refusals}
use Rattle.book_http.specs.Head.{route_refusals}
use Rattle.book_http.specs.Exchange.{IsRefused}
use Rattle.book_http.specs.Response.{phrase, response, is_answered}

-- ---- the responses that say why there is none

pub memory_open : response 507 memory_answer false
    ≡ codes "HTTP/1.1 507 Insufficient Storage\r\n"
    ++ codes "Content-Type: application/json\r\nContent-Length: 20\r\n\r\n{\"refused\":\"memory\"}"
unfolding phrase memory_answer digits
memory_open = refl

pub memory_last : response 507 memory_answer true
    ≡ codes "HTTP/1.1 507 Insufficient Storage\r\n"
    ++ codes "Content-Type: application/json\r\nContent-Length: 20\r\nConnection: close\r\n\r\n{\"refused\":\"memory\"}"
unfolding phrase memory_answer digits
memory_last = refl

pub keeper_open : response 503 keeper_answer false
    ≡ codes "HTTP/1.1 503 Service Unavailable\r\n"
    ++ codes "Content-Type: application/json\r\nContent-Length: 20\r\n\r\n{\"refused\":\"keeper\"}"
unfolding phrase keeper_answer digits
keeper_open = refl

pub keeper_last : response 503 keeper_answer true
    ≡ codes "HTTP/1.1 503 Service Unavailable\r\n"
    ++ codes "Content-Type: application/json\r\nContent-Length: 20\r\nConnection: close\r\n\r\n{\"refused\":\"keeper\"}"
unfolding phrase keeper_answer digits
keeper_last = refl

-- ---- the statuses of refusals

-- The statuses of these rules are such as are answered.
AreAnswered : List (Option ℕ) → Type 0
AreAnswered [] = ⊤
AreAnswered (None ∷ more) = AreAnswered more
AreAnswered (Some status ∷ more) = IsTrue (is_answered status) × AreAnswered more

none_is : (n : ℕ) → None ≡ Some n → ⊥
none_is n h = absurd cc

some_is : (one other : ℕ) → Some one ≡ Some other → one ≡ other
some_is one other h = cc

-- so is the first of them
first_answered : (rules : List (Option ℕ)) (status : ℕ) → AreAnswered rules → first_broken rules ≡ Some status
    → IsTrue (is_answered status)
unfolding AreAnswered
first_answered [] status all h = absurd (none_is status h)
first_answered (None ∷ more) status all h = first_answered more status all h
first_answered (Some one ∷ more) status all h = subst (λ n. IsTrue (is_answered n)) (some_is one status h) all.0

-- a rule that is broken or not, in front of others
rule_answered : (test : Bool) (status : ℕ) (more : List (Option ℕ)) → IsTrue (is_answered status) → AreAnswered more
    → AreAnswered (broken_where test status ∷ more)
unfolding AreAnswered
rule_answered true status more is all = (is, all)
rule_answered false status more is all = all

fields_answered : (count : ℕ) (fields : Fields) → AreAnswered (field_refusals count fields)
unfolding AreAnswered
fields_answered count fields =
    rule_answered (nat_lt 64 count) 431 _ refl
    (rule_answered fields.encoded 501 _ refl
    (rule_answered (is_broken fields.length) 400 _ refl
    (rule_answered (nat_lt (2 ^ 23) (size_of fields.length)) 413 [] refl tt)))

route_answered : (method : List ℕ) (length : BodyLength) (found : Option Route)
    → AreAnswered (route_refusals method length found)
unfolding AreAnswered
route_answered method length None = (refl, tt)
route_answered method length (Some route) =
    rule_answered (not (has_method method route)) 405 _ refl
    (rule_answered (takes_body (kind_of route) && is_absent length) 411 [] refl tt)

-- a refusal has a status of an answer
pub refused_answered : (bytes : List ℕ) (status : ℕ) → IsRefused bytes status → IsTrue (is_answered status)
refused_answered bytes status is = elim is [
  | inl head ↦ elim head.refused [
    | inl fields ↦
        first_answered (field_refusals (length head.head.fields) (said_by head.head)) status
        (fields_answered (length head.head.fields) (said_by head.head)) fields
    | inr route ↦
        first_answered (route_refusals head.head.method (said_by head.head).length route.1) status
        (route_answered head.head.method (said_by head.head).length route.1) route.3
  ]
  | inr other ↦ elim other [
    | inl never ↦ subst (λ n. IsTrue (is_answered n)) (sym never.0) refl
    | inr long ↦ subst (λ n. IsTrue (is_answered n)) (sym long.0) refl
  ]
]
