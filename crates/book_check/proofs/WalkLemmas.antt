-- Tables that are gone through from place to place.
use Rattle.std.proofs.Common.{◌≡◌, ℕ, ◌+◌, ◌<◌, ◌≤◌, nat_lt, not, Bool, true, false, ◌&&◌, if◌then◌else◌}
use Rattle.std.proofs.Common.{List}
use Rattle.std.proofs.Common.{drop, option_map, Some, slice_get, refl, sym, ap, ◌∙◌, arith}
use Rattle.std.proofs.lemmas.Bool.Decides.{nat_tests}
use Rattle.book_commodity.proofs.ListLemmas.{drop_at, mapped_some}
use Rattle.book_check.specs.FirstUnsound.{all_hold, first_in}

-- ---- where things are weighed
weighed :
    {T : Type 0} (rules : ℕ → T → List Bool) (most : ℕ) (weight : T → ℕ) (heaviest place sum n : ℕ) (v : T)
    (es : List (ℕ × T)) → slice_get es place ≡ Some (n, v)
    → first_in rules most weight heaviest place sum (drop place es)
    ≡ (if nat_lt place most && (not (nat_lt heaviest (sum + weight v)) && all_hold (rules n v))
    then first_in rules most weight heaviest (place + 1) (sum + weight v) (drop (place + 1) es) else Some n)
weighed rules most weight heaviest place sum n v es there =
    ap (first_in rules most weight heaviest place sum) (drop_at es place (n, v) there)

if_false : {X : Type 0} (b : Bool) (x y : X) → b ≡ false → (if b then x else y) ≡ y
if_false true x y e = absurd cc
if_false false x y e = refl

if_true : {X : Type 0} (b : Bool) (x y : X) → b ≡ true → (if b then x else y) ≡ x
if_true true x y e = refl
if_true false x y e = absurd cc

front_fails : (a b c : Bool) → (a && b) ≡ false → (a && (b && c)) ≡ false
front_fails true true c e = absurd cc
front_fails true false c e = refl
front_fails false b c e = refl

last_fails : (a b c : Bool) → c ≡ false → (a && (b && c)) ≡ false
last_fails true true c e = e
last_fails true false c e = refl
last_fails false b c e = refl

all_pass : (a b c : Bool) → (a && b) ≡ true → c ≡ true → (a && (b && c)) ≡ true
all_pass true true c e f = f
all_pass true false c e f = absurd cc
all_pass false b c e f = absurd cc

-- the entry at a place goes past a limit, or breaks a rule: so it is the first
pub weighed_past :
    {T : Type 0} (rules : ℕ → T → List Bool) (most : ℕ) (weight : T → ℕ) (heaviest place sum n : ℕ) (v : T)
    (es : List (ℕ × T)) → slice_get es place ≡ Some (n, v)
    → (nat_lt place most && not (nat_lt heaviest (sum + weight v))) ≡ false
    → first_in rules most weight heaviest place sum (drop place es) ≡ Some n
weighed_past rules most weight heaviest place sum n v es there past =
    weighed rules most weight heaviest place sum n v es there
    ∙ if_false (nat_lt place most && (not (nat_lt heaviest (sum + weight v)) && all_hold (rules n v)))
    (first_in rules most weight heaviest (place + 1) (sum + weight v) (drop (place + 1) es)) (Some n)
    (front_fails (nat_lt place most) (not (nat_lt heaviest (sum + weight v))) (all_hold (rules n v)) past)

pub weighed_fails :
    {T : Type 0} (rules : ℕ → T → List Bool) (most : ℕ) (weight : T → ℕ) (heaviest place sum n : ℕ) (v : T)
    (es : List (ℕ × T)) → slice_get es place ≡ Some (n, v) → all_hold (rules n v) ≡ false
    → first_in rules most weight heaviest place sum (drop place es) ≡ Some n
weighed_fails rules most weight heaviest place sum n v es there fails =
    weighed rules most weight heaviest place sum n v es there
    ∙ if_false (nat_lt place most && (not (nat_lt heaviest (sum + weight v)) && all_hold (rules n v)))
    (first_in rules most weight heaviest (place + 1) (sum + weight v) (drop (place + 1) es)) (Some n)
    (last_fails (nat_lt place most) (not (nat_lt heaviest (sum + weight v))) (all_hold (rules n v)) fails)

-- or it keeps its rules, and the first is behind it
pub weighed_keeps :
    {T : Type 0} (rules : ℕ → T → List Bool) (most : ℕ) (weight : T → ℕ) (heaviest place sum n : ℕ) (v : T)
    (es : List (ℕ × T)) → slice_get es place ≡ Some (n, v)
    → (nat_lt place most && not (nat_lt heaviest (sum + weight v))) ≡ true → all_hold (rules n v) ≡ true
    → first_in rules most weight heaviest place sum (drop place es)
    ≡ first_in rules most weight heaviest (place + 1) (sum + weight v) (drop (place + 1) es)
weighed_keeps rules most weight heaviest place sum n v es there within holds =
    weighed rules most weight heaviest place sum n v es there
    ∙ if_true (nat_lt place most && (not (nat_lt heaviest (sum + weight v)) && all_hold (rules n v)))
    (first_in rules most weight heaviest (place + 1) (sum + weight v) (drop (place + 1) es)) (Some n)
    (all_pass (nat_lt place most) (not (nat_lt heaviest (sum + weight v))) (all_hold (rules n v)) within holds)

-- ---- where nothing is weighed
-- the entry at a place is past the limit: so it is the first,
pub counted_past :
    {T : Type 0} (rules : ℕ → T → List Bool) (most place n : ℕ) (now es : List (ℕ × T)) → now ≡ es
    → option_map (λ e. e.0) (slice_get now place) ≡ Some n → most ≤ place
    → first_in rules most (λ _. 0) 0 place 0 (drop place es) ≡ Some n
counted_past {T} rules most place n now es same number past =
    let at = mapped_some (λ (e : ℕ × T). e.0) (slice_get es place) n
    (ap (λ (es : List (ℕ × T)). option_map (λ e. e.0) (slice_get es place)) (sym same) ∙ number) in
    let far : (nat_lt place most && true) ≡ false = grind (arith, nat_tests) in
    weighed_past rules most (λ _. 0) 0 place 0 at.0.0 at.0.1 es at.1 far ∙ ap Some at.2

-- or it is the first where it breaks a rule, and otherwise the first is behind it
pub counted_at :
    {T : Type 0} (rules now_rules : ℕ → T → List Bool) (most place n : ℕ) (now es : List (ℕ × T)) (kept : Bool)
    → now ≡ es → now_rules ≡ rules → option_map (λ e. e.0) (slice_get now place) ≡ Some n
    → option_map (λ e. all_hold (now_rules e.0 e.1)) (slice_get now place) ≡ Some kept → place < most
    → first_in rules most (λ _. 0) 0 place 0 (drop place es)
    ≡ (if kept then first_in rules most (λ _. 0) 0 (place + 1) 0 (drop (place + 1) es) else Some n)
counted_at {T} rules now_rules most place n now es kept same same_rules number holds below =
    let at = mapped_some (λ (e : ℕ × T). e.0) (slice_get es place) n
    (ap (λ (es : List (ℕ × T)). option_map (λ e. e.0) (slice_get es place)) (sym same) ∙ number) in
    let here : Some (all_hold (rules at.0.0 at.0.1)) ≡ Some kept =
    ap (λ (rules : ℕ → T → List Bool). Some (all_hold (rules at.0.0 at.0.1))) (sym same_rules)
    ∙ ap (option_map (λ (e : ℕ × T). all_hold (now_rules e.0 e.1)))
    (sym (ap (λ (es : List (ℕ × T)). slice_get es place) same ∙ at.1)) ∙ holds in
    let asked : all_hold (rules at.0.0 at.0.1) ≡ kept = cc in
    let near : (nat_lt place most && kept) ≡ kept = grind (arith, nat_tests) in
    let rest = first_in rules most (λ _. 0) 0 (place + 1) 0 (drop (place + 1) es) in
    weighed rules most (λ _. 0) 0 place 0 at.0.0 at.0.1 es at.1
    ∙ ap (λ (b : Bool). if nat_lt place most && b then rest else Some at.0.0) asked
    ∙ ap (λ (b : Bool). if b then rest else Some at.0.0) near
    ∙ ap (λ (m : ℕ). if kept then rest else Some m) at.2
