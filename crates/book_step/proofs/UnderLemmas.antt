-- What is made of the things under rising numbers is what is made of all things, where nothing is made of the others.
use Rattle.std.proofs.Common.{◌≡◌, ℕ, ◌<◌, ◌==◌, nat_lt, Bool, true, false, List, [], ◌∷◌, ◌++◌}
use Rattle.std.proofs.Common.{flat_map, Option, Some, refl, sym, ap, subst, ◌∙◌, arith}
use Rattle.std.proofs.lemmas.Bool.Decides.{nat_tests}
use Rattle.book_commodity.specs.Table.{AllAbove, Rises, value_of}
use Rattle.book_commodity.proofs.TableLemmas.{above_less, above_value}
use Rattle.book_sound.proofs.SplitFrames.{above_there}
use Rattle.book_finish.proofs.NumberLemmas.{entries, has}
use Rattle.book_step.specs.UnderNumbers.{made_of, made_under}

-- Nothing is made of the things under other numbers.
abbrev pub MakesNoMore : {T E : Type 0} → (ℕ × T → List E) → List (ℕ × T) → List ℕ → Type 0
MakesNoMore {T} make things numbers = (n : ℕ) (thing : T) → value_of n things ≡ Some thing → has n numbers ≡ false
    → make (n, thing) ≡ []

-- numbers above that of the first thing find what they find among the others
past_first :
    {T E : Type 0} (make : ℕ × T → List E) (e : ℕ × T) (es : List (ℕ × T)) (numbers : List ℕ)
    → AllAbove e.0 (entries numbers) → made_under make (e ∷ es) numbers ≡ made_under make es numbers
past_first make e es [] above = refl
past_first {T} make e es (n ∷ more) above =
    let rest = past_first make e es more above.1 in
    let later : value_of n (e ∷ es) ≡ value_of n es = grind (arith, nat_tests, above.0) in
    ap (λ (o : Option T). made_of make n o ++ made_under make (e ∷ es) more) later
    ∙ ap (λ (l : List _). made_of make n (value_of n es) ++ l) rest

-- a number that isn't one of greater ones
lacks_below : (n : ℕ) (numbers : List ℕ) → AllAbove n (entries numbers) → has n numbers ≡ false
lacks_below n [] above = refl
lacks_below n (m ∷ more) above = grind (arith, nat_tests, above.0, lacks_below n more above.1)

none_under : {T E : Type 0} (make : ℕ × T → List E) (numbers : List ℕ) → made_under make [] numbers ≡ []
none_under make [] = refl
none_under make (n ∷ more) = none_under make more

-- what is found among the others is found among all
found_later :
    {T : Type 0} (e : ℕ × T) (es : List (ℕ × T)) (k : ℕ) (x : T) → AllAbove e.0 es → value_of k es ≡ Some x
    → value_of k (e ∷ es) ≡ Some x
found_later e es k x above found =
    let past = above_there e.0 k x es above found in grind (arith, nat_tests, past, found)

first_found : {T : Type 0} (e : ℕ × T) (es : List (ℕ × T)) → value_of e.0 (e ∷ es) ≡ Some e.1
first_found e es = grind (arith, nat_tests)

-- one thing more, before the others
under-more :
    {T E : Type 0} (make : ℕ × T → List E) (e : ℕ × T) (es : List (ℕ × T))
    → ((numbers : List ℕ) → Rises (entries numbers) → MakesNoMore make es numbers
    → made_under make es numbers ≡ flat_map make es)
    → AllAbove e.0 es
    → (numbers : List ℕ) → Rises (entries numbers) → MakesNoMore make (e ∷ es) numbers
    → made_under make (e ∷ es) numbers ≡ make e ++ flat_map make es
under-more {T} {E} make e es rest above [] up none =
    rest [] tt (λ k x found lacks. none k x (found_later e es k x above found) lacks)
    ∙ ap (λ (l : List E). l ++ flat_map make es) (sym (none e.0 e.1 (first_found e es) refl))
under-more {T} {E} make e es rest above (n ∷ more) up none =
    by_tests (nat_lt n e.0) (n == e.0) refl refl (λ nones. under-more make e es rest above more up.1 nones)
  where
    below : n < e.0 → (MakesNoMore make (e ∷ es) more → made_under make (e ∷ es) more ≡ make e ++ flat_map make es)
        → made_under make (e ∷ es) (n ∷ more) ≡ make e ++ flat_map make es
    below less others =
        let all : AllAbove n (e ∷ es) = (less, above_less n e.0 es (omega (arith, less)) above) in
        ap (λ (o : Option T). made_of make n o ++ made_under make (e ∷ es) more) (above_value n (e ∷ es) all)
        ∙ others
        (λ k x found lacks.
        let past = above_there n k x (e ∷ es) all found in
        let still : has k (n ∷ more) ≡ false = grind (arith, nat_tests, past, lacks) in
        none k x found still)

    here : n ≡ e.0 → made_under make (e ∷ es) (n ∷ more) ≡ make e ++ flat_map make es
    here same =
        let found : value_of n (e ∷ es) ≡ Some e.1 = grind (arith, nat_tests, same) in
        let rows : AllAbove e.0 (entries more) = subst (λ (k : ℕ). AllAbove k (entries more)) same up.0 in
        ap (λ (o : Option T). made_of make n o ++ made_under make (e ∷ es) more) found
        ∙ ap (λ (k : ℕ). make (k, e.1) ++ made_under make (e ∷ es) more) same
        ∙ ap (λ (l : List E). make e ++ l)
        (past_first make e es more rows
        ∙ rest more up.1
        (λ k x there lacks.
        let past = above_there e.0 k x es above there in
        let still : has k (n ∷ more) ≡ false = grind (arith, nat_tests, past, same, lacks) in
        none k x (found_later e es k x above there) still))

    past : e.0 < n → made_under make (e ∷ es) (n ∷ more) ≡ make e ++ flat_map make es
    past less =
        let rows : AllAbove e.0 (entries (n ∷ more)) =
        (less, above_less e.0 n (entries more) (omega (arith, less)) up.0) in
        past_first make e es (n ∷ more) rows
        ∙ rest (n ∷ more) up (λ k x found lacks. none k x (found_later e es k x above found) lacks)
        ∙ ap (λ (l : List E). l ++ flat_map make es)
        (sym (none e.0 e.1 (first_found e es) (lacks_below e.0 (n ∷ more) rows)))

    by_tests : (s t : Bool) → nat_lt n e.0 ≡ s → (n == e.0) ≡ t
        → (MakesNoMore make (e ∷ es) more → made_under make (e ∷ es) more ≡ make e ++ flat_map make es)
        → made_under make (e ∷ es) (n ∷ more) ≡ make e ++ flat_map make es
    by_tests true t less is others = below (grind (arith, nat_tests, less)) others
    by_tests false true less is others = here (grind (arith, nat_tests, is))
    by_tests false false less is others = past (grind (arith, nat_tests, less, is))

pub under-all :
    {T E : Type 0} (make : ℕ × T → List E) (things : List (ℕ × T)) (numbers : List ℕ) → Rises things
    → Rises (entries numbers) → MakesNoMore make things numbers
    → made_under make things numbers ≡ flat_map make things
under-all make [] numbers rises up none = none_under make numbers
under-all make (e ∷ es) numbers rises up none =
    under-more make e es (λ ns ups nones. under-all make es ns rises.1 ups nones) rises.0 numbers up none
