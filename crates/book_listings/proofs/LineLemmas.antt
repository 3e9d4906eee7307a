-- The lines with which splits are matched, in a table by the numbers of the splits.
use Rattle.std.proofs.Common.{◌≡◌, ℕ, ◌==◌, ◌++◌, Bool, true, false, if◌then◌else◌, List, [], ◌∷◌, Option, Some, None}
use Rattle.std.proofs.Common.{arith, refl, sym, ap, ◌∙◌, is_some}
use Rattle.std.proofs.lemmas.Bool.Decides.{nat_tests}
use Rattle.std.specs.Option.{option_or}
use Rattle.book_commodity.specs.Table.{with_entry}
use Rattle.book_commodity.proofs.TableLemmas.{value_of_with}
use Rattle.book_listings.specs.Account.{line_of}

line_more_by :
    (first : ℕ) (found one all : Option ℕ) (here : Bool) → all ≡ option_or found one
    → (if here then Some first else all) ≡ option_or (if here then Some first else found) one
line_more_by first found one all true more = refl
line_more_by first found one all false more = more

-- behind other lines one is found where none of them is
pub line_more :
    (split : ℕ) (lines : List (ℕ × ℕ)) (entry : ℕ × ℕ)
    → line_of split (lines ++ entry ∷ []) ≡ option_or (line_of split lines) (line_of split (entry ∷ []))
line_more split [] entry = refl
line_more split (first ∷ lines) entry =
    line_more_by first.1 (line_of split lines) (line_of split (entry ∷ [])) (line_of split (lines ++ entry ∷ []))
    (split == first.0) (line_more split lines entry)

one_by :
    (number : ℕ) (found : Option ℕ) (here : Bool) → (here ≡ true → found ≡ None)
    → (if here then Some number else found) ≡ option_or found (if here then Some number else None)
one_by number found true none = sym (ap (λ (f : Option ℕ). option_or f (Some number)) (none refl))
one_by number None false none = refl
one_by number (Some other) false none = refl

-- a line that is put where none was is found under its split
pub line_put :
    (sought split number : ℕ) (entries : List (ℕ × ℕ)) → line_of split entries ≡ None
    → line_of sought (with_entry split number entries)
    ≡ option_or (line_of sought entries) (line_of sought ((split, number) ∷ []))
line_put sought split number entries none =
    value_of_with sought split number entries
    ∙ one_by number (line_of sought entries) (sought == split)
    (λ same. let is : sought ≡ split = grind (arith, nat_tests) in ap (λ (n : ℕ). line_of n entries) is ∙ none)

kept_by :
    (number : ℕ) (found : Option ℕ) (here : Bool) → (here ≡ true → is_some found ≡ true)
    → found ≡ option_or found (if here then Some number else None)
kept_by number (Some other) here some = refl
kept_by number None true some = absurd (let e : false ≡ true = some refl in cc)
kept_by number None false some = refl

-- where one stands, it stays
pub line_kept :
    (sought split number : ℕ) (entries : List (ℕ × ℕ)) → is_some (line_of split entries) ≡ true
    → line_of sought entries ≡ option_or (line_of sought entries) (line_of sought ((split, number) ∷ []))
line_kept sought split number entries some =
    kept_by number (line_of sought entries) (sought == split)
    (λ same. let is : sought ≡ split = grind (arith, nat_tests) in ap (λ (n : ℕ). is_some (line_of n entries)) is ∙ some)
