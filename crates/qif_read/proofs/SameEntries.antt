-- What the reader keeps of an entry says what the definitions in Entries say of its lines.
use Rattle.std.proofs.Common.{◌≡◌, ℕ, ◌==◌, Bool, not, List, [], ◌∷◌, map, Option, Some, option_map}
use Rattle.std.proofs.Common.{unwrap_or, is_some, refl, sym, ap, ◌∙◌, ℤ, pos, ◌+ℤ◌}
use Rattle.std.specs.Prelude.{◌&&◌, ◌||◌, nat_lt, if◌then◌else◌}
use Rattle.std.specs.List.{list_all}
use Rattle.std.specs.Ordering.{int_eq}
use Rattle.book_statement.specs.Checks.{Check, check}
use Rattle.book_statement.specs.Texts.{is_nothing}
use Rattle.book_statement.specs.declared.bad.Bad.TheVariants.{FieldForm, SplitSum, CutOff, TooMany}
use Rattle.book_statement.specs.declared.part.Part.{Part}
use Rattle.qif_read.specs.QifAmount.{amount}
use Rattle.qif_read.specs.Tree.{Line, Entry}
use Rattle.qif_read.specs.Entries as lines
use Rattle.qif_read.specs.Entries.{place_of, first_of, SplitLines, splits_in, split_amount, part_of, parts_in}
use Rattle.qif_read.specs.Entries.{sum_of_parts, line_in}
use Rattle.qif_read.specs.Qif.{entry_checks}
use Rattle.qif_read.specs.Registers.{days_of, line_of_each}
use Rattle.qif_read.specs.Kept.{day_said, part_said, sum_of_splits, line_said, end_checks}
use Rattle.qif_read.specs.declared.form.Form.{Form}
use Rattle.qif_read.specs.declared.kind.Code.{Code}
use Rattle.qif_read.specs.declared.kind.Code.TheVariants.{Date, Total, OtherTotal, Number, Payee, Memo, Category, Split}
use Rattle.qif_read.specs.declared.kind.Code.TheVariants.{SplitMemo, SplitAmount, Other}
use Rattle.qif_read.specs.declared.split.SplitSaid.{SplitSaid}
use Rattle.qif_read.proofs.KeptEntries.{SplitsKept, split_in_front, splits_rest, splits_of, said, all_said}
use Rattle.qif_read.proofs.PushLemmas.{nothing-cons, line_at}

-- two steps over a list are one
map_map : {X Y Z : Type 0} (g : Y → Z) (f : X → Y) (h : X → Z) → ((x : X) → g (f x) ≡ h x)
    → (xs : List X) → map g (map f xs) ≡ map h xs
map_map g f h e [] = refl
map_map g f h e (x ∷ xs) = λ i. e x i ∷ map_map g f h e xs i

-- what is kept of a part, and of lines that may continue one
abbrev split_kept : ℕ → SplitLines → SplitSaid
split_kept fraction s =
    record { category = s.category; memo = first_of SplitMemo s.fields; amount = split_amount fraction s }

abbrev rest_kept : ℕ → lines.SplitsRest → SplitsKept
rest_kept fraction rest = record {
  memo = first_of SplitMemo rest.loose;
  amount = option_map (amount fraction) (first_of SplitAmount rest.loose);
  splits = map (split_kept fraction) rest.splits;
}

front_same : (fraction line : ℕ) (code : Code) (text : List ℕ) (rest : lines.SplitsRest)
    → split_in_front fraction code text (rest_kept fraction rest)
    ≡ rest_kept fraction (lines.split_in_front (line_at line code text) rest)
front_same fraction line Date text rest = refl
front_same fraction line Total text rest = refl
front_same fraction line OtherTotal text rest = refl
front_same fraction line Number text rest = refl
front_same fraction line Payee text rest = refl
front_same fraction line Memo text rest = refl
front_same fraction line Category text rest = refl
front_same fraction line Split text rest = refl
front_same fraction line SplitMemo text rest = refl
front_same fraction line SplitAmount text rest = refl
front_same fraction line Other text rest = refl

rest_same : (fraction : ℕ) (fs : List Line) → splits_rest fraction fs ≡ rest_kept fraction (lines.splits_rest fs)
rest_same fraction [] = refl
rest_same fraction (f ∷ fs) =
    ap (split_in_front fraction f.code f.text) (rest_same fraction fs)
    ∙ front_same fraction f.line f.code f.text (lines.splits_rest fs)

-- the parts
splits_same : (fraction : ℕ) (fs : List Line) → splits_of fraction fs ≡ map (split_kept fraction) (splits_in fs)
splits_same fraction fs = ap (λ (rest : SplitsKept). rest.splits) (rest_same fraction fs)

parts_same : (fraction : ℕ) (fs : List Line) → map part_said (splits_of fraction fs) ≡ parts_in fraction fs
parts_same fraction fs =
    ap (map part_said) (splits_same fraction fs)
    ∙ map_map part_said (split_kept fraction) (part_of fraction) (λ (s : SplitLines). refl) (splits_in fs)

kept_sum : (fraction : ℕ) (ss : List SplitLines)
    → sum_of_splits (map (split_kept fraction) ss) ≡ sum_of_parts (map (part_of fraction) ss)
kept_sum fraction [] = refl
kept_sum fraction (s ∷ ss) = ap (λ z. unwrap_or (split_amount fraction s) (pos 0) +ℤ z) (kept_sum fraction ss)

sum_same : (fraction : ℕ) (fs : List Line) → sum_of_splits (splits_of fraction fs) ≡ sum_of_parts (parts_in fraction fs)
sum_same fraction fs = ap sum_of_splits (splits_same fraction fs) ∙ kept_sum fraction (splits_in fs)

kept_amounts : (fraction : ℕ) (ss : List SplitLines)
    → list_all (λ (split : SplitSaid). is_some split.amount) (map (split_kept fraction) ss)
    ≡ list_all (λ (split : SplitLines). is_some (split_amount fraction split)) ss
kept_amounts fraction [] = refl
kept_amounts fraction (s ∷ ss) = ap (λ all. is_some (split_amount fraction s) && all) (kept_amounts fraction ss)

amounts_same : (fraction : ℕ) (fs : List Line)
    → list_all (λ (split : SplitSaid). is_some split.amount) (splits_of fraction fs)
    ≡ list_all (λ (split : SplitLines). is_some (split_amount fraction split)) (splits_in fs)
amounts_same fraction fs =
    ap (list_all (λ (split : SplitSaid). is_some split.amount)) (splits_same fraction fs)
    ∙ kept_amounts fraction (splits_in fs)

kept_nothing : (fraction : ℕ) (ss : List SplitLines) → is_nothing (map (split_kept fraction) ss) ≡ is_nothing ss
kept_nothing fraction [] = refl
kept_nothing fraction (s ∷ ss) =
    nothing-cons (split_kept fraction s) (map (split_kept fraction) ss) ∙ sym (nothing-cons s ss)

pub nothing_same : (fraction : ℕ) (fs : List Line) → is_nothing (splits_of fraction fs) ≡ is_nothing (splits_in fs)
nothing_same fraction fs = ap is_nothing (splits_same fraction fs) ∙ kept_nothing fraction (splits_in fs)

-- a part has begun where an S stands
begun_front : (code : Code) (line : ℕ) (text : List ℕ) (rest : lines.SplitsRest) (found : Option (List ℕ))
    → not (is_nothing rest.splits) ≡ is_some found
    → not (is_nothing (lines.split_in_front (line_at line code text) rest).splits)
    ≡ is_some (if place_of code == place_of Split then Some text else found)
begun_front Split line text rest found e =
    ap not (nothing-cons (record { category = text; fields = rest.loose }) rest.splits)
begun_front Date line text rest found e = e
begun_front Total line text rest found e = e
begun_front OtherTotal line text rest found e = e
begun_front Number line text rest found e = e
begun_front Payee line text rest found e = e
begun_front Memo line text rest found e = e
begun_front Category line text rest found e = e
begun_front SplitMemo line text rest found e = e
begun_front SplitAmount line text rest found e = e
begun_front Other line text rest found e = e

begun_in : (fs : List Line) → not (is_nothing (splits_in fs)) ≡ is_some (first_of Split fs)
begun_in [] = refl
begun_in (f ∷ fs) = begun_front f.code f.line f.text (lines.splits_rest fs) (first_of Split fs) (begun_in fs)

pub begun_same : (fraction : ℕ) (fs : List Line)
    → is_some (first_of Split fs) ≡ not (is_nothing (splits_of fraction fs))
begun_same fraction fs = sym (ap not (nothing_same fraction fs) ∙ begun_in fs)

-- the line of an entry
pub line_same : (form : Form) (fs : List Line) → line_in form fs ≡ line_said (said form fs)
unfolding said
line_same form fs = ap (λ (parts : List Part). record (line_in form fs) { parts = parts })
    (sym (parts_same form.fraction fs))

-- the lines and the days of entries
pub lines_same : (form : Form) (es : List Entry) → line_of_each form es ≡ map line_said (all_said form es)
lines_same form es =
    sym (map_map line_said (λ (entry : Entry). said form entry.fields) (λ (entry : Entry). line_in form entry.fields)
    (λ entry. sym (line_same form entry.fields)) es)

pub days_same : (form : Form) (es : List Entry) → days_of form es ≡ map day_said (all_said form es)
unfolding said
days_same form es =
    sym (map_map day_said (λ (entry : Entry). said form entry.fields)
    (λ (entry : Entry). lines.day_of form entry.fields) (λ entry. refl) es)

-- what is asked at its end
abbrev checks_with : Bool → Option ℤ → Option ℤ → Bool → Bool → ℤ → ℤ → ℕ → ℕ → List Check
checks_with whole day total amounts none sum amount statements before =
    check whole CutOff
    ∷ check (is_some day) FieldForm
    ∷ check (is_some total) FieldForm
    ∷ check amounts FieldForm
    ∷ check (none || int_eq sum amount) (SplitSum amount sum)
    ∷ check (nat_lt statements 1000) TooMany
    ∷ check (nat_lt before 10000) TooMany ∷ []

pub end_same : (form : Form) (whole : Bool) (before statements : ℕ) (fs : List Line)
    → entry_checks form whole before statements fs ≡ end_checks whole before statements (said form fs)
unfolding said end_checks entry_checks
end_same form whole before statements fs =
    λ i. checks_with whole (lines.day_in form fs) (lines.total_in form fs) (sym (amounts_same form.fraction fs) i)
    (sym (nothing_same form.fraction fs) i) (sym (sum_same form.fraction fs) i) (lines.amount_of form fs) statements
    before
