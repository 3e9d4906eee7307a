-- What one line or one entry more gives.
use Rattle.std.proofs.Common.{◌≡◌, ℕ, ◌==◌, true, false, List, [], ◌∷◌, ◌++◌, map, Option, Some, None, option_map}
use Rattle.std.proofs.Common.{unwrap_or, append_assoc, length, arith, refl, ap, ◌∙◌, ℤ, pos}
use Rattle.std.specs.Prelude.{if◌then◌else◌}
use Rattle.std.specs.Option.{option_or}
use Rattle.std.specs.Int.{int_max}
use Rattle.std.proofs.lemmas.Bool.{ne_eqb}
use Rattle.std.proofs.lemmas.List.{map-append}
use Rattle.std.proofs.lemmas.List.Sums.{fold-append}
use Rattle.book_statement.specs.Lists.{on_last}
use Rattle.book_statement.specs.Texts.{is_nothing}
use Rattle.qif_read.specs.QifAmount.{amount}
use Rattle.qif_read.specs.Tree.{Line, Entry}
use Rattle.qif_read.specs.Entries.{place_of, first_of}
use Rattle.qif_read.specs.Kept.{amount_said, day_said, line_said, account_said, opens_with}
use Rattle.qif_read.specs.Sections.{no_entries}
use Rattle.qif_read.proofs.KeptEntries.{SplitsKept, split_in_front, splits_rest, splits_of, said}
use Rattle.qif_read.proofs.KeptEntries.{opened_by, begun_by, after_first, with_later, section_of}
use Rattle.qif_read.specs.Qif.{last_or}
use Rattle.qif_read.specs.Steps.{with_memo, with_amount, after_line, after_account_line, nothing, later, with_opening}
use Rattle.qif_read.specs.Steps.{with_line, with_entry}
use Rattle.qif_read.specs.declared.form.Form.{Form}
use Rattle.qif_read.specs.declared.kind.Code.{Code}
use Rattle.qif_read.specs.declared.kind.Code.TheVariants.{Date, Total, OtherTotal, Number, Payee, Memo, Category, Split}
use Rattle.qif_read.specs.declared.kind.Code.TheVariants.{SplitMemo, SplitAmount, Other}
use Rattle.qif_read.specs.declared.said.Said.{Said}
use Rattle.qif_read.specs.declared.section.Section.{Section}
use Rattle.qif_read.specs.declared.split.SplitSaid.{SplitSaid}

-- something is no list of nothing
pub nothing-cons : {X : Type 0} (x : X) (xs : List X) → is_nothing (x ∷ xs) ≡ false
nothing-cons x xs = ne_eqb (length (x ∷ xs)) 0 (λ e. absurd (omega arith))

pub nothing-push : {X : Type 0} (xs : List X) (x : X) → is_nothing (xs ++ x ∷ []) ≡ false
nothing-push [] x = refl
nothing-push (y ∷ xs) x = nothing-cons y (xs ++ x ∷ [])

pub or-none : {X : Type 0} (o : Option X) → option_or o None ≡ o
or-none None = refl
or-none (Some x) = refl

-- the text of a line, where it has a code
abbrev pub text_if : Code → Line → Option (List ℕ)
text_if code f = if place_of f.code == place_of code then Some f.text else None

pub first_of-push : (code : Code) (fs : List Line) (f : Line)
    → first_of code (fs ++ f ∷ []) ≡ option_or (first_of code fs) (text_if code f)
first_of-push code [] f = refl
first_of-push code (g ∷ fs) f =
    elim (place_of g.code == place_of code) as (λ t. (if t then Some g.text else first_of code (fs ++ f ∷ []))
    ≡ option_or (if t then Some g.text else first_of code fs) (text_if code f))
    [ true ↦ refl | false ↦ first_of-push code fs f ]

pub last_or-push : {X : Type 0} (before : X) (xs : List X) (x : X) → last_or before (xs ++ x ∷ []) ≡ x
last_or-push before [] x = refl
last_or-push before (y ∷ xs) x = last_or-push y xs x

pub on_last_push : {X : Type 0} (change : X → X) (xs : List X) (x : X)
    → on_last change (xs ++ x ∷ []) ≡ xs ++ change x ∷ []
on_last_push change [] x = refl
on_last_push change (y ∷ []) x = refl
on_last_push change (y ∷ z ∷ xs) x = ap (λ l. y ∷ l) (on_last_push change (z ∷ xs) x)

-- the parts before a line, with that line behind them
abbrev behind_splits : List ℕ → Option (List ℕ) → Option ℤ → List SplitSaid → SplitsKept
behind_splits text memo amount [] = record { memo = option_or memo (Some text); amount = amount; splits = [] }
behind_splits text memo amount (s ∷ ss) =
    record { memo = memo; amount = amount; splits = on_last (with_memo text) (s ∷ ss) }

abbrev amount_behind_splits : ℤ → Option (List ℕ) → Option ℤ → List SplitSaid → SplitsKept
amount_behind_splits found memo amount [] = record { memo = memo; amount = option_or amount (Some found); splits = [] }
amount_behind_splits found memo amount (s ∷ ss) =
    record { memo = memo; amount = amount; splits = on_last (with_amount found) (s ∷ ss) }

abbrev splits_then : ℕ → Code → List ℕ → SplitsKept → SplitsKept
splits_then fraction Split text rest =
    record rest { splits = rest.splits ++ record { category = text; memo = None; amount = None } ∷ [] }
splits_then fraction SplitMemo text rest = behind_splits text rest.memo rest.amount rest.splits
splits_then fraction SplitAmount text rest = amount_behind_splits
    (amount fraction text) rest.memo rest.amount rest.splits
splits_then fraction _ text rest = rest

abbrev rest_of : Option (List ℕ) → Option ℤ → List SplitSaid → SplitsKept
rest_of memo amount splits = record { memo = memo; amount = amount; splits = splits }

-- a line in front and a line behind
in_front-then : (fraction : ℕ) (g : Code) (before : List ℕ) (f : Code) (behind : List ℕ) (memo : Option (List ℕ))
    (found : Option ℤ) (splits : List SplitSaid)
    → split_in_front fraction g before (splits_then fraction f behind (rest_of memo found splits))
    ≡ splits_then fraction f behind (split_in_front fraction g before (rest_of memo found splits))
in_front-then fraction Split before Split behind memo found splits = refl
in_front-then fraction Split before SplitMemo behind memo found [] = refl
in_front-then fraction Split before SplitMemo behind memo found (s ∷ ss) = refl
in_front-then fraction Split before SplitAmount behind memo found [] = refl
in_front-then fraction Split before SplitAmount behind memo found (s ∷ ss) = refl
in_front-then fraction SplitMemo before Split behind memo found splits = refl
in_front-then fraction SplitMemo before SplitMemo behind memo found [] = refl
in_front-then fraction SplitMemo before SplitMemo behind memo found (s ∷ ss) = refl
in_front-then fraction SplitMemo before SplitAmount behind memo found [] = refl
in_front-then fraction SplitMemo before SplitAmount behind memo found (s ∷ ss) = refl
in_front-then fraction SplitAmount before Split behind memo found splits = refl
in_front-then fraction SplitAmount before SplitMemo behind memo found [] = refl
in_front-then fraction SplitAmount before SplitMemo behind memo found (s ∷ ss) = refl
in_front-then fraction SplitAmount before SplitAmount behind memo found [] = refl
in_front-then fraction SplitAmount before SplitAmount behind memo found (s ∷ ss) = refl
in_front-then fraction g before f behind memo found splits = refl

splits_alone : (fraction : ℕ) (f : Line)
    → split_in_front fraction f.code f.text (rest_of None None [])
    ≡ splits_then fraction f.code f.text (rest_of None None [])
splits_alone fraction f = alone f.code
  where
    alone : (code : Code) → split_in_front fraction code f.text (rest_of None None [])
        ≡ splits_then fraction code f.text (rest_of None None [])
    alone Split = refl
    alone SplitMemo = refl
    alone SplitAmount = refl
    alone _ = refl

splits_rest-push : (fraction : ℕ) (fs : List Line) (f : Line)
    → splits_rest fraction (fs ++ f ∷ []) ≡ splits_then fraction f.code f.text (splits_rest fraction fs)
splits_rest-push fraction [] f = splits_alone fraction f
splits_rest-push fraction (g ∷ fs) f =
    let rest = splits_rest fraction fs in
    ap (split_in_front fraction g.code g.text) (splits_rest-push fraction fs f)
    ∙ in_front-then fraction g.code g.text f.code f.text rest.memo rest.amount rest.splits

-- the parts after a line more
abbrev splits_after : ℕ → Code → List ℕ → List SplitSaid → List SplitSaid
splits_after fraction Split text splits = splits ++ record { category = text; memo = None; amount = None } ∷ []
splits_after fraction SplitMemo text splits = on_last (with_memo text) splits
splits_after fraction SplitAmount text splits = on_last (with_amount (amount fraction text)) splits
splits_after fraction _ text splits = splits

splits_of_then : (fraction : ℕ) (code : Code) (text : List ℕ) (memo : Option (List ℕ)) (found : Option ℤ)
    (splits : List SplitSaid)
    → (splits_then fraction code text (rest_of memo found splits)).splits ≡ splits_after fraction code text splits
splits_of_then fraction Split text memo found splits = refl
splits_of_then fraction SplitMemo text memo found [] = refl
splits_of_then fraction SplitMemo text memo found (s ∷ ss) = refl
splits_of_then fraction SplitAmount text memo found [] = refl
splits_of_then fraction SplitAmount text memo found (s ∷ ss) = refl
splits_of_then fraction _ text memo found splits = refl

pub splits_of-push : (fraction : ℕ) (fs : List Line) (f : Line)
    → splits_of fraction (fs ++ f ∷ []) ≡ splits_after fraction f.code f.text (splits_of fraction fs)
splits_of-push fraction fs f =
    let rest = splits_rest fraction fs in
    ap (λ (r : SplitsKept). r.splits) (splits_rest-push fraction fs f)
    ∙ splits_of_then fraction f.code f.text rest.memo rest.amount rest.splits

map-or : {X Y : Type 0} (g : X → Y) (o : Option X) (x : Option X)
    → option_map g (option_or o x) ≡ option_or (option_map g o) (option_map g x)
map-or g None x = refl
map-or g (Some y) x = refl

abbrev pub line_at : ℕ → Code → List ℕ → Line
line_at line code text = record { line = line; code = code; text = text }

-- what an entry says with a line more
pub said-push : (form : Form) (fs : List Line) (line : ℕ) (code : Code) (text : List ℕ)
    → said form (fs ++ line_at line code text ∷ []) ≡ after_line form (said form fs) code text
unfolding said
said-push form fs line Date text = simp (first_of-push, splits_of-push, map-or, or-none)
said-push form fs line Total text = simp (first_of-push, splits_of-push, map-or, or-none)
said-push form fs line OtherTotal text = simp (first_of-push, splits_of-push, map-or, or-none)
said-push form fs line Number text = simp (first_of-push, splits_of-push, map-or, or-none)
said-push form fs line Payee text = simp (first_of-push, splits_of-push, map-or, or-none)
said-push form fs line Memo text = simp (first_of-push, splits_of-push, map-or, or-none)
said-push form fs line Category text = simp (first_of-push, splits_of-push, map-or, or-none)
said-push form fs line Split text = simp (first_of-push, splits_of-push, map-or, or-none)
said-push form fs line SplitMemo text = simp (first_of-push, splits_of-push, map-or, or-none)
said-push form fs line SplitAmount text = simp (first_of-push, splits_of-push, map-or, or-none)
said-push form fs line Other text = simp (first_of-push, splits_of-push, map-or, or-none)

-- what is kept of an entry of a list of accounts
abbrev pub name_said : List Line → Said
name_said fs = record nothing { number = first_of Number fs }

pub name_said-push : (fs : List Line) (line : ℕ) (code : Code) (text : List ℕ)
    → name_said (fs ++ line_at line code text ∷ []) ≡ after_account_line (name_said fs) code text
name_said-push fs line Number text = simp (first_of-push, or-none)
name_said-push fs line _ text = simp (first_of-push, or-none)

first_entry : (name : List ℕ) (s : Said) → with_later (after_first name s) [] ≡ with_entry (no_entries name) s
first_entry name s =
    elim (opens_with name s) as (λ t. with_later (if t then opened_by s else begun_by name s) []
    ≡ (if t then with_opening (no_entries name) (account_said s) (day_said s) (amount_said s) else with_line
    (no_entries name) (day_said s) (line_said s)))
    [ true ↦ refl | false ↦ refl ]

with_later-push : (s : Section) (later : List Said) (x : Said)
    → with_later s (later ++ x ∷ []) ≡ with_line (with_later s later) (day_said x) (line_said x)
with_later-push s later x =
    rw (
      map-append day_said later (x ∷ []),
      map-append line_said later (x ∷ []),
      fold-append int_max
          (unwrap_or s.day (pos 0)) (map day_said later) (day_said x ∷ []),
      append_assoc s.lines
          (map line_said later) (line_said x ∷ []),
    )
    refl

-- what a register gives with an entry more
pub section_of-push : (form : Form) (name : List ℕ) (es : List Entry) (e : Entry)
    → section_of form name (es ++ e ∷ []) ≡ with_entry (section_of form name es) (said form e.fields)
section_of-push form name [] e = first_entry name (said form e.fields)
section_of-push form name (x ∷ es) e =
    let g : Entry → Said = λ entry. said form entry.fields in
    ap (with_later (after_first name (said form x.fields))) (map-append g es (e ∷ []))
    ∙ with_later-push (after_first name (said form x.fields)) (map g es) (g e)
