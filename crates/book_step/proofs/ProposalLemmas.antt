-- The pairs of a proposal: each has a line and a split that were given, which fit each other, and no two have the same
-- split.
use Rattle.std.proofs.Common.{◌≡◌, ◌≢◌, ℕ, ◌==◌, Bool, true, false, not, if◌then◌else◌, All, List, [], ◌∷◌, ◌++◌}
use Rattle.std.proofs.Common.{filter, fold, Option, Some, None, IfSome, refl, ◌∙◌, eq-eqb}
use Rattle.std.specs.Prelude.{⊤}
use Rattle.std.proofs.lemmas.List.Elements.{All-append, All-cons, All-filter, All-head, All-nil, All-tail, All-weaker}
use Rattle.book_match.specs.Proposal.{choice, comes_before, in_order, is_candidate, is_nearer, left_by, nearer, pair_of}
use Rattle.book_match.specs.Proposal.{pairs_of, proposal, with_line}
use Rattle.book_match.specs.declared.views.LineView.{LineView}
use Rattle.book_match.specs.declared.views.Matched.{Matched}
use Rattle.book_match.specs.declared.views.SplitView.{SplitView}

-- A pair of a line for which something holds and of a split for which something holds, which the line may take.
pub record IsPairOf (P : LineView → Type 0) (Q : SplitView → Type 0) (window : ℕ) (pair : Matched) : Type 0 where
  pub line : LineView
  pub split : SplitView
  pub has_line : pair.line ≡ line.line
  pub has_split : pair.split ≡ split.split
  pub candidate : is_candidate window line split ≡ true
  pub of_line : P line
  pub of_split : Q split

-- No two of the pairs have the same split.
abbrev pub SplitsApart : List Matched → Type 0
SplitsApart [] = ⊤
SplitsApart (pair ∷ more) = All (λ other. pair.split ≢ other.split) more × SplitsApart more

-- ---- what holds of all that are given

-- what passes a test passes it, and what holds of all holds of it
pub filter-holds :
    {X : Type 0} (P : X → Type 0) (test : X → Bool) (xs : List X) → All P xs
    → All (λ (x : X). P x × (test x ≡ true)) (filter test xs)
filter-holds {X} P test [] all = All-nil (λ (x : X). P x × (test x ≡ true))
filter-holds {X} P test (x ∷ xs) all =
    let Both : X → Type 0 = λ y. P y × (test y ≡ true) in
    let rest = filter-holds P test xs (All-tail P x xs all) in
    let Tested : Bool → Type 0 = λ b. test x ≡ b → All Both (if b then x ∷ filter test xs else filter test xs) in
    elim (test x) as Tested [
      | true ↦ λ passes. All-cons Both x (filter test xs) (All-head P x xs all, passes) rest
      | false ↦ λ fails. rest
    ] refl

nearer-holds :
    (Q : SplitView → Type 0) (line : LineView) (best : Option SplitView) (split : SplitView) → IfSome best Q → Q split
    → Q (nearer line best split)
nearer-holds Q line None split before here = here
nearer-holds Q line (Some other) split before here =
    elim (is_nearer line split other) as (λ (b : Bool). Q (if b then split else other)) [
      | true ↦ here
      | false ↦ before
    ]

fold-holds :
    (Q : SplitView → Type 0) (line : LineView) (best : Option SplitView) (splits : List SplitView) → IfSome best Q
    → All Q splits → IfSome (fold (λ other split. Some (nearer line other split)) best splits) Q
fold-holds Q line best [] before all = before
fold-holds Q line best (s ∷ splits) before all =
    fold-holds Q line (Some (nearer line best s)) splits
    (nearer-holds Q line best s before (All-head Q s splits all)) (All-tail Q s splits all)

choice-holds :
    (Q : SplitView → Type 0) (window : ℕ) (line : LineView) (splits : List SplitView) → All Q splits
    → IfSome (choice window line splits) (λ s. Q s × (is_candidate window line s ≡ true))
choice-holds Q window line splits all =
    fold-holds (λ s. Q s × (is_candidate window line s ≡ true)) line None (filter (is_candidate window line) splits)
    tt (filter-holds Q (is_candidate window line) splits all)

left-holds :
    (Q : SplitView → Type 0) (chosen : Option SplitView) (splits : List SplitView) → All Q splits
    → All Q (left_by chosen splits)
left-holds Q None splits all = all
left-holds Q (Some taken) splits all = All-filter (λ split. not (taken.split == split.split)) Q splits all

pair-holds :
    (P : LineView → Type 0) (Q : SplitView → Type 0) (window : ℕ) (line : LineView) (chosen : Option SplitView)
    → P line → IfSome chosen (λ s. Q s × (is_candidate window line s ≡ true))
    → All (IsPairOf P Q window) (pair_of line chosen)
pair-holds P Q window line None p q = All-nil (IsPairOf P Q window)
pair-holds P Q window line (Some s) p q =
    All-cons (IsPairOf P Q window) (record { line = line.line; split = s.split }) []
    (record {
      line = line;
      split = s;
      has_line = refl;
      has_split = refl;
      candidate = q.1;
      of_line = p;
      of_split = q.0;
    })
    (All-nil (IsPairOf P Q window))

pairs-hold :
    (P : LineView → Type 0) (Q : SplitView → Type 0) (window : ℕ) (lines : List LineView) (splits : List SplitView)
    → All P lines → All Q splits → All (IsPairOf P Q window) (pairs_of window lines splits)
pairs-hold P Q window [] splits p q = All-nil (IsPairOf P Q window)
pairs-hold P Q window (line ∷ more) splits p q =
    let chosen = choice window line splits in
    All-append (IsPairOf P Q window) (pair_of line chosen) (pairs_of window more (left_by chosen splits))
    (pair-holds P Q window line chosen (All-head P line more p) (choice-holds Q window line splits q))
    (pairs-hold P Q window more (left_by chosen splits) (All-tail P line more p) (left-holds Q chosen splits q))

with_line-holds :
    (P : LineView → Type 0) (line : LineView) (lines : List LineView) → P line → All P lines
    → All P (with_line line lines)
with_line-holds P line [] p all = All-cons P line [] p all
with_line-holds P line (first ∷ more) p all =
    elim (comes_before first line) as
    (λ (b : Bool). All P (if b then first ∷ with_line line more else line ∷ first ∷ more)) [
      | true ↦ All-cons P first (with_line line more) (All-head P first more all)
          (with_line-holds P line more p (All-tail P first more all))
      | false ↦ All-cons P line (first ∷ more) p all
    ]

order-holds : (P : LineView → Type 0) (lines : List LineView) → All P lines → All P (in_order lines)
order-holds P [] all = all
order-holds P (line ∷ more) all =
    with_line-holds P line (in_order more) (All-head P line more all) (order-holds P more (All-tail P line more all))

-- The pairs of a proposal have lines and splits of those that are given.
pub proposal-holds :
    (P : LineView → Type 0) (Q : SplitView → Type 0) (window : ℕ) (lines : List LineView) (splits : List SplitView)
    → All P lines → All Q splits → All (IsPairOf P Q window) (proposal window lines splits)
proposal-holds P Q window lines splits p q =
    pairs-hold P Q window (in_order lines) splits (order-holds P lines p) q

-- ---- a split that is taken isn't taken again

abbrev Any : LineView → Type 0
Any line = ⊤

all_any : (lines : List LineView) → All Any lines
all_any [] = All-nil Any
all_any (line ∷ lines) = All-cons Any line lines tt (all_any lines)

left_other :
    (taken : SplitView) (splits : List SplitView)
    → All (λ (s : SplitView). taken.split ≢ s.split) (left_by (Some taken) splits)
left_other taken [] = All-nil (λ (s : SplitView). taken.split ≢ s.split)
left_other taken (s ∷ splits) =
    let Other : SplitView → Type 0 = λ o. taken.split ≢ o.split in
    let rest = left_other taken splits in
    let after = left_by (Some taken) splits in
    let Same : Bool → Type 0 = λ b. (taken.split == s.split) ≡ b → All Other (if not b then s ∷ after else after) in
    elim (taken.split == s.split) as Same [
      | true ↦ λ same. rest
      | false ↦ λ other. All-cons Other s after
          (λ is. absurd (let same = eq-eqb taken.split s.split is in cc)) rest
    ] refl

others_apart :
    (window : ℕ) (more : List LineView) (chosen : Option SplitView) (splits : List SplitView)
    → IfSome chosen (λ s. All (λ (o : Matched). s.split ≢ o.split) (pairs_of window more (left_by chosen splits)))
others_apart window more None splits = tt
others_apart window more (Some s) splits =
    let Other : SplitView → Type 0 = λ o. s.split ≢ o.split in
    let left = left_by (Some s) splits in
    All-weaker (IsPairOf Any Other window) (λ (o : Matched). s.split ≢ o.split)
    (λ o pair same. pair.of_split (same ∙ pair.has_split)) (pairs_of window more left)
    (pairs-hold Any Other window more left (all_any more) (left_other s splits))

first_apart :
    (line : LineView) (chosen : Option SplitView) (more : List Matched)
    → IfSome chosen (λ s. All (λ (o : Matched). s.split ≢ o.split) more) → SplitsApart more
    → SplitsApart (pair_of line chosen ++ more)
first_apart line None more others apart = apart
first_apart line (Some s) more others apart = (others, apart)

pairs_apart :
    (window : ℕ) (lines : List LineView) (splits : List SplitView) → SplitsApart (pairs_of window lines splits)
pairs_apart window [] splits = tt
pairs_apart window (line ∷ more) splits =
    let chosen = choice window line splits in
    first_apart line chosen (pairs_of window more (left_by chosen splits))
    (others_apart window more chosen splits) (pairs_apart window more (left_by chosen splits))

-- No two pairs of a proposal have the same split.
pub proposal-apart :
    (window : ℕ) (lines : List LineView) (splits : List SplitView) → SplitsApart (proposal window lines splits)
proposal-apart window lines splits = pairs_apart window (in_order lines) splits
