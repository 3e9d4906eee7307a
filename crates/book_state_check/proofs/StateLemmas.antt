-- A state that was read, and in which no key breaks its rule, is sound with all its steps; in such a state none does.
use Rattle.std.proofs.Common.{◌≡◌, ℕ, ◌+◌, ◌^◌, ◌≤◌, nat_lt, not, Bool, true, false, ◌||◌, List, [], ◌∷◌, ◌++◌, suc}
use Rattle.std.proofs.Common.{length, reverse, refl, sym, ap, ◌∙◌, arith, Option, Some, None, IfNone}
use Rattle.std.specs.List.{AllByRecursion}
use Rattle.std.proofs.lemmas.Bool.Decides.{nat_tests}
use Rattle.book_commodity.specs.Rules.{broken_where, first_broken}
use Rattle.book_commodity.specs.Table.{Rises}
use Rattle.book_keeper.specs.declared.row.RowKey.{RowKey}
use Rattle.book_undo.specs.declared.edit.Edit.{Edit}
use Rattle.book_rows.specs.Row.{IsWithin}
use Rattle.book_sound.specs.Soundness.{AreDrawn, IsSoundBook}
use Rattle.book_check.specs.FirstUnsound.{key_in}
use Rattle.book_check.proofs.Unsound.{none_where_sound}
use Rattle.book_history.specs.History.{AreNumberedFrom}
use Rattle.book_history.specs.Steps.{AreSound}
use Rattle.book_history.proofs.FaultLaws.{sound_faultless}
use Rattle.book_history.proofs.TurnLaws.{counted_history}
use Rattle.book_rows.specs.declared.format.RowFormat.TheVariants.{Two}
use Rattle.book_opening.specs.BookRows.{back_records, behind_head, forth_records, things_of}
use Rattle.book_opening.specs.Opening.{CanBeRow, head_key}
use Rattle.book_opening.specs.Reading.{IsReadable}
use Rattle.book_opening.specs.State.{State, head_of}
use Rattle.book_opening.specs.Steps.{counts_fit}
use Rattle.book_opening.proofs.Ranked.{all_last}
use Rattle.book_state_check.specs.SoundState.{IsSoundState, unsound_at, unsound_step}

-- The numbers of the head can be those of a row.
pub within_head : (state : State) → IsReadable state → IsWithin (head_of state)
within_head state is = is.spelled.0.1.1

or_false : (b : Bool) → (b || false) ≡ b
or_false true = refl
or_false false = refl

last_small :
    (from : ℕ) (steps : List (ℕ × Edit)) → AreNumberedFrom from steps → from ≤ 2 ^ 62
    → AllByRecursion (CanBeRow Two) (forth_records steps) → from + length steps ≤ 2 ^ 62
last_small from [] numbers low can = omega (arith, low)
last_small from (step ∷ steps) numbers low can =
    let here = numbers.0 in
    let small = can.0.0.1 in
    let rest = last_small (suc from) steps numbers.1 (omega (arith, here, small)) can.1 in
    omega (arith, rest)

-- A readable state of which this holds is sound with all its steps.
pub readable_sound :
    (state : State) → IsReadable state → Rises state.back → Rises state.forth → state.position ≤ state.version
    → counts_fit (head_of state) ≡ true → IsSoundBook state.book → AreDrawn state.book state.next
    → AreSound state.next (reverse state.back) state.book → AreSound state.next state.forth state.book
    → IsSoundState state
readable_sound state is back_rise forth_rise reached fits sound drawn back_sound forth_sound =
    let within = within_head state is in
    let past : state.past ≤ state.position = grind (arith, nat_tests, fits) in
    let most : state.past + state.later ≤ 256 = grind (arith, nat_tests, fits) in
    let even = is.counted fits in
    let history = counted_history state.next state.book state.position state.past state.later state.back state.forth
    past most back_rise forth_rise (λ id. sym (or_false _) ∙ even (record { kind = 11; id = id }) refl ∙ or_false _)
    (λ id. even (record { kind = 12; id = id }) refl) back_sound forth_sound in
    let count_forth = history.forth_count in
    let position_small = within.1.1 in
    let can : AllByRecursion (CanBeRow Two) (behind_head state) = is.spelled.1 in
    let small = last_small (state.position + 1) state.forth history.forth_numbers (omega (arith, position_small))
    (all_last (CanBeRow Two) (back_records state.back) (forth_records state.forth)
    (all_last (CanBeRow Two) (things_of state.book) (back_records state.back ++ forth_records state.forth) can)) in
    record {
      book = sound;
      drawn = drawn;
      next = within.0;
      version = within.1.0;
      reached = reached;
      few = omega (arith, small, count_forth);
      history = history;
    }

pub none_weaker : {X : Type 0} (o : Option X) (P Q : Type 0) → (P → Q) → IfNone o P → IfNone o Q
none_weaker None P Q more holds = more holds
none_weaker (Some x) P Q more holds = tt

-- What is tested of the head.
pub kept_head :
    (state : State) → not (nat_lt state.version state.position || not (counts_fit (head_of state))) ≡ true
    → (state.position ≤ state.version) × (counts_fit (head_of state) ≡ true)
kept_head state test = by (nat_lt state.version state.position) (counts_fit (head_of state)) refl refl test
  where
    by : (past fits : Bool) → nat_lt state.version state.position ≡ past → counts_fit (head_of state) ≡ fits
        → not (past || not fits) ≡ true → (state.position ≤ state.version) × (counts_fit (head_of state) ≡ true)
    by true fits low is e = absurd cc
    by false true low is e = (grind (arith, nat_tests, low), is)
    by false false low is e = absurd cc

-- None of some keys is there.
first_none : (keys : List (Option RowKey)) (key : Option RowKey) → key ≡ None → first_broken keys ≡ None
    → first_broken (key ∷ keys) ≡ None
first_none keys None e none = none
first_none keys (Some key) e none = absurd cc

none_in : (kind : ℕ) (number : Option ℕ) → number ≡ None → key_in kind number ≡ None
none_in kind number e = ap (key_in kind) e

head_kept : (state : State) → IsSoundState state
    → broken_where (nat_lt state.version state.position || not (counts_fit (head_of state))) head_key ≡ None
head_kept state sound =
    let low = sound.reached in
    let past = sound.history.reached in
    let most = sound.history.most in
    let keeps : (nat_lt state.version state.position || not (counts_fit (head_of state))) ≡ false =
    grind (arith, nat_tests, low, past, most) in
    ap (λ (b : Bool). broken_where b head_key) keeps

-- No key of a sound state breaks its rule.
pub none_unsound : (state : State) → IsSoundState state → unsound_at state ≡ None
none_unsound state sound =
    let back = none_in 11 _ (sound_faultless state.next (reverse state.back) state.book sound.history.back_sound) in
    let forth = none_in 12 _ (sound_faultless state.next state.forth state.book sound.history.forth_sound) in
    let steps : unsound_step state ≡ None = first_none _ _ back (first_none [] _ forth refl) in
    first_none _ _ (head_kept state sound)
    (first_none _ _ (none_where_sound state.book state.next sound.book sound.drawn)
    (first_none [] _ steps refl))
