-- The numbers of a state that an engine keeps are those of rows, as are the numbers of what a turn changes.
use Rattle.std.proofs.Common.{◌≡◌, ℕ, suc, ◌+◌, ◌-◌, ◌^◌, ◌<◌, ◌≤◌, ◌==◌, ◌&&◌, Bool, true, false, All, List, []}
use Rattle.std.proofs.Common.{◌∷◌, ◌++◌, Option, Some, None, option_map, is_none, min, nat_lt, length, if◌then◌else◌}
use Rattle.std.proofs.Common.{inr, refl, sym, ap, ◌∙◌, subst, arith}
use Rattle.std.specs.List.{AllByRecursion}
use Rattle.std.proofs.lemmas.Bool.Decides.{nat_tests}
use Rattle.std.proofs.lemmas.List.Elements.{All-head, All-tail}
use Rattle.book_commodity.specs.Rules.{broken_where}
use Rattle.book_commodity.specs.Table.{value_of}
use Rattle.book_commodity.proofs.DrawnLemmas.{drawn_below}
use Rattle.book_commodity.proofs.ListLemmas.{mapped_none, mapped_some}
use Rattle.book_undo.specs.Book.{Book, IsRising, thing_at, with_currency, with_thing, without_thing}
use Rattle.book_undo.specs.Edit.{Key, Leaf, OfCurrency, OfPut, OfGone, depth, edited, key_at, leaves}
use Rattle.book_undo.specs.EditRules.{IsAllowed, first_missing, first_unordered, out_of_order}
use Rattle.book_undo.specs.Thing.{kind_of as thing_kind, row_kind}
use Rattle.book_undo.specs.declared.edit.Edit.{Edit}
use Rattle.book_undo.specs.declared.rule.EditRule.{EditRule}
use Rattle.book_undo.specs.declared.rule.EditRule.TheVariants.{OutOfOrder, TooDeep}
use Rattle.book_undo.specs.declared.thing.Thing.{Thing}
use Rattle.book_undo.specs.declared.thing.Thing.TheVariants as thing
use Rattle.book_undo.specs.declared.thing.ThingKind.{ThingKind}
use Rattle.book_undo.specs.declared.thing.ThingKind.TheVariants as kind
use Rattle.book_undo.proofs.BookLaws.{thing_at-with_thing}
use Rattle.book_undo.proofs.EditLaws.{after_leaves, edited-leaves, rising_after, untouched}
use Rattle.book_undo.proofs.InverseLaws.{above_untouched, missing_first, rises_first}
use Rattle.book_undo.proofs.ThreeRules.{three_kept}
use Rattle.book_rows.specs.Row.{IsRecord, kind_of}
use Rattle.book_rows.specs.declared.format.RowFormat.TheVariants.{Two}
use Rattle.book_rows.specs.declared.record.Record.{Record}
use Rattle.book_rows.specs.declared.record.Record.TheVariants as kept
use Rattle.book_history.specs.History.{AreNumberedFrom}
use Rattle.book_opening.specs.BookRows.{back_records, behind_head, forth_records, records_in, records_of}
use Rattle.book_opening.specs.BookRows.{tables_of, things_of}
use Rattle.book_opening.specs.Changes.{AreRecords, IsSmallLeaf}
use Rattle.book_opening.specs.Opening.{CanBeRow}
use Rattle.book_opening.specs.State.{State}
use Rattle.book_opening.proofs.Ranked.{all_both, all_first, all_last, beside, joined}
use Rattle.book_opening.proofs.ThingRecords.{kind_least}
use Rattle.book_sound.specs.Soundness.{AreDrawn}
use Rattle.book_turns.specs.Whole.{IsWhole}

-- ---- what a step changes
drawn_thing :
    {T : Type 0} (of : T → Thing) (n next : ℕ) (t : Thing) (es : List (ℕ × T)) → All (λ (e : ℕ × T). e.0 < next) es
    → option_map of (value_of n es) ≡ Some t → n < next
drawn_thing of n next t es below e =
    let found = mapped_some of (value_of n es) t e in
    drawn_below n next found.0 es below found.1

-- The number of a thing is below the next.
pub thing_drawn :
    (k : ThingKind) (n next : ℕ) (t : Thing) (book : Book) → AreDrawn book next → thing_at k n book ≡ Some t → n < next
thing_drawn kind.Commodity n next t book are e =
    drawn_thing (λ x. thing.Commodity x) n next t book.commodities are.commodities e
thing_drawn kind.Account n next t book are e =
    drawn_thing (λ x. thing.Account x) n next t book.accounts are.accounts e
thing_drawn kind.Txn n next t book are e =
    drawn_thing (λ x. thing.Txn x) n next t book.transactions are.transactions e
thing_drawn kind.Price n next t book are e = drawn_thing (λ x. thing.Price x) n next t book.prices are.prices e
thing_drawn kind.Schedule n next t book are e =
    drawn_thing (λ x. thing.Schedule x) n next t book.schedules are.schedules e
thing_drawn kind.Held n next t book are e =
    drawn_thing (λ x. thing.Held x) n next t book.statements are.statements e
thing_drawn kind.Line n next t book are e = drawn_thing (λ x. thing.Line x) n next t book.lines are.lines e
thing_drawn kind.Binding n next t book are e =
    drawn_thing (λ x. thing.Binding x) n next t book.bindings are.bindings e
thing_drawn kind.Recon n next t book are e =
    drawn_thing (λ x. thing.Recon x) n next t book.reconciliations are.reconciliations e

same_key : (k n : ℕ) → ((k == k) && (n == n)) ≡ true
same_key k n = grind (arith, nat_tests)

there : (o : Option Thing) → is_none o ≡ false → (t : Thing) × (o ≡ Some t)
there None e = absurd cc
there (Some t) e = (t, refl)

-- the leaves of an edit that may be applied, whose keys rise from one on, with the book before it and the one so far
leaves_drawn :
    (book now : Book) (before : Key) (ls : List Leaf) (next later : ℕ) → IsRising now
    → first_unordered before ls ≡ None → first_missing book ls ≡ None → AreDrawn book next
    → AreDrawn (after_leaves ls now) later → next ≤ 2 ^ 62 → later ≤ 2 ^ 62 → AllByRecursion IsSmallLeaf ls
leaves_drawn book now before [] next later rise order some are after small less = tt
leaves_drawn book now before (OfCurrency c ∷ ls) next later rise order some are after small less = (
  tt,
  leaves_drawn book (with_currency c now) (key_at 1 0) ls next later (rising_after (OfCurrency c) now rise)
      (rises_first before (OfCurrency c) ls order).1 some are after small less,
)
leaves_drawn book now before (OfPut n t ∷ ls) next later rise order some are after small less =
    let k = thing_kind t in
    let put = with_thing n t now in
    let rises : IsRising put = rising_after (OfPut n t) now rise in
    let more = (rises_first before (OfPut n t) ls order).1 in
    let past = above_untouched k n (key_at (row_kind k) n) ls (inr (refl, omega arith)) more in
    let stands : thing_at k n (after_leaves ls put) ≡ Some t = untouched k n ls put rises past
    ∙ thing_at-with_thing k n n t now
    ∙ ap (λ (s : Bool). if s then Some t else thing_at k n now) (same_key (row_kind k) n) in
    let below = thing_drawn k n later t (after_leaves ls put) after stands in (
      omega (arith, below, less),
      leaves_drawn book put (key_at (row_kind k) n) ls next later rises more some are after small less,
    )
leaves_drawn book now before (OfGone k n ∷ ls) next later rise order some are after small less =
    let both = missing_first book k n ls some in
    let found = there (thing_at k n book) both.0 in
    let below = thing_drawn k n next found.0 book are found.1 in (
      omega (arith, below, small),
      leaves_drawn book (without_thing k n now) (key_at (row_kind k) n) ls next later
          (rising_after (OfGone k n) now rise) (rises_first before (OfGone k n) ls order).1 both.1 are after small less,
    )

-- The leaves of an edit that may be applied are in order.
pub allowed_in_order : (book : Book) (edit : Edit) → IsAllowed book edit → out_of_order (leaves edit) ≡ None
allowed_in_order book edit allowed =
    let deeper : Option EditRule = broken_where (nat_lt 8 (depth edit)) TooDeep in
    (three_kept (first_missing book (leaves edit)) (out_of_order (leaves edit)) deeper allowed).1

-- The numbers of what an edit changes between books with drawn numbers can be those of rows.
pub small_leaves :
    (book : Book) (edit : Edit) (next later : ℕ) → IsRising book → AreDrawn book next
    → AreDrawn (edited edit book) later → next ≤ 2 ^ 62 → later ≤ 2 ^ 62 → IsAllowed book edit
    → AllByRecursion IsSmallLeaf (leaves edit)
small_leaves book edit next later rise are after small less allowed =
    let of_place : ℕ → EditRule = λ place. OutOfOrder (min place (2 ^ 64 - 1)) in
    let deeper : Option EditRule = broken_where (nat_lt 8 (depth edit)) TooDeep in
    let kept = three_kept (first_missing book (leaves edit)) (out_of_order (leaves edit)) deeper allowed in
    leaves_drawn book book (key_at 0 0) (leaves edit) next later rise
    (mapped_none of_place (first_unordered (key_at 0 0) (leaves edit)) kept.1) kept.0 are
    (subst (λ (b : Book). AreDrawn b later) (edited-leaves edit book) after) small less

-- ---- the rows of a book
abbrev IsThing : ℕ × Record → Type 0
IsThing entry = (entry.0 < 2 ^ 62) × ((t : Thing) × (entry.1 ≡ kept.Thing t))

table_things :
    {T : Type 0} (of : T → Thing) (next : ℕ) (es : List (ℕ × T)) → next < 2 ^ 62 → All (λ (e : ℕ × T). e.0 < next) es
    → AllByRecursion IsThing (records_in of es)
table_things of next [] small below = tt
table_things {T} of next (e ∷ es) small below =
    let first : e.0 < next = All-head (λ (x : ℕ × T). x.0 < next) e es below in
    let here : e.0 < 2 ^ 62 = omega (arith, first, small) in
    ((here, (of e.1, refl)), table_things of next es small (All-tail (λ (x : ℕ × T). x.0 < next) e es below))

all_joined :
    {X : Type 0} (P : X → Type 0) (ss : List (List X)) → AllByRecursion (AllByRecursion P) ss
    → AllByRecursion P (joined ss)
all_joined P [] h = tt
all_joined P (s ∷ ss) h = all_both P s (joined ss) h.0 (all_joined P ss h.1)

book_things : (book : Book) (next : ℕ) → AreDrawn book next → next < 2 ^ 62 → AllByRecursion IsThing (things_of book)
unfolding things_of
book_things book next are small =
    all_joined IsThing (tables_of book)
    (beside (table_things (λ it. thing.Commodity it) next book.commodities small are.commodities)
    (beside (table_things (λ it. thing.Account it) next book.accounts small are.accounts)
    (beside (table_things (λ it. thing.Txn it) next book.transactions small are.transactions)
    (beside (table_things (λ it. thing.Price it) next book.prices small are.prices)
    (beside (table_things (λ it. thing.Schedule it) next book.schedules small are.schedules)
    (beside (table_things (λ it. thing.Held it) next book.statements small are.statements)
    (beside (table_things (λ it. thing.Line it) next book.lines small are.lines)
    (beside (table_things (λ it. thing.Binding it) next book.bindings small are.bindings)
    (beside (table_things (λ it. thing.Recon it) next book.reconciliations small are.reconciliations)
    tt)))))))))

thing_row : (e : ℕ × Record) → IsThing e → IsRecord Two e.1 → CanBeRow Two e
thing_row e is record_is =
    let least : 2 ≤ kind_of e.1 = subst (λ (r : Record). 2 ≤ kind_of r) (sym is.1.1) (kind_least (thing_kind is.1.0)) in
    ((refl, is.0, λ one. absurd (omega (arith, least, one))), record_is)

all_rows :
    (es : List (ℕ × Record)) → AllByRecursion IsThing es → AreRecords es → AllByRecursion (CanBeRow Two) es
all_rows [] are fit = tt
all_rows (e ∷ es) are fit = (thing_row e are.0 fit.0, all_rows es are.1 fit.1)

back_can :
    (from : ℕ) (steps : List (ℕ × Edit)) → AreNumberedFrom from steps → from + length steps ≤ 2 ^ 62
    → AreRecords (back_records steps) → AllByRecursion (CanBeRow Two) (back_records steps)
back_can from [] numbers few fit = tt
back_can from (step ∷ steps) numbers few fit =
    let here = numbers.0 in (
      ((refl, omega (arith, here, few), λ one. absurd cc), fit.0),
      back_can (suc from) steps numbers.1 (omega (arith, few)) fit.1,
    )

forth_can :
    (from : ℕ) (steps : List (ℕ × Edit)) → AreNumberedFrom from steps → from + length steps ≤ 2 ^ 62
    → AreRecords (forth_records steps) → AllByRecursion (CanBeRow Two) (forth_records steps)
forth_can from [] numbers few fit = tt
forth_can from (step ∷ steps) numbers few fit =
    let here = numbers.0 in (
      ((refl, omega (arith, here, few), λ one. absurd cc), fit.0),
      forth_can (suc from) steps numbers.1 (omega (arith, few)) fit.1,
    )

-- The records of a state that an engine keeps can be rows, where they have spellings.
pub can_be_rows :
    (state : State) (saved : Bool) → IsWhole state saved → AreRecords (records_of state)
    → AllByRecursion (CanBeRow Two) (records_of state)
can_be_rows state saved whole fit =
    let things = things_of state.book in
    let back = back_records state.back in
    let forth = forth_records state.forth in
    let h = whole.history in
    let reached = h.reached in
    let past = h.back_count in
    let later = h.forth_count in
    let few = whole.few in
    let least : AreRecords (things ++ (back ++ forth)) = fit.1 in
    let steps : AreRecords (back ++ forth) = all_last (λ (e : ℕ × Record). IsRecord Two e.1) things (back ++ forth) least in
    let small = whole.sound.next in
    let can : AllByRecursion (CanBeRow Two) (behind_head state) =
    all_both (CanBeRow Two) things (back ++ forth)
    (all_rows things (book_things state.book state.next whole.sound.drawn small)
    (all_first (λ (e : ℕ × Record). IsRecord Two e.1) things (back ++ forth) least))
    (all_both (CanBeRow Two) back forth
    (back_can (state.position - state.past + 1) state.back h.back_numbers (omega (arith, reached, past, few))
    (all_first (λ (e : ℕ × Record). IsRecord Two e.1) back forth steps))
    (forth_can (state.position + 1) state.forth h.forth_numbers (omega (arith, later, few))
    (all_last (λ (e : ℕ × Record). IsRecord Two e.1) back forth steps))) in
    (((refl, omega arith, λ one. refl), fit.0), can)
