-- The records of a book by kind: what a thing that is put or deleted changes of them.
use Rattle.std.proofs.Common.{◌≡◌, ℕ, suc, ◌+◌, ◌-◌, ◌*◌, ◌^◌, ◌<◌, ◌≤◌, List, [], ◌∷◌, refl}
use Rattle.std.proofs.Common.{sym, ap, ◌∙◌, subst, arith}
use Rattle.std.specs.List.{AllByRecursion}
use Rattle.book_commodity.specs.Table.{Rises, with_entry, without_entry}
use Rattle.book_undo.specs.Book.{Book, IsRising, with_thing, without_thing}
use Rattle.book_undo.specs.Thing.{kind_of as thing_kind, row_kind}
use Rattle.book_undo.specs.declared.thing.Thing.{Thing}
use Rattle.book_undo.specs.declared.thing.Thing.TheVariants as thing
use Rattle.book_undo.specs.declared.thing.ThingKind.{ThingKind}
use Rattle.book_undo.specs.declared.thing.ThingKind.TheVariants as kind
use Rattle.book_rows.specs.Row.{kind_of}
use Rattle.book_rows.specs.declared.record.Record.{Record}
use Rattle.book_rows.specs.declared.record.Record.TheVariants as kept
use Rattle.book_opening.specs.BookRows.{records_in, tables_of, things_of}
use Rattle.book_opening.proofs.Ranked.{put_in, take_out, put_at, take_at, joined, InOrder, put_entry, take_entry}
use Rattle.book_opening.proofs.Ranked.{all_weak, beside}
use Rattle.book_opening.proofs.Ranked.{put_joined, take_joined, all_first, all_last, RisesBy, rises_entries}
use Rattle.book_opening.proofs.Ranked.{rises_joined, above_first_edge, below_edge}

-- The place of a record under a number among all, as one number.
abbrev pub rank_of : ℕ × Record → ℕ
rank_of entry = kind_of entry.1 * 2 ^ 64 + entry.0

-- The number of a record can be that of a row.
abbrev pub IsSmall : ℕ × Record → Type 0
IsSmall entry = entry.0 < 2 ^ 62

-- Where the rows of a kind begin.
abbrev edge : ℕ → ℕ
edge k = k * 2 ^ 64

edges_rise : (i : ℕ) → edge i ≤ edge (suc i)
edges_rise i = omega arith

-- The kind of a record under a number.
abbrev pub kind_at : ℕ × Record → ℕ
kind_at entry = kind_of entry.1

of_kind :
    {T : Type 0} (k : ℕ) (of : T → Thing) → ((x : T) → kind_of (kept.Thing (of x)) ≡ k) → (es : List (ℕ × T))
    → AllByRecursion (λ e. (k ≤ kind_at e) × (kind_at e < suc k)) (records_in of es)
of_kind k of same [] = tt
of_kind k of same (e ∷ es) =
    let here = same e.1 in ((omega (arith, here), omega (arith, here)), of_kind k of same es)

within_edges : (k n m : ℕ) → k ≡ m → n < 2 ^ 62 → (edge m ≤ k * 2 ^ 64 + n) × (k * 2 ^ 64 + n < edge (suc m))
within_edges k n m same small =
    subst (λ (i : ℕ). (edge i ≤ k * 2 ^ 64 + n) × (k * 2 ^ 64 + n < edge (suc i))) same (omega arith, omega arith)

piece_in_order :
    (k : ℕ) (s : List (ℕ × Record)) → AllByRecursion (λ e. (k ≤ kind_at e) × (kind_at e < suc k)) s
    → AllByRecursion IsSmall s → AllByRecursion (λ e. (edge k ≤ rank_of e) × (rank_of e < edge (suc k))) s
piece_in_order k [] same small = tt
piece_in_order k (e ∷ es) same small =
    let low = same.0.0 in let high = same.0.1 in
    (within_edges (kind_of e.1) e.0 k (omega (arith, low, high)) small.0, piece_in_order k es same.1 small.1)

in_order :
    (k : ℕ) (ss : List (List (ℕ × Record))) → InOrder kind_at (λ i. i) k ss → AllByRecursion IsSmall (joined ss)
    → InOrder rank_of edge k ss
in_order k [] same small = tt
in_order k (s ∷ ss) same small = (
  piece_in_order k s same.0 (all_first IsSmall s (joined ss) small),
  in_order (suc k) ss same.1 (all_last IsSmall s (joined ss) small),
)

-- The records of each table are of its kind.
pub kinds_of : (b : Book) → InOrder kind_at (λ i. i) 2 (tables_of b)
kinds_of b =
    beside (of_kind 2 (λ it. thing.Commodity it) (λ _. refl) b.commodities)
    (beside (of_kind 3 (λ it. thing.Account it) (λ _. refl) b.accounts)
    (beside (of_kind 4 (λ it. thing.Txn it) (λ _. refl) b.transactions)
    (beside (of_kind 5 (λ it. thing.Price it) (λ _. refl) b.prices)
    (beside (of_kind 6 (λ it. thing.Schedule it) (λ _. refl) b.schedules)
    (beside (of_kind 7 (λ it. thing.Held it) (λ _. refl) b.statements)
    (beside (of_kind 8 (λ it. thing.Line it) (λ _. refl) b.lines)
    (beside (of_kind 9 (λ it. thing.Binding it) (λ _. refl) b.bindings)
    (beside (of_kind 10 (λ it. thing.Recon it) (λ _. refl) b.reconciliations)
    tt))))))))

tables_in_order : (b : Book) → AllByRecursion IsSmall (things_of b) → InOrder rank_of edge 2 (tables_of b)
unfolding things_of
tables_in_order b small = in_order 2 (tables_of b) (kinds_of b) small

put_table :
    {T : Type 0} (k : ℕ) (of : T → Thing) → ((x : T) → kind_of (kept.Thing (of x)) ≡ k) → (n : ℕ) (x : T)
    (es : List (ℕ × T)) → put_in rank_of (n, kept.Thing (of x)) (records_in of es) ≡ records_in of (with_entry n x es)
put_table {T} k of same n x es =
    put_entry (k * 2 ^ 64) (λ (e : ℕ × T). (e.0, kept.Thing (of e.1))) rank_of
    (λ e. ap (λ (i : ℕ). i * 2 ^ 64 + e.0) (same e.1)) n x es

take_table :
    {T : Type 0} (k : ℕ) (of : T → Thing) → ((x : T) → kind_of (kept.Thing (of x)) ≡ k) → (n : ℕ)
    (es : List (ℕ × T)) → take_out rank_of (k * 2 ^ 64 + n) (records_in of es) ≡ records_in of (without_entry n es)
take_table {T} k of same n es =
    take_entry (k * 2 ^ 64) (λ (e : ℕ × T). (e.0, kept.Thing (of e.1))) rank_of
    (λ e. ap (λ (i : ℕ). i * 2 ^ 64 + e.0) (same e.1)) n (k * 2 ^ 64 + n) refl es

-- A thing that is put changes the table of its kind, and one that is deleted likewise.
put_tables :
    (n : ℕ) (t : Thing) (b : Book)
    → put_at rank_of (row_kind (thing_kind t) - 2) (n, kept.Thing t) (tables_of b) ≡ tables_of (with_thing n t b)
put_tables n (thing.Commodity x) b =
    let same = put_table 2 (λ it. thing.Commodity it) (λ _. refl) n x b.commodities in cc
put_tables n (thing.Account x) b =
    let same = put_table 3 (λ it. thing.Account it) (λ _. refl) n x b.accounts in cc
put_tables n (thing.Txn x) b =
    let same = put_table 4 (λ it. thing.Txn it) (λ _. refl) n x b.transactions in cc
put_tables n (thing.Price x) b =
    let same = put_table 5 (λ it. thing.Price it) (λ _. refl) n x b.prices in cc
put_tables n (thing.Schedule x) b =
    let same = put_table 6 (λ it. thing.Schedule it) (λ _. refl) n x b.schedules in cc
put_tables n (thing.Held x) b =
    let same = put_table 7 (λ it. thing.Held it) (λ _. refl) n x b.statements in cc
put_tables n (thing.Line x) b =
    let same = put_table 8 (λ it. thing.Line it) (λ _. refl) n x b.lines in cc
put_tables n (thing.Binding x) b =
    let same = put_table 9 (λ it. thing.Binding it) (λ _. refl) n x b.bindings in cc
put_tables n (thing.Recon x) b =
    let same = put_table 10 (λ it. thing.Recon it) (λ _. refl) n x b.reconciliations in cc

take_tables :
    (k : ThingKind) (n : ℕ) (b : Book)
    → take_at rank_of (row_kind k - 2) (row_kind k * 2 ^ 64 + n) (tables_of b) ≡ tables_of (without_thing k n b)
take_tables kind.Commodity n b =
    let same = take_table 2 (λ it. thing.Commodity it) (λ _. refl) n b.commodities in cc
take_tables kind.Account n b =
    let same = take_table 3 (λ it. thing.Account it) (λ _. refl) n b.accounts in cc
take_tables kind.Txn n b =
    let same = take_table 4 (λ it. thing.Txn it) (λ _. refl) n b.transactions in cc
take_tables kind.Price n b =
    let same = take_table 5 (λ it. thing.Price it) (λ _. refl) n b.prices in cc
take_tables kind.Schedule n b =
    let same = take_table 6 (λ it. thing.Schedule it) (λ _. refl) n b.schedules in cc
take_tables kind.Held n b =
    let same = take_table 7 (λ it. thing.Held it) (λ _. refl) n b.statements in cc
take_tables kind.Line n b =
    let same = take_table 8 (λ it. thing.Line it) (λ _. refl) n b.lines in cc
take_tables kind.Binding n b =
    let same = take_table 9 (λ it. thing.Binding it) (λ _. refl) n b.bindings in cc
take_tables kind.Recon n b =
    let same = take_table 10 (λ it. thing.Recon it) (λ _. refl) n b.reconciliations in cc

pub kind_most : (k : ThingKind) → row_kind k ≤ 10
kind_most kind.Commodity = omega arith
kind_most kind.Account = omega arith
kind_most kind.Txn = omega arith
kind_most kind.Price = omega arith
kind_most kind.Schedule = omega arith
kind_most kind.Held = omega arith
kind_most kind.Line = omega arith
kind_most kind.Binding = omega arith
kind_most kind.Recon = omega arith

pub kind_least : (k : ThingKind) → 2 ≤ row_kind k
kind_least kind.Commodity = omega arith
kind_least kind.Account = omega arith
kind_least kind.Txn = omega arith
kind_least kind.Price = omega arith
kind_least kind.Schedule = omega arith
kind_least kind.Held = omega arith
kind_least kind.Line = omega arith
kind_least kind.Binding = omega arith
kind_least kind.Recon = omega arith

-- The place of a kind's table, and the edges of its records.
abbrev Within : ThingKind → ℕ → Type 0
Within k m =
    (row_kind k - 2 < 9) × (edge (2 + (row_kind k - 2)) ≤ m) × (m < edge (suc (2 + (row_kind k - 2))))

within_kind : (k : ThingKind) (n : ℕ) → n < 2 ^ 62 → Within k (row_kind k * 2 ^ 64 + n)
within_kind k n small =
    let least = kind_least k in
    let most = kind_most k in
    let edges = within_edges (row_kind k) n (2 + (row_kind k - 2)) (omega (arith, least)) small in (
      omega (arith, least, most),
      edges.0,
      edges.1,
    )

-- the records of a book with a thing put are those of the book with its record put in
pub things_with :
    (n : ℕ) (t : Thing) (b : Book) → n < 2 ^ 62 → AllByRecursion IsSmall (things_of b)
    → things_of (with_thing n t b) ≡ put_in rank_of (n, kept.Thing t) (things_of b)
unfolding things_of
things_with n t b small all =
    let k = thing_kind t in
    let within = within_kind k n small in
    ap joined (sym (put_tables n t b))
    ∙ sym (put_joined rank_of edge edges_rise (row_kind k - 2) 2 (n, kept.Thing t) (tables_of b) (tables_in_order b all)
    within.0 within.1 within.2)

-- and with one deleted, those without its record
pub things_without :
    (k : ThingKind) (n : ℕ) (b : Book) → n < 2 ^ 62 → AllByRecursion IsSmall (things_of b)
    → things_of (without_thing k n b) ≡ take_out rank_of (row_kind k * 2 ^ 64 + n) (things_of b)
unfolding things_of
things_without k n b small all =
    let within = within_kind k n small in
    ap joined (sym (take_tables k n b))
    ∙ sym (take_joined rank_of edge edges_rise (row_kind k - 2) 2 (row_kind k * 2 ^ 64 + n) (tables_of b)
    (tables_in_order b all) within.0 within.1 within.2)

rises_table :
    {T : Type 0} (k : ℕ) (of : T → Thing) → ((x : T) → kind_of (kept.Thing (of x)) ≡ k) → (es : List (ℕ × T))
    → Rises es → RisesBy rank_of (records_in of es)
rises_table {T} k of same es rise =
    rises_entries (k * 2 ^ 64) (λ (e : ℕ × T). (e.0, kept.Thing (of e.1))) rank_of
    (λ e. ap (λ (i : ℕ). i * 2 ^ 64 + e.0) (same e.1)) es rise

-- the records of a book rise by kind and number
pub things_rise : (b : Book) → IsRising b → AllByRecursion IsSmall (things_of b) → RisesBy rank_of (things_of b)
unfolding things_of
things_rise b rise small =
    rises_joined rank_of edge edges_rise 2 (tables_of b) (in_order 2 (tables_of b) (kinds_of b) small)
    (beside (rises_table 2 (λ it. thing.Commodity it) (λ _. refl) b.commodities rise.commodities)
    (beside (rises_table 3 (λ it. thing.Account it) (λ _. refl) b.accounts rise.accounts)
    (beside (rises_table 4 (λ it. thing.Txn it) (λ _. refl) b.transactions rise.transactions)
    (beside (rises_table 5 (λ it. thing.Price it) (λ _. refl) b.prices rise.prices)
    (beside (rises_table 6 (λ it. thing.Schedule it) (λ _. refl) b.schedules rise.schedules)
    (beside (rises_table 7 (λ it. thing.Held it) (λ _. refl) b.statements rise.statements)
    (beside (rises_table 8 (λ it. thing.Line it) (λ _. refl) b.lines rise.lines)
    (beside (rises_table 9 (λ it. thing.Binding it) (λ _. refl) b.bindings rise.bindings)
    (beside (rises_table 10 (λ it. thing.Recon it) (λ _. refl) b.reconciliations rise.reconciliations)
    tt)))))))))

-- and they stand behind the head
pub things_behind : (b : Book) → AllByRecursion IsSmall (things_of b)
    → AllByRecursion (λ e. 1 * 2 ^ 64 + 0 < rank_of e) (things_of b)
unfolding things_of
things_behind b small =
    above_first_edge rank_of edge edges_rise 2 (tables_of b) (in_order 2 (tables_of b) (kinds_of b) small)
    (1 * 2 ^ 64 + 0) (omega arith)

-- and before the steps
pub things_below : (b : Book) → AllByRecursion IsSmall (things_of b)
    → AllByRecursion (λ e. rank_of e < 11 * 2 ^ 64) (things_of b)
unfolding things_of
things_below b small =
    below_edge rank_of edge edges_rise 2 (tables_of b) (in_order 2 (tables_of b) (kinds_of b) small)

-- The kinds of things are at most 10.
pub things_kinds : (b : Book) → AllByRecursion (λ e. kind_at e ≤ 10) (things_of b)
unfolding things_of
things_kinds b =
    all_weak (λ (e : ℕ × Record). kind_at e < 11) (λ (e : ℕ × Record). kind_at e ≤ 10) (λ e h. omega (arith, h))
    (things_of b) (below_edge kind_at (λ i. i) (λ i. omega arith) 2 (tables_of b) (kinds_of b))
