-- The changes that put the entries of tables, table by table.
use Rattle.std.proofs.Common.{◌≡◌, ℕ, ◌+◌, List, [], ◌∷◌, ◌++◌, map, drop, Some, option_map}
use Rattle.std.proofs.Common.{slice_get, refl, sym, ap, ◌∙◌, subst, append_assoc, append-nil}
use Rattle.std.specs.List.{AllByRecursion}
use Rattle.book_keeper.specs.declared.row.Change.{Change}
use Rattle.book_keeper.specs.declared.row.Change.TheVariants as change
use Rattle.book_undo.specs.Book.{Book}
use Rattle.book_undo.specs.declared.thing.Thing.{Thing}
use Rattle.book_undo.specs.declared.thing.Thing.TheVariants as thing
use Rattle.book_undo.specs.declared.edit.Edit.{Edit}
use Rattle.book_rows.specs.EditBytes.{edit_bytes, IsEdit}
use Rattle.book_rows.specs.Row.{IsRecord, fields_of, kind_of}
use Rattle.book_rows.specs.declared.record.Record.{Record}
use Rattle.book_rows.specs.declared.record.Record.TheVariants as kept
use Rattle.book_opening.specs.BookRows.{back_records, forth_records, records_in, row_of, tables_of}
use Rattle.book_opening.specs.BookRows.{things_of}
use Rattle.book_opening.specs.Changes.{AreRecords, entry_put, puts_of}
use Rattle.book_opening.proofs.Ranked.{all_both, joined}
use Rattle.book_commodity.proofs.ListLemmas.{drop_at, mapped_some}
use Rattle.book_rows.specs.declared.format.RowFormat.TheVariants.{Two}

-- one entry more is put
pub entry_added :
    {T : Type 0} (kind : ℕ) (bytes : T → List ℕ) (changes next all : List Change) (e : ℕ × T) (left rest : List (ℕ × T))
    → left ≡ e ∷ rest → next ≡ changes ++ entry_put kind bytes e ∷ []
    → changes ++ map (entry_put kind bytes) left ≡ all → next ++ map (entry_put kind bytes) rest ≡ all
entry_added kind bytes changes next all e left rest is more so_far =
    ap (λ (l : List Change). l ++ map (entry_put kind bytes) rest) more
    ∙ append_assoc changes (entry_put kind bytes e ∷ []) (map (entry_put kind bytes) rest)
    ∙ ap (λ (l : List (ℕ × _)). changes ++ map (entry_put kind bytes) l) (sym is) ∙ so_far

pub entry_fit :
    {T Z : Type 0} (P : ℕ × T → Type 0) (e : ℕ × T) (left rest : List (ℕ × T)) → left ≡ e ∷ rest → P e
    → (AllByRecursion P left → Z) → AllByRecursion P rest → Z
entry_fit P e left rest is here so_far more = so_far (subst (AllByRecursion P) (sym is) (here, more))

-- the entry at a place, by its number and its value
pub entry_at :
    {T : Type 0} (es : List (ℕ × T)) (i n : ℕ) (v : T) → option_map (λ (e : ℕ × T). e.0) (slice_get es i) ≡ Some n
    → option_map (λ (e : ℕ × T). e.1) (slice_get es i) ≡ Some v → drop i es ≡ (n, v) ∷ drop (i + 1) es
entry_at {T} es i n v number value =
    let a = mapped_some (λ (e : ℕ × T). e.0) (slice_get es i) n number in
    let b = mapped_some (λ (e : ℕ × T). e.1) (slice_get es i) v value in
    let same : a.0 ≡ b.0 = (let p = a.1 in let q = b.1 in cc) in
    let here : a.0 ≡ (n, v) =
    ap (λ (m : ℕ). (m, a.0.1)) a.2 ∙ ap (λ (x : T). (n, x)) (ap (λ (e : ℕ × T). e.1) same ∙ b.2) in
    drop_at es i a.0 a.1 ∙ ap (λ (e : ℕ × T). e ∷ drop (i + 1) es) here

-- the changes that put a table's entries are those of its records
pub table_puts :
    {T : Type 0} (kind : ℕ) (bytes : T → List ℕ) (of : T → Thing) → ((x : T) → kind_of (kept.Thing (of x)) ≡ kind)
    → ((x : T) → fields_of Two (kept.Thing (of x)) ≡ bytes x) → (es : List (ℕ × T))
    → map (entry_put kind bytes) es ≡ puts_of (records_in of es)
table_puts kind bytes of same spelled [] = refl
table_puts {T} kind bytes of same spelled (e ∷ es) =
    ap (λ (l : List Change). entry_put kind bytes e ∷ l) (table_puts kind bytes of same spelled es)
    ∙ ap (λ (k : ℕ). change.Put (record { key = record { kind = k; id = e.0 }; body = 2 ∷ bytes e.1 })
    ∷ puts_of (records_in of es)) (sym (same e.1))
    ∙ ap
    (λ (b : List ℕ). change.Put (record {
      key = record { kind = kind_of (kept.Thing (of e.1)); id = e.0 };
      body = 2 ∷ b;
    })
    ∷ puts_of (records_in of es)) (sym (spelled e.1))

pub table_fit :
    {T : Type 0} (P : T → Type 0) (of : T → Thing) → ((x : T) → P x → IsRecord Two (kept.Thing (of x)))
    → (es : List (ℕ × T)) → AllByRecursion (λ e. P e.1) es → AreRecords (records_in of es)
table_fit P of fits [] h = tt
table_fit P of fits (e ∷ es) h = (fits e.1 h.0, table_fit P of fits es h.1)

puts-both : (xs ys : List (ℕ × Record)) → puts_of (xs ++ ys) ≡ puts_of xs ++ puts_of ys
puts-both [] ys = refl
puts-both (x ∷ xs) ys = ap (λ (l : List Change). change.Put (row_of Two x) ∷ l) (puts-both xs ys)

puts-joined : (ss : List (List (ℕ × Record))) → puts_of (joined ss) ≡ joined (map puts_of ss)
puts-joined [] = refl
puts-joined (s ∷ ss) = puts-both s (joined ss) ∙ ap (λ (l : List Change). puts_of s ++ l) (puts-joined ss)

-- the changes that put all things of a book
pub puts-things : (b : Book) → puts_of (things_of b) ≡ joined (map puts_of (tables_of b))
unfolding things_of
puts-things b = puts-joined (tables_of b)

all-joined : (ss : List (List (ℕ × Record))) → AllByRecursion AreRecords ss → AreRecords (joined ss)
all-joined [] h = tt
all-joined (s ∷ ss) h = all_both (λ e. IsRecord Two e.1) s (joined ss) h.0 (all-joined ss h.1)

pub all-things : (b : Book) → AllByRecursion AreRecords (tables_of b) → AreRecords (things_of b)
unfolding things_of
all-things b h = all-joined (tables_of b) h

-- nine pieces behind one, added three by three
pub nine_behind :
    {X : Type 0} (z a b c d e f g h i : List X)
    → ((((((((z ++ a) ++ b) ++ c) ++ d) ++ e) ++ f) ++ g) ++ h) ++ i
    ≡ z ++ (a ++ (b ++ (c ++ (d ++ (e ++ (f ++ (g ++ (h ++ (i ++ [])))))))))
nine_behind z a b c d e f g h i = simp (append_assoc, append-nil)

-- a table is put behind what was there
pub table_added :
    {T : Type 0} (kind : ℕ) (bytes : T → List ℕ) (of : T → Thing) → ((x : T) → kind_of (kept.Thing (of x)) ≡ kind)
    → ((x : T) → fields_of Two (kept.Thing (of x)) ≡ bytes x) → (es slice : List (ℕ × T)) (old new : List Change)
    → slice ≡ es → new ≡ old ++ map (entry_put kind bytes) slice → new ≡ old ++ puts_of (records_in of es)
table_added kind bytes of same spelled es slice old new is added =
    added ∙ ap (λ l. old ++ map (entry_put kind bytes) l) is
    ∙ ap (λ (l : List Change). old ++ l) (table_puts kind bytes of same spelled es)

pub slice_fit :
    {T : Type 0} (P : T → Type 0) (of : T → Thing) → ((x : T) → P x → IsRecord Two (kept.Thing (of x)))
    → (es slice : List (ℕ × T)) → slice ≡ es → AllByRecursion (λ e. P e.1) slice → AreRecords (records_in of es)
slice_fit {T} P of fits es slice is h =
    table_fit P of fits es (subst (λ (l : List (ℕ × T)). AllByRecursion (λ e. P e.1) l) is h)

-- three pieces, one behind another
pub three_behind :
    (z a b c one two three : List Change) → one ≡ z ++ a → two ≡ one ++ b → three ≡ two ++ c
    → three ≡ z ++ a ++ b ++ c
three_behind z a b c one two three p q r =
    r ∙ ap (λ (l : List Change). l ++ c) (q ∙ ap (λ (l : List Change). l ++ b) p)

-- a head and the nine tables, three by three
pub all_put_whole :
    (b : Book) (head : Change) (one two three four : List Change) → one ≡ head ∷ []
    → two ≡ one ++ puts_of (records_in (λ it. thing.Commodity it) b.commodities)
    ++ puts_of (records_in (λ it. thing.Account it) b.accounts)
    ++ puts_of (records_in (λ it. thing.Txn it) b.transactions)
    → three ≡ two ++ puts_of (records_in (λ it. thing.Price it) b.prices)
    ++ puts_of (records_in (λ it. thing.Schedule it) b.schedules)
    ++ puts_of (records_in (λ it. thing.Held it) b.statements)
    → four ≡ three ++ puts_of (records_in (λ it. thing.Line it) b.lines)
    ++ puts_of (records_in (λ it. thing.Binding it) b.bindings)
    ++ puts_of (records_in (λ it. thing.Recon it) b.reconciliations)
    → four ≡ head ∷ puts_of (things_of b)
all_put_whole b head one two three four o p q r =
    r ∙ ap (λ (l : List Change). l ++ puts_of (records_in (λ it. thing.Line it) b.lines)
    ++ puts_of (records_in (λ it. thing.Binding it) b.bindings)
    ++ puts_of (records_in (λ it. thing.Recon it) b.reconciliations))
    (q ∙ ap (λ (l : List Change). l ++ puts_of (records_in (λ it. thing.Price it) b.prices)
    ++ puts_of (records_in (λ it. thing.Schedule it) b.schedules)
    ++ puts_of (records_in (λ it. thing.Held it) b.statements))
    (p ∙ ap (λ (l : List Change). l ++ puts_of (records_in (λ it. thing.Commodity it) b.commodities)
    ++ puts_of (records_in (λ it. thing.Account it) b.accounts)
    ++ puts_of (records_in (λ it. thing.Txn it) b.transactions)) o))
    ∙ nine_behind (head ∷ []) (puts_of (records_in (λ it. thing.Commodity it) b.commodities))
    (puts_of (records_in (λ it. thing.Account it) b.accounts))
    (puts_of (records_in (λ it. thing.Txn it) b.transactions))
    (puts_of (records_in (λ it. thing.Price it) b.prices))
    (puts_of (records_in (λ it. thing.Schedule it) b.schedules))
    (puts_of (records_in (λ it. thing.Held it) b.statements))
    (puts_of (records_in (λ it. thing.Line it) b.lines))
    (puts_of (records_in (λ it. thing.Binding it) b.bindings))
    (puts_of (records_in (λ it. thing.Recon it) b.reconciliations))
    ∙ ap (λ (l : List Change). head ∷ l) (sym (puts-things b))

-- ---- steps
-- The changes that put the entries of a table of steps are those of its records.
pub back_puts : (es : List (ℕ × Edit)) → map (entry_put 11 (edit_bytes Two)) es ≡ puts_of (back_records es)
back_puts [] = refl
back_puts (e ∷ es) = ap (λ (l : List Change). entry_put 11 (edit_bytes Two) e ∷ l) (back_puts es)

pub forth_puts : (es : List (ℕ × Edit)) → map (entry_put 12 (edit_bytes Two)) es ≡ puts_of (forth_records es)
forth_puts [] = refl
forth_puts (e ∷ es) = ap (λ (l : List Change). entry_put 12 (edit_bytes Two) e ∷ l) (forth_puts es)

pub back_fit : (es : List (ℕ × Edit)) → AllByRecursion (λ e. IsEdit Two e.1) es → AreRecords (back_records es)
back_fit [] h = tt
back_fit (e ∷ es) h = (h.0, back_fit es h.1)

pub forth_fit : (es : List (ℕ × Edit)) → AllByRecursion (λ e. IsEdit Two e.1) es → AreRecords (forth_records es)
forth_fit [] h = tt
forth_fit (e ∷ es) h = (h.0, forth_fit es h.1)

-- both tables of steps, one behind the other
pub steps_added :
    (back forth back_slice forth_slice : List (ℕ × Edit)) (old middle new : List Change) → back_slice ≡ back
    → forth_slice ≡ forth → middle ≡ old ++ map (entry_put 11 (edit_bytes Two)) back_slice
    → new ≡ middle ++ map (entry_put 12 (edit_bytes Two)) forth_slice
    → new ≡ old ++ puts_of (back_records back) ++ puts_of (forth_records forth)
steps_added back forth back_slice forth_slice old middle new p q first second =
    second
    ∙ ap (λ l. middle ++ map (entry_put 12 (edit_bytes Two)) l) q
    ∙ ap (λ (l : List Change). middle ++ l) (forth_puts forth)
    ∙ ap (λ (l : List Change). l ++ puts_of (forth_records forth))
    (first ∙ ap (λ l. old ++ map (entry_put 11 (edit_bytes Two)) l) p ∙ ap (λ (l : List Change). old ++ l) (back_puts back))

-- the tables of steps behind the things
pub all_put_steps :
    (head : Change) (things back forth : List (ℕ × Record)) (four five : List Change) → four ≡ head ∷ puts_of things
    → five ≡ four ++ puts_of back ++ puts_of forth → five ≡ head ∷ puts_of (things ++ (back ++ forth))
all_put_steps head things back forth four five so_far more =
    more
    ∙ ap (λ (l : List Change). l ++ puts_of back ++ puts_of forth) so_far
    ∙ ap (λ (l : List Change). head ∷ l)
    (append_assoc (puts_of things) (puts_of back) (puts_of forth)
    ∙ ap (λ (l : List Change). puts_of things ++ l) (sym (puts-both back forth))
    ∙ sym (puts-both things (back ++ forth)))

pub all_fit :
    (things back forth : List (ℕ × Record)) → AreRecords things → AreRecords back → AreRecords forth
    → AreRecords (things ++ (back ++ forth))
all_fit things back forth h k l =
    all_both (λ e. IsRecord Two e.1) things (back ++ forth) h (all_both (λ e. IsRecord Two e.1) back forth k l)
