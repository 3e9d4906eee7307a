-- One row more is read: the state so far has what it stands for, and has exactly what the rows so far stand for.
use Rattle.std.proofs.Common.{◌≡◌, ℕ, zero, suc, ◌+◌, ◌*◌, ◌^◌, ◌<◌, ◌≤◌, List, [], ◌∷◌, ◌++◌, map, Some, None}
use Rattle.std.proofs.Common.{Result, Ok, Err, IfOk, IfErr, inl, inr, refl, sym, ap, ◌∙◌, subst, arith}
use Rattle.book_rows.specs.Row.{IsSpelledBy, kind_of}
use Rattle.std.specs.List.{AllByRecursion}
use Rattle.book_keeper.specs.declared.keeper.Keeper.{Ghosts}
use Rattle.book_keeper.specs.declared.row.Row.{Row}
use Rattle.book_keeper.specs.declared.row.RowKey.{RowKey}
use Rattle.book_keeper.specs.Rows.{Rises, rank, first_above, first_row, with_row}
use Rattle.book_undo.specs.Book.{Book, empty_book}
use Rattle.book_undo.specs.declared.edit.Edit.{Edit}
use Rattle.book_undo.proofs.BookLaws.{currency-with}
use Rattle.book_rows.specs.declared.head.Head.{Head}
use Rattle.book_rows.specs.declared.record.Record.{Record}
use Rattle.book_rows.specs.declared.record.Record.TheVariants as kept
use Rattle.book_opening.specs.BookRows.{back_records, behind_head, forth_records, records_of, row_of, rows_of}
use Rattle.book_opening.specs.BookRows.{things_of}
use Rattle.book_opening.specs.Opening.{Begins, IsBadFor, IsBadHead, IsBadThing, IsLeastBad, IsNoRecord}
use Rattle.book_opening.specs.Opening.{IsOnlyRecord, IsOpened, OpenIn, StaysSure, WasRead, WhereBad, WhereRead}
use Rattle.book_opening.specs.Opening.{head_key}
use Rattle.book_opening.specs.Reading.{IsBegun, IsFirstBad, IsWhole, bad_key, with_record}
use Rattle.book_opening.specs.State.{State, head_of, state_of}
use Rattle.book_opening.specs.Steps.{AreCounted}
use Rattle.book_opening.specs.declared.fault.OpenFault.{OpenFault}
use Rattle.book_opening.specs.declared.fault.OpenFault.TheVariants as fault
use Rattle.book_opening.specs.declared.saved.Saved.{Saved}
use Rattle.book_opening.proofs.Ranked.{all_weak}
use Rattle.book_opening.proofs.ThingRecords.{IsSmall}
use Rattle.book_opening.proofs.ChangeLaws.{all_with, put_row, rows_under}
use Rattle.book_opening.proofs.StepLaws.{part_bad, whole_bad, whole_opens}
use Rattle.book_opening.proofs.UpTo.{up_to, up_to_next, up_to_end, up_to_first, bad_first, bad_head}
use Rattle.book_rows.specs.Format.{format_in}
use Rattle.book_rows.specs.declared.format.RowFormat.{RowFormat}
use Rattle.book_opening.specs.BookRows.{rows_format}

small_records : (m : RowFormat) (es : List (ℕ × Record)) → AllByRecursion (IsOnlyRecord m) es → AllByRecursion IsSmall es
small_records m es h = all_weak (IsOnlyRecord m) IsSmall (λ e only. only.0.0.1) es h

-- The head stays with one more.
pub head_with : (n : ℕ) (it : Record) (s : State) → head_of (with_record n it s) ≡ head_of s
head_with n (kept.Head h) s = refl
head_with n (kept.Thing t) s =
    ap
    (λ (c : ℕ). record {
      next = s.next;
      version = s.version;
      position = s.position;
      past = s.past;
      later = s.later;
      currency = c;
    })
    (currency-with n t s.book)
head_with n (kept.Back e) s = refl
head_with n (kept.Forth e) s = refl

pub next_head :
    (s t : State) (n : ℕ) (it : Record) (head : Head) → t ≡ with_record n it s → head_of s ≡ head → head_of t ≡ head
next_head s t n it head is same = ap head_of is ∙ head_with n it s ∙ same

pub next_read :
    (m : RowFormat) (s t : State) (n : ℕ) (it : Record) → 2 ≤ kind_of it → t ≡ with_record n it s → IsOnlyRecord m (n, it)
    → AllByRecursion (IsOnlyRecord m) (records_of s) → AllByRecursion (IsOnlyRecord m) (records_of t)
next_read m s t n it least is here h =
    subst (λ (x : State). AllByRecursion (IsOnlyRecord m) (records_of x)) (sym is) (
      subst (λ (x : Head). IsOnlyRecord m (0, kept.Head x)) (sym (head_with n it s)) h.0,
      all_with (IsOnlyRecord m) n it s least here.0.0.1 (small_records m (behind_head s) h.1) here h.1,
    )

pub next_rows :
    (m : RowFormat) (rows : List Row) (last : ℕ) (row : Row) (s t : State) (n : ℕ) (it : Record) → 2 ≤ kind_of it → Rises rows
    → first_above last rows ≡ Some row → up_to last rows ≡ rows_of m s → row ≡ row_of m (n, it)
    → t ≡ with_record n it s → IsOnlyRecord m (n, it) → AllByRecursion (IsOnlyRecord m) (records_of s)
    → up_to (rank row.key) rows ≡ rows_of m t
next_rows m rows last row s t n it least rise next so_far row_is is here h =
    up_to_next last rows row rise next
    ∙ ap (with_row row) so_far
    ∙ ap (λ (r : Row). with_row r (rows_of m s)) row_is
    ∙ put_row m (head_of s) n it s least here.0.0.1 (small_records m (behind_head s) h.1)
    ∙ ap (λ (h : Head). rows_under m h (with_record n it s)) (sym (head_with n it s))
    ∙ ap (rows_of m) (sym is)

pub last_rows :
    (m : RowFormat) (rows : List Row) (last : ℕ) (s : State) → first_above last rows ≡ None → up_to last rows ≡ rows_of m s
    → rows ≡ rows_of m s
last_rows m rows last s none so_far = sym (up_to_end last rows none) ∙ so_far

-- a keeper that was read once more was read
pub read_more :
    {K : Type 0} (keeper : Ghosts K) (a b c : K) → WasRead keeper a b → WasRead keeper b c → WasRead keeper a c
read_more keeper a b c first second = record {
  same_path = second.same_path ∙ first.same_path;
  still_honest = λ now. first.still_honest (second.still_honest now);
  still_sure = λ now. first.still_sure (second.still_sure now);
  same_rows = λ now rows held. second.same_rows now rows (first.same_rows (second.still_sure now) rows held);
  leaves = λ now rows left. first.leaves (second.still_honest now) rows (second.leaves now rows left);
}

pub read_none : {K : Type 0} (keeper : Ghosts K) (a : K) → WasRead keeper a a
read_none keeper a = record {
  same_path = refl;
  still_honest = λ now. now;
  still_sure = λ now. now;
  same_rows = λ now rows held. held;
  leaves = λ now rows left. left;
}

-- of a fault that is no bad row nothing is said
pub unread_known : (why : OpenFault) (Holds : Type 0) → bad_key why ≡ None → WhereBad why Holds
unread_known fault.Keeper Holds none = tt
unread_known fault.OutOfMemory Holds none = tt
unread_known (fault.BadRows kind id) Holds none = absurd cc

-- what holds in any case holds at a fault, and where rows were read
pub where_bad : (why : OpenFault) (Holds : Type 0) → Holds → WhereBad why Holds
where_bad (fault.BadRows kind id) Holds holds = holds
where_bad fault.Keeper Holds holds = tt
where_bad fault.OutOfMemory Holds holds = tt

pub where_read : {T : Type 0} (result : Result T OpenFault) (Holds : Type 0) → Holds → WhereRead result Holds
where_read (Ok it) Holds holds = holds
where_read (Err why) Holds holds = where_bad why Holds holds

-- a keeper that was read once more, and knew its rows, still knows them
pub known_twice :
    {K : Type 0} (keeper : Ghosts K) (a b c : K) → WasRead keeper b c → StaysSure keeper a b → StaysSure keeper b c
    → StaysSure keeper a c
known_twice keeper a b c read first second = λ now before. second now (first (read.still_honest now) before)

pub known_more :
    {K : Type 0} (keeper : Ghosts K) (a b c : K) (why : OpenFault) → WasRead keeper b c → StaysSure keeper a b
    → WhereBad why (StaysSure keeper b c) → WhereBad why (StaysSure keeper a c)
known_more keeper a b c (fault.BadRows kind id) read first second =
    λ now before. second now (first (read.still_honest now) before)
known_more keeper a b c fault.Keeper read first second = tt
known_more keeper a b c fault.OutOfMemory read first second = tt

-- ---- faults
-- A fault without a key says nothing of the rows.
pub unread_bad : (rows : List Row) (error : OpenFault) → bad_key error ≡ None → IsBadFor rows error
unread_bad rows (fault.BadRows kind id) none = absurd cc
unread_bad rows fault.Keeper none = tt
unread_bad rows fault.OutOfMemory none = tt

pub unread_opens : (state : State) (error : OpenFault) → bad_key error ≡ None → IsOpened state (Err error)
unread_opens state (fault.BadRows kind id) none = absurd cc
unread_opens state fault.Keeper none = tt
unread_opens state fault.OutOfMemory none = tt

abbrev key_of : ℕ → ℕ → RowKey
key_of kind id = record { kind = kind; id = id }

-- a fault with the least bad key
pub least_for :
    (rows : List Row) (error : OpenFault) (key : RowKey) → bad_key error ≡ Some key → IsLeastBad rows key
    → IsBadFor rows error
least_for rows (fault.BadRows kind id) key is least =
    let same : key ≡ key_of kind id = cc in subst (IsLeastBad rows) same least
least_for rows fault.Keeper key is least = absurd cc
least_for rows fault.OutOfMemory key is least = absurd cc

-- that the row of a bad thing stands for nothing
pub bad_thing : (m : RowFormat) (row : Row) (error : OpenFault) (kind id : ℕ) → error ≡ fault.BadRows kind id → IsBadThing m row error
    → IsNoRecord m row
bad_thing m row (fault.BadRows kind id) k i is bad = bad.2
bad_thing m row fault.Keeper k i is bad = absurd bad
bad_thing m row fault.OutOfMemory k i is bad = absurd cc

-- the format of rows is that of their first row
first_format :
    (rows : List Row) (row : Row) → first_row rows ≡ Some row → format_in row.body ≡ rows_format rows
first_format [] row first = absurd cc
first_format (r ∷ rows) row first = let same : row ≡ r = cc in ap (λ (x : Row). format_in x.body) same

-- and so is a first row that is no head
pub bad_start :
    (rows : List Row) (row : Row) (error : OpenFault) → Rises rows → first_row rows ≡ Some row → IsBadHead row error
    → IsBadFor rows error
bad_start rows row (fault.BadRows kind id) rise first (inl h) =
    let key : head_key ≡ record { kind = kind; id = id } =
    ap (λ (k : ℕ). key_of k 0) (sym h.1)
    ∙ ap (λ (i : ℕ). key_of kind i) (sym h.2) in
    subst (λ (k : RowKey). IsLeastBad rows k) key (bad_head rows row rise first h.0)
bad_start rows row (fault.BadRows kind id) rise first (inr h) =
    let key : row.key ≡ record { kind = kind; id = id } =
    ap (λ (k : ℕ). key_of k row.key.id) (sym h.1)
    ∙ ap (λ (i : ℕ). key_of kind i) (sym h.2) in
    subst (λ (k : RowKey). IsLeastBad rows k) key
    (bad_first rows row rise first h.0 (subst (λ (k : RowFormat). IsNoRecord k row) (first_format rows row first) h.3))
bad_start rows row fault.Keeper rise first bad = absurd bad
bad_start rows row fault.OutOfMemory rise first bad = tt

-- ---- before the first row behind the head
empty_things : (currency : ℕ) → things_of (empty_book currency) ≡ []
unfolding things_of
empty_things currency = refl

-- A state of a head and of empty tables has nothing behind the head.
pub begun_state :
    (head : Head) (b : Book) (back forth : List (ℕ × Edit)) → b ≡ empty_book head.currency → back ≡ [] → forth ≡ []
    → IsBegun head (record {
      book = b;
      next = head.next;
      version = head.version;
      position = head.position;
      past = head.past;
      later = head.later;
      back = back;
      forth = forth;
    })
begun_state head b back forth is no_back no_forth = record {
  head_is = ap
      (λ (x : Book). record {
        next = head.next;
        version = head.version;
        position = head.position;
        past = head.past;
        later = head.later;
        currency = x.currency;
      })
      is;
  nothing = ap (λ (x : Book). things_of x ++ (back_records back ++ forth_records forth)) is
      ∙ ap (λ (l : List (ℕ × Record)). l ++ (back_records back ++ forth_records forth)) (empty_things head.currency)
      ∙ ap (λ (l : List (ℕ × Edit)). back_records l ++ forth_records forth) no_back
      ∙ ap forth_records no_forth;
}

pub start_read :
    (m : RowFormat) (s : State) (head : Head) → IsBegun head s → IsOnlyRecord m (0, kept.Head head)
    → AllByRecursion (IsOnlyRecord m) (records_of s)
start_read m s head begun only = (
  subst (λ (h : Head). IsOnlyRecord m (0, kept.Head h)) (sym begun.head_is) only,
  subst (AllByRecursion (IsOnlyRecord m)) (sym begun.nothing) tt,
)

pub start_rows :
    (m : RowFormat) (rows : List Row) (s : State) → IsBegun (head_of s) s → Rises rows → Begins m rows (head_of s)
    → up_to (rank head_key) rows ≡ rows_of m s
start_rows m rows s begun rise begins =
    up_to_first rows (row_of m (0, kept.Head (head_of s))) rise begins
    ∙ ap (λ (es : List (ℕ × Record)). row_of m (0, kept.Head (head_of s)) ∷ map (row_of m) es) (sym begun.nothing)

-- rows that begin with a head begin with that of a state with this head
pub begins_as :
    (m : RowFormat) (rows : List Row) (s : State) (head : Head) → head_of s ≡ head → Begins m rows head → Begins m rows (head_of s)
begins_as m rows s head same begins = subst (Begins m rows) (sym same) begins

-- ---- all rows were read
pub whole_head :
    (s : State) (result : Result Saved OpenFault) (head : Head) → IsWhole s result → head_of s ≡ head
    → IfOk result (λ saved. head_of (state_of saved) ≡ head)
whole_head s (Ok saved) head whole same = ap head_of whole.0 ∙ same
whole_head s (Err error) head whole same = tt

pub whole_read :
    (m : RowFormat) (s : State) (result : Result Saved OpenFault) → IsWhole s result → AllByRecursion (IsOnlyRecord m) (records_of s)
    → IfOk result (λ saved. AllByRecursion (IsOnlyRecord m) (records_of (state_of saved)))
whole_read m s (Ok saved) whole only =
    subst (λ (x : State). AllByRecursion (IsOnlyRecord m) (records_of x)) (sym whole.0) only
whole_read m s (Err error) whole only = tt

pub whole_counted :
    (s : State) (result : Result Saved OpenFault) → IsWhole s result
    → IfOk result (λ saved. AreCounted (state_of saved))
whole_counted s (Ok saved) whole = subst AreCounted (sym whole.0) whole.1
whole_counted s (Err error) whole = tt

-- Where they are those of the state, they open as it.
pub whole_rows :
    (m : RowFormat) {Known : Type 0} (Held : List Row → Type 0) (s : State) (result : Result Saved OpenFault) (head : Head)
    → IsWhole s result → AllByRecursion (IsOnlyRecord m) (records_of s)
    → (Known → (rows : List Row) → Held rows → Begins m rows head → rows ≡ rows_of m s)
    → IfOk result (λ saved. Known → (rows : List Row) → Held rows → Begins m rows head → OpenIn m rows (state_of saved))
whole_rows m Held s (Ok saved) head whole only are = λ known rows held begins.
    subst (OpenIn m rows) (sym whole.0) (whole_opens m rows s (are known rows held begins) only whole.1)
whole_rows m Held s (Err error) head whole only are = tt

-- Or else the first step that is missing, or that the head doesn't count, is the least bad key.
pub whole_bad_for :
    (m : RowFormat) {Known : Type 0} (Held : List Row → Type 0) (s : State) (result : Result Saved OpenFault) (head : Head)
    → IsWhole s result → head_of s ≡ head → AllByRecursion (IsOnlyRecord m) (records_of s)
    → ((rows : List Row) → Held rows → Rises rows)
    → (Known → (rows : List Row) → Held rows → Begins m rows head → rows ≡ rows_of m s)
    → IfErr result (λ error. Known → (rows : List Row) → Held rows → Begins m rows head → IsBadFor rows error)
whole_bad_for m Held s (Ok saved) head whole same only rise are = tt
whole_bad_for m Held s (Err error) head whole same only rise are = λ known rows held begins.
    least_for rows error whole.0 whole.1
    (whole_bad m rows s whole.0 (rise rows held) (begins_as m rows s head same begins) (are known rows held begins) only
    whole.2)

-- ---- the next row is bad
pub next_bad :
    (m : RowFormat) (rows : List Row) (last : ℕ) (row : Row) (s : State) (first : RowKey) (error : OpenFault) → Rises rows
    → first_above last rows ≡ Some row → up_to last rows ≡ rows_of m s → AllByRecursion (IsOnlyRecord m) (records_of s)
    → Begins m rows (head_of s) → IsNoRecord m row → IsFirstBad s row.key first
    → error ≡ fault.BadRows first.kind first.id → IsBadFor rows error
next_bad m rows last row s first error rise next so_far only begins none is same =
    subst (IsBadFor rows) (sym same) (part_bad m rows last row s first rise next so_far only begins none is)

past_head_kind : (k n : ℕ) → 1 * 2 ^ 64 + 0 < k * 2 ^ 64 + n → n < 2 ^ 62 → (k ≡ 1 → n ≡ 0) → 2 ≤ k
past_head_kind zero n past small one = absurd (omega (arith, past, small))
past_head_kind (suc zero) n past small one = let none = one refl in absurd (omega (arith, past, none))
past_head_kind (suc (suc k)) n past small one = omega arith

-- What a row behind the head stands for is no head.
pub behind_kind :
    (m : RowFormat) (key : RowKey) (body : List ℕ) (it : Record) → rank head_key < rank key → IsSpelledBy m key body it
    → 2 ≤ kind_of it
behind_kind m key body it past is =
    let least = past_head_kind key.kind key.id past is.0.1 is.0.2 in
    let same = is.0.0 in omega (arith, least, same)
