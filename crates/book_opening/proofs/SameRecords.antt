-- Books with the same records are the same: each table is what its kind has among the records.
use Rattle.std.proofs.Common.{◌≡◌, ℕ, suc, ◌<◌, ◌≤◌, List, [], ◌∷◌, ◌++◌, map, length, refl, ap, ◌∙◌, subst, sym}
use Rattle.std.proofs.Common.{arith}
use Rattle.std.specs.List.{AllByRecursion}
use Rattle.book_undo.specs.Book.{Book}
use Rattle.book_undo.specs.declared.edit.Edit.{Edit}
use Rattle.book_undo.specs.declared.thing.Thing.TheVariants as thing
use Rattle.book_undo.proofs.BookLaws.{made_is}
use Rattle.book_rows.specs.Row.{kind_of}
use Rattle.book_rows.specs.declared.head.Head.{Head}
use Rattle.book_rows.specs.declared.record.Record.{Record}
use Rattle.book_rows.specs.declared.record.Record.TheVariants as kept
use Rattle.book_opening.specs.BookRows.{back_records, behind_head, forth_records, records_of, tables_of, things_of}
use Rattle.book_opening.specs.State.{State, head_of}
use Rattle.book_opening.proofs.Ranked.{InOrder, above_first_edge, all_both, all_weak, joined}
use Rattle.book_opening.proofs.StateRecords.{steps_of}
use Rattle.book_opening.proofs.ThingRecords.{kind_at, kinds_of, things_kinds}

-- Two equal lists, each of records up to a kind and then of records of later kinds, have equal parts.
parts_same :
    (k : ℕ) (xs ys us vs : List (ℕ × Record)) → AllByRecursion (λ e. kind_at e ≤ k) xs
    → AllByRecursion (λ e. kind_at e ≤ k) ys → AllByRecursion (λ e. k < kind_at e) us
    → AllByRecursion (λ e. k < kind_at e) vs → xs ++ us ≡ ys ++ vs → (xs ≡ ys) × (us ≡ vs)
parts_same k [] [] us vs p q r s e = (refl, e)
parts_same k [] (y ∷ ys) us vs p q r s e =
    let low = q.0 in
    let high = (subst (AllByRecursion (λ (x : ℕ × Record). k < kind_at x)) e r).0 in absurd (omega (arith, low, high))
parts_same k (x ∷ xs) [] us vs p q r s e =
    let low = p.0 in
    let high = (subst (AllByRecursion (λ (x : ℕ × Record). k < kind_at x)) (sym e) s).0 in
    absurd (omega (arith, low, high))
parts_same k (x ∷ xs) (y ∷ ys) us vs p q r s e =
    let rest : xs ++ us ≡ ys ++ vs = cc in
    let both = parts_same k xs ys us vs p.1 q.1 r s rest in
    let first : x ≡ y = cc in
    let more = both.0 in
    (cc, both.1)

pieces_same :
    (k : ℕ) (ss ts : List (List (ℕ × Record))) → InOrder kind_at (λ i. i) k ss → InOrder kind_at (λ i. i) k ts
    → length ss ≡ length ts → joined ss ≡ joined ts → ss ≡ ts
pieces_same k [] [] o q few e = refl
pieces_same k [] (t ∷ ts) o q few e = absurd (omega (arith, few))
pieces_same k (s ∷ ss) [] o q few e = absurd (omega (arith, few))
pieces_same k (s ∷ ss) (t ∷ ts) o q few e =
    let low = all_weak (λ (x : ℕ × Record). (k ≤ kind_at x) × (kind_at x < suc k)) (λ (x : ℕ × Record). kind_at x ≤ k)
    (λ x h. let most = h.1 in omega (arith, most)) in
    let both = parts_same k s t (joined ss) (joined ts) (low s o.0) (low t q.0) (later ss o.1) (later ts q.1) e in
    let first = both.0 in
    let rest = pieces_same (suc k) ss ts o.1 q.1 (omega (arith, few)) both.1 in
    cc
  where
    later :
        (ss : List (List (ℕ × Record))) → InOrder kind_at (λ i. i) (suc k) ss
        → AllByRecursion (λ e. k < kind_at e) (joined ss)
    later ss o = above_first_edge kind_at (λ i. i) (λ i. omega arith) (suc k) ss o k (omega arith)

-- Tables with the same records are the same.
entries_same :
    {T : Type 0} (of : T → Record) → ((x y : T) → of x ≡ of y → x ≡ y) → (es fs : List (ℕ × T))
    → ◌≡◌ {A = List (ℕ × Record)} (map (λ e. (e.0, of e.1)) es) (map (λ e. (e.0, of e.1)) fs) → es ≡ fs
entries_same of only [] [] e = refl
entries_same of only [] (y ∷ ys) e = absurd cc
entries_same of only (x ∷ xs) [] e = absurd cc
entries_same {T} of only (x ∷ xs) (y ∷ ys) e =
    let first : ◌≡◌ {A = ℕ × Record} (x.0, of x.1) (y.0, of y.1) = cc in
    let behind : ◌≡◌ {A = List (ℕ × Record)} (map (λ e. (e.0, of e.1)) xs) (map (λ e. (e.0, of e.1)) ys) = cc in
    ap (λ (n : ℕ). (n, x.1) ∷ xs) (ap (λ (p : ℕ × Record). p.0) first)
    ∙ ap (λ (v : T). (y.0, v) ∷ xs) (only x.1 y.1 (ap (λ (p : ℕ × Record). p.1) first))
    ∙ ap (λ (l : List (ℕ × T)). y ∷ l) (entries_same of only xs ys behind)

-- books with the same records of things and the same currency are the same
pub same_things : (b c : Book) → things_of b ≡ things_of c → b.currency ≡ c.currency → b ≡ c
unfolding things_of
same_things b c same currency =
    let tables = pieces_same 2 (tables_of b) (tables_of c) (kinds_of b) (kinds_of c) refl same in
    let commodities : b.commodities ≡ c.commodities =
    entries_same (λ it. kept.Thing (thing.Commodity it)) (λ x y e. cc) b.commodities c.commodities cc in
    let accounts : b.accounts ≡ c.accounts =
    entries_same (λ it. kept.Thing (thing.Account it)) (λ x y e. cc) b.accounts c.accounts cc in
    let transactions : b.transactions ≡ c.transactions =
    entries_same (λ it. kept.Thing (thing.Txn it)) (λ x y e. cc) b.transactions c.transactions cc in
    let prices : b.prices ≡ c.prices =
    entries_same (λ it. kept.Thing (thing.Price it)) (λ x y e. cc) b.prices c.prices cc in
    let schedules : b.schedules ≡ c.schedules =
    entries_same (λ it. kept.Thing (thing.Schedule it)) (λ x y e. cc) b.schedules c.schedules cc in
    let statements : b.statements ≡ c.statements =
    entries_same (λ it. kept.Thing (thing.Held it)) (λ x y e. cc) b.statements c.statements cc in
    let lines : b.lines ≡ c.lines =
    entries_same (λ it. kept.Thing (thing.Line it)) (λ x y e. cc) b.lines c.lines cc in
    let bindings : b.bindings ≡ c.bindings =
    entries_same (λ it. kept.Thing (thing.Binding it)) (λ x y e. cc) b.bindings c.bindings cc in
    let reconciliations : b.reconciliations ≡ c.reconciliations =
    entries_same (λ it. kept.Thing (thing.Recon it)) (λ x y e. cc) b.reconciliations c.reconciliations cc in
    let left = made_is b in let right = made_is c in cc

-- ---- states
kinds_same :
    {T : Type 0} (P : ℕ → Type 0) (of : T → Record) → ((x : T) → P (kind_of (of x))) → (es : List (ℕ × T))
    → AllByRecursion (λ e. P (kind_at e)) (map (λ e. (e.0, of e.1)) es)
kinds_same P of is [] = tt
kinds_same P of is (e ∷ es) = (is e.1, kinds_same P of is es)

steps_kinds : (s : State) → AllByRecursion (λ e. 10 < kind_at e) (steps_of s)
steps_kinds s =
    all_both (λ e. 10 < kind_at e) (back_records s.back) (forth_records s.forth)
    (kinds_same (λ k. 10 < k) (λ it. kept.Back it) (λ _. omega arith) s.back)
    (kinds_same (λ k. 10 < k) (λ it. kept.Forth it) (λ _. omega arith) s.forth)

back_kinds : (es : List (ℕ × Edit)) → AllByRecursion (λ e. kind_at e ≤ 11) (back_records es)
back_kinds es = kinds_same (λ k. k ≤ 11) (λ it. kept.Back it) (λ _. omega arith) es

forth_kinds : (es : List (ℕ × Edit)) → AllByRecursion (λ e. 11 < kind_at e) (forth_records es)
forth_kinds es = kinds_same (λ k. 11 < k) (λ it. kept.Forth it) (λ _. omega arith) es

state_made : Book → ℕ → ℕ → ℕ → ℕ → ℕ → List (ℕ × Edit) → List (ℕ × Edit) → State
state_made book next version position past later back forth = record {
  book = book;
  next = next;
  version = version;
  position = position;
  past = past;
  later = later;
  back = back;
  forth = forth;
}

state_made_is :
    (s : State) → state_made s.book s.next s.version s.position s.past s.later s.back s.forth ≡ s
unfolding state_made
state_made_is s = refl

-- states with the same records are the same
pub same_state : (s t : State) → records_of s ≡ records_of t → s ≡ t
same_state s t same =
    let first : ◌≡◌ {A = ℕ × Record} (0, kept.Head (head_of s)) (0, kept.Head (head_of t)) = cc in
    let records : kept.Head (head_of s) ≡ kept.Head (head_of t) = ap (λ (e : ℕ × Record). e.1) first in
    let heads : head_of s ≡ head_of t = cc in
    let behind : behind_head s ≡ behind_head t = cc in
    let parts = parts_same 10 (things_of s.book) (things_of t.book) (steps_of s) (steps_of t) (things_kinds s.book)
    (things_kinds t.book) (steps_kinds s) (steps_kinds t) behind in
    let steps = parts_same 11 (back_records s.back) (back_records t.back) (forth_records s.forth)
    (forth_records t.forth) (back_kinds s.back) (back_kinds t.back) (forth_kinds s.forth) (forth_kinds t.forth)
    parts.1 in
    let back : s.back ≡ t.back = entries_same (λ it. kept.Back it) (λ x y e. cc) s.back t.back steps.0 in
    let forth : s.forth ≡ t.forth = entries_same (λ it. kept.Forth it) (λ x y e. cc) s.forth t.forth steps.1 in
    let next : s.next ≡ t.next = ap (λ (h : Head). h.next) heads in
    let version : s.version ≡ t.version = ap (λ (h : Head). h.version) heads in
    let position : s.position ≡ t.position = ap (λ (h : Head). h.position) heads in
    let past : s.past ≡ t.past = ap (λ (h : Head). h.past) heads in
    let later : s.later ≡ t.later = ap (λ (h : Head). h.later) heads in
    let book : s.book ≡ t.book = same_things s.book t.book parts.0 (ap (λ (h : Head). h.currency) heads) in
    let left = state_made_is s in let right = state_made_is t in cc
