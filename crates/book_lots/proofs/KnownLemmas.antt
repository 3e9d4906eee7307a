-- The entries that were reckoned stay the first ones of a register that a row is put into, once they are touched there.
use Rattle.std.proofs.Common.{◌≡◌, ℕ, ◌≤◌, List, [], length, take, sym, ap}
use Rattle.std.proofs.Common.{◌∙◌, arith, ⊎_elim}
use Rattle.std.specs.List.{insert}
use Rattle.std.proofs.lemmas.Bool.{cases_lt}
use Rattle.std.proofs.lemmas.List.{length-take, length-take-le, take-append-le, take-take, take_all}
use Rattle.book_register.specs.declared.entry.Entry.{Entry}
use Rattle.book_lots.specs.Lots.{left_before}
use Rattle.book_lots.proofs.LotsLemmas.{left_all, left_some}

-- entries are the first of the rows
abbrev pub AreFirst : List Entry → List Entry → Type 0
AreFirst entries rows = entries ≡ take (length entries) rows

left_le : (place n : ℕ) → (left_before place n ≤ n) × (left_before place n ≤ place)
left_le place n =
    ⊎_elim (λ lt. (let is = left_some place n lt in (omega (arith, is, lt), omega (arith, is))))
    (λ le. (let is = left_all place n le in (omega (arith, is), omega (arith, is, le))))
    (cases_lt place n)

first_count : (entries rows : List Entry) → AreFirst entries rows → length entries ≤ length rows
first_count entries rows first =
    let same : length entries ≡ length (take (length entries) rows) = ap length first in
    let counted = length-take (length entries) rows in omega (arith, same, counted)

pub first_touched : (entries rows : List Entry) (place : ℕ) → AreFirst entries rows
    → AreFirst (take (left_before place (length entries)) entries) rows
first_touched entries rows place first =
    let le = left_le place (length entries) in
    ap (take (left_before place (length entries))) first
    ∙ take-take (left_before place (length entries)) (length entries) rows le.0
    ∙ ap (λ n. take n rows) (sym (length-take-le (left_before place (length entries)) entries le.0))

pub first_inserted : (entries rows : List Entry) (place : ℕ) (e : Entry) → AreFirst entries rows
    → AreFirst (take (left_before place (length entries)) entries) (insert rows place e)
first_inserted entries rows place e first =
    let le = left_le place (length entries) in
    let m : ℕ = left_before place (length entries) in
    let within = first_count entries rows first in
    let counted = length-take place rows in
    first_touched entries rows place first
    ∙ ap (λ n. take n rows) (length-take-le m entries le.0)
    ∙ sym (take-take m place rows le.1)
    ∙ sym (take-append-le m (take place rows) _ (omega (arith, le.0, le.1, within, counted)))
    ∙ ap (λ n. take n (insert rows place e)) (sym (length-take-le m entries le.0))

pub first_all : (entries rows : List Entry) → entries ≡ rows → AreFirst entries rows
first_all entries rows same =
    same ∙ sym (take_all (length rows) rows (omega arith)) ∙ ap (λ (l : List Entry). take (length l) rows) (sym same)

pub first_none : (entries rows : List Entry) → entries ≡ [] → AreFirst entries rows
first_none entries rows none = none ∙ ap (λ (l : List Entry). take (length l) rows) (sym none)
