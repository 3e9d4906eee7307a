-- Entry by entry.
use Rattle.std.proofs.Common.{◌≡◌, ℕ, ◌+◌, List, [], ◌∷◌, Option, Some, None, inl, inr, sym, subst, arith, drop}
use Rattle.book_commodity.proofs.ListLemmas.{from-item}
use Rattle.std.proofs.lemmas.List.{drop_all}
use Rattle.book_commodity.specs.Table.{Rises}
use Rattle.book_undo.specs.declared.edit.Edit.{Edit}
use Rattle.book_opening.specs.FirstOdd.{IsFirstOff}
use Rattle.book_opening.proofs.FirstOff.{less_of, none_within, off_end, off_end_missing, off_extra, off_missing}
use Rattle.book_opening.proofs.FirstOff.{off_next}
use Rattle.book_opening.proofs.FirstOff.{rises_left}
use Rattle.book_opening.proofs.steps.first_off.Goals as goal
use Rattle.book_opening.proofs.steps.first_off.Goals.{then-expected-end-via-then-expected-end}
use Rattle.book_opening.proofs.steps.first_off.Goals.{then-expected-end-via-else-expected-end+then-entry-expected}

-- What is first among an entry and those behind it is first among all.
among :
    (es rest : List (ℕ × Edit)) (i from end start : ℕ) (e : ℕ × Edit) (off : Option ℕ) → drop i es ≡ e ∷ rest
    → ((off : Option ℕ) → IsFirstOff (drop i es) from end off → IsFirstOff es start end off)
    → IsFirstOff (e ∷ rest) from end off → IsFirstOff es start end off
among es rest i from end start e off parts first here =
    first off (subst (λ (l : List (ℕ × Edit)). IsFirstOff l from end off) (sym parts) here)

pub returns-then-expected-end : goal.returns-then-expected-end
returns-then-expected-end c =
    let es = c.args.entries.now in
    let e = c.entry-item.result in
    let i = c.loop-entry.entry-index in
    let rest = drop (i + 1) es in
    let parts = from-item es i e c.loop-entry-test.true c.entry-item.is in
    let rise = subst Rises parts (rises_left i es c.requires.rises) in
    among es rest i c.loop-entry.expected c.args.end c.args.from e (Some e.0) parts c.loop-entry.invariant.first
    (off_extra e rest c.loop-entry.expected c.args.end rise
    (none_within c.loop-entry.expected c.args.end e.0
    (elim c.then-expected-end.branch [
      | then-expected-end-via-then-expected-end w ↦ inl (sym w.if-expected-end.true)
      | then-expected-end-via-else-expected-end+then-entry-expected w ↦ inr w.if-entry-expected.true
    ])))

pub loop-entry-preserved : goal.loop-entry-preserved
loop-entry-preserved c =
    let es = c.args.entries.now in
    let e = c.entry-item.result in
    let i = c.loop-entry.entry-index in
    let rest = drop (i + 1) es in
    let parts = from-item es i e c.loop-entry-test.true c.entry-item.is in
    let rise = subst Rises parts (rises_left i es c.requires.rises) in
    let low = less_of c.loop-entry.expected c.args.end c.loop-entry.invariant.bound c.if-expected-end.false in
    let most = c.if-entry-expected-2.false in
    let least = c.if-entry-expected.false in
    record {
      bound = omega (arith, low);
      first = λ off more.
          among es rest i c.loop-entry.expected c.args.end c.args.from e off parts c.loop-entry.invariant.first
          (off_next e rest c.loop-entry.expected c.args.end off rise (omega (arith, most, least)) low more);
    }

pub returns-then-entry-expected-2 : goal.returns-then-entry-expected-2
returns-then-entry-expected-2 c =
    let es = c.args.entries.now in
    let e = c.entry-item.result in
    let i = c.loop-entry.entry-index in
    let rest = drop (i + 1) es in
    let parts = from-item es i e c.loop-entry-test.true c.entry-item.is in
    let rise = subst Rises parts (rises_left i es c.requires.rises) in
    let low = less_of c.loop-entry.expected c.args.end c.loop-entry.invariant.bound c.if-expected-end.false in
    among es rest i c.loop-entry.expected c.args.end c.args.from e (Some c.loop-entry.expected) parts
    c.loop-entry.invariant.first
    (off_missing e rest c.loop-entry.expected c.args.end rise c.if-entry-expected-2.true low)

pub returns-then-expected-end-2 : goal.returns-then-expected-end-2
returns-then-expected-end-2 c =
    let es = c.args.entries.now in
    let none : drop c.loop-entry.entry-index es ≡ [] = drop_all c.loop-entry.entry-index es c.loop-entry-test.false in
    c.loop-entry.invariant.first (Some c.loop-entry.expected)
    (subst
    (λ (l : List (ℕ × Edit)). IsFirstOff l c.loop-entry.expected c.args.end (Some c.loop-entry.expected)) (sym none)
    (off_end_missing Edit c.loop-entry.expected c.args.end c.if-expected-end-2.true))

pub returns-else-expected-end-2 : goal.returns-else-expected-end-2
returns-else-expected-end-2 c =
    let es = c.args.entries.now in
    let none : drop c.loop-entry.entry-index es ≡ [] = drop_all c.loop-entry.entry-index es c.loop-entry-test.false in
    c.loop-entry.invariant.first None
    (subst (λ (l : List (ℕ × Edit)). IsFirstOff l c.loop-entry.expected c.args.end None) (sym none)
    (off_end Edit c.loop-entry.expected c.args.end c.if-expected-end-2.false))
