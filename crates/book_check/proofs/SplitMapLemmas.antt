-- A map of splits that is filled from the last split to the first.
use Rattle.std.proofs.Common.{◌≡◌, ℕ, ◌+◌, ◌==◌, Bool, true, false, cond, List, ◌∷◌, ◌++◌, drop, Option, Some}
use Rattle.std.proofs.Common.{option_map, slice_get, refl, ap, subst, sym, ◌∙◌}
use Rattle.std.specs.BTreeMap.{get}
use Rattle.std.specs.Cmp.{unsigned_tied}
use Rattle.std.specs.Ordering.{is_eq, nat_cmp}
use Rattle.book_commodity.proofs.ListLemmas.{drop_by}
use Rattle.book_splits.specs.Balance.{splits_of}
use Rattle.book_splits.specs.declared.split.Split.{Split}
use Rattle.book_splits.specs.declared.transaction.Txn.{Txn}
use Rattle.book_sound.specs.LineRules.{split_among}
use Rattle.book_check.specs.Splits.{HasSplits, PutsBefore, facts_of}
use Rattle.book_check.specs.declared.splits.SplitFacts.{SplitFacts}
use Rattle.book_check.specs.declared.splits.Splits.{Splits}

chosen :
    (t : Bool) (split : Split) (other : Option Split)
    → cond t (Some (facts_of split)) (option_map facts_of other)
    ≡ option_map facts_of (cond t (Some split) other)
chosen true split other = refl
chosen false split other = refl

-- one split more, before those that are there
pub puts_first :
    (split : Split) (rest : List Split) (old new : Splits) → HasSplits rest old
    → ((q : ℕ) → get nat_cmp new.quantities q
    ≡ cond (is_eq (nat_cmp split.id q)) (Some (facts_of split)) (get nat_cmp old.quantities q))
    → HasSplits (split ∷ rest) new
puts_first split rest old new has puts q =
    puts q
    ∙ ap (λ (t : Bool). cond t (Some (facts_of split)) (get nat_cmp old.quantities q)) (unsigned_tied split.id q)
    ∙ ap (λ (o : Option SplitFacts). cond (split.id == q) (Some (facts_of split)) o) (has q)
    ∙ chosen (split.id == q) split (split_among q rest)

-- the splits from a place on are put, with the one at the place
pub puts_more :
    (splits : List Split) (i : ℕ) (split : Split) (first old new : Splits) → drop i splits ≡ split ∷ drop (i + 1) splits
    → PutsBefore (drop (i + 1) splits) first old
    → ((q : ℕ) → get nat_cmp new.quantities q
    ≡ cond (is_eq (nat_cmp split.id q)) (Some (facts_of split)) (get nat_cmp old.quantities q))
    → PutsBefore (drop i splits) first new
puts_more splits i split first old new is before puts rest has =
    subst (λ (l : List Split). HasSplits (l ++ rest) new) (sym is)
    (puts_first split (drop (i + 1) splits ++ rest) old new (before rest has) puts)

-- and so are those of the transactions from a place on
pub puts_transaction :
    (es : List (ℕ × Txn)) (i : ℕ) (transaction : Txn) (old new : Splits)
    → option_map (λ (e : ℕ × Txn). e.1) (slice_get es i) ≡ Some transaction
    → HasSplits (splits_of (drop (i + 1) es)) old → PutsBefore transaction.splits old new
    → HasSplits (splits_of (drop i es)) new
puts_transaction es i transaction old new at has puts =
    let r = drop_by (λ (e : ℕ × Txn). e.1) es i transaction at in
    subst (λ (l : List (ℕ × Txn)). HasSplits (splits_of l) new) (sym r.1)
    (subst (λ (t : Txn). HasSplits (t.splits ++ splits_of (drop (i + 1) es)) new) (sym r.2)
    (puts (splits_of (drop (i + 1) es)) has))
