-- What may be matched of a sound book: its open lines stand among its lines, and its free splits among its splits, each
-- once.
use Rattle.std.proofs.Common.{◌≡◌, ℕ, ◌==◌, Bool, true, false, not, if◌then◌else◌, All}
use Rattle.std.proofs.Common.{List, [], ◌∷◌, filter, flat_map, Some, refl, ◌∙◌}
use Rattle.std.proofs.lemmas.Bool.{and_parts, eqb-true, not-true}
use Rattle.std.proofs.lemmas.List.Elements.{All-append, All-cons, All-head, All-map, All-nil, All-tail, All-weaker}
use Rattle.book_commodity.specs.Table.{Rises, value_of}
use Rattle.book_splits.specs.TransactionRules.{is_voided}
use Rattle.book_splits.specs.declared.split.Mark.{Mark}
use Rattle.book_splits.specs.declared.split.Mark.TheVariants.{New, Cleared, Reconciled, Voided}
use Rattle.book_splits.specs.declared.split.Split.{Split}
use Rattle.book_splits.specs.declared.transaction.Txn.{Txn}
use Rattle.book_statement.specs.declared.line.Line.{Line}
use Rattle.book_match.specs.AmountIndex.{ordered, precedes, with_free}
use Rattle.book_match.specs.Kept.{view_of, views_on}
use Rattle.book_match.specs.declared.free.Free.{Free}
use Rattle.book_match.specs.declared.views.LineView.{LineView}
use Rattle.book_match.specs.declared.views.SplitView.{SplitView}
use Rattle.book_sound.specs.LineRules.{split_among, split_at}
use Rattle.book_sound.specs.Soundness.{IsSoundBook}
use Rattle.book_sound.proofs.OwnFrames.{all_of_each}
use Rattle.book_sound.proofs.SplitFrames.{found_among, split_of_one}
use Rattle.book_undo.specs.Book.{Book}
use Rattle.book_step.specs.BankLines.{is_open}
use Rattle.book_free.specs.FreeSplits.{free_among, free_of, free_split, is_free, is_never_free}
use Rattle.book_free.proofs.FreeLemmas.{found_by_number, own_numbers}
use Rattle.book_step.specs.Matchable.{is_open_on, line_view, open_lines}
use Rattle.book_step.proofs.ProposalLemmas.{filter-holds}

-- ---- the splits that may be matched stand in the book

-- A split that may be matched stands in the book as the index has it.
pub record IsFreeIn (taken : ℕ → Bool) (ts : List (ℕ × Txn)) (free : Free) : Type 0 where
  pub split : Split
  pub there : split_at free.split ts ≡ Some split
  pub account : split.account ≡ free.account
  pub amount : split.quantity ≡ free.amount
  pub untaken : taken free.split ≡ false
  pub unvoided : is_voided split.mark ≡ false

-- a split that may be matched is not voided
free_unvoided : (mark : Mark) → is_never_free mark ≡ false → is_voided mark ≡ false
free_unvoided New free = refl
free_unvoided Cleared free = refl
free_unvoided Reconciled free = absurd cc
free_unvoided Voided free = absurd cc

own_free :
    (book : Book) (taken : ℕ → Bool) (k : ℕ) (t : Txn) → IsSoundBook book → value_of k book.transactions ≡ Some t
    → All (IsFreeIn taken book.transactions) (free_of taken t)
own_free book taken k t is there =
    let ts = book.transactions in
    let own = own_numbers book k t is there in
    let Found : Split → Type 0 = λ s. split_among s.id t.splits ≡ Some s in
    let Free_ : Split → Type 0 = λ s. Found s × (is_free taken s ≡ true) in
    All-map (IsFreeIn taken ts) (free_split t.day) (filter (is_free taken) t.splits)
    (All-weaker Free_ (λ s. IsFreeIn taken ts (free_split t.day s))
    (λ s has. record {
      split = s;
      there = split_of_one k s.id t ts is.transactions.rise there own.1 (found_among s.id t.splits s has.0) ∙ has.0;
      account = refl;
      amount = refl;
      untaken = not-true _ (and_parts _ (not (taken s.id)) has.1).1;
      unvoided = free_unvoided s.mark (not-true _ (and_parts _ (not (taken s.id)) has.1).0);
    })
    (filter (is_free taken) t.splits)
    (filter-holds Found (is_free taken) t.splits (found_by_number t.splits own.0)))

all_flat :
    {X Y : Type 0} (P : Y → Type 0) (f : X → List Y) (xs : List X) → All (λ (x : X). All P (f x)) xs
    → All P (flat_map f xs)
all_flat P f [] all = All-nil P
all_flat {X} {Y} P f (x ∷ xs) all =
    let Each : X → Type 0 = λ y. All P (f y) in
    All-append P (f x) (flat_map f xs) (All-head Each x xs all) (all_flat P f xs (All-tail Each x xs all))

with_free-holds : (P : Free → Type 0) (free : Free) (es : List Free) → P free → All P es → All P (with_free free es)
with_free-holds P free [] p all = All-cons P free [] p all
with_free-holds P free (e ∷ es) p all =
    elim (precedes e free) as (λ (b : Bool). All P (if b then e ∷ with_free free es else free ∷ e ∷ es)) [
      | true ↦ All-cons P e (with_free free es) (All-head P e es all)
          (with_free-holds P free es p (All-tail P e es all))
      | false ↦ All-cons P free (e ∷ es) p all
    ]

ordered-holds : (P : Free → Type 0) (es : List Free) → All P es → All P (ordered es)
ordered-holds P [] all = all
ordered-holds P (e ∷ es) all =
    with_free-holds P e (ordered es) (All-head P e es all) (ordered-holds P es (All-tail P e es all))

-- A split as it is matched stands in the book, in the account, and no line has it.
pub record IsFreeSplit (taken : ℕ → Bool) (account : ℕ) (ts : List (ℕ × Txn)) (view : SplitView) : Type 0 where
  pub split : Split
  pub there : split_at view.split ts ≡ Some split
  pub of_account : split.account ≡ account
  pub amount : split.quantity ≡ view.quantity
  pub untaken : taken view.split ≡ false
  pub unvoided : is_voided split.mark ≡ false

pub splits_hold :
    (book : Book) (taken : ℕ → Bool) (account : ℕ) → IsSoundBook book
    → All (IsFreeSplit taken account book.transactions)
    (views_on account (ordered (free_among taken book.transactions)) book.transactions)
splits_hold book taken account is =
    let ts = book.transactions in
    let frees = ordered (free_among taken ts) in
    let InBook : Free → Type 0 = IsFreeIn taken ts in
    let on : Free → Bool = λ entry. entry.account == account in
    let all = ordered-holds InBook (free_among taken ts)
    (all_flat InBook (λ (e : ℕ × Txn). free_of taken e.1) ts
    (all_of_each (λ (e : ℕ × Txn). All InBook (free_of taken e.1)) ts is.transactions.rise
    (λ k t there. own_free book taken k t is there))) in
    All-map (IsFreeSplit taken account ts) (view_of ts) (filter on frees)
    (All-weaker (λ f. InBook f × (on f ≡ true)) (λ f. IsFreeSplit taken account ts (view_of ts f))
    (λ f has. record {
      split = has.0.split;
      there = has.0.there;
      of_account = has.0.account ∙ eqb-true f.account account has.1;
      amount = has.0.amount;
      untaken = has.0.untaken;
      unvoided = has.0.unvoided;
    })
    (filter on frees) (filter-holds InBook on frees all))

-- ---- the lines that may be matched stand in the book

-- A line as it is matched stands in the book, in the account, and is open.
pub record IsOpenLine (account : ℕ) (lines : List (ℕ × Line)) (view : LineView) : Type 0 where
  pub line : Line
  pub there : value_of view.line lines ≡ Some line
  pub of_account : line.account ≡ account
  pub amount : line.body.amount ≡ view.amount
  pub open_ : is_open line.state ≡ true

pub lines_hold :
    (account : ℕ) (lines : List (ℕ × Line)) → Rises lines → All (IsOpenLine account lines) (open_lines account lines)
lines_hold account lines r =
    let There : ℕ × Line → Type 0 = λ e. value_of e.0 lines ≡ Some e.1 in
    let all = all_of_each There lines r (λ k x there. there) in
    let on = is_open_on account in
    All-map (IsOpenLine account lines) line_view (filter on lines)
    (All-weaker (λ e. There e × (on e ≡ true)) (λ e. IsOpenLine account lines (line_view e))
    (λ e has.
    let parts = and_parts (e.1.account == account) (is_open e.1.state) has.1 in
    record {
      line = e.1;
      there = has.0;
      of_account = eqb-true e.1.account account parts.0;
      amount = refl;
      open_ = parts.1;
    })
    (filter on lines) (filter-holds There on lines all))
