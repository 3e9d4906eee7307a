-- A book in which a split is marked: it is the book with one transaction in the place of another, and it stays sound.
use Rattle.std.proofs.Common.{◌≡◌, ◌≢◌, ℕ, ◌<◌, ◌==◌, nat_lt, Bool, true, false, cond, if◌then◌else◌, All, List, []}
use Rattle.std.proofs.Common.{◌∷◌, ◌++◌, map, Option, Some, None, is_none, option_map, refl, sym, ap, subst, ◌∙◌, eq-eqb, arith}
use Rattle.std.specs.List.{list_all}
use Rattle.std.specs.Option.{option_or}
use Rattle.std.proofs.lemmas.Bool.{and_from, and_parts, eqb-true, not-true, or_parts}
use Rattle.std.proofs.lemmas.Bool.Decides.{nat_tests}
use Rattle.std.proofs.lemmas.List.{map-append}
use Rattle.std.proofs.lemmas.List.Folds.{find-append}
use Rattle.std.proofs.lemmas.List.Elements.{All-cons, All-head, All-nil, All-tail}
use Rattle.book_commodity.specs.Rules.{stands_before}
use Rattle.book_commodity.specs.Table.{AllAbove, Rises, value_of, with_entry}
use Rattle.book_commodity.proofs.DrawnLemmas.{drawn_below}
use Rattle.book_commodity.proofs.RuleLemmas.{fails_before}
use Rattle.book_commodity.proofs.TableLemmas.{rises_with, same_entries, value_of_with}
use Rattle.book_splits.specs.Balance.{splits_of}
use Rattle.book_splits.specs.TransactionRules.{is_among, is_voided, numbers_of, share_numbers}
use Rattle.book_splits.specs.declared.reconciliation.Recon.{Recon}
use Rattle.book_splits.specs.declared.split.Mark.{Mark}
use Rattle.book_splits.specs.declared.split.Split.{Split}
use Rattle.book_splits.specs.declared.transaction.Txn.{Txn}
use Rattle.book_splits.proofs.ReplacedLemmas.{all_of_one, fails_among}
use Rattle.book_undo.specs.Book.{Book}
use Rattle.book_sound.specs.LineRules.{split_among, split_at}
use Rattle.book_sound.specs.MarkedTransactionRules.{are_rightly_marked, is_reconciled, is_rightly_marked}
use Rattle.book_sound.specs.Soundness.{IsSoundBook, AreDrawn}
use Rattle.book_sound.proofs.DrawnFrames.{transaction_drawn}
use Rattle.book_sound.proofs.MarkFrames.{AreRemarked, IsRemarked}
use Rattle.book_sound.proofs.MarkLemmas.{unreconciled_is_right}
use Rattle.book_sound.proofs.SplitFrames.{above_there, found_among, split_of_one}
use Rattle.book_sound.proofs.VoidFrames.{marks_unvoided}
use Rattle.book_sound.proofs.VoidedSound.{transaction_remarked}
use Rattle.book_step.specs.Marking.{Held, IsHeld, book_marked, marked_among, marked_as, marked_where, remarked}

-- ---- a transaction in the place of one that differs in marks and reconciliations alone

-- the numbers of its splits are drawn
remarked_below :
    (next : ℕ) (olds news : List Split) → AreRemarked olds news → All (λ (s : Split). s.id < next) olds
    → All (λ (s : Split). s.id < next) news
remarked_below next [] [] stay all = All-nil (λ (s : Split). s.id < next)
remarked_below next [] (new ∷ news) stay all = absurd stay
remarked_below next (old ∷ olds) [] stay all = absurd stay
remarked_below next (old ∷ olds) (new ∷ news) stay all =
    let Below : Split → Type 0 = λ s. s.id < next in
    All-cons Below new news (subst (λ (n : ℕ). n < next) stay.0.id (All-head Below old olds all))
    (remarked_below next olds news stay.1 (All-tail Below old olds all))

-- A book stays sound, and its numbers drawn, where a transaction is put in the place of one from which it differs in
-- the marks and the reconciliations of its splits alone, and its splits are rightly marked.
pub remarked-sound :
    (book : Book) (n limit : ℕ) (old new : Txn) → value_of n book.transactions ≡ Some old
    → old.currency ≡ new.currency → old.voided ≡ new.voided → AreRemarked old.splits new.splits
    → are_rightly_marked book.reconciliations new.voided new.splits ≡ true
    → AreDrawn book limit → IsSoundBook book
    → IsSoundBook (record book { transactions = with_entry n new book.transactions })
    × AreDrawn (record book { transactions = with_entry n new book.transactions }) limit
remarked-sound book n limit old new there currency voided stay marks are is =
    let below = all_of_one (λ (s : Split). s.id < limit) n old book.transactions there are.splits in (
      transaction_remarked book n limit old new there are currency voided stay marks is,
      transaction_drawn book n limit new (drawn_below n limit old book.transactions are.transactions there)
          (remarked_below limit old.splits new.splits stay below) are,
    )

-- ---- splits of which one has another mark

one_remarked : (number : ℕ) (mark : Mark) (split : Split) → IsRemarked split (marked_where number mark split)
one_remarked number mark split =
    let Stays : Bool → Type 0 = λ b. IsRemarked split (if b then marked_as mark split else split) in
    elim (split.id == number) as Stays [
      | true ↦ record { id = refl; account = refl; value = refl; quantity = refl }
      | false ↦ record { id = refl; account = refl; value = refl; quantity = refl }
    ]

pub all_remarked :
    (number : ℕ) (mark : Mark) (splits : List Split) → AreRemarked splits (marked_among number mark splits)
all_remarked number mark [] = tt
all_remarked number mark (s ∷ splits) = (one_remarked number mark s, all_remarked number mark splits)

-- they are rightly marked where that is no mark of a reconciled one, nor of a voided one
one_right :
    (reconciliations : List (ℕ × Recon)) (number : ℕ) (mark : Mark) (split : Split) → is_reconciled mark ≡ false
    → is_voided mark ≡ false → is_rightly_marked reconciliations split ≡ true
    → is_rightly_marked reconciliations (marked_where number mark split) ≡ true
one_right reconciliations number mark split not_yet unvoided right =
    let Right : Bool → Type 0 =
    λ b. is_rightly_marked reconciliations (if b then marked_as mark split else split) ≡ true in
    elim (split.id == number) as Right [
      | true ↦ unreconciled_is_right reconciliations (marked_as mark split) not_yet unvoided refl
      | false ↦ right
    ]

pub all_right :
    (reconciliations : List (ℕ × Recon)) (number : ℕ) (mark : Mark) (splits : List Split) → is_reconciled mark ≡ false
    → is_voided mark ≡ false → list_all (is_rightly_marked reconciliations) splits ≡ true
    → list_all (is_rightly_marked reconciliations) (marked_among number mark splits) ≡ true
all_right reconciliations number mark [] not_yet unvoided right = refl
all_right reconciliations number mark (s ∷ splits) not_yet unvoided right =
    let parts = and_parts (is_rightly_marked reconciliations s) (list_all (is_rightly_marked reconciliations) splits)
    right in
    and_from _ _ (one_right reconciliations number mark s not_yet unvoided parts.0)
    (all_right reconciliations number mark splits not_yet unvoided parts.1)

-- the split with the number is the marked one
pub among_marked :
    (number : ℕ) (mark : Mark) (splits : List Split)
    → split_among number (marked_among number mark splits) ≡ option_map (marked_as mark) (split_among number splits)
among_marked number mark [] = refl
among_marked number mark (s ∷ splits) =
    let more = marked_among number mark splits in
    let Here : Bool → Type 0 = λ b. (s.id == number) ≡ b
    → split_among number ((if b then marked_as mark s else s) ∷ more)
    ≡ option_map (marked_as mark) (cond b (Some s) (split_among number splits)) in
    elim (s.id == number) as Here [
      | true ↦ λ same. ap (λ (b : Bool). cond b (Some (marked_as mark s)) (split_among number more)) same
      | false ↦ λ other. ap (λ (b : Bool). cond b (Some s) (split_among number more)) other
          ∙ among_marked number mark splits
    ] refl

-- among all splits too
splits_marked :
    (number : ℕ) (mark : Mark) (ts : List (ℕ × Txn))
    → splits_of (map (λ (e : ℕ × Txn). (e.0, remarked number mark e.1)) ts) ≡ marked_among number mark (splits_of ts)
splits_marked number mark [] = refl
splits_marked number mark (e ∷ ts) =
    ap (λ (l : List Split). marked_among number mark e.1.splits ++ l) (splits_marked number mark ts)
    ∙ sym (map-append (marked_where number mark) e.1.splits (splits_of ts))

pub split_marked :
    (number : ℕ) (mark : Mark) (book : Book)
    → split_at number (book_marked number mark book).transactions
    ≡ option_map (marked_as mark) (split_at number book.transactions)
split_marked number mark book =
    ap (split_among number) (splits_marked number mark book.transactions)
    ∙ among_marked number mark (splits_of book.transactions)

-- ---- the transaction that has the split

-- splits without the number stay
none_marked :
    (number : ℕ) (mark : Mark) (splits : List Split) → is_among (numbers_of splits) number ≡ false
    → marked_among number mark splits ≡ splits
none_marked number mark [] none = refl
none_marked number mark (s ∷ splits) none =
    let parts = or_parts (s.id == number) (is_among (numbers_of splits) number) none in
    ap (λ (b : Bool). (if b then marked_as mark s else s) ∷ marked_among number mark splits) parts.0
    ∙ ap (λ (l : List Split). s ∷ l) (none_marked number mark splits parts.1)

-- the numbers of transactions stay
above_marked :
    (n number : ℕ) (mark : Mark) (ts : List (ℕ × Txn)) → AllAbove n ts
    → AllAbove n (map (λ (e : ℕ × Txn). (e.0, remarked number mark e.1)) ts)
above_marked n number mark [] above = tt
above_marked n number mark (e ∷ ts) above = (above.0, above_marked n number mark ts above.1)

rises_marked :
    (number : ℕ) (mark : Mark) (ts : List (ℕ × Txn)) → Rises ts
    → Rises (map (λ (e : ℕ × Txn). (e.0, remarked number mark e.1)) ts)
rises_marked number mark [] r = tt
rises_marked number mark (e ∷ ts) r = (above_marked e.0 number mark ts r.0, rises_marked number mark ts r.1)

-- under each stands what stood there, marked
value_marked :
    (k number : ℕ) (mark : Mark) (ts : List (ℕ × Txn))
    → value_of k (map (λ (e : ℕ × Txn). (e.0, remarked number mark e.1)) ts)
    ≡ option_map (remarked number mark) (value_of k ts)
value_marked k number mark [] = refl
value_marked k number mark (e ∷ ts) =
    let more : List (ℕ × Txn) = map (λ (x : ℕ × Txn). (x.0, remarked number mark x.1)) ts in
    let Here : Bool → Type 0 = λ b. (if b then Some (remarked number mark e.1) else value_of k more)
    ≡ option_map (remarked number mark) (if b then Some e.1 else value_of k ts) in
    let rest : value_of k more ≡ option_map (remarked number mark) (value_of k ts) = value_marked k number mark ts in
    elim (k == e.0) as Here [ true ↦ refl | false ↦ rest ]

-- no other transaction has a split with the number
pub other_lacks :
    (book : Book) (n k number : ℕ) (t x : Txn) → IsSoundBook book → value_of n book.transactions ≡ Some t
    → value_of k book.transactions ≡ Some x → k ≢ n → is_among (numbers_of t.splits) number ≡ true
    → is_among (numbers_of x.splits) number ≡ false
other_lacks book n k number t x is there found other has =
    let ts = book.transactions in
    let own : stands_before (share_numbers t) n ts ≡ false = not-true _ (is.transactions.keep.each n t there).1.1.0 in
    let its : stands_before (share_numbers x) k ts ≡ false = not-true _ (is.transactions.keep.each k x found).1.1.0 in
    let Side : Bool → Type 0 = λ b. nat_lt k n ≡ b → is_among (numbers_of x.splits) number ≡ false in
    let Had : Bool → Type 0 = λ b. is_among (numbers_of x.splits) number ≡ b
    → is_among (numbers_of x.splits) number ≡ false in
    elim (nat_lt k n) as Side [
      | true ↦ λ less.
          let below : k < n = grind (arith, nat_tests, less) in
          fails_among (is_among (numbers_of x.splits)) number (numbers_of t.splits) has
          (fails_before (share_numbers t) n k x ts own below found)
      | false ↦ λ not_less.
          let above : n < k = grind (arith, nat_tests, not_less, other) in
          let apart : share_numbers x t ≡ false = fails_before (share_numbers x) k n t ts its above there in
          elim (is_among (numbers_of x.splits) number) as Had [
            | true ↦ λ too.
                let lacks = fails_among (is_among (numbers_of t.splits)) number (numbers_of x.splits) too apart in
                absurd (let both = sym has ∙ lacks in cc)
            | false ↦ λ lacks. lacks
          ] refl
    ] refl

-- The split of a number is that of the transaction which has it.
pub held_at :
    (book : Book) (number : ℕ) (held : Held) → IsSoundBook book → IsHeld book.transactions number held
    → split_at number book.transactions ≡ Some held.split
held_at book number held is has =
    let t = held.transaction in
    let own = not-true _ (is.transactions.keep.each held.number t has.0).1.1.0 in
    split_of_one held.number number t book.transactions is.transactions.rise has.0 own
    (found_among number t.splits held.split has.1)
    ∙ has.1

-- A transaction of the book has the split.
pub record HasHolder (transactions : List (ℕ × Txn)) (number : ℕ) (split : Split) : Type 0 where
  pub held : Held
  pub has : IsHeld transactions number held
  pub is : held.split ≡ split

one_split : (old new : Split) → Some old ≡ Some new → old ≡ new
one_split old new same = cc

-- The split of a number stands in one of the transactions.
pub held_of :
    (number : ℕ) (split : Split) (ts : List (ℕ × Txn)) → Rises ts → split_at number ts ≡ Some split
    → HasHolder ts number split
held_of number split [] r found = absurd cc
held_of number split (e ∷ ts) r found =
    let among = split_among number e.1.splits in
    let First : Option Split → Type 0 = λ o. among ≡ o → option_or o (split_at number ts) ≡ Some split
    → HasHolder (e ∷ ts) number split in
    elim among as First [
      | Some s ↦ λ here first. record {
        held = record { number = e.0; transaction = e.1; split = s };
        has = (ap (λ (b : Bool). if b then Some e.1 else value_of e.0 ts) (eq-eqb e.0 e.0 refl), here);
        is = one_split s split first;
      }
      | None ↦ λ none later.
          let rest = held_of number split ts r.1 later in
          let past = above_there e.0 rest.held.number rest.held.transaction ts r.0 rest.has.0 in
          let apart : (rest.held.number == e.0) ≡ false = grind (arith, nat_tests, past) in
          record {
            held = rest.held;
            has = (
              ap (λ (b : Bool). if b then Some e.1 else value_of rest.held.number ts) apart ∙ rest.has.0,
              rest.has.1,
            );
            is = rest.is;
          }
    ] refl (sym (find-append (λ (s : Split). s.id == number) e.1.splits (splits_of ts)) ∙ found)

mapped_here :
    (number : ℕ) (mark : Mark) (found : Option Txn)
    → ((x : Txn) → found ≡ Some x → is_among (numbers_of x.splits) number ≡ false)
    → option_map (remarked number mark) found ≡ found
mapped_here number mark None lacks = refl
mapped_here number mark (Some x) lacks =
    ap (λ (l : List Split). Some (record x { splits = l })) (none_marked number mark x.splits (lacks x refl))

-- The book with the split marked is the book with its transaction in the place of the old one.
pub marked_is_put :
    (book : Book) (number : ℕ) (mark : Mark) (held : Held) → IsSoundBook book
    → IsHeld book.transactions number held
    → book_marked number mark book
    ≡ record book { transactions = with_entry held.number (remarked number mark held.transaction) book.transactions }
marked_is_put book number mark held is has =
    let ts = book.transactions in
    let n = held.number in
    let new = remarked number mark held.transaction in
    let rise = is.transactions.rise in
    let among = found_among number held.transaction.splits held.split has.1 in
    let each : (k : ℕ) → option_map (remarked number mark) (value_of k ts) ≡ value_of k (with_entry n new ts) =
    λ k.
    let put : Bool → Option Txn = λ b. if b then Some new else value_of k ts in
    let Same : Bool → Type 0 = λ b. (k == n) ≡ b
    → option_map (remarked number mark) (value_of k ts) ≡ put b in
    (elim (k == n) as Same [
      | true ↦ λ same.
          ap (λ (m : ℕ). option_map (remarked number mark) (value_of m ts)) (eqb-true k n same)
          ∙ ap (option_map (remarked number mark)) has.0
      | false ↦ λ apart.
          let other : k ≢ n = λ one. absurd (let both = sym (eq-eqb k n one) ∙ apart in cc) in
          mapped_here number mark (value_of k ts)
          (λ x found. other_lacks book n k number held.transaction x is has.0 found other among)
    ] refl) ∙ sym (value_of_with k n new ts) in
    ap (λ (l : List (ℕ × Txn)). record book { transactions = l })
    (same_entries (map (λ (e : ℕ × Txn). (e.0, remarked number mark e.1)) ts) (with_entry n new ts)
    (rises_marked number mark ts rise) (rises_with n new ts rise)
    (λ k. value_marked k number mark ts ∙ each k))

-- A book stays sound, and its numbers drawn, where one of its splits is marked as new or as cleared.
pub marked-sound :
    (book : Book) (number limit : ℕ) (mark : Mark) (held : Held) → IsHeld book.transactions number held
    → is_none held.transaction.voided ≡ true → is_reconciled mark ≡ false → is_voided mark ≡ false
    → AreDrawn book limit → IsSoundBook book
    → IsSoundBook (book_marked number mark book) × AreDrawn (book_marked number mark book) limit
marked-sound book number limit mark held has alive not_yet unvoided are is =
    let t = held.transaction in
    let r = book.reconciliations in
    let new = remarked number mark t in
    let kept = is.transactions.keep.each held.number t has.0 in
    let marks = sym (marks_unvoided r t.voided t.splits alive) ∙ kept.1.1.1.0 in
    let later = marks_unvoided r t.voided new.splits alive ∙ all_right r number mark t.splits not_yet unvoided marks in
    let put = remarked-sound book held.number limit t new has.0 refl refl (all_remarked number mark t.splits) later are
    is in
    subst (λ (b : Book). IsSoundBook b × AreDrawn b limit) (sym (marked_is_put book number mark held is has)) put
