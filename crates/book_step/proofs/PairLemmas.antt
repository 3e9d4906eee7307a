-- What the pairs that are proposed in a sound book are: each has an open line of the account and a split that fits it,
-- which no line has, and no two have the same split.
use Rattle.std.proofs.Common.{◌≡◌, ◌≢◌, ℕ, ◌==◌, Bool, true, false, if◌then◌else◌, cond, All, List, []}
use Rattle.std.proofs.Common.{◌∷◌, find, Option, Some, option_map, IsTrue, refl, sym, ap, subst, ◌∙◌, eq-eqb}
use Rattle.std.specs.Ordering.{int_eq}
use Rattle.std.specs.Prelude.{nat_le}
use Rattle.std.proofs.lemmas.Bool.{and_from, and_parts, eqb-true, not_from_false, or_parts}
use Rattle.std.proofs.lemmas.Bool.Decides.{Decides-int_eq}
use Rattle.std.proofs.lemmas.List.Elements.{All-head, All-tail}
use Rattle.book_commodity.specs.Table.{value_of}
use Rattle.book_commodity.proofs.ListLemmas.{mapped_some}
use Rattle.book_splits.specs.TransactionRules.{is_voided}
use Rattle.book_splits.specs.declared.split.Split.{Split}
use Rattle.book_statement.specs.declared.line.Line.{Line}
use Rattle.book_statement.specs.declared.line_state.LineState.{LineState}
use Rattle.book_statement.specs.declared.line_state.LineState.TheVariants.{Open, Matched as MatchedWith, Dismissed}
use Rattle.book_match.specs.Kept.{views_on}
use Rattle.book_match.specs.Proposal.{distance}
use Rattle.book_match.specs.declared.views.Matched.{Matched}
use Rattle.book_sound.specs.LineRules.{fits_line, split_at}
use Rattle.book_sound.specs.Soundness.{IsSoundBook}
use Rattle.book_undo.specs.Book.{Book}
use Rattle.book_free.specs.FreeSplits.{free_splits, has_matched, is_matched}
use Rattle.book_step.specs.AutoMatching.{matches, split_of}
use Rattle.book_step.specs.BankLines.{is_open}
use Rattle.book_step.specs.Matchable.{open_lines}
use Rattle.book_step.proofs.MatchableLemmas.{IsFreeSplit, IsOpenLine, lines_hold, splits_hold}
use Rattle.book_step.proofs.PairedEdits.{TakeOpen}
use Rattle.book_step.proofs.PairedLines.{TakeFree}
use Rattle.book_step.proofs.ProposalLemmas.{IsPairOf, SplitsApart, proposal-apart, proposal-holds}

-- A pair has an open line of the account and a split that it fits, which no line has.
abbrev pub FitsPair : Book → ℕ → ℕ → Matched → Type 0
FitsPair book account window pair =
    IsPairOf (IsOpenLine account book.lines) (IsFreeSplit (is_matched book.lines) account book.transactions) window pair

pairs_fit :
    (book : Book) (account window : ℕ) → IsSoundBook book
    → All (FitsPair book account window) (matches book account window)
pairs_fit book account window is =
    proposal-holds (IsOpenLine account book.lines)
    (IsFreeSplit (is_matched book.lines) account book.transactions) window
    (open_lines account book.lines) (views_on account (free_splits book) book.transactions)
    (lines_hold account book.lines is.lines.rise) (splits_hold book (is_matched book.lines) account is)

-- ---- the pair that is found for a line

found_pair :
    (P : Matched → Type 0) (line : ℕ) (pairs : List Matched) (pair : Matched) → All P pairs
    → find (λ p. p.line == line) pairs ≡ Some pair → P pair × (pair.line ≡ line)
found_pair P line [] pair all found = absurd cc
found_pair P line (p ∷ pairs) pair all found =
    let First : Bool → Type 0 = λ b. (p.line == line) ≡ b
    → cond b (Some p) (find (λ x. x.line == line) pairs) ≡ Some pair → P pair × (pair.line ≡ line) in
    elim (p.line == line) as First [
      | true ↦ λ same here.
          let one : p ≡ pair = cc in
          (subst P one (All-head P p pairs all), sym (ap (λ (x : Matched). x.line) one) ∙ eqb-true p.line line same)
      | false ↦ λ other rest. found_pair P line pairs pair (All-tail P p pairs all) rest
    ] refl found

-- two pairs that are found with one split are one pair
same_pair :
    (m n : ℕ) (pairs : List Matched) (one other : Matched) → SplitsApart pairs
    → find (λ p. p.line == m) pairs ≡ Some one → find (λ p. p.line == n) pairs ≡ Some other
    → one.split ≡ other.split → m ≡ n
same_pair m n [] one other apart first second same = absurd cc
same_pair m n (p ∷ pairs) one other apart first second same =
    let found : ℕ → Option Matched = λ k. find (λ x. x.line == k) pairs in
    let Apart : Matched → Type 0 = λ x. p.split ≢ x.split in
    let Tests : Bool → Bool → Type 0 = λ b c. (p.line == m) ≡ b → (p.line == n) ≡ c
    → cond b (Some p) (found m) ≡ Some one → cond c (Some p) (found n) ≡ Some other → m ≡ n in
    let First : Bool → Type 0 = λ b. Tests b (p.line == n) in
    elim (p.line == m) as First [
      | true ↦ elim (p.line == n) as (Tests true) [
        | true ↦ λ e f here there. sym (eqb-true p.line m e) ∙ eqb-true p.line n f
        | false ↦ λ e f here there.
            let is : p ≡ one = cc in
            absurd ((found_pair Apart n pairs other apart.0 there).0
            (ap (λ (x : Matched). x.split) is ∙ same))
      ]
      | false ↦ elim (p.line == n) as (Tests false) [
        | true ↦ λ e f here there.
            let is : p ≡ other = cc in
            absurd ((found_pair Apart m pairs one apart.0 here).0
            (ap (λ (x : Matched). x.split) is ∙ sym same))
        | false ↦ λ e f here there. same_pair m n pairs one other apart.1 here there same
      ]
    ] refl refl first second

-- ---- what a line takes

-- A line takes the split of a pair of its own.
record Takes (book : Book) (account window n split : ℕ) : Type 0 where
  pair : Matched
  there : find (λ p. p.line == n) (matches book account window) ≡ Some pair
  number : pair.line ≡ n
  takes : pair.split ≡ split
  fits : FitsPair book account window pair

takes_pair :
    (book : Book) (account window n split : ℕ) → IsSoundBook book
    → split_of (matches book account window) n ≡ Some split → Takes book account window n split
takes_pair book account window n split is some =
    let pairs = matches book account window in
    let p = mapped_some (λ (pair : Matched). pair.split) (find (λ pair. pair.line == n) pairs) split some in
    let found = found_pair (FitsPair book account window) n pairs p.0 (pairs_fit book account window is) p.1 in
    record { pair = p.0; there = p.1; number = found.1; takes = p.2; fits = found.0 }

-- the line is the one that stands under the number
own_line :
    (book : Book) (account window n split : ℕ) (line : Line) (took : Takes book account window n split)
    → value_of n book.lines ≡ Some line → took.fits.of_line.line ≡ line
own_line book account window n split line took there =
    let fits = took.fits in
    let same : fits.line.line ≡ n = sym fits.has_line ∙ took.number in
    let both = sym fits.of_line.there ∙ ap (λ (k : ℕ). value_of k book.lines) same ∙ there in
    one_line fits.of_line.line line both
  where
    one_line : (x y : Line) → Some x ≡ Some y → x ≡ y
    one_line x y e = cc

open_state : (state : LineState) → is_open state ≡ true → state ≡ Open
open_state Open e = refl
open_state (MatchedWith split) e = absurd cc
open_state Dismissed e = absurd cc

-- no line has a split that isn't matched
not_matched :
    (split k : ℕ) (line : Line) (lines : List (ℕ × Line)) → is_matched lines split ≡ false
    → value_of k lines ≡ Some line → has_matched split line.state ≡ false
not_matched split k line [] none there = absurd cc
not_matched split k line (e ∷ lines) none there =
    let parts = or_parts (has_matched split e.1.state) (is_matched lines split) none in
    let Here : Bool → Type 0 = λ b. (if b then Some e.1 else value_of k lines) ≡ Some line
    → has_matched split line.state ≡ false in
    elim (k == e.0) as Here [
      | true ↦ λ here.
          let one : e.1 ≡ line = cc in
          sym (ap (λ (l : Line). has_matched split l.state) one) ∙ parts.0
      | false ↦ λ rest. not_matched split k line lines parts.1 rest
    ] there

has_itself : (split : ℕ) → has_matched split (MatchedWith split) ≡ true
has_itself split = eq-eqb split split refl

fits_split :
    (line : Line) (split : Split) (found : Option Split) → found ≡ Some split → split.account ≡ line.account
    → split.quantity ≡ line.body.amount → is_voided split.mark ≡ false → IsTrue (fits_line line found)
fits_split line split found there account quantity unvoided =
    ap (fits_line line) there
    ∙ and_from _ _ (eq-eqb split.account line.account account)
    (and_from _ _ ((Decides-int_eq split.quantity line.body.amount).1 quantity) (not_from_false _ unvoided))

-- Each line that takes a split of the pairs is open,
pub pairs_open :
    (book : Book) (account window : ℕ) → IsSoundBook book
    → TakeOpen (split_of (matches book account window)) book.lines
pairs_open book account window is n split line there some =
    let took = takes_pair book account window n split is some in
    let same = own_line book account window n split line took there in
    open_state line.state
    (sym (ap (λ (l : Line). is_open l.state) same) ∙ took.fits.of_line.open_)

-- and takes one that fits it, that no line has, and that no other line takes.
pub pairs_free :
    (book : Book) (account window : ℕ) → IsSoundBook book
    → TakeFree book.transactions book.lines (split_of (matches book account window))
pairs_free book account window is = record {
  fits = λ n split line there some.
      let took = takes_pair book account window n split is some in
      let same = own_line book account window n split line took there in
      let fits = took.fits in
      let own = fits.of_split in
      let candidate = and_parts (int_eq fits.split.quantity fits.line.amount)
      (nat_le (distance fits.line.day fits.split.day) window) fits.candidate in
      let number : fits.split.split ≡ split = sym fits.has_split ∙ took.takes in
      fits_split line own.split (split_at split book.transactions)
      (sym (ap (λ (k : ℕ). split_at k book.transactions) number) ∙ own.there)
      (own.of_account ∙ sym fits.of_line.of_account ∙ ap (λ (l : Line). l.account) same)
      (own.amount ∙ (Decides-int_eq fits.split.quantity fits.line.amount).0 candidate.0
      ∙ sym fits.of_line.amount ∙ ap (λ (l : Line). l.body.amount) same) own.unvoided;
  untaken = λ n split k line some there matched.
      let took = takes_pair book account window n split is some in
      let fits = took.fits in
      let number : fits.split.split ≡ split = sym fits.has_split ∙ took.takes in
      let none = sym (ap (is_matched book.lines) number) ∙ fits.of_split.untaken in
      let not_it = not_matched split k line book.lines none there in
      absurd (let has = sym (ap (has_matched split) matched ∙ has_itself split) ∙ not_it in cc);
  apart = λ m n split one two.
      let first = takes_pair book account window m split is one in
      let second = takes_pair book account window n split is two in
      let apart = proposal-apart window (open_lines account book.lines)
      (views_on account (free_splits book) book.transactions) in
      same_pair m n (matches book account window) first.pair second.pair apart first.there second.there
      (first.takes ∙ sym second.takes);
}

-- Where there is a pair, a line of the book takes its split.
pub first_takes :
    (book : Book) (account window : ℕ) (pair : Matched) (more : List Matched) → IsSoundBook book
    → matches book account window ≡ pair ∷ more
    → (line : Line) × (value_of pair.line book.lines ≡ Some line)
    × (split_of (matches book account window) pair.line ≡ Some pair.split)
first_takes book account window pair more is are =
    let Fits : Matched → Type 0 = FitsPair book account window in
    let fits = All-head Fits pair more (subst (λ (ps : List Matched). All Fits ps) are
    (pairs_fit book account window is)) in (
      fits.of_line.line,
      ap (λ (k : ℕ). value_of k book.lines) fits.has_line ∙ fits.of_line.there,
      ap (λ (ps : List Matched). split_of ps pair.line) are
          ∙ ap (λ (b : Bool). option_map (λ (p : Matched). p.split)
          (cond b (Some pair) (find (λ p. p.line == pair.line) more))) (eq-eqb pair.line pair.line refl),
    )
