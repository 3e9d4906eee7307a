-- A book stays sound where open lines are matched with splits that fit them, each with another one that no line has.
use Rattle.std.proofs.Common.{◌≡◌, ◌≢◌, ℕ, ◌<◌, ◌==◌, ◌&&◌, not, nat_eq, nat_lt, Bool, true, false, if◌then◌else◌, All}
use Rattle.std.proofs.Common.{List, [], ◌∷◌, length, Option, Some, None, is_some, IsTrue, refl, sym, ap, subst, ◌∙◌}
use Rattle.std.proofs.Common.{arith}
use Rattle.std.specs.Option.{option_eq}
use Rattle.std.proofs.lemmas.Bool.{not-true, not_from_false, or_from, or_parts}
use Rattle.std.proofs.lemmas.Bool.Decides.{nat_tests}
use Rattle.std.proofs.lemmas.List.Elements.{All-cons, All-head, All-nil, All-tail}
use Rattle.book_commodity.specs.Rules.{AllHold, IsSoundTable, stands_before}
use Rattle.book_commodity.specs.Table.{AllAbove, Rises, value_of}
use Rattle.book_accounts.specs.declared.account.Account.{Account}
use Rattle.book_splits.specs.declared.transaction.Txn.{Txn}
use Rattle.book_statement.specs.declared.held.Held.{Held}
use Rattle.book_statement.specs.declared.line.Line.{Line}
use Rattle.book_statement.specs.declared.line_key.LineKey.{LineKey}
use Rattle.book_statement.specs.declared.line_state.LineState.{LineState}
use Rattle.book_statement.specs.declared.line_state.LineState.TheVariants.{Open, Matched, Dismissed}
use Rattle.book_statement.specs.declared.statement_line.StatementLine.{StatementLine}
use Rattle.book_sound.specs.LineRules.{fits_in_state, fits_line, has_same_key, is_over_limit, is_same_key}
use Rattle.book_sound.specs.LineRules.{key_of_line, line_rules}
use Rattle.book_sound.specs.LineRules.{matched_split, shares_split, split_at}
use Rattle.book_sound.specs.Soundness.{IsSoundBook, AreDrawn}
use Rattle.book_sound.specs.Tests.{is_live}
use Rattle.book_sound.proofs.OwnFrames.{all_of_each}
use Rattle.book_undo.specs.Book.{Book}
use Rattle.book_step.specs.AutoMatching.{line_paired, lines_paired}

-- What lines take: a split of the book that fits the line, that no line has, and that no other line takes.
pub record TakeFree (ts : List (ℕ × Txn)) (lines : List (ℕ × Line)) (takes : ℕ → Option ℕ) : Type 0 where
  pub fits : (n split : ℕ) (line : Line) → value_of n lines ≡ Some line → takes n ≡ Some split
      → IsTrue (fits_line line (split_at split ts))
  pub untaken : (n split k : ℕ) (line : Line) → takes n ≡ Some split → value_of k lines ≡ Some line
      → line.state ≢ Matched split
  pub apart : (m n split : ℕ) → takes m ≡ Some split → takes n ≡ Some split → m ≡ n

-- ---- what stays of a line, and of a table of them

key_stays : (takes : Option ℕ) (line : Line) → key_of_line (line_paired takes line) ≡ key_of_line line
key_stays None line = refl
key_stays (Some split) line = refl

account_stays : (takes : Option ℕ) (line : Line) → (line_paired takes line).account ≡ line.account
account_stays None line = refl
account_stays (Some split) line = refl

statement_stays : (takes : Option ℕ) (line : Line) → (line_paired takes line).statement ≡ line.statement
statement_stays None line = refl
statement_stays (Some split) line = refl

body_stays : (takes : Option ℕ) (line : Line) → (line_paired takes line).body ≡ line.body
body_stays None line = refl
body_stays (Some split) line = refl

value_paired :
    (takes : ℕ → Option ℕ) (k : ℕ) (later : Line) (lines : List (ℕ × Line))
    → value_of k (lines_paired takes lines) ≡ Some later
    → (line : Line) × (value_of k lines ≡ Some line) × (line_paired (takes k) line ≡ later)
value_paired takes k later [] there = absurd cc
value_paired takes k later (e ∷ lines) there =
    let Here : Bool → Type 0 = λ b. (k == e.0) ≡ b
    → (if b then Some (line_paired (takes e.0) e.1) else value_of k (lines_paired takes lines)) ≡ Some later
    → (line : Line) × ((if b then Some e.1 else value_of k lines) ≡ Some line)
    × (line_paired (takes k) line ≡ later) in
    elim (k == e.0) as Here [
      | true ↦ λ same found.
          let here : k ≡ e.0 = grind (arith, nat_tests, same) in
          let one : line_paired (takes e.0) e.1 ≡ later = cc in
          (e.1, refl, ap (λ (n : ℕ). line_paired (takes n) e.1) here ∙ one)
      | false ↦ λ other rest. value_paired takes k later lines rest
    ] refl there

above_paired :
    (takes : ℕ → Option ℕ) (n : ℕ) (lines : List (ℕ × Line)) → AllAbove n lines → AllAbove n (lines_paired takes lines)
above_paired takes n [] above = tt
above_paired takes n (e ∷ lines) above = (above.0, above_paired takes n lines above.1)

rises_paired : (takes : ℕ → Option ℕ) (lines : List (ℕ × Line)) → Rises lines → Rises (lines_paired takes lines)
rises_paired takes [] r = tt
rises_paired takes (e ∷ lines) r = (above_paired takes e.0 lines r.0, rises_paired takes lines r.1)

length_paired :
    (takes : ℕ → Option ℕ) (lines : List (ℕ × Line)) → length (lines_paired takes lines) ≡ length lines
length_paired takes [] = refl
length_paired takes (e ∷ lines) = omega (arith, length_paired takes lines)

drawn_paired :
    (takes : ℕ → Option ℕ) (next : ℕ) (lines : List (ℕ × Line)) → All (λ (e : ℕ × Line). e.0 < next) lines
    → All (λ (e : ℕ × Line). e.0 < next) (lines_paired takes lines)
drawn_paired takes next [] below = All-nil (λ (e : ℕ × Line). e.0 < next)
drawn_paired takes next (e ∷ lines) below =
    let Below : ℕ × Line → Type 0 = λ x. x.0 < next in
    All-cons Below (e.0, line_paired (takes e.0) e.1) (lines_paired takes lines) (All-head Below e lines below)
    (drawn_paired takes next lines (All-tail Below e lines below))

-- what none before a number passes, none passes then
Follows : (ℕ → Option ℕ) → (Line → Bool) → (Line → Bool) → ℕ → ℕ × Line → Type 0
Follows takes here later k e =
    e.0 < k → here e.1 ≡ false → later (line_paired (takes e.0) e.1) ≡ false

before_paired :
    (takes : ℕ → Option ℕ) (here later : Line → Bool) (k : ℕ) (lines : List (ℕ × Line))
    → All (Follows takes here later k) lines
    → stands_before here k lines ≡ false → stands_before later k (lines_paired takes lines) ≡ false
unfolding Follows
before_paired takes here later k [] follows none = refl
before_paired takes here later k (e ∷ lines) follows none =
    let parts = or_parts (nat_lt e.0 k && here e.1) (stands_before here k lines) none in
    let After : Line = line_paired (takes e.0) e.1 in
    let own : Follows takes here later k e = All-head (Follows takes here later k) e lines follows in
    let First : Bool → Type 0 = λ b. nat_lt e.0 k ≡ b → (b && here e.1) ≡ false → (b && later After) ≡ false in
    let first : (nat_lt e.0 k && later After) ≡ false = (elim (nat_lt e.0 k) as First [
      | true ↦ λ less fails. own (grind (arith, nat_tests, less)) fails
      | false ↦ λ less fails. refl
    ]) refl parts.0 in
    or_from (nat_lt e.0 k && later After) _ first
    (before_paired takes here later k lines (All-tail (Follows takes here later k) e lines follows) parts.1)

-- ---- no two lines have one split

-- a line that isn't matched with a split shares it with none, whichever of the two is asked
not_matched :
    (split : ℕ) (state : LineState) → state ≢ Matched split
    → option_eq nat_eq (matched_split state) (Some split) ≡ false
not_matched split Open other = refl
not_matched split (Matched m) other =
    let apart : m ≢ split = λ same. other (ap (λ (k : ℕ). Matched k) same) in
    grind (arith, nat_tests, apart)
not_matched split Dismissed other = refl

not_matched_with :
    (split : ℕ) (state : LineState) → state ≢ Matched split
    → (is_some (matched_split state) && option_eq nat_eq (Some split) (matched_split state)) ≡ false
not_matched_with split Open other = refl
not_matched_with split (Matched m) other =
    let apart : split ≢ m = λ same. other (ap (λ (k : ℕ). Matched k) (sym same)) in
    grind (arith, nat_tests, apart)
not_matched_with split Dismissed other = refl

shares_still :
    (line other : Line) (takes takes_other : Option ℕ) → shares_split line other ≡ false
    → ((split : ℕ) → takes ≡ Some split → other.state ≢ Matched split)
    → ((split : ℕ) → takes_other ≡ Some split → line.state ≢ Matched split)
    → ((split : ℕ) → takes ≡ Some split → takes_other ≡ Some split → ⊥)
    → shares_split (line_paired takes line) (line_paired takes_other other) ≡ false
shares_still line other None None before free free_other apart = before
shares_still line other None (Some split) before free free_other apart =
    not_matched_with split line.state (free_other split refl)
shares_still line other (Some split) None before free free_other apart =
    not_matched split other.state (free split refl)
shares_still line other (Some split) (Some s) before free free_other apart =
    let differs : s ≢ split = λ same. apart split refl (ap (λ (k : ℕ). Some k) same) in
    grind (arith, nat_tests, differs)

fits_paired :
    (ts : List (ℕ × Txn)) (line : Line) (takes : Option ℕ)
    → ((split : ℕ) → takes ≡ Some split → IsTrue (fits_line line (split_at split ts)))
    → IsTrue (fits_in_state ts line line.state)
    → IsTrue (fits_in_state ts (line_paired takes line) (line_paired takes line).state)
fits_paired ts line None fits before = before
fits_paired ts line (Some split) fits before = fits split refl

-- ---- the lines stay sound

lines_paired-sound :
    (accounts : List (ℕ × Account)) (statements : List (ℕ × Held)) (ts : List (ℕ × Txn)) (most : ℕ)
    (lines : List (ℕ × Line)) (takes : ℕ → Option ℕ) → TakeFree ts lines takes
    → IsSoundTable (line_rules accounts statements ts lines) most lines
    → IsSoundTable (line_rules accounts statements ts (lines_paired takes lines)) most (lines_paired takes lines)
unfolding Follows
lines_paired-sound accounts statements ts most lines takes free is = record {
  rise = rises_paired takes lines is.rise;
  keep = record {
    each = λ k later there.
        let was = value_paired takes k later lines there in
        let line = was.0 in
        let took = takes k in
        let kept = is.keep.each k line was.1 in
        let after = lines_paired takes lines in
        let keys = before_paired takes (has_same_key line) (has_same_key (line_paired took line)) k lines
        (all_of_each (Follows takes (has_same_key line) (has_same_key (line_paired took line)) k) lines is.rise
        (λ j other found less differs.
        ap (λ (key : LineKey). is_same_key key (key_of_line (line_paired (takes j) other))) (key_stays took line)
        ∙ ap (is_same_key (key_of_line line)) (key_stays (takes j) other) ∙ differs))
        (not-true _ kept.1.1.1.0) in
        let splits = before_paired takes (shares_split line) (shares_split (line_paired took line)) k lines
        (all_of_each (Follows takes (shares_split line) (shares_split (line_paired took line)) k) lines is.rise
        (λ j other found less apart.
        shares_still line other took (takes j) apart
        (λ split some. free.untaken k split j other some found)
        (λ split some. free.untaken j split k line some was.1)
        (λ split one two.
        let same = free.apart k j split one two in absurd (omega (arith, less, same)))))
        (not-true _ kept.1.1.1.1.1.0) in
        let matched = fits_paired ts line took (λ split some. free.fits k split line was.1 some) kept.1.1.1.1.0 in
        let account = subst (λ (n : ℕ). IsTrue (is_live accounts n)) (sym (account_stays took line)) kept.0 in
        let statement = subst (λ (n : ℕ). IsTrue (is_live statements n)) (sym (statement_stays took line)) kept.1.0 in
        let amount = subst (λ (body : StatementLine). IsTrue (not (is_over_limit body.amount)))
        (sym (body_stays took line)) kept.1.1.0 in
        let own = not_from_false _ keys in
        let alone = not_from_false _ splits in
        let Rules : Line → Type 0 = λ x. AllHold (line_rules accounts statements ts after k x) in
        subst Rules was.2 (account, (statement, (amount, (own, (matched, (alone, tt))))));
  };
  few = omega (arith, is.few, length_paired takes lines);
}

-- ---- and so does the book

pub paired-sound :
    (book : Book) (takes : ℕ → Option ℕ) → TakeFree book.transactions book.lines takes → IsSoundBook book
    → IsSoundBook (record book { lines = lines_paired takes book.lines })
paired-sound book takes free is = record {
  commodities = is.commodities;
  accounts = is.accounts;
  transactions = is.transactions;
  prices = is.prices;
  schedules = is.schedules;
  statements = is.statements;
  lines = lines_paired-sound book.accounts book.statements book.transactions 1000000 book.lines takes free is.lines;
  bindings = is.bindings;
  reconciliations = is.reconciliations;
  few_splits = is.few_splits;
  root = is.root;
  currency = is.currency;
}

pub paired-drawn :
    (book : Book) (takes : ℕ → Option ℕ) (next : ℕ) → AreDrawn book next
    → AreDrawn (record book { lines = lines_paired takes book.lines }) next
paired-drawn book takes next are = record {
  commodities = are.commodities;
  accounts = are.accounts;
  transactions = are.transactions;
  prices = are.prices;
  schedules = are.schedules;
  statements = are.statements;
  lines = drawn_paired takes next book.lines are.lines;
  bindings = are.bindings;
  reconciliations = are.reconciliations;
  splits = are.splits;
  marked = are.marked;
  made = are.made;
}
