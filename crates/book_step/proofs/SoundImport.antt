-- An import leads from a sound state to a sound one: what is added keeps the rules of the book.
use Rattle.std.proofs.Common.{◌≡◌, ℕ, ◌+◌, ◌<◌, ◌≤◌, ◌==◌, Bool, true, false, cond, All, List, [], ◌∷◌}
use Rattle.std.proofs.Common.{◌++◌, ◌||◌, find, is_none, is_some, length, map, option_map, Option, Some, None}
use Rattle.std.proofs.Common.{Ok, Err, Result, unwrap_or, refl, sym, ap, subst, append_assoc, arith}
use Rattle.std.specs.List.{AllByRecursion, list_any}
use Rattle.std.proofs.Math.ListN.{length-append}
use Rattle.std.proofs.lemmas.Bool.Decides.{nat_tests}
use Rattle.std.proofs.lemmas.List.{append-nil}
use Rattle.std.proofs.lemmas.List.Elements.{All-head, All-tail}
use Rattle.book_commodity.specs.Rules.{AllKept, IsSoundTable, broken_where, first_broken}
use Rattle.book_commodity.specs.Table.{value_of}
use Rattle.book_commodity.proofs.DrawnLemmas.{Stays, all_with, drawn_before, with_last}
use Rattle.book_commodity.proofs.RuleLemmas.{kept_back, kept_front, not-broken}
use Rattle.book_accounts.specs.declared.account.Account.{Account}
use Rattle.book_splits.specs.declared.transaction.Txn.{Txn}
use Rattle.book_statement.specs.Keys.{same_text}
use Rattle.book_statement.specs.declared.binding.Binding.{Binding}
use Rattle.book_statement.specs.declared.fault.StatementFault.{StatementFault}
use Rattle.book_statement.specs.declared.held.Held.{Held}
use Rattle.book_statement.specs.declared.line.Line.{Line}
use Rattle.book_statement.specs.declared.statement.Statement.{Statement}
use Rattle.book_sound.specs.BindingRules.{takes_splits}
use Rattle.book_sound.specs.LineRules.{has_same_key, key_of_line, line_rules}
use Rattle.book_sound.specs.StatementRules.{is_same_statement, statement_rules}
use Rattle.book_sound.specs.Tests.{is_live}
use Rattle.book_sound.proofs.DrawnFrames.{drawn_later}
use Rattle.book_sound.proofs.LineFrames.{lines_under}
use Rattle.book_sound.proofs.OwnChanges.{lines_put, statements_put}
use Rattle.book_sound.proofs.OwnFrames.{all_of_each}
use Rattle.book_import.specs.Import.{has_key, number_among}
use Rattle.book_import.specs.Laws as laws
use Rattle.book_import.specs.Laws.{AreApart, AreNamed, AreNew, HasDrawn}
use Rattle.book_import.specs.declared.added.Additions.{Additions}
use Rattle.book_import.proofs.DrawnLaws.{imported-drawn}
use Rattle.book_import.proofs.NameLemmas.{named-by}
use Rattle.book_import.proofs.NewLaws.{new-by}
use Rattle.book_undo.specs.Book.{Book}
use Rattle.book_command.specs.declared.answer.Answer.{Answer}
use Rattle.book_command.specs.declared.command.Format.{Format}
use Rattle.book_command.specs.declared.rule.Rule.{Rule}
use Rattle.book_command.specs.declared.rule.Rule.TheVariants.{BadStatement}
use Rattle.book_step.specs.Importing.{account_rules, added_by, adds_nothing, book_with, bound_account, bound_to, drawn_by}
use Rattle.book_step.specs.Importing.{file_rules, given_rules, import_answer, import_file, import_of}
use Rattle.book_step.specs.Importing.{import_said, room_rules, said, statement_rules as rules_of}
use Rattle.book_step.specs.Outcome.{Broken, Done}
use Rattle.book_step.specs.Soundness.{AreDrawn, IsSound, IsSoundBook}
use Rattle.book_step.specs.State.{State}
use Rattle.book_step.proofs.FormatAmounts.{read-within}
use Rattle.book_step.proofs.ImportLemmas.{AreFit, IsFit, SuitFile, imported-counted, imported-fits}
use Rattle.book_step.proofs.ReadAmounts.{AllWithin}
use Rattle.book_step.proofs.SoundOutcome.{either_sound, sound_after, unless_done}

-- ---- entries behind others

none-found : {X : Type 0} (test : X → Bool) (xs : List X) → list_any test xs ≡ false → find test xs ≡ None
none-found test [] none = refl
none-found {X} test (x ∷ xs) none = go (test x) (list_any test xs) (find test xs) (none-found test xs) none
  where
    go : (here rest : Bool) (found : Option X) → (rest ≡ false → found ≡ None)
        → (here || rest) ≡ false → cond here (Some x) found ≡ None
    go true rest found more none = absurd cc
    go false rest found more none = more none

none-equal :
    (held : Held) (es : List (ℕ × Held)) → number_among held es ≡ None
    → find (λ (e : ℕ × Held). is_same_statement held e.1) es ≡ None
none-equal held [] none = refl
none-equal held (e ∷ es) none =
    go (is_same_statement held e.1) (number_among held es) (find (λ (e : ℕ × Held). is_same_statement held e.1) es)
    (none-equal held es) none
  where
    go : (here : Bool) (among : Option ℕ) (found : Option (ℕ × Held)) → (among ≡ None → found ≡ None)
        → cond here (Some e.0) among ≡ None → cond here (Some e) found ≡ None
    go true among found more none = absurd cc
    go false among found more none = more none

-- what stands there still does with others behind
pub value-front :
    {T : Type 0} (n : ℕ) (x : T) (es more : List (ℕ × T)) → value_of n es ≡ Some x → value_of n (es ++ more) ≡ Some x
value-front n x [] more there = absurd cc
value-front {T} n x (e ∷ es) more there = go (n == e.0) (value-front n x es more) there
  where
    go : (here : Bool) → (value_of n es ≡ Some x → value_of n (es ++ more) ≡ Some x)
        → cond here (Some e.1) (value_of n es) ≡ Some x → cond here (Some e.1) (value_of n (es ++ more)) ≡ Some x
    go true rest there = there
    go false rest there = rest there

stays-front : {T : Type 0} (es more : List (ℕ × T)) → Stays es (es ++ more)
stays-front es more = record { each = λ n x there. value-front n x es more there }

-- ---- numbers

pub below-next :
    {T : Type 0} (n : ℕ) (v : T) (es : List (ℕ × T)) → All (λ (e : ℕ × T). e.0 < n) es
    → All (λ (e : ℕ × T). e.0 < n + 1) (es ++ (n, v) ∷ [])
below-next {T} n v es below =
    subst (λ (l : List (ℕ × T)). All (λ (e : ℕ × T). e.0 < n + 1) l) (with_last n v es below)
    (all_with (λ (e : ℕ × T). e.0 < n + 1) n v es (omega arith) (drawn_before n (n + 1) es (omega arith) below))

drawn-least : {T : Type 0} (from next : ℕ) (added : List (ℕ × T)) → laws.AreDrawn from next added → from ≤ next
drawn-least from next [] drawn = drawn
drawn-least from next (e ∷ more) drawn =
    let rest = drawn-least (e.0 + 1) next more drawn.1 in let here = drawn.0 in omega (arith, rest, here)

pub all-drawn :
    {T : Type 0} (from next : ℕ) (es added : List (ℕ × T)) → All (λ (e : ℕ × T). e.0 < from) es
    → laws.AreDrawn from next added → All (λ (e : ℕ × T). e.0 < next) (es ++ added)
all-drawn {T} from next es [] below drawn =
    subst (λ (l : List (ℕ × T)). All (λ (e : ℕ × T). e.0 < next) l) (sym (append-nil es))
    (drawn_before from next es drawn below)
all-drawn {T} from next es (put ∷ more) below drawn =
    let here = drawn_before from put.0 es drawn.0 below in
    subst (λ (l : List (ℕ × T)). All (λ (e : ℕ × T). e.0 < next) l) (append_assoc es (put ∷ []) more)
    (all-drawn (put.0 + 1) next (es ++ put ∷ []) more (below-next put.0 put.1 es here) drawn.1)

-- ---- the statements, and the lines

abbrev SoundStatements : List (ℕ × Account) → List (ℕ × Held) → Type 0
SoundStatements accounts es = IsSoundTable (statement_rules accounts es) 100000 es

statements-added :
    (accounts : List (ℕ × Account)) (from next : ℕ) (es added : List (ℕ × Held))
    → All (λ (e : ℕ × Held). e.0 < from) es → laws.AreDrawn from next added
    → AreApart (λ before held. number_among held before ≡ None) es added
    → AllByRecursion (λ (e : ℕ × Held). is_live accounts e.1.account ≡ true) added
    → length es + length added ≤ 100000 → SoundStatements accounts es → SoundStatements accounts (es ++ added)
statements-added accounts from next es [] below drawn apart live few is =
    subst (SoundStatements accounts) (sym (append-nil es)) is
statements-added accounts from next es (put ∷ more) below drawn apart live few is =
    let here = drawn_before from put.0 es drawn.0 below in
    let last = with_last put.0 put.1 es here in
    let longer = length-append es (put ∷ []) in
    let size = ap length last in
    let one = statements_put accounts put.0 put.1 100000 es here (none-equal put.1 es apart.0) live.0
    (omega (arith, longer, size, few)) is in
    subst (SoundStatements accounts) (append_assoc es (put ∷ []) more)
    (statements-added accounts (put.0 + 1) next (es ++ put ∷ []) more (below-next put.0 put.1 es here) drawn.1 apart.1
    live.1 (omega (arith, longer, few)) (subst (SoundStatements accounts) last one))

abbrev SoundLines : List (ℕ × Account) → List (ℕ × Held) → List (ℕ × Txn) → List (ℕ × Line) → Type 0
SoundLines accounts statements transactions es =
    IsSoundTable (line_rules accounts statements transactions es) 1000000 es

lines-added :
    (accounts : List (ℕ × Account)) (statements : List (ℕ × Held)) (transactions : List (ℕ × Txn)) (from next : ℕ)
    (es added : List (ℕ × Line)) → All (λ (e : ℕ × Line). e.0 < from) es → laws.AreDrawn from next added
    → AreApart (λ before line. has_key (key_of_line line) before ≡ false) es added
    → AllByRecursion (λ (e : ℕ × Line). IsFit accounts e.1) added
    → AllByRecursion (λ (e : ℕ × Line). is_live statements e.1.statement ≡ true) added
    → length es + length added ≤ 1000000 → SoundLines accounts statements transactions es
    → SoundLines accounts statements transactions (es ++ added)
lines-added accounts statements transactions from next es [] below drawn apart fit named few is =
    subst (SoundLines accounts statements transactions) (sym (append-nil es)) is
lines-added accounts statements transactions from next es (put ∷ more) below drawn apart fit named few is =
    let here = drawn_before from put.0 es drawn.0 below in
    let last = with_last put.0 put.1 es here in
    let longer = length-append es (put ∷ []) in
    let size = ap length last in
    let free = none-found (λ (e : ℕ × Line). has_same_key put.1 e.1) es apart.0 in
    let one = lines_put accounts statements transactions put.0 put.1 1000000 es here free fit.0.account named.0
    fit.0.amount fit.0.is_open (omega (arith, longer, size, few)) is in
    subst (SoundLines accounts statements transactions) (append_assoc es (put ∷ []) more)
    (lines-added accounts statements transactions (put.0 + 1) next (es ++ put ∷ []) more
    (below-next put.0 put.1 es here) drawn.1 apart.1 fit.1 named.1 (omega (arith, longer, few))
    (subst (SoundLines accounts statements transactions) last one))

-- ---- the book

-- What an import adds to a book: it draws its numbers from the next one on, it was not there, it fits, and there is
-- room for it.
pub record CanBeAdded (book : Book) (next : ℕ) (added : Additions) : Type 0 where
  pub drawn : HasDrawn next added
  pub new : AreNew book.statements book.lines added
  pub named : AreNamed book.statements added
  pub fit : AreFit book.accounts added
  pub few_lines : length book.lines + length added.lines ≤ 1000000
  pub few_statements : length book.statements + length added.statements ≤ 100000

book-sound :
    (book : Book) (next : ℕ) (added : Additions) → CanBeAdded book next added → IsSoundBook book
    → AreDrawn book next → IsSoundBook (book_with book added)
book-sound book next added can is are =
    let statements = book.statements ++ added.statements in
    record {
      commodities = is.commodities;
      accounts = is.accounts;
      transactions = is.transactions;
      prices = is.prices;
      schedules = is.schedules;
      statements = statements-added book.accounts next added.next book.statements added.statements are.statements
          can.drawn.0 can.new.0 can.fit.statements can.few_statements is.statements;
      lines = lines-added book.accounts statements book.transactions next added.next book.lines added.lines are.lines
          can.drawn.1 can.new.1 can.fit.lines can.named can.few_lines
          (lines_under book.accounts book.statements statements book.transactions 1000000 book.lines
          (stays-front book.statements added.statements) is.lines);
      bindings = is.bindings;
      reconciliations = is.reconciliations;
      few_splits = is.few_splits;
      root = is.root;
      currency = is.currency;
    }

book-drawn :
    (book : Book) (next : ℕ) (added : Additions) → HasDrawn next added → AreDrawn book next
    → AreDrawn (book_with book added) added.next
book-drawn book next added drawn are =
    let later = drawn_later book next added.next (drawn-least next added.next added.statements drawn.0) are in
    record {
      commodities = later.commodities;
      accounts = later.accounts;
      transactions = later.transactions;
      prices = later.prices;
      schedules = later.schedules;
      statements = all-drawn next added.next book.statements added.statements are.statements drawn.0;
      lines = all-drawn next added.next book.lines added.lines are.lines drawn.1;
      bindings = later.bindings;
      reconciliations = later.reconciliations;
      splits = later.splits;
      marked = later.marked;
      made = later.made;
    }

-- ---- the accounts of the statements

live-known :
    {T : Type 0} (found : Option T) (rule : Rule) → broken_where (is_none found) rule ≡ None
    → is_some found ≡ true
live-known None rule none = absurd cc
live-known (Some x) rule none = refl

find-holds :
    {X : Type 0} (P : X → Type 0) (test : X → Bool) (xs : List X) (x : X) → All P xs → find test xs ≡ Some x → P x
find-holds P test [] x all is = absurd cc
find-holds {X} P test (y ∷ ys) x all is =
    go (test y) (All-head P y ys all) (find-holds P test ys x (All-tail P y ys all)) is
  where
    go : (here : Bool) → P y → (find test ys ≡ Some x → P x) → cond here (Some y) (find test ys) ≡ Some x → P x
    go true own rest is = let same : y ≡ x = cc in subst P same own
    go false own rest is = rest is

-- the account of a binding is one of the book's
takes-live : (found : Option Account) → takes_splits found ≡ true → is_some found ≡ true
takes-live None takes = absurd cc
takes-live (Some account) takes = refl

bound-live :
    (book : Book) (text : List ℕ) (account : ℕ) → IsSoundBook book → bound_account book.bindings text ≡ Some account
    → is_live book.accounts account ≡ true
bound-live book text account is found =
    go (find (λ (e : ℕ × Binding). same_text e.1.text text) book.bindings) refl found
  where
    go : (entry : Option (ℕ × Binding))
        → find (λ (e : ℕ × Binding). same_text e.1.text text) book.bindings ≡ entry
        → option_map (λ (e : ℕ × Binding). e.1.account) entry ≡ Some account → is_live book.accounts account ≡ true
    go None there is_account = absurd cc
    go (Some entry) there is_account =
        let same : entry.1.account ≡ account = cc in
        let all = all_of_each (λ (e : ℕ × Binding). is_live book.accounts e.1.account ≡ true) book.bindings
        is.bindings.rise
        (λ k binding stands. takes-live (value_of binding.account book.accounts) (is.bindings.keep.each k binding stands).1.0) in
        subst (λ (n : ℕ). is_live book.accounts n ≡ true) same
        (find-holds (λ (e : ℕ × Binding). is_live book.accounts e.1.account ≡ true)
        (λ (e : ℕ × Binding). same_text e.1.text text) book.bindings entry all there)

-- the account that a statement goes to is one of the book's, where no rule is broken
one-live :
    (book : Book) (format : Format) (given : Option ℕ) (statement : Statement) → IsSoundBook book
    → AllKept (given_rules book format given) → AllKept (rules_of book given statement)
    → is_live book.accounts (bound_to book.bindings given statement).account ≡ true
one-live book format (Some account) statement is asked kept =
    live-known (value_of account book.accounts) _ asked.0
one-live book format None statement is asked kept =
    go (bound_account book.bindings statement.account_text) refl kept
  where
    go : (found : Option ℕ) → bound_account book.bindings statement.account_text ≡ found
        → AllKept (account_rules book statement found)
        → is_live book.accounts (unwrap_or found 0) ≡ true
    go None there kept = absurd (let broken = kept.0 in cc)
    go (Some account) there kept = bound-live book statement.account_text account is there

suit-all :
    (book : Book) (format : Format) (given : Option ℕ) (statements : List Statement) → IsSoundBook book
    → AllKept (given_rules book format given) → AllKept (file_rules book given statements) → AllWithin statements
    → SuitFile book.accounts (map (bound_to book.bindings given) statements)
suit-all book format given [] is asked kept within = tt
suit-all book format given (s ∷ more) is asked kept within =
    let own = kept_front (rules_of book given s) (file_rules book given more) kept in
    let rest = kept_back (rules_of book given s) (file_rules book given more) kept in
    ((one-live book format given s is asked own, within.0), suit-all book format given more is asked rest within.1)

-- ---- the command

import_of-sound :
    (state : State) (rules : List (Option Rule)) (added : Additions) (new : State) (answered : Answer)
    → added.next ≡ state.next + drawn_by added → HasDrawn state.next added
    → AreNew state.book.statements state.book.lines added → AreNamed state.book.statements added
    → (AllKept rules → AreFit state.book.accounts added) → IsSound state
    → import_of state rules added ≡ Done new answered → IsSound new
import_of-sound state rules added new answered counted drawn fresh named fit is e =
    let book = state.book in
    let all = rules ++ room_rules book added in
    either_sound (adds_nothing added) state new all (book_with book added) (drawn_by added) (import_answer added)
    (import_answer added) answered is
    (λ change.
    let room = kept_back rules (room_rules book added) change.kept in
    let few_lines = not-broken _ _ room.0 in
    let few_statements = not-broken _ _ room.1.0 in
    let can : CanBeAdded book state.next added = record {
      drawn = drawn;
      new = fresh;
      named = named;
      fit = fit (kept_front rules (room_rules book added) change.kept);
      few_lines = grind (arith, nat_tests, few_lines);
      few_statements = grind (arith, nat_tests, few_statements);
    } in
    sound_after state all (book_with book added) (drawn_by added) new change
    (book-sound book state.next added can is.book is.drawn)
    (subst (AreDrawn (book_with book added)) counted (book-drawn book state.next added drawn is.drawn)))
    e

said-sound :
    (state : State) (format : Format) (given : Option ℕ) (said : Result (List Statement) StatementFault) (new : State)
    (answered : Answer) → ((statements : List Statement) → said ≡ Ok statements → AllWithin statements)
    → IsSound state → import_said state (given_rules state.book format given) given said ≡ Done new answered
    → IsSound new
said-sound state format given (Err fault) new answered within is e =
    absurd (let none = (unless_done (first_broken (given_rules state.book format given)) (Broken (BadStatement fault)) new answered e).1 in cc)
said-sound state format given (Ok statements) new answered within is e =
    let book = state.book in
    let asked = given_rules book format given in
    let rules = asked ++ file_rules book given statements in
    let file = map (bound_to book.bindings given) statements in
    let added = added_by state given statements in
    import_of-sound state rules added new answered
    (imported-counted book.statements book.lines file state.next)
    (imported-drawn book.statements book.lines file state.next)
    (new-by book.statements book.lines file state.next added refl)
    (named-by book.statements book.lines file state.next added refl)
    (λ kept.
    imported-fits book.accounts book.statements book.lines file state.next
    (suit-all book format given statements is.book
    (kept_front asked (file_rules book given statements) kept)
    (kept_back asked (file_rules book given statements) kept) (within statements refl)))
    is e

pub import_file-sound :
    (state : State) (format : Format) (text : List ℕ) (given : Option ℕ) (new : State) (answered : Answer)
    → IsSound state → import_file state format text given ≡ Done new answered → IsSound new
import_file-sound state format text given new answered is e =
    said-sound state format given (said state.book.commodities text format) new answered
    (λ statements reads. read-within state.book.commodities text format statements reads) is e
