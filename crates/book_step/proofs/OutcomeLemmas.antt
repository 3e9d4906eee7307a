-- What a step comes to, from what a check of its rules reports.
use Rattle.std.proofs.Common.{◌≡◌, ℕ, Bool, true, false, if◌then◌else◌, List, [], ◌∷◌, Option, Some, None}
use Rattle.std.proofs.Common.{◌++◌, ◌∙◌, Result, Ok, Err, refl, sym, ap, subst}
use Rattle.std.specs.Result.{IsErrAnd}
use Rattle.book_commodity.specs.Rules.{ReportsFirst, broken_where, first_broken}
use Rattle.book_commodity.proofs.RuleLemmas.{first-here, first-past}
use Rattle.book_undo.specs.Book.{Book}
use Rattle.book_undo.specs.declared.edit.Edit.{Edit, All}
use Rattle.book_undo.proofs.ExactLaws.{exact_nothing}
use Rattle.book_sound.specs.Soundness.{IsSoundBook}
use Rattle.book_sound.proofs.SoundFacts.{tables_rise}
use Rattle.book_step.specs.AnswerBalances.{without_balances}
use Rattle.book_step.specs.Outcome.{Outcome, Broken, Done, StepsTo, changing, leaving, numbers}
use Rattle.book_step.specs.Outcome.{changed, unless_broken}
use Rattle.book_step.specs.State.{State}
use Rattle.book_command.specs.declared.answer.Answer.{Answer}
use Rattle.book_command.specs.declared.refusal.Refusal.{Refusal}
use Rattle.book_command.specs.declared.refusal.Refusal.TheVariants as refusal
use Rattle.book_command.specs.declared.rule.Rule.{Rule}
use Rattle.book_step.specs.declared.step.Step.{Step}

-- a rule that is converted into an error is what the outcome says
pub refused :
    (state : State) (outcome : Outcome) (rule : Rule) (result : Result Step Refusal)
    → IsErrAnd result (λ error. error ≡ refusal.Broken rule)
    → outcome ≡ Broken rule
    → StepsTo state outcome result
refused state outcome rule (Ok step) h e = absurd h
refused state outcome rule (Err error) h e = subst (λ (error : Refusal). StepsTo state outcome (Err error)) (sym h) e

-- a rule that is broken among the first is the first that is broken
pub reported :
    {T : Type 0} (rules more : List (Option Rule)) (rule : Rule) (result : Result T Rule)
    → IsErrAnd result (λ error. error ≡ rule) → first_broken rules ≡ Some rule → ReportsFirst (rules ++ more) result
reported rules more rule (Ok x) h e = absurd h
reported rules more rule (Err error) h e = first-here rules more rule e ∙ ap (λ (r : Rule). Some r) (sym h)

-- the only rule is kept where none is broken
pub only_kept : (broken : Bool) (rule : Rule) → first_broken (broken_where broken rule ∷ []) ≡ None → broken ≡ false
only_kept true rule e = absurd cc
only_kept false rule e = refl

-- a command that leaves the book is a step that changes nothing
pub step-leaving :
    (state : State) (edit : Edit) (whole answer : Answer) → edit ≡ All [] → without_balances whole ≡ answer
    → IsSoundBook state.book
    → StepsTo state (leaving state [] whole) (Ok (record { edit = edit; next = state.next; answer = answer }))
unfolding Rattle.book_undo.specs.declared.edit.Edit.TheBlock.hidden-the_row-Edit-0 denote.Hole.Carrier.hidden
step-leaving state edit whole answer nothing same is =
    let made : Edit → Step = λ e. record { edit = e; next = state.next; answer = answer } in
    subst (λ (e : Edit). StepsTo state (leaving state [] whole) (Ok (made e))) (sym nothing)
    (record {
      leads = ap (λ (a : Answer). Done state a) same;
      exact = exact_nothing state.book (tables_rise state.book is);
    })

-- a broken rule is what a change comes to
pub broken-changing :
    (state : State) (rules : List (Option Rule)) (book : Book) (drawn : ℕ) (answer : Answer) (rule : Rule)
    → first_broken rules ≡ Some rule
    → changing state rules book drawn answer ≡ Broken rule
broken-changing state rules book drawn answer rule e =
    ap (λ (broken : Option Rule). unless_broken broken (Done (changed state book drawn) answer))
    (first-here rules (numbers state drawn ∷ []) rule e)

-- a change whose rules aren't broken comes to what it would without them
pub past-changing :
    (state : State) (rules : List (Option Rule)) (book : Book) (drawn : ℕ) (answer : Answer)
    (result : Result Step Refusal)
    → first_broken rules ≡ None
    → StepsTo state (changing state [] book drawn answer) result
    → StepsTo state (changing state rules book drawn answer) result
past-changing state rules book drawn answer result e h =
    let same : changing state rules book drawn answer ≡ changing state [] book drawn answer =
    ap (λ (broken : Option Rule). unless_broken broken (Done (changed state book drawn) answer))
    (first-past rules (numbers state drawn ∷ []) e) in
    subst (λ (outcome : Outcome). StepsTo state outcome result) (sym same) h

-- the same of a change under the next number
pub past-drawing :
    (state : State) (number : ℕ) (rules : List (Option Rule)) (book : ℕ → Book) (drawn : ℕ) (answer : ℕ → Answer)
    (result : Result Step Refusal)
    → number ≡ state.next
    → first_broken rules ≡ None
    → StepsTo state (changing state [] (book number) drawn (answer number)) result
    → StepsTo state (changing state rules (book state.next) drawn (answer state.next)) result
past-drawing state number rules book drawn answer result next e h =
    past-changing state rules (book state.next) drawn (answer state.next) result e
    (subst (λ (n : ℕ). StepsTo state (changing state [] (book n) drawn (answer n)) result) next h)

-- the same of a command that leaves the book
pub broken-leaving :
    (state : State) (rules : List (Option Rule)) (answer : Answer) (rule : Rule)
    → first_broken rules ≡ Some rule
    → leaving state rules answer ≡ Broken rule
broken-leaving state rules answer rule e = ap (λ (broken : Option Rule). unless_broken broken (Done state answer)) e

pub past-leaving :
    (state : State) (rules : List (Option Rule)) (answer : Answer) (result : Result Step Refusal)
    → first_broken rules ≡ None
    → StepsTo state (leaving state [] answer) result
    → StepsTo state (leaving state rules answer) result
past-leaving state rules answer result e h =
    let same : leaving state rules answer
    ≡ leaving state [] answer = ap (λ (broken : Option Rule). unless_broken broken (Done state answer)) e in
    subst (λ (outcome : Outcome). StepsTo state outcome result) (sym same) h

-- a command that leaves the book or changes it comes to the rule that is broken, whichever it does
pub either-broken :
    (state : State) (stays : Bool) (rules : List (Option Rule)) (book : Book) (drawn : ℕ) (left changed : Answer)
    (rule : Rule)
    → first_broken rules ≡ Some rule
    → (if stays then leaving state rules left else changing state rules book drawn changed) ≡ Broken rule
either-broken state true rules book drawn left made rule e = broken-leaving state rules left rule e
either-broken state false rules book drawn left made rule e = broken-changing state rules book drawn made rule e

-- where no rule is broken it leaves the book
pub either-left :
    (state : State) (stays : Bool) (rules : List (Option Rule)) (book : Book) (drawn : ℕ) (left changed : Answer)
    (result : Result Step Refusal)
    → first_broken rules ≡ None
    → stays ≡ true
    → StepsTo state (leaving state [] left) result
    → StepsTo state (if stays then leaving state rules left else changing state rules book drawn changed) result
either-left state true rules book drawn left made result e same h = past-leaving state rules left result e h
either-left state false rules book drawn left made result e same h = absurd cc

-- or changes it
pub either-changed :
    (state : State) (stays : Bool) (rules : List (Option Rule)) (book : Book) (drawn : ℕ) (left changed : Answer)
    (result : Result Step Refusal)
    → first_broken rules ≡ None
    → stays ≡ false
    → StepsTo state (changing state [] book drawn changed) result
    → StepsTo state (if stays then leaving state rules left else changing state rules book drawn changed) result
either-changed state true rules book drawn left made result e other h = absurd cc
either-changed state false rules book drawn left made result e other h =
    past-changing state rules book drawn made result e h
