-- What a step leaves of all books of a machine: they stay chained and sound, and from each to the one after it what
-- isn't intact stays so.
use Rattle.std.proofs.Common.{◌≡◌, ℕ, ◌+◌, ◌<◌, ◌≤◌, ◌^◌, false, All, List, [], ◌∷◌, None, inl, inr}
use Rattle.std.proofs.Common.{zero, suc, take, sym, ap, ◌∙◌, subst, arith}
use Rattle.std.proofs.lemmas.Bool.Decides.{nat_tests}
use Rattle.std.proofs.lemmas.List.Elements.{All-cons, All-head, All-nil, All-tail, All-take, All-weaker}
use Rattle.book_commodity.proofs.RuleLemmas.{not-broken}
use Rattle.book_undo.specs.Book.{Book}
use Rattle.book_sound.specs.Soundness.{IsSoundBook}
use Rattle.book_sound.proofs.DrawnFrames.{drawn_later}
use Rattle.book_command.specs.declared.answer.Answer.{Answer}
use Rattle.book_command.specs.declared.command.Command.{Command}
use Rattle.book_command.specs.declared.command.What.{What}
use Rattle.book_command.specs.declared.command.What.TheVariants as ask
use Rattle.book_step.specs.Outcome.{numbers}
use Rattle.book_step.specs.Soundness.{IsSound}
use Rattle.book_step.specs.State.{State}
use Rattle.book_step.proofs.SoundStep.{fresh-sound, outcome-sound}
use Rattle.book_balances.proofs.StepLemmas.{Moves, outcome_moves}
use Rattle.book_chain.specs.Chain.{IsChained, KeepsBroken}
use Rattle.book_chain.proofs.ChainLaws.{chained-sums, fresh-chained, outcome-chained, outcome-stays-broken}
use Rattle.book_engine.specs.Machine.{Done, Machine, changed, fresh, present, step}
use Rattle.book_chain_run.specs.Books.{AreChained, AreSound, IsSoundBelow, AllKeepBroken, KeepBrokenFrom, KeepBrokenTo}
use Rattle.book_chain_run.specs.Books.{AllSumToLast, SumsToLast, is_undo_or_redo}
use Rattle.book_chain_run.proofs.Moves.{Changes, Move, Redoes, Stays, Undoes, gone_back, gone_forth, step-moves}

-- ---- chained

changed-chained :
    (machine : Machine) (state : State) → AreChained machine → IsChained state.book
    → AreChained (changed machine state)
changed-chained machine state all is = record {
  past = All-take IsChained 256 (machine.book ∷ machine.past)
      (All-cons IsChained machine.book machine.past all.book all.past);
  book = is;
  later = All-nil IsChained;
}

back-chained :
    (machine : Machine) (book : Book) (past : List Book) → AreChained machine → machine.past ≡ book ∷ past
    → AreChained (gone_back book past machine)
back-chained machine book past all is =
    let held = subst (λ (books : List Book). All IsChained books) is all.past in
    record {
      past = All-tail IsChained book past held;
      book = All-head IsChained book past held;
      later = All-cons IsChained machine.book machine.later all.book all.later;
    }

forth-chained :
    (machine : Machine) (book : Book) (later : List Book) → AreChained machine → machine.later ≡ book ∷ later
    → AreChained (gone_forth book later machine)
forth-chained machine book later all is =
    let held = subst (λ (books : List Book). All IsChained books) is all.later in
    record {
      past = All-cons IsChained machine.book machine.past all.book all.past;
      book = All-head IsChained book later held;
      later = All-tail IsChained book later held;
    }

move-chained :
    (machine new : Machine) (what : What) → IsSound (present machine) → AreChained machine
    → Move machine new what → AreChained new
move-chained machine new what is all (Stays same) = subst AreChained same all
move-chained machine new what is all (Changes update state given asks done leads) =
    subst AreChained leads
    (changed-chained machine state all (outcome-chained (present machine) update state given is all.book done))
move-chained machine new what is all (Undoes book past asks held few leads) =
    subst AreChained leads (back-chained machine book past all held)
move-chained machine new what is all (Redoes book later asks held few leads) =
    subst AreChained leads (forth-chained machine book later all held)

-- A step that is done leads from a machine whose books are all chained to such a machine.
pub step-chained :
    (machine : Machine) (command : Command) (new : Machine) (given : Answer) → IsSound (present machine)
    → AreChained machine → step machine command ≡ Done new given → AreChained new
step-chained machine command new given is all e =
    move-chained machine new command.what is all (step-moves machine command new given e)

-- The books of the fresh machine are all chained.
pub fresh-all-chained : AreChained fresh
fresh-all-chained = record { past = All-nil IsChained; book = fresh-chained; later = All-nil IsChained }

-- ---- sound

below-later : (next later : ℕ) → next ≤ later → (book : Book) → IsSoundBelow next book → IsSoundBelow later book
below-later next later le book is = record {
  sound = is.sound;
  drawn = drawn_later book next later le is.drawn;
}

changed-sound :
    (machine : Machine) (state : State) → AreSound machine → IsSound state → machine.next ≤ state.next
    → AreSound (changed machine state)
changed-sound machine state all is le =
    let here : IsSoundBelow machine.next machine.book =
    record { sound = all.state.book; drawn = all.state.drawn } in
    record {
      past = All-take (IsSoundBelow state.next) 256 (machine.book ∷ machine.past)
          (All-weaker (IsSoundBelow machine.next) (IsSoundBelow state.next)
          (below-later machine.next state.next le) (machine.book ∷ machine.past)
          (All-cons (IsSoundBelow machine.next) machine.book machine.past here all.past));
      state = is;
      later = All-nil (IsSoundBelow state.next);
    }

version-few : (machine : Machine) → numbers (present machine) 0 ≡ None → machine.version + 1 < 2 ^ 62
version-few machine none = let few = not-broken _ _ none in grind (arith, nat_tests, few)

gone-sound :
    (machine : Machine) (book : Book) → AreSound machine → IsSoundBelow machine.next book
    → numbers (present machine) 0 ≡ None
    → IsSound (record { book = book; next = machine.next; version = machine.version + 1 })
gone-sound machine book all is few = record {
  book = is.sound;
  drawn = is.drawn;
  next = all.state.next;
  version = version-few machine few;
}

back-sound :
    (machine : Machine) (book : Book) (past : List Book) → AreSound machine → machine.past ≡ book ∷ past
    → numbers (present machine) 0 ≡ None → AreSound (gone_back book past machine)
back-sound machine book past all is few =
    let Below = IsSoundBelow machine.next in
    let held = subst (λ (books : List Book). All Below books) is all.past in
    record {
      past = All-tail Below book past held;
      state = gone-sound machine book all (All-head Below book past held) few;
      later = All-cons Below machine.book machine.later
          (record { sound = all.state.book; drawn = all.state.drawn }) all.later;
    }

forth-sound :
    (machine : Machine) (book : Book) (later : List Book) → AreSound machine → machine.later ≡ book ∷ later
    → numbers (present machine) 0 ≡ None → AreSound (gone_forth book later machine)
forth-sound machine book later all is few =
    let Below = IsSoundBelow machine.next in
    let held = subst (λ (books : List Book). All Below books) is all.later in
    record {
      past = All-cons Below machine.book machine.past
          (record { sound = all.state.book; drawn = all.state.drawn }) all.past;
      state = gone-sound machine book all (All-head Below book later held) few;
      later = All-tail Below book later held;
    }

next-later : (old new : State) → Moves old new → old.next ≤ new.next
next-later old new (inl same) = let next = ap (λ (s : State). s.next) same in omega (arith, next)
next-later old new (inr moved) = moved.1

move-sound :
    (machine new : Machine) (what : What) → AreSound machine → Move machine new what → AreSound new
move-sound machine new what all (Stays same) = subst AreSound same all
move-sound machine new what all (Changes update state given asks done leads) =
    subst AreSound leads
    (changed-sound machine state all (outcome-sound (present machine) update state given all.state done)
    (next-later (present machine) state (outcome_moves (present machine) update state given done)))
move-sound machine new what all (Undoes book past asks held few leads) =
    subst AreSound leads (back-sound machine book past all held few)
move-sound machine new what all (Redoes book later asks held few leads) =
    subst AreSound leads (forth-sound machine book later all held few)

-- A step that is done leads from a machine whose books are all sound to such a machine.
pub step-sound :
    (machine : Machine) (command : Command) (new : Machine) (given : Answer) → AreSound machine
    → step machine command ≡ Done new given → AreSound new
step-sound machine command new given all e =
    move-sound machine new command.what all (step-moves machine command new given e)

-- The books of the fresh machine are all sound.
pub fresh-all-sound : AreSound fresh
fresh-all-sound = record {
  past = All-nil (IsSoundBelow 3);
  state = fresh-sound;
  later = All-nil (IsSoundBelow 3);
}

-- ---- what isn't intact stays so

same-broken : (book : Book) → KeepsBroken book book
same-broken book = record { stays = λ n r there. there; broken = λ n r there broken. broken }

move-stays-broken :
    (machine new : Machine) (what : What) → IsSound (present machine) → is_undo_or_redo what ≡ false
    → Move machine new what → KeepsBroken machine.book new.book
move-stays-broken machine new what is forward (Stays same) =
    subst (λ (m : Machine). KeepsBroken machine.book m.book) same (same-broken machine.book)
move-stays-broken machine new what is forward (Changes update state given asks done leads) =
    subst (λ (m : Machine). KeepsBroken machine.book m.book) leads
    (outcome-stays-broken (present machine) update state given is done)
move-stays-broken machine new what is forward (Undoes book past asks held few leads) =
    absurd (let both = sym (ap is_undo_or_redo asks) ∙ forward in cc)
move-stays-broken machine new what is forward (Redoes book later asks held few leads) =
    absurd (let both = sym (ap is_undo_or_redo asks) ∙ forward in cc)

-- After a step that is done, of no undo and no redo, each reconciliation is there as it was; and one that wasn't intact
-- isn't intact.
pub step-stays-broken :
    (machine : Machine) (command : Command) (new : Machine) (given : Answer) → IsSound (present machine)
    → is_undo_or_redo command.what ≡ false → step machine command ≡ Done new given
    → KeepsBroken machine.book new.book
step-stays-broken machine command new given is forward e =
    move-stays-broken machine new command.what is forward (step-moves machine command new given e)

keep-taken : (count : ℕ) (book : Book) (past : List Book) → KeepBrokenTo book past → KeepBrokenTo book (take count past)
keep-taken zero book past all = tt
keep-taken (suc count) book [] all = tt
keep-taken (suc count) book (before ∷ past) all = (all.0, keep-taken count before past all.1)

changed-keeps :
    (machine : Machine) (state : State) → AllKeepBroken machine → KeepsBroken machine.book state.book
    → AllKeepBroken (changed machine state)
changed-keeps machine state all keeps = record {
  past = keep-taken 256 state.book (machine.book ∷ machine.past) (keeps, all.past);
  later = tt;
}

back-keeps :
    (machine : Machine) (book : Book) (past : List Book) → AllKeepBroken machine → machine.past ≡ book ∷ past
    → AllKeepBroken (gone_back book past machine)
back-keeps machine book past all is =
    let held = subst (KeepBrokenTo machine.book) is all.past in
    record { past = held.1; later = (held.0, all.later) }

forth-keeps :
    (machine : Machine) (book : Book) (later : List Book) → AllKeepBroken machine → machine.later ≡ book ∷ later
    → AllKeepBroken (gone_forth book later machine)
forth-keeps machine book later all is =
    let held = subst (KeepBrokenFrom machine.book) is all.later in
    record { past = (held.0, all.past); later = held.1 }

move-keeps :
    (machine new : Machine) (what : What) → IsSound (present machine) → AllKeepBroken machine
    → Move machine new what → AllKeepBroken new
move-keeps machine new what is all (Stays same) = subst AllKeepBroken same all
move-keeps machine new what is all (Changes update state given asks done leads) =
    subst AllKeepBroken leads
    (changed-keeps machine state all (outcome-stays-broken (present machine) update state given is done))
move-keeps machine new what is all (Undoes book past asks held few leads) =
    subst AllKeepBroken leads (back-keeps machine book past all held)
move-keeps machine new what is all (Redoes book later asks held few leads) =
    subst AllKeepBroken leads (forth-keeps machine book later all held)

-- A step that is done leads from a machine of which from each book to the one after it what isn't intact stays so, to
-- such a machine.
pub step-keeps-broken :
    (machine : Machine) (command : Command) (new : Machine) (given : Answer) → IsSound (present machine)
    → AllKeepBroken machine → step machine command ≡ Done new given → AllKeepBroken new
step-keeps-broken machine command new given is all e =
    move-keeps machine new command.what is all (step-moves machine command new given e)

pub fresh-keeps-broken : AllKeepBroken fresh
fresh-keeps-broken = record { past = tt; later = tt }

move-redo-stays :
    (machine new : Machine) (what : What) → AllKeepBroken machine → what ≡ ask.Redo → Move machine new what
    → KeepsBroken machine.book new.book
move-redo-stays machine new what all redo (Stays same) =
    subst (λ (m : Machine). KeepsBroken machine.book m.book) same (same-broken machine.book)
move-redo-stays machine new what all redo (Changes update state given asks done leads) =
    absurd (let both = sym asks ∙ redo in cc)
move-redo-stays machine new what all redo (Undoes book past asks held few leads) =
    absurd (let both = sym asks ∙ redo in cc)
move-redo-stays machine new what all redo (Redoes book later asks held few leads) =
    subst (λ (m : Machine). KeepsBroken machine.book m.book) leads
    (subst (KeepBrokenFrom machine.book) held all.later).0

-- So it does where a redo is done: only an undo makes a broken record intact.
pub redo-stays-broken :
    (machine : Machine) (command : Command) (new : Machine) (given : Answer) → AllKeepBroken machine
    → command.what ≡ ask.Redo → step machine command ≡ Done new given → KeepsBroken machine.book new.book
redo-stays-broken machine command new given all redo e =
    move-redo-stays machine new command.what all redo (step-moves machine command new given e)

-- ---- sums

book-sums : (book : Book) → IsSoundBook book → IsChained book → SumsToLast book
book-sums book is chained = record { each = λ n r last intact. chained-sums book n r is chained last intact }

all-sum :
    (next : ℕ) (books : List Book) → All (IsSoundBelow next) books → All IsChained books → All SumsToLast books
all-sum next [] sound chained = All-nil SumsToLast
all-sum next (book ∷ books) sound chained =
    All-cons SumsToLast book books
    (book-sums book (All-head (IsSoundBelow next) book books sound).sound (All-head IsChained book books chained))
    (all-sum next books (All-tail (IsSoundBelow next) book books sound) (All-tail IsChained book books chained))

-- Where all reconciliations of an account are intact in the present book, the quantities of their lists sum to the last
-- closing balance.
pub present-sums : (machine : Machine) → IsSound (present machine) → AreChained machine → SumsToLast machine.book
present-sums machine is chained = book-sums machine.book is.book chained.book

-- So they do in all books of a machine where these are all sound and chained.
pub all-books-sum : (machine : Machine) → AreSound machine → AreChained machine → AllSumToLast machine
all-books-sum machine sound chained = record {
  past = all-sum machine.next machine.past sound.past chained.past;
  book = present-sums machine sound.state chained;
  later = all-sum machine.next machine.later sound.later chained.later;
}
