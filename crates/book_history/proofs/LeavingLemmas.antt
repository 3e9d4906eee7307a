-- A sound book stays sound, and its numbers stay drawn, after a single change that leaves it so.
use Rattle.std.proofs.Common.{◌≡◌, ℕ, true, is_none}
use Rattle.std.proofs.lemmas.Bool.{and_parts}
use Rattle.book_commodity.specs.Table.{value_of}
use Rattle.book_sound.specs.LineRules.{matched_split}
use Rattle.book_sound.specs.Soundness.{AreDrawn, IsSoundBook}
use Rattle.book_sound.proofs.BookChanges.{price_taken, schedule_taken}
use Rattle.book_sound.proofs.DrawnChanges.{price_left_drawn, schedule_left_drawn}
use Rattle.book_undo.specs.Book.{Book}
use Rattle.book_undo.specs.Edit.{edited}
use Rattle.book_undo.specs.declared.edit.Edit.{Edit, Currency, Put, Gone, All'}
use Rattle.book_undo.specs.declared.thing.Thing.{Thing}
use Rattle.book_undo.specs.declared.thing.Thing.TheVariants as thing
use Rattle.book_undo.specs.declared.thing.ThingKind.{ThingKind}
use Rattle.book_undo.specs.declared.thing.ThingKind.TheVariants as kind
use Rattle.book_history.specs.Leaving.{is_harmless, is_same_line, is_unneeded, leaves_sound}
use Rattle.book_history.specs.Placing.{fits_there, may_be, thing_fits}
use Rattle.book_history.proofs.LeftDrawn.{binding_left_drawn, line_left_drawn, reconciliation_left_drawn}
use Rattle.book_history.proofs.LeftDrawn.{statement_left_drawn}
use Rattle.book_history.proofs.LeftSound.{binding_taken, line_taken, reconciliation_taken, statement_taken}
use Rattle.book_history.proofs.MarkedSound.{transaction_gone, transaction_remarked}
use Rattle.book_history.proofs.PlacedSound.{transaction_placed}
use Rattle.book_history.proofs.StateSound.{free_may_be, line_restated}

-- A book is sound, and its numbers are below the next.
abbrev SoundDrawn : ℕ → Book → Type 0
SoundDrawn next book = IsSoundBook book × AreDrawn book next

gone_left :
    (next : ℕ) (book : Book) (k : ThingKind) (n : ℕ) → SoundDrawn next book → is_unneeded k n book ≡ true
    → SoundDrawn next (edited (Gone k n) book)
gone_left next book kind.Txn n is unneeded = transaction_gone book n next unneeded is.0 is.1
gone_left next book kind.Price n is unneeded = (price_taken book n is.0, price_left_drawn book n next is.1)
gone_left next book kind.Schedule n is unneeded = (schedule_taken book n is.0, schedule_left_drawn book n next is.1)
gone_left next book kind.Held n is unneeded =
    (statement_taken book n unneeded is.0, statement_left_drawn book n next is.1)
gone_left next book kind.Line n is unneeded = (line_taken book n is.0, line_left_drawn book n next is.1)
gone_left next book kind.Binding n is unneeded = (binding_taken book n is.0, binding_left_drawn book n next is.1)
gone_left next book kind.Recon n is unneeded =
    (reconciliation_taken book n unneeded is.0, reconciliation_left_drawn book n next is.1)
gone_left next book kind.Commodity n is unneeded = absurd cc
gone_left next book kind.Account n is unneeded = absurd cc

put_left :
    (next : ℕ) (book : Book) (n : ℕ) (t : Thing) → SoundDrawn next book → is_harmless n t book ≡ true
    → SoundDrawn next (edited (Put n t) book)
put_left next book n (thing.Txn x) is harmless = transaction_remarked book n next x harmless is.0 is.1
put_left next book n (thing.Line x) is harmless =
    let parts = and_parts (is_none (matched_split x.state)) (is_same_line x (value_of n book.lines)) harmless in
    line_restated book n next x parts.1 (free_may_be book n x x.state parts.0) is.0 is.1
put_left next book n (thing.Commodity x) is harmless = absurd cc
put_left next book n (thing.Account x) is harmless = absurd cc
put_left next book n (thing.Price x) is harmless = absurd cc
put_left next book n (thing.Schedule x) is harmless = absurd cc
put_left next book n (thing.Held x) is harmless = absurd cc
put_left next book n (thing.Binding x) is harmless = absurd cc
put_left next book n (thing.Recon x) is harmless = absurd cc

pub sound_left :
    (next : ℕ) (book : Book) (edit : Edit) → IsSoundBook book × AreDrawn book next → leaves_sound book edit ≡ true
    → IsSoundBook (edited edit book) × AreDrawn (edited edit book) next
sound_left next book (Currency c) is leaves = absurd cc
sound_left next book (Put n t) is leaves = put_left next book n t is leaves
sound_left next book (Gone k n) is leaves = gone_left next book k n is leaves
sound_left next book (All' shape row) is leaves = absurd cc

-- The same where a thing is put that fits under its number.
thing_placed :
    (next : ℕ) (book : Book) (n : ℕ) (t : Thing) → SoundDrawn next book → thing_fits next book n t ≡ true
    → SoundDrawn next (edited (Put n t) book)
thing_placed next book n (thing.Txn x) is fits = transaction_placed book n next x fits is.0 is.1
thing_placed next book n (thing.Line x) is fits =
    let parts = and_parts (is_same_line x (value_of n book.lines)) (may_be book n x x.state) fits in
    line_restated book n next x parts.0 parts.1 is.0 is.1
thing_placed next book n (thing.Commodity x) is fits = absurd cc
thing_placed next book n (thing.Account x) is fits = absurd cc
thing_placed next book n (thing.Price x) is fits = absurd cc
thing_placed next book n (thing.Schedule x) is fits = absurd cc
thing_placed next book n (thing.Held x) is fits = absurd cc
thing_placed next book n (thing.Binding x) is fits = absurd cc
thing_placed next book n (thing.Recon x) is fits = absurd cc

pub sound_placed :
    (next : ℕ) (book : Book) (edit : Edit) → IsSoundBook book × AreDrawn book next → fits_there next book edit ≡ true
    → IsSoundBook (edited edit book) × AreDrawn (edited edit book) next
sound_placed next book (Currency c) is fits = absurd cc
sound_placed next book (Put n t) is fits = thing_placed next book n t is fits
sound_placed next book (Gone k n) is fits = absurd cc
sound_placed next book (All' shape row) is fits = absurd cc
