use Rattle.std.proofs.Common.{ℕ, ℤ, List, refl, inl, inr, subst, sym}
use Rattle.book_keeper.proofs.StreamLemmas.{Wrote-nil}
use Rattle.book_sound.proofs.SoundFacts.{accounts_are_rooted}
use Rattle.book_undo.specs.Book.{book_of}
use Rattle.book_export.specs.Export.{AreByDay, dated, export_text}
use Rattle.book_export.proofs.SoundLemmas.{fractions_in_range, prices_are_sound}
use Rattle.book_export.proofs.journal.export.Goals as goal

pub write_book-requires-clause-rooted : goal.write_book-requires-clause-rooted
write_book-requires-clause-rooted g c = accounts_are_rooted (book_of c.args.book.now) c.requires

pub write_book-requires-clause-fractions : goal.write_book-requires-clause-fractions
write_book-requires-clause-fractions g c = fractions_in_range (book_of c.args.book.now) c.requires

pub write_book-requires-clause-sound : goal.write_book-requires-clause-sound
write_book-requires-clause-sound g c = prices_are_sound (book_of c.args.book.now) c.requires

pub returns-in-Ok-clause-written : goal.returns-in-Ok-clause-written
returns-in-Ok-clause-written g c =
    let book = book_of c.args.book.now in
    let order : List (ℤ × ℕ) = c.as_slice.result.now in
    inl (
      export_text book order,
      record {
        order = order;
        by_day =
            subst (λ (l : List (ℤ × ℕ)). AreByDay (dated book.transactions) l) (sym c.as_slice.ensures.value)
            c.in-Ok.ensures;
        are = refl;
      },
      c.write_book.ensures.written,
    )

pub returns-in-Err-clause-written : goal.returns-in-Err-clause-written
returns-in-Err-clause-written g c = inr (refl, Wrote-nil (g.O.Sink.written c.args.output.now))
