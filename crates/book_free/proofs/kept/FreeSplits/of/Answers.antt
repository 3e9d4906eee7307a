-- What is made of a sound book is what is kept of it.
use Rattle.std.proofs.Common.{ℕ, Bool, List, ap, subst, sym, ◌∙◌}
use Rattle.book_splits.specs.Balance.{splits_of}
use Rattle.book_splits.specs.TransactionRules.{are_once, numbers_of}
use Rattle.book_splits.specs.declared.transaction.Txn.{Txn}
use Rattle.book_statement.specs.declared.line.Line.{Line}
use Rattle.book_match.specs.AmountIndex.{AreApart, ordered}
use Rattle.book_undo.specs.Book.{book_of}
use Rattle.book_free.specs.FreeSplits.{free_among, line_of}
use Rattle.book_free.specs.Opening.{AreMatchedOnce}
use Rattle.book_free.specs.Seen.{is_taken}
use Rattle.book_free.proofs.FreeLemmas.{free_apart}
use Rattle.book_free.proofs.OpeningLemmas.{matched_once, taken_are}
use Rattle.book_free.proofs.SplitsOnce.{splits_once}
use Rattle.book_free.proofs.kept.FreeSplits.of.Goals as goal

pub matched_lines-requires : goal.matched_lines-requires
matched_lines-requires c =
    subst AreMatchedOnce (sym c.as_slice.ensures) (matched_once (book_of c.args.plain.now) c.requires)

pub of_all-requires : goal.of_all-requires
of_all-requires c =
    let ts = c.as_slice-2.result.now in
    let once = ap (λ (es : List (ℕ × Txn)). are_once (numbers_of (splits_of es))) c.as_slice-2.ensures.entries
    ∙ splits_once (book_of c.args.plain.now) c.requires in
    record {
      apart = subst AreApart (sym c.in_ok-free.ensures) (free_apart (is_taken c.in_ok-matched.matched.entries) ts once);
    }

pub returns-clause-kept : goal.returns-clause-kept
returns-clause-kept c =
    let book = book_of c.args.plain.now in
    let matched = c.in_ok-matched.matched.entries in
    let lines = λ (number : ℕ).
    c.in_ok-matched.ensures number ∙ ap (λ (ls : List (ℕ × Line)). line_of number ls) c.as_slice.ensures in
    record {
      free = c.in_ok-index.ensures.entries
          ∙ ap ordered (c.in_ok-free.ensures
          ∙ ap (free_among (is_taken matched)) c.as_slice-2.ensures.entries
          ∙ ap (λ (test : ℕ → Bool). free_among test book.transactions) (taken_are book matched lines));
      lines = lines;
    }
