-- What a check says where rows are refused.
use Rattle.std.specs.Prelude.{ℕ, List, Option, Some, None}
use Rattle.book_broken.specs.Words.{words_on}
use Rattle.book_verdict.specs.Rows.{unread_row_text, unsound_row_text}
use Rattle.bookshow.specs.declared.ended.Ended.{Ended}
use Rattle.bookshow.specs.declared.ended.Ended.TheVariants as end

-- The text on the row at which a book is damaged; none, where the program ended otherwise.
abbrev pub row_text : Ended → Option (List ℕ)
row_text (end.BadRows kind id) = Some (unread_row_text kind id)
row_text (end.UnsoundBook broken) = Some (unsound_row_text broken.key.kind broken.key.id (words_on broken.rule))
row_text ended = None
