-- What the words of the program ask, as a call gives it.
use Rattle.book_show.specs.Words.{Asking}
use Rattle.book_show.specs.declared.words.Asked.{Asked}

-- What is seen of it.
abbrev pub seen : Asked → Asking
seen asked = record { book = asked.book.now; question = asked.question; form = asked.form }
