-- The formats of statement files, as a line gives them.
use Rattle.std.specs.Prelude.{ℕ, List, [], ◌∷◌, codes}
use Rattle.book_json.specs.Members.{Form, Reader, absent, needed, gives, ◌>>=◌}
use Rattle.book_json.specs.Forms.{whole, among}
use Rattle.book_command.specs.declared.command.Format.{Format}
use Rattle.book_command.specs.declared.command.Format.TheVariants as read
use Rattle.book_wire.specs.declared.formats.FormatWord.{FormatWord}
use Rattle.book_wire.specs.declared.formats.FormatWord.TheVariants.{Mt940, Bai2, QifMonthFirst, QifDayFirst}

-- The words for the formats of statement files.
abbrev pub formats : List (List ℕ × FormatWord)
formats =
    (codes "mt940", Mt940)
    ∷ (codes "bai2", Bai2)
    ∷ (codes "qif-md", QifMonthFirst)
    ∷ (codes "qif-dm", QifDayFirst)
    ∷ []

-- The text of such a word.
unfoldable pub format_form : Form FormatWord
format_form = among formats

-- A format whose files name their currency themselves, so that none may be given.
abbrev pub without_currency : Format → Reader Format
without_currency named = do
  none ← absent {X = ℕ} (codes "currency")
  gives named

-- The format that a word stands for; a QIF file names no currency, so it must be given.
abbrev pub format : FormatWord → Reader Format
format Mt940 = without_currency read.Mt940
format Bai2 = without_currency read.Bai2
format QifMonthFirst = do
  currency ← needed whole (codes "currency")
  gives (read.QifMonthFirst currency)
format QifDayFirst = do
  currency ← needed whole (codes "currency")
  gives (read.QifDayFirst currency)
