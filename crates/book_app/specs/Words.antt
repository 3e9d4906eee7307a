-- The words that a run of the program is given.
use Rattle.std.specs.Prelude.{◌≡◌, ℕ, nat_le, Bool, false, not, ◌&&◌, ◌==◌, if◌then◌else◌, List, [], ◌∷◌}
use Rattle.std.specs.Prelude.{Option, Some, None, option_map, Result, Ok, Err, codes}
use Rattle.std.specs.Str.{bytes_eq}
use Rattle.book_command.specs.declared.command.Format.{Format}
use Rattle.book_command.specs.declared.command.Format.TheVariants as kind
use Rattle.book_numerals.specs.Numerals.{number_of}
use Rattle.book_app.specs.declared.words.ImportWords.{ImportWords}
use Rattle.book_app.specs.declared.words.ServeWords.{ServeWords}

-- A word names a book where it is not empty and does not begin with a hyphen.
abbrev pub is_book : List ℕ → Bool
is_book [] = false
is_book (byte ∷ more) = not (byte == 45)

-- The format of a bank's file that names its currencies itself.
abbrev pub bank_format : List ℕ → Option Format
bank_format word =
    if bytes_eq word (codes "mt940") then Some kind.Mt940
    else (if bytes_eq word (codes "bai2") then Some kind.Bai2 else None)

-- The format of a QIF file whose amounts are in this currency: the month or the day stands first in its dates.
abbrev pub qif_format : List ℕ → ℕ → Option Format
qif_format word currency =
    if bytes_eq word (codes "qif-md") then Some (kind.QifMonthFirst currency)
    else (if bytes_eq word (codes "qif-dm") then Some (kind.QifDayFirst currency) else None)

-- The format of QIF, or else that of a bank's file, with which the number of the currency has to be 0.
abbrev pub format_among : Option Format → List ℕ → ℕ → Option Format
format_among (Some format) word currency = Some format
format_among None word currency = if currency == 0 then bank_format word else None

-- The format that a word names with the number of a currency. For QIF it may be any number: the import says whether the
-- book has such a currency.
abbrev pub format_of : List ℕ → ℕ → Option Format
format_of word currency = format_among (qif_format word currency) word currency

-- The account of this number; 0 names none, and the bindings then say which accounts are meant.
abbrev pub account_of : ℕ → Option ℕ
account_of number = if number == 0 then None else Some number

-- An import of the format that the word names with these numbers of an account and a currency, if there are such.
abbrev pub import_of : List ℕ → Option ℕ → Option ℕ → Option ImportWords
import_of word None currency = None
import_of word (Some account) None = None
import_of word (Some account) (Some currency) =
    option_map (λ format. record { format = format; account = account_of account }) (format_of word currency)

-- The import that the words name, where they are `import`, the name of a book, a format, and the numerals of an account
-- and of a currency that goes with the format.
abbrev pub named_import : List (List ℕ) → Option ImportWords
named_import (word ∷ book ∷ format ∷ account ∷ currency ∷ []) =
    if bytes_eq word (codes "import") && is_book book then import_of format (number_of account) (number_of currency)
    else None
named_import _ = None

-- The number of a port.
abbrev pub is_port : ℕ → Bool
is_port number = nat_le 1 number && nat_le number 65535

-- How many links may be asked for.
abbrev pub is_link_count : ℕ → Bool
is_link_count number = nat_le 1 number && nat_le number 1000000

-- So many links at this port, if there are such.
abbrev pub serve_of : Option ℕ → Option ℕ → Option ServeWords
serve_of None links = None
serve_of (Some port) None = None
serve_of (Some port) (Some links) =
    if is_port port && is_link_count links then Some (record { port = port; links = links }) else None

-- What the words name that are `serve`, the name of a book, and the numerals of a port and of how many links are
-- served.
abbrev pub named_serve : List (List ℕ) → Option ServeWords
named_serve (word ∷ book ∷ port ∷ links ∷ []) =
    if bytes_eq word (codes "serve") && is_book book then serve_of (number_of port) (number_of links) else None
named_serve _ = None

-- The book that the words name, where they are `run` and the name of a book, or those of an import, or of `serve`.
abbrev pub named_book : List (List ℕ) → Option (List ℕ)
named_book (word ∷ book ∷ []) = if bytes_eq word (codes "run") && is_book book then Some book else None
named_book (word ∷ book ∷ format ∷ account ∷ currency ∷ []) =
    option_map (λ import. book) (named_import (word ∷ book ∷ format ∷ account ∷ currency ∷ []))
named_book (word ∷ book ∷ port ∷ links ∷ []) =
    option_map (λ serve. book) (named_serve (word ∷ book ∷ port ∷ links ∷ []))
named_book _ = None

-- The number that the words name, where they are `sample` and such a numeral.
abbrev pub named_number : List (List ℕ) → Option ℕ
named_number (word ∷ number ∷ []) = if bytes_eq word (codes "sample") then number_of number else None
named_number _ = None

-- The words are not of the program's grammar.
pub record AreNoWords (words : List (List ℕ)) : Type 0 where
  pub no_book : named_book words ≡ None
  pub no_number : named_number words ≡ None

-- What the words ask for: that the lines of the input are answered, that the input is imported, that the links of a
-- port are served, or that the sample of a number is shown.
pub data Work : Type 0 where
  Lines : Work
  Import : ImportWords → Work
  Serve : ServeWords → Work
  Sample : ℕ → Work

-- The work of words that name these, if any.
abbrev pub work_named : Option ImportWords → Option ServeWords → Option ℕ → Work
work_named import serve (Some number) = Sample number
work_named import (Some serve) None = Serve serve
work_named (Some import) None None = Import import
work_named None None None = Lines

-- The work of the words. Those that are not of the grammar ask for lines, of which none is read.
abbrev pub work_of : List (List ℕ) → Work
work_of words = work_named (named_import words) (named_serve words) (named_number words)

-- The work of the words, where they could be read.
abbrev pub given_work : {T E : Type 0} → (T → List (List ℕ)) → Result T E → Work
given_work words (Ok given) = work_of (words given)
given_work words (Err error) = Lines

-- What the words of `serve` name, where words could be read and are these.
abbrev pub given_serve : {T E : Type 0} → (T → List (List ℕ)) → Result T E → Option ServeWords
given_serve words (Ok given) = named_serve (words given)
given_serve words (Err error) = None
