-- The words of the program: a book, what is asked of it, and `--csv` behind a question that a table answers.
use Rattle.std.specs.Prelude.{ℕ, ◌^◌, nat_lt, Bool, false, not, ◌&&◌, ◌==◌, if◌then◌else◌, List, [], ◌∷◌, length}
use Rattle.std.specs.Prelude.{Option, Some, None, option_map, option_and_then, codes, slice_get, take, ◌-◌, ℤ}
use Rattle.std.specs.Char.{is_ascii_digit}
use Rattle.std.specs.List.{list_all}
use Rattle.std.specs.Option.{option_map_or}
use Rattle.std.specs.Str.{bytes_eq}
use Rattle.std.specs.Str.Parse.{digits_value}
use Rattle.book_json.specs.Forms.{day_named}
use Rattle.book_reports.specs.declared.form.Form.{Form}
use Rattle.book_reports.specs.declared.form.Form.TheVariants.{Csv, Plain}
use Rattle.book_listings.specs.declared.days.Days.{Days}
use Rattle.book_show.specs.declared.question.Question.{Question}
use Rattle.book_show.specs.declared.question.Question.TheVariants.{Account, Accounts, Check, Command, Commodities}
use Rattle.book_show.specs.declared.question.Question.TheVariants.{Export, Find, Journal, Prices}
use Rattle.book_show.specs.declared.question.Question.TheVariants.{Schedules}

-- A word names a book where it is not empty and does not begin with a hyphen.
abbrev pub is_book : List ℕ → Bool
is_book [] = false
is_book (byte ∷ more) = not (byte == 45)

-- A word has decimal digits alone, at least one.
abbrev pub has_digits : List ℕ → Bool
has_digits word = not (length word == 0) && list_all is_ascii_digit word

-- The number that a word of decimal digits spells, where it is below 2^62, as those of all things of a book are.
abbrev pub number_of : List ℕ → Option ℕ
number_of word =
    if has_digits word && nat_lt (digits_value 10 word) (2 ^ 62) then Some (digits_value 10 word) else None

-- The days from one to another, where both words are days.
abbrev pub days_from : Option ℤ → Option ℤ → Option Days
days_from (Some from) (Some to) = Some (record { from = from; to = to })
days_from _ _ = None

-- The question of a word alone.
abbrev pub alone : List ℕ → Option Question
alone word =
    if bytes_eq word (codes "accounts") then Some Accounts
    else if bytes_eq word (codes "commodities") then Some Commodities
    else if bytes_eq word (codes "prices") then Some Prices
    else if bytes_eq word (codes "schedules") then Some Schedules
    else if bytes_eq word (codes "journal") then Some (Journal None)
    else if bytes_eq word (codes "export") then Some Export
    else if bytes_eq word (codes "check") then Some Check
    else None

-- The question of a word with one more.
abbrev pub with_one : List ℕ → List ℕ → Option Question
with_one word one =
    if bytes_eq word (codes "command") then option_map Command (number_of one)
    else if bytes_eq word (codes "account") then option_map Account (number_of one)
    else if bytes_eq word (codes "find") then Some (Find one)
    else None

-- The question of a word with two more.
abbrev pub with_two : List ℕ → List ℕ → List ℕ → Option Question
with_two word from to =
    if bytes_eq word (codes "journal")
    then option_map (λ days. Journal (Some days)) (days_from (day_named from) (day_named to)) else None

-- The question of words.
abbrev pub question_of : List (List ℕ) → Option Question
question_of (word ∷ []) = alone word
question_of (word ∷ one ∷ []) = with_one word one
question_of (word ∷ one ∷ two ∷ []) = with_two word one two
question_of _ = None

-- Whether a question is answered in a form: a command line, the exported book and what a check finds are no tables.
abbrev pub in_form : Form → Question → Option Question
in_form Csv (Command number) = None
in_form Csv Export = None
in_form Csv Check = None
in_form form question = Some question

-- What is asked: a question on a book, answered in a form.
pub record Asking : Type 0 where
  pub book : List ℕ
  pub question : Question
  pub form : Form

-- The form that the last word asks for.
abbrev pub form_of : List (List ℕ) → Form
form_of words =
    option_map_or (λ last. if bytes_eq last (codes "--csv") then Csv else Plain)
    (slice_get words (length words - 1)) Plain

-- The words but for the one that asks for a form.
abbrev pub without_form : Form → List (List ℕ) → List (List ℕ)
without_form Csv words = take (length words - 1) words
without_form Plain words = words

-- What a book and the words behind it ask.
abbrev pub asks : Form → List (List ℕ) → Option Asking
asks form [] = None
asks form (book ∷ words) =
    if is_book book
    then option_map (λ question. record { book = book; question = question; form = form })
    (option_and_then (in_form form) (question_of words))
    else None

-- What the words of the program ask, if anything.
abbrev pub asked_of : List (List ℕ) → Option Asking
asked_of words = asks (form_of words) (without_form (form_of words) words)
