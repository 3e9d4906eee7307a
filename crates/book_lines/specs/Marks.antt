-- How each answer of a text came about, read from the text itself.
use Rattle.std.specs.Prelude.{◌≡◌, ℕ, ◌+◌, ◌-◌, ◌^◌, ◌≤◌, min, Bool, true, false, List, map, count_by}
use Rattle.std.specs.Prelude.{if◌then◌else◌, codes}
use Rattle.std.specs.Str.{bytes_eq}
pub use Rattle.book_commodity.specs.OneLine.{is_one_line}
use Rattle.book_lines.specs.Lines.{whole_lines}

-- How a line was answered: by the machine, or not, since it was out of memory or what is kept could not be changed.
pub data Mark : Type 0 where
  Answered : Mark
  Memory : Mark
  Keeper : Mark

-- The answer to a line for which the machine was out of memory.
unfoldable pub memory_answer : List ℕ
memory_answer = codes "{\"refused\":\"memory\"}"

-- The answer to a line whose change could not be kept.
unfoldable pub keeper_answer : List ℕ
keeper_answer = codes "{\"refused\":\"keeper\"}"

-- The mark of an answer.
abbrev pub mark_of : List ℕ → Mark
mark_of answer = if bytes_eq answer memory_answer then Memory else
    (if bytes_eq answer keeper_answer then Keeper else Answered)

-- The marks of a text of answers, one for each line feed.
abbrev pub marks : List ℕ → List Mark
marks text = map mark_of (whole_lines text)

-- An answer that the machine may give: one line, and neither of the two texts that say why it gave none.
pub record IsAnswer (answer : List ℕ) : Type 0 where
  pub one_line : is_one_line answer ≡ true
  pub mark : mark_of answer ≡ Answered

-- Whether a mark says that what is kept could not be changed.
abbrev pub is_keeper : Mark → Bool
is_keeper Answered = false
is_keeper Memory = false
is_keeper Keeper = true

-- A count of faults rose at least once for each mark that says so, or stands at its last value.
abbrev pub RoseForEach : ℕ → ℕ → List Mark → Type 0
RoseForEach before now all = min (before + count_by is_keeper all) (2 ^ 64 - 1) ≤ now
