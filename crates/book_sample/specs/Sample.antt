-- The lines of the sample: accounts, and many posts among them that are drawn from a number.
use Rattle.std.specs.Prelude.{ℕ, zero, suc, ◌+◌, ◌*◌, ◌/◌, ◌%◌, ◌^◌, ◌==◌, nat_lt, if◌then◌else◌, List, [], ◌∷◌, ◌++◌}
use Rattle.std.specs.Prelude.{pos, codes}
use Rattle.std.specs.Fmt.{decimal}
use Rattle.book_commodity.specs.Day.{day_text}
use Rattle.book_sample.specs.declared.draw.Draw.{Draw}

-- The texts of so many numbers, one behind the other, from `first` on.
abbrev pub texts_from : (ℕ → List ℕ) → ℕ → ℕ → List ℕ
texts_from text first zero = []
texts_from text first (suc count) = text first ++ texts_from text (first + 1) count

-- The next state of the generator, which is linear congruential modulo 2^64 (D. E. Knuth's MMIX).
unfoldable pub next_state : ℕ → ℕ
next_state state = (state * 6364136223846793005 + 1442695040888963407) % 2 ^ 64

-- The state after so many steps from a number.
abbrev pub state_after : ℕ → ℕ → ℕ
state_after number zero = number
state_after number (suc steps) = next_state (state_after number steps)

-- The account that a draw debits, from 0 to 7, and the one that it credits, which is another.
abbrev pub debited_by : ℕ → ℕ
debited_by state = state / 2 ^ 33 % 8

abbrev pub credited_by : ℕ → ℕ
credited_by state = (debited_by state + 1 + state / 2 ^ 40 % 7) % 8

-- The draw of a state. The accounts have the numbers 3 to 10; the days begin with 2020-01-01 and fill four years.
unfoldable pub draw_of : ℕ → Draw
draw_of state = record {
  debited = 3 + debited_by state;
  credited = 3 + credited_by state;
  value = 1 + state / 2 ^ 17 % 100000;
  day = pos (18262 + state / 2 ^ 50 % 1461);
}

-- The kind of an account of the sample: the first four are bank accounts, the others expenses.
abbrev pub kind_of : ℕ → List ℕ
kind_of place = if nat_lt place 4 then codes "BANK" else codes "EXPENSE"

-- The line that adds the account of this place.
unfoldable pub account_line : ℕ → List ℕ
account_line place =
    codes "{\"do\":\"account_add\",\"name\":\"A" ++ (decimal place ++ (codes "\",\"kind\":\"" ++ (kind_of place
    ++ (codes "\",\"commodity\":1,\"parent\":2}" ++ 10 ∷ []))))

-- The line that posts a draw in currency 1.
unfoldable pub post_line : Draw → List ℕ
post_line draw =
    codes "{\"do\":\"post\",\"day\":\"" ++ (day_text draw.day ++ (codes "\",\"currency\":1,\"splits\":[{\"account\":"
    ++ (decimal draw.debited ++ (codes ",\"value\":" ++ (decimal draw.value ++ (codes "},{\"account\":"
    ++ (decimal draw.credited ++ (codes ",\"value\":-" ++ (decimal draw.value
    ++ (codes "}]}" ++ 10 ∷ []))))))))))

-- Each tenth post is undone.
abbrev pub undo_after : ℕ → List ℕ
undo_after place = if place % 10 == 9 then codes "{\"do\":\"undo\"}" ++ 10 ∷ [] else []

-- Each second undo is taken back.
abbrev pub redo_after : ℕ → List ℕ
redo_after place = if place % 20 == 19 then codes "{\"do\":\"redo\"}" ++ 10 ∷ [] else []

-- The lines of the draw at a place, counted from 0: its post, and an undo and a redo where their turn is.
unfoldable pub draw_lines : ℕ → ℕ → List ℕ
draw_lines number place =
    post_line (draw_of (state_after number (place + 1))) ++ (undo_after place ++ redo_after place)

-- The eight lines that add the accounts.
unfoldable pub account_lines : List ℕ
account_lines = texts_from account_line 0 8

-- The lines of so many draws.
unfoldable pub lines_of_draws : ℕ → ℕ → List ℕ
lines_of_draws number count = texts_from (draw_lines number) 0 count

-- The two last lines ask for the counts of the book and for its trial balance at the end of the four years.
unfoldable pub closing_lines : List ℕ
closing_lines = codes "{\"do\":\"status\"}" ++ (10 ∷ codes "{\"do\":\"trial\",\"day\":\"2023-12-31\"}" ++ 10 ∷ [])

-- The lines of the sample of a number, with 20,000 draws.
unfoldable pub sample_text : ℕ → List ℕ
sample_text number = account_lines ++ (lines_of_draws number 20000 ++ closing_lines)
