-- The texts of numbers that follow one another, the states of the generator, and the bytes of a day's text.
use Rattle.std.proofs.Common.{◌≡◌, ℕ, suc, ◌+◌, ◌-◌, ◌<◌, ◌≤◌, List, ◌++◌, sym, ap, ◌∙◌, arith, ℤ, add-one}
use Rattle.std.proofs.Common.{append_assoc, append-nil}
use Rattle.std.specs.Str.{IsUtf8}
use Rattle.std.proofs.lemmas.Str.{IsUtf8-from_ascii}
use Rattle.std.proofs.lemmas.Str.Ascii.{IsAscii-from_all}
use Rattle.std.proofs.lemmas.List.Elements.{All-weaker}
use Rattle.book_commodity.specs.Day.{IsDay, IsDayByte, day_text}
use Rattle.book_commodity.proofs.DayTextLemmas.{day_text_bytes}
use Rattle.book_sample.specs.Sample.{draw_lines, draw_of, next_state, post_line, redo_after, state_after, texts_from}
use Rattle.book_sample.specs.Sample.{undo_after}

-- where a text is added that is that of the first number, the texts of the others follow
pub texts_from-step :
    (text : ℕ → List ℕ) (first last : ℕ) (old new all : List ℕ) → first < last → new ≡ old ++ text first
    → old ++ texts_from text first (last - first) ≡ all
    → new ++ texts_from text (first + 1) (last - (first + 1)) ≡ all
texts_from-step text first last old new all within added is =
    let others = texts_from text (first + 1) (last - (first + 1)) in
    let e : last - first ≡ suc (last - (first + 1)) = omega arith in
    ap (λ t. t ++ others) added ∙ append_assoc old (text first) others
    ∙ ap (λ n. old ++ texts_from text first n) (sym e) ∙ is

-- behind the last number there is no text
pub texts_from-end :
    (text : ℕ → List ℕ) (first last : ℕ) (old all : List ℕ) → last ≤ first
    → old ++ texts_from text first (last - first) ≡ all → old ≡ all
texts_from-end text first last old all past is =
    let e : last - first ≡ 0 = omega arith in
    sym (append-nil old) ∙ ap (λ n. old ++ texts_from text first n) (sym e) ∙ is

-- the state after one more step
pub state_after-next :
    (number steps state : ℕ) → state ≡ state_after number steps
    → next_state state ≡ state_after number (steps + 1)
state_after-next number steps state is = rw add-one (ap next_state is)

-- the lines of a draw, from its state
pub draw_lines-is :
    (number place state : ℕ) → state ≡ state_after number (place + 1)
    → post_line (draw_of state) ++ (undo_after place ++ redo_after place) ≡ draw_lines number place
unfolding draw_lines
draw_lines-is number place state is = ap (λ s. post_line (draw_of s) ++ (undo_after place ++ redo_after place)) is

ascii_day_byte : (byte : ℕ) → IsDayByte byte → byte < 128
ascii_day_byte byte h = grind (arith, h)

-- the text of a day is text
pub day_text_utf8 : (day : ℤ) → IsDay day → IsUtf8 (day_text day)
day_text_utf8 day h =
    IsUtf8-from_ascii (day_text day)
    (IsAscii-from_all (day_text day)
    (All-weaker IsDayByte (λ byte. byte < 128) ascii_day_byte (day_text day) (day_text_bytes day h)))
