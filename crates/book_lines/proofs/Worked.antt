-- Worked rows of the definitions.
use Rattle.std.proofs.Common.{◌≡◌, ℕ, ◌+◌, List, [], ◌∷◌, refl, arith}
use Rattle.std.specs.Prelude.{codes}
use Rattle.book_lines.specs.Lines.{whole_lines, all_lines, lines_within, sent}
use Rattle.book_lines.specs.Marks.{Mark, Answered, Memory, Keeper, memory_answer, keeper_answer, marks}
use Rattle.book_lines.specs.Transcript.{IsTranscript, IsCutShort}

-- an empty line is a line, and so is a rest
three : all_lines (codes "ab\n\nc") ≡ codes "ab" ∷ [] ∷ codes "c" ∷ []
three = refl

-- nothing behind the last line feed is no line
two : all_lines (codes "ab\n\n") ≡ codes "ab" ∷ [] ∷ []
two = refl

-- no bytes have no line
none : all_lines [] ≡ []
none = refl

-- a rest is left where the input fails
rest : whole_lines (codes "ab\nc") ≡ codes "ab" ∷ []
rest = refl

-- at most two lines
count : lines_within 2 100 (codes "a\nb\nc\n") ≡ codes "a" ∷ codes "b" ∷ []
unfolding lines_within
count = refl

-- at most four bytes: the line that is begun in them is no line
room : lines_within 100 4 (codes "a\nbc\nd") ≡ codes "a" ∷ []
unfolding lines_within
room = refl

-- four bytes are all of the input: the rest is a line
all : lines_within 100 4 (codes "a\nbc") ≡ codes "a" ∷ codes "bc" ∷ []
unfolding lines_within
all = refl

-- spaces, tabs and carriage returns are blank
blank : sent (all_lines (codes "a\n \t\r\n\n b")) ≡ codes "a" ∷ codes " b" ∷ []
blank = refl

-- the marks of a text
three_marks : marks (codes "{\"ok\":1}\n{\"refused\":\"memory\"}\n{\"refused\":\"keeper\"}\n")
    ≡ Answered ∷ Memory ∷ Keeper ∷ []
unfolding memory_answer keeper_answer
three_marks = refl

-- A machine that counts the lines that it answers, each by itself.
Counts : ℕ → List ℕ → Mark → List ℕ → ℕ → Type 0
Counts old line mark answer new = (answer ≡ line) × (new ≡ old + 1)

-- two lines of three are answered, since one is blank
counted : IsTranscript Counts 0 (all_lines (codes "x\n\ny")) (codes "x\ny\n") 2
unfolding Counts memory_answer keeper_answer
counted = (codes "x", 1, codes "y\n", (refl, refl), refl, (codes "y", 2, [], (refl, refl), refl, (refl, refl)))

-- the second answer is cut short behind its first byte
cut : IsCutShort Counts 0 (all_lines (codes "x\nyz\nw")) (codes "x\ny") Answered 2
unfolding Counts memory_answer keeper_answer
cut = record {
  more = codes "z\n";
  some = omega arith;
  run =
      (codes "x", 1, codes "yz\n", (refl, refl), refl, (codes "yz", 2, [], (refl, refl), refl, (refl, refl)));
}
