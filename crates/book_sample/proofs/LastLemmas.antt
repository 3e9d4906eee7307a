-- A text, its lines before a rest, and the places of the last two of these.
use Rattle.std.proofs.Common.{◌≡◌, ℕ, ◌+◌, ◌-◌, ◌<◌, ◌≤◌, ◌==◌, true, false, ◌&&◌, List, [], ◌∷◌, ◌++◌, length, map}
use Rattle.std.proofs.Common.{take, drop, get_or, refl, sym, ap, subst, ◌∙◌, arith, append_assoc, append-nil, length-append}
use Rattle.std.proofs.Common.{length-drop, take-append-drop}
use Rattle.std.specs.List.{list_all}
use Rattle.std.proofs.Math.Seq.{drop-append_seam}
use Rattle.std.proofs.lemmas.Bool.{eqb-true}
use Rattle.std.proofs.lemmas.Grind.{flat_map-append}
use Rattle.std.proofs.lemmas.List.{drop-append-le, drop_more, nil_from_length, take_all}
use Rattle.memchr.specs.Find.{Passes, is_byte}
use Rattle.book_lines.specs.Lines.{ended, last_piece, left_over, whole_lines}
use Rattle.book_lines.specs.Marks.{is_one_line, mark_of, marks}
use Rattle.book_lines.proofs.LineLemmas.{ended-append, ended-one_line, left_over-append, left_over-one_line}
use Rattle.book_lines.proofs.MarkLemmas.{last_piece-line}
use Rattle.book_sample.specs.LastLines.{AreAnswers, is_answered, last_of, last_two, unlined}

-- a text is its first line, the line feed and what stands behind that
pub cut_parts :
    (text line behind : List ℕ) (end k : ℕ) → line ≡ take end text → behind ≡ drop end text
    → Passes (is_byte 10) text end → end < length text → k ≡ length behind
    → text ≡ (line ++ 10 ∷ []) ++ take (k - 1) (drop 1 behind)
cut_parts text line behind end k line_is behind_is feed within long =
    let rest = drop (end + 1) text in
    let at : drop end text ≡ 10 ∷ rest = drop_more text end 0 within
    ∙ ap (λ b. b ∷ rest) (eqb-true (get_or text end 0) 10 feed) in
    let size : k ≡ length (drop end text) = long ∙ ap length behind_is in
    let few : length rest ≤ k - 1 = omega (arith, size, length-drop end text, length-drop (end + 1) text) in
    let whole : take (k - 1) (drop 1 behind) ≡ rest =
    ap (λ l. take (k - 1) (drop 1 l)) (behind_is ∙ at) ∙ take_all (k - 1) rest few in
    sym (take-append-drop end text) ∙ ap (λ l. take end text ++ l) at ∙ ap (λ l. l ++ 10 ∷ rest) (sym line_is)
    ∙ sym (append_assoc line (10 ∷ []) rest) ∙ ap (λ l. (line ++ 10 ∷ []) ++ l) (sym whole)

whole-line : (line : List ℕ) → is_one_line line ≡ true → whole_lines (line ++ 10 ∷ []) ≡ line ∷ []
whole-line line one =
    ended-append [] line (10 ∷ [])
    ∙ ap (λ l. l ++ ended (left_over [] line) (10 ∷ [])) (ended-one_line [] line one)
    ∙ ap (λ r. r ∷ []) (left_over-one_line [] line one)

whole-first :
    (text line behind : List ℕ) → is_one_line line ≡ true → text ≡ (line ++ 10 ∷ []) ++ behind
    → whole_lines text ≡ line ∷ whole_lines behind
whole-first text line behind one is =
    ap whole_lines is ∙ ended-append [] (line ++ 10 ∷ []) behind
    ∙ ap (λ r. ended [] (line ++ 10 ∷ []) ++ ended r behind) (last_piece-line line)
    ∙ ap (λ l. l ++ whole_lines behind) (whole-line line one)

piece-first :
    (text line behind : List ℕ) → text ≡ (line ++ 10 ∷ []) ++ behind → last_piece text ≡ last_piece behind
piece-first text line behind is =
    ap last_piece is ∙ left_over-append [] (line ++ 10 ∷ []) behind
    ∙ ap (λ r. left_over r behind) (last_piece-line line)

last_of-none : (lines : List (List ℕ)) → last_of 0 lines ≡ []
last_of-none lines =
    let e : length lines - 0 ≡ length lines = omega arith in
    ap (λ n. drop n lines) e ∙ ap (λ l. drop (length lines) l) (sym (append-nil lines)) ∙ drop-append_seam lines []

last_of-more :
    (count : ℕ) (lines : List (List ℕ)) (line : List ℕ)
    → last_of (count + 1) (lines ++ line ∷ []) ≡ last_of count lines ++ line ∷ []
last_of-more count lines line =
    let e : length (lines ++ line ∷ []) - (count + 1) ≡ length lines - count =
    omega (arith, length-append lines (line ∷ [])) in
    ap (λ n. drop n (lines ++ line ∷ [])) e ∙ drop-append-le (length lines - count) lines (line ∷ []) (omega arith)

unlined-more :
    (lines : List (List ℕ)) (text line behind : List ℕ) → text ≡ (line ++ 10 ∷ []) ++ behind
    → unlined lines ++ text ≡ unlined (lines ++ line ∷ []) ++ behind
unlined-more lines text line behind is =
    ap (λ t. unlined lines ++ t) is ∙ sym (append_assoc (unlined lines) (line ++ 10 ∷ []) behind)
    ∙ ap (λ t. t ++ behind) (ap (λ t. unlined lines ++ t) (sym (append-nil (line ++ 10 ∷ [])))
    ∙ sym (flat_map-append (λ l. l ++ 10 ∷ []) lines (line ∷ [])))

-- Of a text the lines before the rest were read, and the machine gave them; from `line` on stands the last of them,
-- from `line_before` on the last two.
pub record HasRead (text rest line line_before : List ℕ) : Type 0 where
  pub done : List (List ℕ)
  pub lines : whole_lines text ≡ done ++ whole_lines rest
  pub line_is : line ≡ unlined (last_of 1 done) ++ rest
  pub before_is : line_before ≡ unlined (last_of 2 done) ++ rest
  pub piece : last_piece rest ≡ last_piece text
  pub answered : list_all is_answered (marks rest) ≡ list_all is_answered (marks text)

pub nothing_read : (text : List ℕ) → HasRead text text text text
nothing_read text = record {
  done = [];
  lines = refl;
  line_is = refl;
  before_is = refl;
  piece = refl;
  answered = refl;
}

answered-first :
    (text line behind : List ℕ) → is_one_line line ≡ true → text ≡ (line ++ 10 ∷ []) ++ behind
    → list_all is_answered (marks text) ≡ is_answered (mark_of line) && list_all is_answered (marks behind)
answered-first text line behind one is =
    ap (λ ls. list_all is_answered (map mark_of ls)) (whole-first text line behind one is)

-- one more line, which is an answer
pub line_read :
    (text rest line line_before first behind : List ℕ) → HasRead text rest line line_before
    → is_one_line first ≡ true → rest ≡ (first ++ 10 ∷ []) ++ behind → is_answered (mark_of first) ≡ true
    → HasRead text behind rest line
line_read text rest line line_before first behind h one is answer = record {
  done = h.done ++ first ∷ [];
  lines = h.lines ∙ ap (λ l. h.done ++ l) (whole-first rest first behind one is)
      ∙ sym (append_assoc h.done (first ∷ []) (whole_lines behind));
  line_is = unlined-more [] rest first behind is
      ∙ ap (λ l. unlined l ++ behind)
      (sym (last_of-more 0 h.done first ∙ ap (λ l. l ++ first ∷ []) (last_of-none h.done)));
  before_is = h.line_is ∙ unlined-more (last_of 1 h.done) rest first behind is
      ∙ ap (λ l. unlined l ++ behind) (sym (last_of-more 1 h.done first));
  piece = sym (piece-first rest first behind is) ∙ h.piece;
  answered = ap (λ b. b && list_all is_answered (marks behind)) (sym answer)
      ∙ sym (answered-first rest first behind one is) ∙ h.answered;
}

-- a line that is no answer
pub line_refused :
    (text rest line line_before first behind : List ℕ) → HasRead text rest line line_before
    → is_one_line first ≡ true → rest ≡ (first ++ 10 ∷ []) ++ behind → is_answered (mark_of first) ≡ false
    → AreAnswers text → ⊥
line_refused text rest line line_before first behind h one is answer all =
    let no_answer : false ≡ true = ap (λ b. b && list_all is_answered (marks behind)) (sym answer)
    ∙ sym (answered-first rest first behind one is) ∙ h.answered ∙ all.answered in
    cc

no_rest :
    (text line line_before : List ℕ) → HasRead text [] line line_before
    → AreAnswers text × (line_before ≡ last_two text)
unfolding last_two
no_rest text line line_before h = (
  record { whole = sym h.piece; answered = sym h.answered },
  h.before_is ∙ append-nil (unlined (last_of 2 h.done))
      ∙ ap (λ l. unlined (last_of 2 l)) (sym (h.lines ∙ append-nil h.done)),
)

-- all lines were read
pub all_read :
    (text rest line line_before : List ℕ) → HasRead text rest line line_before → rest ≡ []
    → AreAnswers text × (line_before ≡ last_two text)
all_read text rest line line_before h none =
    no_rest text line line_before (subst (λ r. HasRead text r line line_before) none h)

-- a rest that no line feed ends
pub piece_left :
    (text rest line line_before : List ℕ) → HasRead text rest line line_before → is_one_line rest ≡ true
    → (rest ≡ [] → ⊥) → AreAnswers text → ⊥
piece_left text rest line line_before h one some all =
    some (sym (left_over-one_line [] rest one) ∙ h.piece ∙ all.whole)

-- what stands behind a first line is shorter
pub shorter_behind :
    (text line behind : List ℕ) → text ≡ (line ++ 10 ∷ []) ++ behind → length behind < length text
shorter_behind text line behind is =
    omega (arith, ap length is, length-append (line ++ 10 ∷ []) behind, length-append line (10 ∷ []))

-- the test for emptiness
pub empty_is : (text : List ℕ) → true ≡ (length text == 0) → text ≡ []
empty_is text is = nil_from_length text (eqb-true (length text) 0 (sym is))

pub some_is : (text : List ℕ) → false ≡ (length text == 0) → text ≡ [] → ⊥
some_is text is none = let e : false ≡ true = is ∙ ap (λ t. length t == 0) none in cc
