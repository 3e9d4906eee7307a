-- The first line of a text, and the spaces at a line's end.
use Rattle.std.proofs.Common.{
  ◌≡◌,
  inl,
  inr,
  get_or,
  Option,
  Some,
  None,
  position,
  encode_utf8,
  encode_utf8_all,
  add-one,
  ℕ,
  zero,
  suc,
  ◌+◌,
  ◌-◌,
  ◌<◌,
  ◌≤◌,
  Bool,
  true,
  false,
  List,
  [],
  ◌∷◌,
  ◌++◌,
  length,
  take,
  drop,
  cond,
  not,
  append_assoc,
  refl,
  sym,
  ap,
  subst,
  ◌∙◌,
  arith,
}
use Rattle.std.specs.Prelude.{◌==◌, if◌then◌else◌, nat_eq}
use lib.Pointwise.{bytes_decides}
use Rattle.std.specs.List.{position_or_len, starts_with}
use Rattle.memchr.specs.Find.{IsFirstByte, is_byte}
use Rattle.std.proofs.lemmas.Bool.{ne_eqb, eqb-true, cases_lt, lt-ltb, le-ltb, cond-true, cond-false}
use Rattle.std.proofs.lemmas.Bool.{false_from_ne_true}
use Rattle.std.proofs.lemmas.List.{take_more, append-nil, drop_all, take-append-drop}
use Rattle.std.proofs.lemmas.List.Sums.{position_or_len_is}
use Rattle.std.proofs.lemmas.List.Quantifiers.{position-Some}
use Rattle.std.proofs.lemmas.Str.{encodes-append, IsUtf8-from_is_utf8, is_utf8-from_IsUtf8}
use Rattle.std.specs.Str.{IsUtf8, is_utf8}
use Rattle.book_statement.specs.Pieces.{after_chars, past_continuations}
use Rattle.book_statement.specs.Texts.{
  behind_line,
  raw_lines,
  onto_first,
  without_spaces,
  is_nothing,
  add_piece,
  joined,
  byte_order_mark,
  without_mark,
  text_of_bytes,
}

abbrev pub is_line_feed : ℕ → Bool
is_line_feed b = b == 10

-- the first line ends at the first line feed
pub raw_lines-at : (text : List ℕ) → position_or_len is_line_feed text < length text
    → raw_lines text ≡ take (position_or_len is_line_feed text) text ∷ raw_lines
    (drop (suc (position_or_len is_line_feed text)) text)
raw_lines-at [] h = absurd (omega arith)
raw_lines-at (b ∷ bs) h =
    let q : ℕ = position_or_len is_line_feed bs in
    let up : 1 + q ≡ suc q = omega arith in
    elim (b == 10) as (λ t. cond (not t) (1 + q) 0 < suc (length bs)
    → (if t then [] ∷ raw_lines bs else onto_first b (raw_lines bs))
    ≡ take (cond (not t) (1 + q) 0) (b ∷ bs) ∷ raw_lines (drop (cond (not t) (1 + q) 0) bs)) [
      | true ↦ λ _. refl
      | false ↦ λ k. subst (λ n. onto_first b (raw_lines bs) ≡ take n (b ∷ bs) ∷ raw_lines (drop n bs)) (sym up)
          (ap (onto_first b) (raw_lines-at bs (omega arith)))
    ] h

-- a text with no line feed is a line
pub raw_lines-alone : (text : List ℕ) → 0 < length text → length text ≤ position_or_len is_line_feed text
    → raw_lines text ≡ text ∷ []
raw_lines-alone [] some all = absurd (omega arith)
raw_lines-alone (b ∷ []) some all =
    elim (b == 10) as (λ t. 1 ≤ cond (not t) (1 + 0) 0 → (if t then [] ∷ [] else (b ∷ []) ∷ []) ≡ (b ∷ []) ∷ [])
    [ true ↦ λ k. absurd (omega arith) | false ↦ λ _. refl ] all
raw_lines-alone (b ∷ c ∷ bs) some all =
    let q : ℕ = position_or_len is_line_feed (c ∷ bs) in
    elim (b == 10) as (λ t. suc (length (c ∷ bs)) ≤ cond (not t) (1 + q) 0
    → (if t then [] ∷ raw_lines (c ∷ bs) else onto_first b (raw_lines (c ∷ bs))) ≡ (b ∷ c ∷ bs) ∷ []) [
      | true ↦ λ k. absurd (omega arith)
      | false ↦ λ k. ap (onto_first b)
          (raw_lines-alone (c ∷ bs) (omega arith) (omega arith))
    ] all

-- spaces at the end fall away
pub without_spaces-space : (line : List ℕ) → without_spaces (line ++ 32 ∷ []) ≡ without_spaces line
without_spaces-space [] = refl
without_spaces-space (b ∷ bs) = rw (without_spaces-space bs) refl

nothing-push : (line : List ℕ) (b : ℕ) → is_nothing (line ++ b ∷ []) ≡ false
nothing-push [] b = refl
nothing-push (a ∷ line) b = ne_eqb (length (a ∷ (line ++ b ∷ []))) 0 (λ e. omega arith)

-- a line that ends by another byte is left as it is
pub without_spaces-other : (line : List ℕ) (b : ℕ) → b == 32 ≡ false → without_spaces (line ++ b ∷ []) ≡ line ++ b ∷ []
without_spaces-other [] b e = rw e refl
without_spaces-other (a ∷ line) b e = rw (without_spaces-other line b e, nothing-push line b) refl

-- a space at the end, by its place
pub space_off : (line : List ℕ) (end : ℕ) → 0 < end → end ≤ length line → get_or line (end - 1) 0 ≡ 32
    → without_spaces (take (end - 1) line) ≡ without_spaces (take end line)
space_off line end some within e =
    let here : end - 1 + 1 ≡ end = omega arith in
    sym (ap (λ n. without_spaces (take n line)) (sym here)
    ∙ ap without_spaces (take_more line (end - 1) 0 (omega arith) ∙ ap (λ b. take (end - 1) line ++ b ∷ []) e)
    ∙ without_spaces-space (take (end - 1) line))

-- a line that ends by no space
pub ends_here : (line : List ℕ) (end : ℕ) → end ≤ length line → (0 < end → get_or line (end - 1) 0 ≡ 32 → ⊥)
    → without_spaces (take end line) ≡ take end line
ends_here line zero within stop = refl
ends_here line (suc n) within stop =
    let here : suc n - 1 ≡ n = omega arith in
    let other : get_or line n 0 == 32 ≡ false = ne_eqb (get_or line n 0) 32
    (λ e. stop (omega arith) (ap (λ k. get_or line k 0) here ∙ e)) in
    let all : take (suc n) line ≡ take n line ++ get_or line n 0 ∷ [] = ap (λ k. take k line) (sym (add-one n))
    ∙ take_more line n 0 (omega arith) in
    ap without_spaces all ∙ without_spaces-other (take n line) (get_or line n 0) other ∙ sym all

-- where the first line of a text ends, and the lines behind it
pub record FirstLine (text : List ℕ) (end : ℕ) : Type 0 where
  pub within : end < length text
  pub feed : get_or text end 0 ≡ 10
  pub rest : drop (end + 1) text ≡ behind_line text
  pub lines : raw_lines text ≡ take end text ∷ raw_lines (drop (end + 1) text)

pub first_line : (text : List ℕ) (end : ℕ) → position is_line_feed text ≡ Some end → FirstLine text end
first_line text end e =
    let found = position-Some is_line_feed text end 0 e in
    let place : position_or_len is_line_feed text ≡ end = position_or_len_is is_line_feed text end 0
    (omega (arith, found.0)) found.2 (λ _. found.1) in
    record {
      within = found.0;
      feed = eqb-true (get_or text end 0) 10 found.1;
      rest = ap (λ n. drop (n + 1) text) (sym place);
      lines =
          raw_lines-at text (omega (arith, found.0, place))
          ∙ ap (λ n. take n text ∷ raw_lines (drop (suc n) text)) place
          ∙ ap (λ n. take end text ∷ raw_lines (drop n text)) (sym (add-one end));
    }

no_feed : (text : List ℕ) → position is_line_feed text ≡ None → length text ≤ position_or_len is_line_feed text
no_feed text e =
    elim (cases_lt (position_or_len is_line_feed text) (length text)) [
      | inl lt ↦ absurd (some_none (sym
          (ap (λ t. cond t (Some (position_or_len is_line_feed text)) None) (lt-ltb _ _ lt)) ∙ e))
      | inr ge ↦ ge
    ]
  where
    some_none : {n : ℕ} → Some n ≡ None → ⊥
    some_none p = absurd cc

pub only_line : (text : List ℕ) → 0 < length text → position is_line_feed text ≡ None → raw_lines text ≡ text ∷ []
only_line text some e = raw_lines-alone text some (no_feed text e)

-- and nothing stands behind it
pub nothing_behind : (text : List ℕ) → position is_line_feed text ≡ None → [] ≡ behind_line text
nothing_behind text e =
    sym (drop_all (position_or_len is_line_feed text + 1) text (omega (arith, no_feed text e)))

-- a search for a line feed finds the place of the first
pub found_feed : (text : List ℕ) (found : Option ℕ) → IsFirstByte (is_byte 10) text found
    → found ≡ position is_line_feed text
found_feed text None none =
    let size = position_or_len is_line_feed text in
    let place = position_or_len_is is_line_feed text (length text) 0 (omega arith)
    (λ k lt. false_from_ne_true (is_line_feed (get_or text k 0)) (none k (omega arith) lt))
    (λ lt. absurd (omega arith)) in
    sym (ap (λ t. cond t (Some size) None) (le-ltb size (length text) (omega (arith, place))))
found_feed text (Some end) (found, feed) =
    let size = position_or_len is_line_feed text in
    let place = position_or_len_is is_line_feed text end 0 (omega (arith, found.high))
    (λ k lt. false_from_ne_true (is_line_feed (get_or text k 0)) (found.before k (omega arith) lt)) (λ _. feed) in
    ap Some (sym place)
    ∙ sym (ap (λ t. cond t (Some size) None) (lt-ltb size (length text) (omega (arith, place, found.high))))

-- a text that begins with a front is that front and what stands behind it
pub begins_with : (text front : List ℕ) → starts_with nat_eq text front ≡ true
    → text ≡ front ++ drop (length front) text
begins_with text front e =
    sym (take-append-drop (length front) text)
    ∙ ap (λ l. l ++ drop (length front) text) (sym ((bytes_decides front (take (length front) text)).0 e))

-- what as_text drops
pub mark_dropped : (text rest : List ℕ) → text ≡ byte_order_mark ++ rest → rest ≡ without_mark text
mark_dropped text rest e = sym (ap without_mark e)

pub no_mark : (text : List ℕ) → ((rest : List ℕ) → text ≡ byte_order_mark ++ rest → ⊥) → text ≡ without_mark text
no_mark text other =
    sym (cond-false (starts_with nat_eq text byte_order_mark) (drop 3 text) text
    (false_from_ne_true (starts_with nat_eq text byte_order_mark)
    (λ e. other (drop 3 text) (begins_with text byte_order_mark e))))

pub text_of_utf8 : (bytes : List ℕ) → IsUtf8 bytes → text_of_bytes bytes ≡ without_mark bytes
unfolding text_of_bytes
text_of_utf8 bytes h = cond-true (is_utf8 bytes) _ _ (is_utf8-from_IsUtf8 bytes h)

pub text_of_others : (bytes : List ℕ) → ¬ (IsUtf8 bytes) → text_of_bytes bytes ≡ encode_utf8_all bytes
unfolding text_of_bytes
text_of_others bytes h = cond-false (is_utf8 bytes) _ _
    (false_from_ne_true (is_utf8 bytes) (λ e. h (IsUtf8-from_is_utf8 bytes e)))

-- joining is associative
pub add_piece-assoc : (a b c : List ℕ) → add_piece (add_piece a b) c ≡ add_piece a (add_piece b c)
add_piece-assoc a b [] = refl
add_piece-assoc a [] (c ∷ cs) = refl
add_piece-assoc [] (b ∷ bs) (c ∷ cs) = refl
add_piece-assoc (a ∷ as') (b ∷ bs) (c ∷ cs) = append_assoc (a ∷ as') (32 ∷ b ∷ bs) (32 ∷ c ∷ cs)

pub joined-push : (pieces : List (List ℕ)) (piece : List ℕ)
    → joined (pieces ++ piece ∷ []) ≡ add_piece (joined pieces) piece
joined-push [] [] = refl
joined-push [] (b ∷ bs) = refl
joined-push (p ∷ pieces) piece =
    ap (add_piece p) (joined-push pieces piece) ∙ sym (add_piece-assoc p (joined pieces) piece)

-- one character passed over
pub after_chars-step : (left : ℕ) (text : List ℕ) → 0 < left → 0 < length text
    → after_chars (left - 1) (past_continuations (drop 1 text)) ≡ after_chars left text
after_chars-step zero text some more = absurd (omega arith)
after_chars-step (suc n) [] some more = absurd (omega arith)
after_chars-step (suc n) (b ∷ bs) some more = ap (λ k. after_chars k (past_continuations bs))
    (let e : suc n - 1 ≡ n = omega arith in e)

-- one byte more, as a character
pub encodes-push : (bytes : List ℕ) (i : ℕ) (before after : List ℕ) → i < length bytes
    → before ≡ encode_utf8_all (take i bytes)
    → after ≡ before ++ encode_utf8 (get_or bytes i 0) → after ≡ encode_utf8_all (take (i + 1) bytes)
encodes-push bytes i before after h b a =
    a ∙ ap (λ l. l ++ encode_utf8 (get_or bytes i 0)) b
    ∙ ap (λ l. encode_utf8_all (take i bytes) ++ l) (sym (append-nil (encode_utf8 (get_or bytes i 0))))
    ∙ sym (ap encode_utf8_all (take_more bytes i 0 h) ∙ encodes-append (take i bytes) (get_or bytes i 0 ∷ []))

-- a list that has an item has a length
pub has_length : (n : ℕ) → false ≡ (n == 0) → 0 < n
has_length zero e = absurd cc
has_length (suc n) e = omega arith
