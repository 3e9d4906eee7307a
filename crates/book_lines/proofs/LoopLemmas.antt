-- The parts of the loop one after another.
use Rattle.std.proofs.Common.{◌≡◌, ℕ, ◌+◌, ◌<◌, ◌≤◌, true, List, [], ◌∷◌, ◌++◌, length, refl, sym, ap, ◌∙◌, subst}
use Rattle.std.proofs.Common.{arith, append_assoc, length-append}
use Rattle.book_keeper.proofs.StreamLemmas.{Wrote-nil, Wrote-append}
use Rattle.book_lines.specs.Lines.{ended, left_over, rest_line, sent}
use Rattle.book_lines.specs.Marks.{marks, is_one_line, RoseForEach}
use Rattle.book_lines.specs.Transcript.{AnswerRelation, Run}
use Rattle.book_lines.specs.Room.{Seen, seen}
use Rattle.book_lines.specs.RunClause.{Moment}
use Rattle.book_lines.specs.Loop.{HasAnswered, HasBroken, HasTaken, HasStopped}
use Rattle.book_lines.specs.declared.running.RunEnd.TheVariants.{InputLimit, OutputFault}
use Rattle.book_lines.proofs.LineLemmas.{ended-append, left_over-append, ended-one_line, left_over-one_line}
use Rattle.book_lines.proofs.LineLemmas.{length-rest_line, rest_line-nil, sent-append}
use Rattle.book_lines.proofs.MarkLemmas.{marks-append, last_piece-append, RoseForEach-append}
use Rattle.book_lines.proofs.RunLemmas.{Run-append}

-- no line is answered by nothing
pub HasAnswered-nil : {S : Type 0} (answers : AnswerRelation S) (a : Moment S) → HasAnswered answers a [] a
HasAnswered-nil answers a =
    record {
      text = [];
      wrote = Wrote-nil a.written;
      ends = refl;
      answered = record {
        transcript =
            (refl, refl);
        kept = omega arith;
      };
    }

-- lines that are answered after others
pub HasAnswered-append : {S : Type 0} (answers : AnswerRelation S) (a b c : Moment S) (xs ys : List (List ℕ))
    → HasAnswered answers a xs b → HasAnswered answers b ys c → HasAnswered answers a (xs ++ ys) c
HasAnswered-append answers a b c xs ys p q =
    let split = marks-append p.text q.text p.ends in
    record {
      text = p.text ++ q.text;
      wrote = Wrote-append a.written b.written c.written p.text q.text p.wrote q.wrote;
      ends = last_piece-append p.text q.text p.ends q.ends;
      answered = record {
        transcript =
            subst (λ l. Run answers a.machine l (marks (p.text ++ q.text)) (p.text ++ q.text) c.machine)
            (sym (sent-append xs ys))
            (subst (λ m. Run answers a.machine (sent xs ++ sent ys) m (p.text ++ q.text) c.machine) (sym split)
            (Run-append answers a.machine (sent xs) (marks p.text) p.text b.machine (sent ys)
            (marks q.text) q.text c.machine p.answered.transcript q.answered.transcript));
        kept =
            subst (λ m. RoseForEach a.faults c.faults m) (sym split)
            (RoseForEach-append a.faults b.faults c.faults (marks p.text)
            (marks q.text) p.answered.kept q.answered.kept);
      };
    }

-- lines that are answered after others, the last of them in part
pub HasBroken-append : {S : Type 0} (answers : AnswerRelation S) (a b c : Moment S) (xs ys : List (List ℕ))
    → HasAnswered answers a xs b → HasBroken answers b ys c → HasBroken answers a (xs ++ ys) c
HasBroken-append answers a b c xs ys p q =
    let split = ap (λ m. m ++ q.mark ∷ []) (marks-append p.text q.text p.ends)
    ∙ append_assoc (marks p.text) (marks q.text) (q.mark ∷ []) in
    record {
      text = p.text ++ q.text;
      more = q.more;
      mark = q.mark;
      wrote = Wrote-append a.written b.written c.written p.text q.text p.wrote q.wrote;
      some = q.some;
      run =
          subst (λ l. Run answers a.machine l (marks (p.text ++ q.text) ++ q.mark ∷ [])
          ((p.text ++ q.text) ++ q.more) c.machine) (sym (sent-append xs ys))
          (subst (λ m. Run answers a.machine (sent xs ++ sent ys) m ((p.text ++ q.text) ++ q.more) c.machine)
          (sym split)
          (subst (λ t. Run answers a.machine (sent xs ++ sent ys)
          (marks p.text ++ (marks q.text ++ q.mark ∷ [])) t c.machine) (sym (append_assoc p.text q.text q.more))
          (Run-append answers a.machine (sent xs) (marks p.text) p.text b.machine (sent ys)
          (marks q.text ++ q.mark ∷ []) (q.text ++ q.more) c.machine p.answered.transcript q.run)));
      kept =
          subst (λ m. RoseForEach a.faults c.faults m) (sym split)
          (RoseForEach-append a.faults b.faults c.faults (marks p.text)
          (marks q.text ++ q.mark ∷ []) p.answered.kept q.kept);
    }

-- no bytes taken
pub HasTaken-nil : {S : Type 0} (answers : AnswerRelation S) (begun : List ℕ) (a : Moment S) (room : Seen) (count : ℕ)
    → room ≡ seen begun → count + length (rest_line begun) ≤ 1000000 → HasTaken answers begun [] a a room count count
HasTaken-nil answers begun a room count is few =
    record { answered = HasAnswered-nil answers a; room_is = is; count_is = omega arith; few = few }

-- bytes taken after others
pub HasTaken-append : {S : Type 0} (answers : AnswerRelation S) (begun xs ys : List ℕ) (a b c : Moment S) (r s : Seen)
    (k m n : ℕ)
    → HasTaken answers begun xs a b r k m → HasTaken answers (left_over begun xs) ys b c s m n
    → HasTaken answers begun (xs ++ ys) a c s k n
HasTaken-append answers begun xs ys a b c r s k m n p q =
    record {
      answered =
          subst (λ l. HasAnswered answers a l c) (sym (ended-append begun xs ys))
          (HasAnswered-append answers a b c (ended begun xs) (ended (left_over begun xs) ys) p.answered q.answered);
      room_is = q.room_is ∙ ap seen (sym (left_over-append begun xs ys));
      count_is = omega (
        arith,
        p.count_is,
        q.count_is,
        ap length (ended-append begun xs ys),
        length-append
            (ended begun xs) (ended (left_over begun xs) ys),
      );
      few = subst (λ l. n + length (rest_line l) ≤ 1000000) (sym (left_over-append begun xs ys)) q.few;
    }

-- bytes without a line feed taken
pub HasTaken-segment : {S : Type 0} (answers : AnswerRelation S) (begun xs : List ℕ) (a : Moment S) (room : Seen)
    (count : ℕ)
    → is_one_line xs ≡ true → room ≡ seen (begun ++ xs) → count < 1000000
    → HasTaken answers begun xs a a room count count
HasTaken-segment answers begun xs a room count alone is open' =
    record {
      answered = subst (λ l. HasAnswered answers a l a) (sym (ended-one_line begun xs alone))
          (HasAnswered-nil answers a);
      room_is = is ∙ ap seen (sym (left_over-one_line begun xs alone));
      count_is = omega (arith, ap length (ended-one_line begun xs alone));
      few = omega (arith, length-rest_line (left_over begun xs));
    }

-- a line feed taken
pub HasTaken-line : {S : Type 0} (answers : AnswerRelation S) (begun : List ℕ) (a b : Moment S) (room : Seen)
    (count : ℕ)
    → HasAnswered answers a (begun ∷ []) b → room ≡ seen [] → count < 1000000
    → HasTaken answers begun (10 ∷ []) a b room count (count + 1)
HasTaken-line answers begun a b room count p is open' =
    record { answered = p; room_is = is; count_is = omega arith; few = omega arith }

-- bytes up to a line feed and that line feed, taken after others
pub HasTaken-more : {S : Type 0} (answers : AnswerRelation S) (begun part xs : List ℕ) (a b c : Moment S)
    (r s t : Seen) (k m n : ℕ)
    → HasTaken answers begun part a b r k m → m < 1000000 → is_one_line xs ≡ true
    → ((line : List ℕ) → r ≡ seen line → s ≡ seen (line ++ xs))
    → ((line : List ℕ) → s ≡ seen line → HasTaken answers line (10 ∷ []) b c t m n)
    → HasTaken answers begun (part ++ (xs ++ 10 ∷ [])) a c t k n
HasTaken-more answers begun part xs a b c r s t k m n p open' alone grows ends =
    let line = left_over begun part in
    let is = grows line p.room_is in
    let first = HasTaken-segment answers line xs b s m alone is open' in
    HasTaken-append answers begun part (xs ++ 10 ∷ []) a b c r t k m n p
    (HasTaken-append answers line xs (10 ∷ []) b b c s t m m n first (ends (left_over line xs) first.room_is))

-- a line feed behind bytes without one ends one line
ended-line : (begun xs : List ℕ) → is_one_line xs ≡ true → ended begun (xs ++ 10 ∷ []) ≡ left_over begun xs ∷ []
ended-line begun xs alone = ended-append begun xs (10 ∷ [])
    ∙ ap (λ l. l ++ left_over begun xs ∷ []) (ended-one_line begun xs alone)

-- the output failed at the next line feed
pub HasStopped-output : {S : Type 0} (answers : AnswerRelation S) (begun piece part xs rest : List ℕ)
    (a b c : Moment S) (r s : Seen) (k m : ℕ)
    → piece ≡ (part ++ (xs ++ 10 ∷ [])) ++ rest → HasTaken answers begun part a b r k m → m < 1000000
    → is_one_line xs ≡ true
    → ((line : List ℕ) → r ≡ seen line → s ≡ seen (line ++ xs))
    → ((line : List ℕ) → s ≡ seen line → HasBroken answers b (line ∷ []) c)
    → HasStopped answers begun piece a c k OutputFault
HasStopped-output answers begun piece part xs rest a b c r s k m parts p open' alone grows breaks =
    let line = left_over begun part in
    let is = grows line p.room_is ∙ ap seen (sym (left_over-one_line line xs alone)) in
    let all = ended-append begun part (xs ++ 10 ∷ []) ∙ ap (λ l. ended begun part ++ l) (ended-line line xs alone) in (
      part ++ (xs ++ 10 ∷ []),
      rest,
      parts,
      subst (λ l. HasBroken answers a l c) (sym all)
          (HasBroken-append answers a b c (ended begun part) (left_over line xs ∷ []) p.answered
          (breaks (left_over line xs) is)),
      omega (arith, p.count_is, ap length all, length-append (ended begun part) (left_over line xs ∷ [])),
    )

-- a byte stands behind the last line that may be taken
pub HasStopped-input : {S : Type 0} (answers : AnswerRelation S) (begun piece part rest : List ℕ) (a b : Moment S)
    (r : Seen) (k m : ℕ)
    → piece ≡ part ++ rest → 0 < length rest → HasTaken answers begun part a b r k m → 1000000 ≤ m
    → HasStopped answers begun piece a b k InputLimit
HasStopped-input answers begun piece part rest a b r k m parts some p full = (
  part,
  rest,
  parts,
  some,
  p.answered,
  rest_line-nil (left_over begun part) (omega (arith, p.few)),
  omega
      (arith, p.count_is, p.few),
)
