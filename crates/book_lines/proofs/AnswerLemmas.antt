-- One line answered, and its answer written.
use Rattle.std.proofs.Common.{◌≡◌, ℕ, ◌<◌, ◌≤◌, true, false, not, cond, List, [], ◌∷◌, ◌++◌, length, take, drop}
use Rattle.std.proofs.Common.{Result, Ok, Err, refl, sym, ap, ◌∙◌, subst, arith, length-append}
use Rattle.std.proofs.Common.{take-append-drop}
use Rattle.std.specs.Prelude.{IfOk}
use Rattle.std.proofs.lemmas.List.{take_at, take-append-le}
use Rattle.book_keeper.specs.Faults.{Rose}
use Rattle.book_keeper.specs.Stream.{Wrote, WrotePart}
use Rattle.book_lines.specs.Lines.{is_blank, sent}
use Rattle.book_lines.specs.Marks.{Mark, Answered, Memory, Keeper, memory_answer, keeper_answer, mark_of, marks}
use Rattle.book_lines.specs.Marks.{is_one_line, IsAnswer, RoseForEach}
use Rattle.book_lines.specs.Transcript.{AnswerRelation, Run}
use Rattle.book_lines.specs.RunClause.{Moment, at}
use Rattle.book_lines.specs.Loop.{answer_of, GaveAnswer, HasAnswered, HasBroken}
use Rattle.book_lines.specs.declared.machine.Unanswered.{Unanswered}
use Rattle.book_lines.specs.declared.machine.Unanswered.TheVariants.{Memory as NoMemory, Keeper as NotKept}
use Rattle.book_lines.proofs.LineLemmas.{is_one_line-front}
use Rattle.book_lines.proofs.MarkLemmas.{marks-line, marks-part, last_piece-line, mark_of-memory, mark_of-keeper}
use Rattle.book_lines.proofs.MarkLemmas.{memory-one_line, keeper-one_line}

-- an answer that the machine gave
pub gave-answer : {S : Type 0} (answers : AnswerRelation S) (old : S) (line text : List ℕ) (new : S) (f g : ℕ)
    → IsAnswer text → answers old line Answered text new → f ≤ g → GaveAnswer answers old line text new f g
gave-answer answers old line text new f g is h later =
    record {
      answered = subst (λ m. answers old line m text new) (sym is.mark) h;
      one_line = is.one_line;
      kept = let P : Mark → Type 0 = λ m. RoseForEach f g (m ∷ []) in subst P (sym is.mark) (omega arith);
    }

-- the answer in its place where the machine was out of memory
pub gave-memory : {S : Type 0} (answers : AnswerRelation S) (old : S) (line : List ℕ) (new : S) (f g : ℕ)
    → answers old line Memory memory_answer new → f ≤ g → GaveAnswer answers old line memory_answer new f g
gave-memory answers old line new f g h later =
    record {
      answered = subst (λ m. answers old line m memory_answer new) (sym mark_of-memory) h;
      one_line = memory-one_line;
      kept = let P : Mark → Type 0 = λ m. RoseForEach f g (m ∷ []) in subst P (sym mark_of-memory) (omega arith);
    }

-- the answer in its place where what is kept could not be changed
gave-keeper : {S : Type 0} (answers : AnswerRelation S) (old : S) (line : List ℕ) (new : S) (f g : ℕ)
    → answers old line Keeper keeper_answer new → Rose f g → GaveAnswer answers old line keeper_answer new f g
gave-keeper answers old line new f g h rose =
    record {
      answered = subst (λ m. answers old line m keeper_answer new) (sym mark_of-keeper) h;
      one_line = keeper-one_line;
      kept = let P : Mark → Type 0 = λ m. RoseForEach f g (m ∷ []) in subst P (sym mark_of-keeper) (omega arith);
    }

-- what the machine answered, whatever it was
pub gave : {S : Type 0} (answers : AnswerRelation S) (old : S) (line : List ℕ) (result : Result (List ℕ) Unanswered)
    (new : S) (f g : ℕ)
    → IfOk result (λ text. IsAnswer text × answers old line Answered text new)
    → (result ≡ Err NoMemory → answers old line Memory memory_answer new)
    → (result ≡ Err NotKept → answers old line Keeper keeper_answer new × Rose f g)
    → f ≤ g → GaveAnswer answers old line (answer_of result) new f g
gave answers old line (Ok text) new f g answered memory keeper later = gave-answer answers old line text new f g
    answered.0 answered.1 later
gave answers old line (Err NoMemory) new f g answered memory keeper later = gave-memory answers old line new f g
    (memory refl) later
gave answers old line (Err NotKept) new f g answered memory keeper later = gave-keeper answers old line new f g
    (keeper refl).0 (keeper refl).1

-- a line that is not blank is sent
sent-line : (line : List ℕ) → is_blank line ≡ false → sent (line ∷ []) ≡ line ∷ []
sent-line line h = ap (λ b. cond (not b) (line ∷ []) []) h

-- a blank line has no answer
pub HasAnswered-blank : {S : Type 0} (answers : AnswerRelation S) (a : Moment S) (line : List ℕ)
    → is_blank line ≡ true → HasAnswered answers a [] a → HasAnswered answers a (line ∷ []) a
HasAnswered-blank answers a line h p =
    let none : sent (line ∷ []) ≡ [] = ap (λ b. cond (not b) (line ∷ []) []) h in
    record {
      text = p.text;
      wrote = p.wrote;
      ends = p.ends;
      answered = record {
        transcript = subst (λ l. Run answers a.machine l (marks p.text) p.text a.machine)
            (sym none) p.answered.transcript;
        kept = p.answered.kept;
      };
    }

-- a line whose answer was written
pub HasAnswered-line : {S : Type 0} (answers : AnswerRelation S) (old : S) (line answer : List ℕ) (new : S) (f g : ℕ)
    (w v : List ℕ → Type 0)
    → GaveAnswer answers old line answer new f g → is_blank line ≡ false → Wrote w v (answer ++ 10 ∷ [])
    → HasAnswered answers (at old w f) (line ∷ []) (at new v g)
HasAnswered-line answers old line answer new f g w v p h wrote =
    let text = answer ++ 10 ∷ [] in
    let one = marks-line answer p.one_line in
    record {
      text = text;
      wrote = wrote;
      ends = last_piece-line answer;
      answered = record {
        transcript =
            subst (λ l. Run answers old l (marks text) text new) (sym (sent-line line h))
            (subst (λ m. Run answers old (line ∷ []) m text new) (sym one)
            (answer, new, [], p.answered, refl, (refl, refl)));
        kept = subst (λ m. RoseForEach f g m) (sym one) p.kept;
      };
    }

-- a part of an answer and its line feed that is not all of it is one line
part_alone : (answer part rest : List ℕ) → answer ++ 10 ∷ [] ≡ part ++ rest → 0 < length rest
    → is_one_line answer ≡ true → is_one_line part ≡ true
part_alone answer part rest e some alone =
    let n = length part in
    let short : n ≤ length answer = omega
    (arith, ap length e, length-append answer (10 ∷ []), length-append part rest) in
    let is : take n answer ≡ part = sym (take-append-le n answer (10 ∷ []) short) ∙ ap (λ l. take n l) e
    ∙ take_at part rest n refl in
    subst (λ l. is_one_line l ≡ true) is
    (is_one_line-front (take n answer) (drop n answer)
    (subst (λ l. is_one_line l ≡ true) (sym (take-append-drop n answer)) alone))

-- a line whose answer was written in part
pub HasBroken-line : {S : Type 0} (answers : AnswerRelation S) (old : S) (line answer : List ℕ) (new : S) (f g : ℕ)
    (w v : List ℕ → Type 0)
    → GaveAnswer answers old line answer new f g → is_blank line ≡ false → WrotePart w v (answer ++ 10 ∷ [])
    → HasBroken answers (at old w f) (line ∷ []) (at new v g)
HasBroken-line answers old line answer new f g w v p h cut =
    let none = ap (λ m. m ++ mark_of answer ∷ [])
    (marks-part cut.part (part_alone answer cut.part cut.rest cut.parts cut.short p.one_line)) in
    record {
      text = cut.part;
      more = cut.rest;
      mark = mark_of answer;
      wrote = cut.wrote;
      some = cut.short;
      run =
          subst (λ l. Run answers old l (marks cut.part ++ mark_of answer ∷ []) (cut.part ++ cut.rest) new)
          (sym (sent-line line h))
          (subst (λ m. Run answers old (line ∷ []) m (cut.part ++ cut.rest) new) (sym none)
          (answer, new, [], p.answered, sym cut.parts, (refl, refl)));
      kept = subst (λ m. RoseForEach f g m) (sym none) p.kept;
    }
