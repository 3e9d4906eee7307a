-- From a run of the lines of a sample to its last two answers.
use Rattle.std.proofs.Common.{◌≡◌, ℕ, true, List, [], ◌∷◌, ◌++◌, map, Option, Some, sym, subst, ◌∙◌}
use Rattle.std.specs.List.{list_all}
use Rattle.book_lines.specs.Lines.{AreAll, lines, sent}
use Rattle.book_lines.specs.Marks.{Mark, Answered, Memory, Keeper, marks}
use Rattle.book_lines.specs.RunClause.{IsRun, at}
use Rattle.book_lines.specs.Transcript.{AnswerRelation, IsTranscript, Run}
use Rattle.book_lines.specs.declared.running.RunEnd.TheVariants as end
use Rattle.book_sample.specs.LastLines.{AreAnswers, is_answered, last_two}
use Rattle.book_lines.proofs.CallerLemmas.{Maps}
use Rattle.book_lines.proofs.RunLemmas.{Run-map}
use Rattle.book_sample.specs.Shown.{AreLastAnswers, IsShown, ShownClause}
use Rattle.book_sample.specs.declared.showing.SampleEnd.{SampleEnd}
use Rattle.book_sample.specs.declared.showing.SampleEnd.TheVariants.{Done, OutOfMemory, OutputFault}

-- a run over bytes and a sink in memory that was empty: the sink holds the transcript of all lines
pub all_written :
    {S : Type 0} (answers : AnswerRelation S) (bytes known : List ℕ) (left : Option (List ℕ)) (first last : S)
    (old new : List ℕ) (before after : ℕ) → known ≡ bytes → old ≡ []
    → IsRun answers (Some known) left (at first (λ t. old ≡ t) before) (at last (λ t. new ≡ t) after) end.Done
    → AreAll bytes × IsTranscript answers first (lines bytes) new last
all_written answers bytes known left first last old new before after same none run =
    let read : run.bytes ≡ bytes = sym run.bytes_are ∙ same in
    let text : new ≡ run.text = run.wrote.each [] none in (
      subst AreAll read run.clause.0,
      subst (λ t. IsTranscript answers first (lines bytes) t last) (sym text)
          (subst (λ b. IsTranscript answers first (lines b) run.text last) read run.clause.2.transcript),
    )

-- where all marks say that the machine answered, it answered each line
answered_each :
    {S : Type 0} (answers : AnswerRelation S) (old : S) (all : List (List ℕ)) (told : List Mark) (text : List ℕ)
    (new : S)
    → list_all is_answered told ≡ true → Run answers old all told text new
    → Run answers old all (map (λ line. Answered) all) text new
answered_each answers old [] [] text new h run = run
answered_each answers old [] (mark ∷ others) text new h run = absurd run
answered_each answers old (line ∷ more) [] text new h run = absurd run
answered_each answers old (line ∷ more) (Answered ∷ others) text new h run = (
  run.0,
  run.1,
  run.2,
  run.3,
  run.4,
  answered_each answers run.1 more others run.2 new h run.5,
)
answered_each answers old (line ∷ more) (Memory ∷ others) text new h run = absurd cc
answered_each answers old (line ∷ more) (Keeper ∷ others) text new h run = absurd cc

-- the last two lines of a transcript in which each line is an answer of the machine
pub last_answers :
    {S : Type 0} (answers : AnswerRelation S) (first last : S) (bytes whole seen text : List ℕ)
    → AreAll bytes × IsTranscript answers first (lines bytes) whole last → seen ≡ whole
    → AreAnswers seen × (text ≡ last_two seen) → AreLastAnswers answers first bytes text
last_answers answers first last bytes whole seen text run same ends = record {
  transcript = seen;
  last = last;
  all = run.0;
  run = answered_each answers first (sent (lines bytes)) (marks seen) seen last ends.0.answered
      (subst (λ t. IsTranscript answers first (lines bytes) t last) (sym same) run.1);
  ends = ends.1;
}

-- For callers: what is shown, said over another type of states.
last_answers-map :
    {S T : Type 0} (A : AnswerRelation S) (B : AnswerRelation T) (f : S → T) → Maps A B f → (first : S)
    (bytes text : List ℕ) → AreLastAnswers A first bytes text → AreLastAnswers B (f first) bytes text
last_answers-map A B f h first bytes text p = record {
  transcript = p.transcript;
  last = f p.last;
  all = p.all;
  run = Run-map A B f h.each first (sent (lines bytes)) (map (λ line. Answered) (sent (lines bytes))) p.transcript
      p.last p.run;
  ends = p.ends;
}

clause-map :
    {S T : Type 0} (A : AnswerRelation S) (B : AnswerRelation T) (f : S → T) → Maps A B f → (first : S)
    (bytes text : List ℕ) (end : SampleEnd) → ShownClause A first bytes text end
    → ShownClause B (f first) bytes text end
clause-map A B f h first bytes text Done p = last_answers-map A B f h first bytes text p
clause-map A B f h first bytes text OutOfMemory p = p
clause-map A B f h first bytes text OutputFault p =
    (p.0, p.1, last_answers-map A B f h first bytes (text ++ p.0) p.2)

pub shown-map :
    {S T : Type 0} (A : AnswerRelation S) (B : AnswerRelation T) (f : S → T) → Maps A B f → (first : S)
    (bytes : List ℕ) (before after : List ℕ → Type 0) (end : SampleEnd) → IsShown A first bytes before after end
    → IsShown B (f first) bytes before after end
shown-map A B f h first bytes before after end p = record {
  text = p.text;
  wrote = p.wrote;
  clause = clause-map A B f h first bytes p.text end p.clause;
}
