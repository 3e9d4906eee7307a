-- What keeps the lines and the statements of a book.
use Rattle.std.proofs.Common.{◌≡◌, ℕ, ◌==◌, Bool, true, false, if◌then◌else◌, List, [], ◌∷◌, map, Option, Some}
use Rattle.std.proofs.Common.{refl, sym, ap, subst, ◌∙◌, arith}
use Rattle.std.proofs.lemmas.Bool.Decides.{nat_tests}
use Rattle.book_commodity.specs.Table.{value_of, with_entry}
use Rattle.book_commodity.proofs.DrawnLemmas.{value_beside, value_here}
use Rattle.book_statement.specs.declared.line.Line.{Line}
use Rattle.book_statement.specs.declared.line_state.LineState.{LineState}
use Rattle.book_sound.specs.Dismissal.{dismissed_if, dismissed_where}
use Rattle.book_undo.specs.Book.{Book, with_thing}
use Rattle.book_undo.specs.declared.thing.Thing.TheVariants as thing
use Rattle.book_import.specs.declared.added.Additions.{Additions}
use Rattle.book_command.specs.declared.answer.Answer.{Answer}
use Rattle.book_command.specs.declared.rule.Rule.{Rule}
use Rattle.book_step.specs.BankLines.{in_state}
use Rattle.book_step.specs.Importing.{book_with}
use Rattle.book_step.specs.Laws.{KeepsLines, KeepsStatements, SaysSame}
use Rattle.book_step.specs.Outcome.{Done, changing, leaving}
use Rattle.book_step.specs.State.{State}
use Rattle.book_step.proofs.SoundImport.{value-front}
use Rattle.book_step.proofs.SoundOutcome.{changing_done, leaving_done}

-- ---- two books

-- The lines of a book and its statements are in another.
pub record Keeps (old new : Book) : Type 0 where
  pub lines : KeepsLines old new
  pub statements : KeepsStatements old new

pub says-same : (line : Line) → SaysSame line line
says-same line = record { account = refl; statement = refl; ordinal = refl; body = refl }

-- a book with the same lines and the same statements
pub untouched : (old new : Book) → old.lines ≡ new.lines → old.statements ≡ new.statements → Keeps old new
untouched old new lines statements = record {
  lines = record {
    each = λ n line there. (line, ap (value_of n) (sym lines) ∙ there, says-same line);
  };
  statements = record { each = λ n held there. ap (value_of n) (sym statements) ∙ there };
}

stands-after :
    (lines : List (ℕ × Line)) (m n : ℕ) (line other : Line) (to : LineState) (same : Bool) → (m == n) ≡ same
    → value_of n lines ≡ Some line → value_of m lines ≡ Some other
    → (later : Line) × (value_of m (with_entry n (in_state line to) lines) ≡ Some later) × SaysSame other later
stands-after lines m n line other to true same there at =
    let is : m ≡ n = grind (arith, nat_tests, same) in
    let both = sym at ∙ ap (λ (k : ℕ). value_of k lines) is ∙ there in
    let one : other ≡ line = cc in (
      in_state line to,
      value_here m n (in_state line to) lines is,
      record {
        account = ap (λ (l : Line). l.account) (sym one);
        statement = ap (λ (l : Line). l.statement) (sym one);
        ordinal = ap (λ (l : Line). l.ordinal) (sym one);
        body = ap (λ (l : Line). l.body) (sym one);
      },
    )
stands-after lines m n line other to false same there at = (
  other,
  value_beside m n (in_state line to) other lines (λ is. absurd (grind (arith, nat_tests, same, is))) at,
  says-same other,
)

-- a book with a line in another state
pub line-in-state :
    (book : Book) (n : ℕ) (line : Line) (to : LineState) → value_of n book.lines ≡ Some line
    → Keeps book (with_thing n (thing.Line (in_state line to)) book)
line-in-state book n line to there = record {
  lines = record {
    each = λ m other at. stands-after book.lines m n line other to (m == n) refl there at;
  };
  statements = record { each = λ m held at. at };
}

-- a book with more of both behind those that it has
pub added-behind :
    (book : Book) (added : Additions) → Keeps book (book_with book added)
added-behind book added = record {
  lines = record {
    each = λ n line there. (line, value-front n line book.lines added.lines there, says-same line);
  };
  statements = record { each = λ n held there. value-front n held book.statements added.statements there };
}

says-dismissed : (test : Bool) (line : Line) → SaysSame line (dismissed_if test line)
says-dismissed true line = record { account = refl; statement = refl; ordinal = refl; body = refl }
says-dismissed false line = says-same line

value-dismissed :
    (test : Line → Bool) (n : ℕ) (line : Line) (lines : List (ℕ × Line)) → value_of n lines ≡ Some line
    → value_of n (dismissed_where test lines) ≡ Some (dismissed_if (test line) line)
value-dismissed test n line [] there = absurd cc
value-dismissed test n line (e ∷ lines) there =
    let Here : Bool → Type 0 = λ b. (if b then Some e.1 else value_of n lines) ≡ Some line
    → (if b then Some (dismissed_if (test e.1) e.1) else value_of n (dismissed_where test lines))
    ≡ Some (dismissed_if (test line) line) in
    elim (n == e.0) as Here [
      | true ↦ λ same.
          let is : e.1 ≡ line = cc in ap (λ (l : Line). Some (dismissed_if (test l) l)) is
      | false ↦ λ rest. value-dismissed test n line lines rest
    ] there

-- a book whose lines are dismissed where they pass a test
pub lines-dismissed :
    (old new : Book) (test : Line → Bool) → new.lines ≡ dismissed_where test old.lines
    → new.statements ≡ old.statements → Keeps old new
lines-dismissed old new test lines statements = record {
  lines = record {
    each = λ n line there. (
      dismissed_if (test line) line,
      ap (value_of n) lines ∙ value-dismissed test n line old.lines there,
      says-dismissed (test line) line,
    );
  };
  statements = record { each = λ n held there. ap (value_of n) statements ∙ there };
}

value-each :
    (later : ℕ → Line → Line) (n : ℕ) (line : Line) (lines : List (ℕ × Line)) → value_of n lines ≡ Some line
    → value_of n (map (λ (e : ℕ × Line). (e.0, later e.0 e.1)) lines) ≡ Some (later n line)
value-each later n line [] there = absurd cc
value-each later n line (e ∷ lines) there =
    let Here : Bool → Type 0 = λ b. (n == e.0) ≡ b → (if b then Some e.1 else value_of n lines) ≡ Some line
    → (if b then Some (later e.0 e.1) else value_of n (map (λ (e : ℕ × Line). (e.0, later e.0 e.1)) lines))
    ≡ Some (later n line) in
    (elim (n == e.0) as Here [
      | true ↦ λ same at.
          let number : e.0 ≡ n = grind (arith, nat_tests, same) in
          let is : e.1 ≡ line = cc in
          ap (λ (m : ℕ). Some (later m e.1)) number ∙ ap (λ (l : Line). Some (later n l)) is
      | false ↦ λ same rest. value-each later n line lines rest
    ]) refl there

-- a book each of whose lines is one that says the same
pub lines-each :
    (old new : Book) (later : ℕ → Line → Line) → ((n : ℕ) (line : Line) → SaysSame line (later n line))
    → new.lines ≡ map (λ (e : ℕ × Line). (e.0, later e.0 e.1)) old.lines → new.statements ≡ old.statements
    → Keeps old new
lines-each old new later says lines statements = record {
  lines = record {
    each = λ n line there.
        (later n line, ap (value_of n) lines ∙ value-each later n line old.lines there, says n line);
  };
  statements = record { each = λ n held there. ap (value_of n) statements ∙ there };
}

-- what holds of one book after another
pub keeps-through : (one two three : Book) → Keeps one two → Keeps two three → Keeps one three
keeps-through one two three first second = record {
  lines = record {
    each = λ n line there.
        let mid = first.lines.each n line there in
        let last = second.lines.each n mid.0 mid.1 in (
          last.0,
          last.1,
          record {
            account = last.2.account ∙ mid.2.account;
            statement = last.2.statement ∙ mid.2.statement;
            ordinal = last.2.ordinal ∙ mid.2.ordinal;
            body = last.2.body ∙ mid.2.body;
          },
        );
  };
  statements = record {
    each = λ n held there. second.statements.each n held (first.statements.each n held there);
  };
}

-- ---- what a command comes to

pub after-change :
    (state : State) (rules : List (Option Rule)) (book : Book) (drawn : ℕ) (given : Answer) (new : State)
    (answered : Answer) → Keeps state.book book → changing state rules book drawn given ≡ Done new answered
    → Keeps state.book new.book
after-change state rules book drawn given new answered keeps e =
    subst (λ (s : State). Keeps state.book s.book) (changing_done state rules book drawn given new answered e).is keeps

pub after-leaving :
    (state : State) (rules : List (Option Rule)) (given : Answer) (new : State) (answered : Answer)
    → leaving state rules given ≡ Done new answered → Keeps state.book new.book
after-leaving state rules given new answered e =
    subst (λ (s : State). Keeps state.book s.book) (leaving_done state rules given new answered e)
    (untouched state.book state.book refl refl)

pub after-either :
    (stay : Bool) (state : State) (rules more : List (Option Rule)) (book : Book) (drawn : ℕ) (left made : Answer)
    (new : State) (answered : Answer) → Keeps state.book book
    → (if stay then leaving state rules left else changing state more book drawn made) ≡ Done new answered
    → Keeps state.book new.book
after-either true state rules more book drawn left made new answered keeps e =
    after-leaving state rules left new answered e
after-either false state rules more book drawn left made new answered keeps e =
    after-change state more book drawn made new answered keeps e
