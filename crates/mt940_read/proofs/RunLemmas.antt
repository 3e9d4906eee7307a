-- A reader goes through the lines of a text: what it keeps is what the definition says of the lines read.
use Rattle.std.proofs.Common.{
  ◌≡◌,
  ℕ,
  ◌+◌,
  ◌<◌,
  ◌≤◌,
  List,
  [],
  ◌∷◌,
  length,
  Some,
  None,
  Err,
  false,
  refl,
  sym,
  ap,
  subst,
  ◌∙◌,
  arith,
}
use Rattle.book_commodity.specs.declared.commodity.Commodity.{Commodity}
use Rattle.book_statement.specs.declared.fault.StatementFault.{StatementFault}
use Rattle.book_statement.specs.declared.read_error.ReadError.{ReadError}
use Rattle.book_statement.specs.declared.read_error.ReadError.TheVariants.{Fault, OutOfMemory}
use Rattle.book_statement.specs.Checks.{Gives, first_bad, fault_at}
use Rattle.book_statement.specs.Texts.{lines_of}
use Rattle.mt940_read.specs.declared.reader.Reader.{Reader}
use Rattle.mt940_read.specs.Kinds.{kind_of}
use Rattle.mt940_read.specs.Reading.{reading}
use Rattle.mt940_read.specs.Steps.{Steps, finished, line_checks_of, line_of_fault, next}
use Rattle.mt940_read.specs.Tree.{messages_of, part_after}
use Rattle.mt940_read.specs.Values.{values}
use Rattle.mt940_read.proofs.KeptReading.{result_of, result_same}
use Rattle.mt940_read.proofs.TookLemmas.{Knows, kept_ok, kept_bad, finished_is}
use Rattle.mt940_read.proofs.TreeLemmas.{Begun, Between, fill, add, fill-add}

-- a reader that has read the lines before the rest
pub record SoFar (known : List (ℕ × Commodity)) (text : List ℕ) (k : Reader) (count : ℕ) (rest : List ℕ) : Type 0 where
  pub tree : Begun
  pub knows : Knows known k tree
  pub whole : messages_of (lines_of text) ≡ fill tree (part_after count (lines_of rest))
  pub few : count + length rest ≤ length text

pub first : (known : List (ℕ × Commodity)) (text : List ℕ) (k : Reader)
    → k ≡ record { done = []; page = None; message = values known []; text_goes_on = false }
    → SoFar known text k 0 text
first known text k e = record {
  tree = Between [];
  knows = record {
    done_is = ap (λ (r : Reader). r.done) e;
    page_is = ap (λ (r : Reader). r.page) e;
    message_is = ap (λ (r : Reader). r.message) e;
    goes_is = ap (λ (r : Reader). r.text_goes_on) e;
    sound = refl;
  };
  whole = refl;
  few = omega arith;
}

-- the tree with a line more
moved : (known : List (ℕ × Commodity)) (text : List ℕ) (k : Reader) (count : ℕ) (rest line behind : List ℕ)
    (s : SoFar known text k count rest)
    → lines_of rest ≡ line ∷ lines_of behind
    → messages_of (lines_of text) ≡ fill (add count line (kind_of line) s.tree)
    (part_after (count + 1) (lines_of behind))
moved known text k count rest line behind s split =
    s.whole ∙ ap (λ ls. fill s.tree (part_after count ls)) split
    ∙ fill-add count line (kind_of line) s.tree (part_after (count + 1) (lines_of behind))

pub step : (known : List (ℕ × Commodity)) (text : List ℕ) (k new : Reader) (count : ℕ) (rest line behind : List ℕ)
    → SoFar known text k count rest
    → lines_of rest ≡ line ∷ lines_of behind → length behind < length rest
    → (first_bad (line_checks_of known (kind_of line) line k) ≡ None) × (new ≡ next known (kind_of line) line k)
    → SoFar known text new (count + 1) behind
step known text k new count rest line behind s split shorter took = record {
  tree = add count line (kind_of line) s.tree;
  knows = subst (λ r. Knows known r (add count line (kind_of line) s.tree)) (sym took.1)
      (kept_ok known count line (kind_of line) k s.tree s.knows took.0);
  whole = moved known text k count rest line behind s split;
  few = omega (arith, s.few);
}

pub fault : (known : List (ℕ × Commodity)) (text : List ℕ) (k : Reader) (count : ℕ) (rest line behind : List ℕ)
    (bad : StatementFault) → SoFar known text k count rest
    → lines_of rest ≡ line ∷ lines_of behind
    → fault_at (line_of_fault (kind_of line) count) (first_bad (line_checks_of known (kind_of line) line k)) None ≡
    Some bad
    → reading known text ≡ Err bad
unfolding reading
fault known text k count rest line behind bad s split e =
    result_same known (messages_of (lines_of text))
    ∙ ap (result_of known) (moved known text k count rest line behind s split)
    ∙ kept_bad known count line (kind_of line) k s.tree bad s.knows e (part_after (count + 1) (lines_of behind))

pub end : (known : List (ℕ × Commodity)) (text : List ℕ) (k : Reader) (count : ℕ) (rest : List ℕ)
    → SoFar known text k count rest → rest ≡ []
    → reading known text ≡ finished known count k
unfolding reading
end known text k count rest s e =
    result_same known (messages_of (lines_of text))
    ∙ ap (result_of known) (s.whole ∙ ap (λ r. fill s.tree (part_after count (lines_of r))) e)
    ∙ finished_is known count k s.tree s.knows

pub fault_gives : (known : List (ℕ × Commodity)) (text : List ℕ) (k new : Reader) (count : ℕ)
    (rest line behind : List ℕ) (e : ReadError) → SoFar known text k count rest
    → lines_of rest ≡ line ∷ lines_of behind
    → Steps {X = Unit {0}} (line_of_fault (kind_of line) count) (line_checks_of known (kind_of line) line k)
    (next known (kind_of line) line k) (Err e) new
    → Gives (reading known text) (Err e)
fault_gives known text k new count rest line behind OutOfMemory s split h = tt
fault_gives known text k new count rest line behind (Fault f) s split h = fault known text k count rest line behind f
    s split h
