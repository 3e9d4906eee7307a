-- The splits that an edit gives, and the rules of their numbers.
use Rattle.std.proofs.Common.{◌≡◌, ◌≤◌, ◌<◌, ℕ, ◌+◌, ◌==◌, ◌||◌, List, [], ◌∷◌, ◌++◌, length}
use Rattle.std.proofs.Common.{take, drop, get_or, Option, Some, None, refl, ap, sym, ◌∙◌}
use Rattle.std.proofs.Common.{arith, append_assoc}
use Rattle.std.specs.List.{list_any}
use Rattle.std.proofs.lemmas.List.Folds.{list_any-append}
use Rattle.book_commodity.specs.Rules.{first_broken}
use Rattle.book_commodity.proofs.RuleLemmas.{first-here, first-past}
use Rattle.book_commodity.proofs.ListLemmas.{from-item, take-item}
use Rattle.book_splits.specs.TransactionRules.{is_among}
use Rattle.book_splits.specs.declared.split.Split.{Split}
use Rattle.book_step.specs.Editing.{drawn_by, drawn_for, edited_split, edited_splits, kept_by, number_given}
use Rattle.book_step.specs.Editing.{number_rules, numbers_given, unknown_split}
use Rattle.book_command.specs.declared.command.GivenSplit.{GivenSplit}
use Rattle.book_command.specs.declared.rule.Rule.{Rule}

-- ---- the splits after the edit

-- one split more draws a number behind those drawn before, where it draws one
pub edited_splits-push :
    (splits : List Split) (next : ℕ) (given : List GivenSplit) (split : GivenSplit)
    → edited_splits splits next (given ++ split ∷ []) ≡ edited_splits splits next given
    ++ edited_split (next + drawn_by splits given) split (kept_by splits split) ∷ []
edited_splits-push splits next [] split =
    ap (λ n. edited_split n split (kept_by splits split) ∷ []) (omega arith)
edited_splits-push splits next (x ∷ given) split =
    let drawn : ℕ = drawn_for (kept_by splits x) in
    ap (λ more. edited_split next x (kept_by splits x) ∷ more)
    (edited_splits-push splits (next + drawn) given split
    ∙ ap (λ n. edited_splits splits (next + drawn) given ++ edited_split n split (kept_by splits split) ∷ [])
    (omega arith))

-- and counts among the numbers drawn
pub drawn_by-push :
    (splits : List Split) (given : List GivenSplit) (split : GivenSplit)
    → drawn_by splits (given ++ split ∷ []) ≡ drawn_by splits given + drawn_for (kept_by splits split)
drawn_by-push splits [] split = omega arith
drawn_by-push splits (x ∷ given) split = let more = drawn_by-push splits given split in omega (arith, more)

-- a given split draws at most one number
pub drawn-one : (kept : Option Split) → drawn_for kept ≤ 1
drawn-one None = omega arith
drawn-one (Some split) = omega arith

-- ---- the rules of the numbers given

pub numbers_given-push :
    (given : List GivenSplit) (split : GivenSplit)
    → numbers_given (given ++ split ∷ []) ≡ numbers_given given ++ number_given split.id
numbers_given-push [] split = grind (arith)
numbers_given-push (x ∷ given) split =
    ap (λ more. number_given x.id ++ more) (numbers_given-push given split)
    ∙ sym (append_assoc (number_given x.id) (numbers_given given) (number_given split.id))

-- the rules from a place on are those of the split there and those behind it
pub rules-from :
    (splits : List Split) (given : List GivenSplit) (i : ℕ) (x : GivenSplit)
    → i < length given → x ≡ get_or given i x
    → number_rules splits (numbers_given (take i given)) (drop i given)
    ≡ unknown_split splits (numbers_given (take i given)) x.id
    ∷ number_rules splits (numbers_given (take (i + 1) given)) (drop (i + 1) given)
rules-from splits given i x below is =
    ap (number_rules splits (numbers_given (take i given))) (from-item given i x below is)
    ∙ ap (λ before. unknown_split splits (numbers_given (take i given)) x.id
    ∷ number_rules splits before (drop (i + 1) given))
    (sym (numbers_given-push (take i given) x) ∙ ap numbers_given (take-item given i x below is))

-- the number of the split is the first broken rule
pub number-here :
    (splits : List Split) (given : List GivenSplit) (i : ℕ) (x : GivenSplit) (rule : Rule)
    → i < length given → x ≡ get_or given i x
    → first_broken (unknown_split splits (numbers_given (take i given)) x.id ∷ []) ≡ Some rule
    → first_broken (number_rules splits (numbers_given (take i given)) (drop i given)) ≡ Some rule
number-here splits given i x rule below is broken =
    ap first_broken (rules-from splits given i x below is)
    ∙ first-here (unknown_split splits (numbers_given (take i given)) x.id ∷ [])
    (number_rules splits (numbers_given (take (i + 1) given)) (drop (i + 1) given)) rule broken

pub number-past :
    (splits : List Split) (given : List GivenSplit) (i : ℕ) (x : GivenSplit)
    → i < length given → x ≡ get_or given i x
    → first_broken (unknown_split splits (numbers_given (take i given)) x.id ∷ []) ≡ None
    → first_broken (number_rules splits (numbers_given (take i given)) (drop i given))
    ≡ first_broken (number_rules splits (numbers_given (take (i + 1) given)) (drop (i + 1) given))
number-past splits given i x below is kept =
    ap first_broken (rules-from splits given i x below is)
    ∙ first-past (unknown_split splits (numbers_given (take i given)) x.id ∷ [])
    (number_rules splits (numbers_given (take (i + 1) given)) (drop (i + 1) given)) kept

-- a number is among those given where one of the splits given has it
pub among-given :
    (given : List GivenSplit) (id : ℕ)
    → is_among (numbers_given given) id ≡ list_any (λ split. is_among (number_given split.id) id) given
among-given [] id = refl
among-given (x ∷ given) id =
    list_any-append (λ other. other == id) (number_given x.id) (numbers_given given)
    ∙ ap (λ t. is_among (number_given x.id) id || t) (among-given given id)
