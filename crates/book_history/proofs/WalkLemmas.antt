-- What the tests of a step tell of it, and which step is the last.
use Rattle.std.proofs.Common.{◌≡◌, ℕ, not, Bool, List, [], ◌∷◌, ◌++◌, reverse, Option, Result, Ok, Err, is_some, is_ok}
use Rattle.std.proofs.Common.{sym, ap, ◌∙◌}
use Rattle.std.proofs.lemmas.List.{reverse-append}
use Rattle.book_commodity.specs.Rules.{ReportsFirst}
use Rattle.book_keeper.specs.declared.row.RowKey.{RowKey}
use Rattle.book_check.specs.FirstUnsound.{first_unsound}
use Rattle.book_undo.specs.Book.{Book}
use Rattle.book_undo.specs.EditRules.{edit_rules}
use Rattle.book_undo.specs.declared.edit.Edit.{Edit}
use Rattle.book_undo.specs.declared.rule.EditRule.{EditRule}
use Rattle.book_history.specs.Steps.{is_refused, is_unsound}

-- A book is unsound unless no key is found at which it is.
pub unsound_told :
    (next : ℕ) (book : Book) (found : Option RowKey) (none : Bool) → found ≡ first_unsound book next
    → is_some found ≡ not none → is_unsound next book ≡ not none
unfolding is_unsound
unsound_told next book found none is told = ap is_some (sym is) ∙ told

-- An edit is refused unless its check answers Ok.
pub refused_told :
    {T : Type 0} (book : Book) (edit : Edit) (result : Result T EditRule) (ok : Bool)
    → ReportsFirst (edit_rules book edit) result → ok ≡ is_ok result → is_refused book edit ≡ not ok
unfolding is_refused
refused_told book edit (Ok x) ok reports told = ap is_some reports ∙ ap not (sym told)
refused_told book edit (Err rule) ok reports told = ap is_some reports ∙ ap not (sym told)

-- The last step is the first one, from the last to the first.
pub reversed :
    {X : Type 0} (all nearer : List X) (last : X) → all ≡ nearer ++ last ∷ [] → reverse all ≡ last ∷ reverse nearer
reversed all nearer last e = ap reverse e ∙ reverse-append nearer (last ∷ [])
