-- What answers say, carried along equations.
use Rattle.std.proofs.Common.{◌≡◌, ℕ, List, [], ◌∷◌, ◌++◌, Result, Ok, Err, OnOk, sym, ap, subst, ◌∙◌}
use Rattle.book_statement.specs.declared.bad.Bad.{Bad}
use Rattle.book_statement.specs.declared.statement_line.StatementLine.{StatementLine}
use Rattle.book_statement.specs.Checks.{Check, Tells}
use Rattle.book_statement.specs.Lists.{on_last}
use Rattle.book_statement.specs.Texts.{add_piece}
use Rattle.mt940_read.specs.LineField.{add_text}
use Rattle.mt940_read.proofs.TotalLemmas.{on_last-push}

pub ok_then : {T E : Type 0} (r : Result T E) (P Q : Type 0) → (P → Q) → OnOk r P → OnOk r Q
ok_then (Ok x) P Q f p = f p
ok_then (Err e) P Q f p = p

pub tells-same : {X : Type 0} (cs : List Check) (v w : X) (r : Result X Bad) → v ≡ w → Tells cs v r → Tells cs w r
tells-same cs v w r e h = subst (λ x. Tells cs x r) e h

-- the last line with a piece of text more
pub text_added : (old popped new : List StatementLine) (given : StatementLine) (text piece : List ℕ)
    → old ≡ popped ++ given ∷ []
    → text ≡ add_piece given.text piece → new ≡ popped ++ (record given { text = text }) ∷ []
    → new ≡ on_last (add_text piece) old
text_added old popped new given text piece o t n =
    n ∙ ap (λ x. popped ++ (record given { text = x }) ∷ []) t
    ∙ sym (on_last-push (add_text piece) popped given) ∙ ap (on_last (add_text piece)) (sym o)

-- a list of which the last item was changed
pub last_changed : {X : Type 0} (change : X → X) (old popped new : List X) (given after : X)
    → old ≡ popped ++ given ∷ []
    → after ≡ change given → new ≡ popped ++ after ∷ [] → new ≡ on_last change old
last_changed change old popped new given after o a n =
    n ∙ ap (λ x. popped ++ x ∷ []) a ∙ sym (on_last-push change popped given) ∙ ap (on_last change) (sym o)
