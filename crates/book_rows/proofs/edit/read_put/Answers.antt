-- The kind, the number and the fields that the bytes spell are those of the thing that is put.
use Rattle.std.proofs.Common.{ℕ, List, ◌++◌, ap, sym, ◌∙◌, subst}
use Rattle.book_undo.specs.Thing.{kind_of}
use Rattle.book_undo.specs.declared.edit.Edit.{Put}
use Rattle.book_undo.specs.declared.thing.Thing.{Thing}
use Rattle.book_undo.specs.declared.thing.ThingKind.{ThingKind}
use Rattle.book_rows.specs.EditBytes.{HasValues}
use Rattle.book_rows.specs.ThingBytes.{thing_bytes}
use Rattle.book_rows.proofs.EditLemmas.{put_at, made_edit}
use Rattle.book_rows.proofs.edit.read_put.Goals as goal

-- A kind and a number, and the bytes behind them.
abbrev Keyed : Type 0
Keyed = (ThingKind × ℕ) × List ℕ

pub returns-in-Err-clause-again : goal.returns-in-Err-clause-again
returns-in-Err-clause-again c edit rest has e =
    let at = put_at c.args.format edit _ rest e in
    let values = subst (HasValues c.args.format) at.is has in
    c.in-Err.ensures.again (kind_of at.thing, at.it) (thing_bytes c.args.format at.thing ++ rest) (tt, values.0) at.spelled

pub returns-in-Err-read_thing-clause-again : goal.returns-in-Err-read_thing-clause-again
returns-in-Err-read_thing-clause-again c edit rest has e =
    let at = put_at c.args.format edit _ rest e in
    let values = subst (HasValues c.args.format) at.is has in
    let behind = thing_bytes c.args.format at.thing ++ rest in
    let same = c.in-Ok.ensures.again (kind_of at.thing, at.it) behind (tt, values.0) at.spelled in
    c.in-Err-read_thing.ensures.again at.thing rest (sym (ap (λ (p : Keyed). p.0.0) same)) values.1
    (ap (λ (p : Keyed). p.1) same)

pub returns-in-Ok-read_thing-clause-again : goal.returns-in-Ok-read_thing-clause-again
returns-in-Ok-read_thing-clause-again c edit rest has e =
    let at = put_at c.args.format edit _ rest e in
    let values = subst (HasValues c.args.format) at.is has in
    let behind = thing_bytes c.args.format at.thing ++ rest in
    let same = c.in-Ok.ensures.again (kind_of at.thing, at.it) behind (tt, values.0) at.spelled in
    let thing = c.in-Ok-read_thing.ensures.again at.thing rest (sym (ap (λ (p : Keyed). p.0.0) same)) values.1
    (ap (λ (p : Keyed). p.1) same) in
    made_edit (λ (p : ℕ × Thing). Put p.0 p.1) (c.in-Ok.found.0.1, c.in-Ok-read_thing.thing) (at.it, at.thing) edit _ _
    at.is
    (ap (λ (n : ℕ). ((n, c.in-Ok-read_thing.thing), c.in-Ok-read_thing.rest.now)) (ap (λ (p : Keyed). p.0.1) same)
    ∙ ap (λ (p : Thing × List ℕ). ((at.it, p.0), p.1)) thing)
