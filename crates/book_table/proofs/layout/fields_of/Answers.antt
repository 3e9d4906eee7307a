use Rattle.std.proofs.Common.{◌≡◌, ℕ, List, [], ◌∷◌, ◌++◌, All, Bor, IsUtf8, map, take, get_or, ap, subst, sym, ◌∙◌}
use Rattle.std.proofs.lemmas.List.{map-append, take_all, take_more}
use Rattle.std.proofs.lemmas.List.Elements.{All-append, All-cons, All-nil}
use Rattle.book_table.proofs.layout.fields_of.Goals as goal

-- one text more
pub loop-text-preserved : goal.loop-text-preserved
loop-text-preserved c =
    let bytes : Bor (List ℕ) → List ℕ = λ field. field.now in
    let old = c.loop-text.fields.items in
    let field = c.as_bytes.result in
    let i = c.loop-text.text-index in
    let row = c.args.row.now in
    let held = c.loop-text.invariant in
    let item : List ℕ = c.text-item.result in
    let text : field.now ≡ get_or row i item = c.as_bytes.ensures.value ∙ c.as_str.ensures ∙ c.text-item.is in
    let next = take_more row i item c.loop-text-test.true ∙ ap (λ (t : List ℕ). take i row ++ t ∷ []) (sym text) in
    let all = All-append IsUtf8 (take i row) (field.now ∷ []) held.1
    (All-cons IsUtf8 field.now [] c.as_bytes.ensures.utf8 (All-nil IsUtf8)) in (
      ap (map bytes) c.in_ok-push.ensures.items ∙ map-append bytes old (field ∷ [])
          ∙ ap (λ (l : List (List ℕ)). l ++ field.now ∷ []) held.0 ∙ sym next,
      subst (λ (l : List (List ℕ)). All IsUtf8 l) (sym next) all,
    )

-- all texts
pub returns-clause-utf8 : goal.returns-clause-utf8
returns-clause-utf8 c =
    subst (λ (l : List (List ℕ)). All IsUtf8 l) (take_all c.loop-text.text-index c.args.row.now c.loop-text-test.false)
    c.loop-text.invariant.1
