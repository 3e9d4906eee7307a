use Rattle.std.proofs.Common.{◌≡◌, ℕ, ◌-◌, List, map, take, drop, length, reverse, ap, subst, ◌∙◌, arith}
use Rattle.std.proofs.Common.{length-drop}
use Rattle.std.proofs.lemmas.List.{take_all}
use Rattle.std.specs.Prelude.{IfOk}
use Rattle.std.specs.List.{join_with_byte}
use Rattle.book_accounts.specs.Path.{name_at, way_down}
use Rattle.book_export.specs.Names.{journal_name}
use Rattle.book_export.proofs.path.path_of.Goals as goal

pub returns : goal.returns
returns c =
    let tree = c.args.accounts.now.entries in
    let way = c.deref.result.now in
    let down : take (length way - 1) (drop 1 way) ≡ way_down tree c.args.number =
    take_all (length way - 1) (drop 1 way) (omega (arith, length-drop 1 way))
    ∙ ap (λ (l : List ℕ). drop 1 l)
    (c.deref.ensures.value ∙ c.reverse.ensures.items ∙ ap (λ (l : List ℕ). reverse l) c.in_ok-way.ensures) in
    subst
    (λ (numbers : List ℕ). IfOk c.joined_names.result
    (λ path. path.items ≡ join_with_byte 58 (map (λ n. journal_name (name_at tree n)) numbers)))
    down c.joined_names.ensures
