use Rattle.book_texts.proofs.shown.ManyShown.value.Given as goal
use Rattle.serde_json.specs.View.{view}
use Rattle.std.proofs.Common.{◌≡◌, map, take}

abbrev pub invariant-loop-item : goal.invariant-loop-item
invariant-loop-item g l = map view l.values.items ≡ map g.T.Shown.shown (take l.item-index l.item-items)
