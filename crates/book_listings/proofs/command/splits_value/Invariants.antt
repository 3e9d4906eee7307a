use Rattle.std.proofs.Common.{◌≡◌, map, take}
use Rattle.serde_json.specs.View.{view}
use Rattle.book_listings.specs.Command.{split_data}
use Rattle.book_listings.proofs.command.splits_value.Given as goal

-- the splits so far
abbrev pub invariant-loop-split : goal.invariant-loop-split
invariant-loop-split l = map view l.values.items ≡ map split_data (take l.split-index l.splits)
