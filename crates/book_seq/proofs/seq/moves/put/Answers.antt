use Rattle.std.proofs.Common.{◌-◌, length, ap, ◌∙◌, arith}
use Rattle.std.proofs.lemmas.List.Edits.{length-insert}
use Rattle.book_seq.proofs.ListLemmas.{half_sizes, put_lower, put_upper}
use Rattle.book_seq.proofs.seq.moves.put.Goals as goal

pub insert-requires-then-offset-le256-clause-place : goal.insert-requires-then-offset-le256-clause-place
insert-requires-then-offset-le256-clause-place g c =
    let sizes = half_sizes c.args.chunk.now.entries c.split.new.self.entries c.split.new.other.entries 256 256
    c.split.ensures.lower c.split.ensures.upper c.requires.full in
    omega (arith, sizes.0, sizes.1)

pub insert-requires-then-offset-le256-clause-few : goal.insert-requires-then-offset-le256-clause-few
insert-requires-then-offset-le256-clause-few g c =
    let sizes = half_sizes c.args.chunk.now.entries c.split.new.self.entries c.split.new.other.entries 256 256
    c.split.ensures.lower c.split.ensures.upper c.requires.full in
    omega (arith, sizes.0, sizes.1)

pub insert-requires-then-offset-le256-clause-room : goal.insert-requires-then-offset-le256-clause-room
insert-requires-then-offset-le256-clause-room g c =
    let sizes = half_sizes c.args.chunk.now.entries c.split.new.self.entries c.split.new.other.entries 256 256
    c.split.ensures.lower c.split.ensures.upper c.requires.full in
    omega (arith, sizes.0, sizes.1, c.split.ensures.room, c.split.ensures.other_room)

pub returns-then-offset-le256-clause-both : goal.returns-then-offset-le256-clause-both
returns-then-offset-le256-clause-both g c =
    let sizes = half_sizes c.args.chunk.now.entries c.split.new.self.entries c.split.new.other.entries 256 256
    c.split.ensures.lower c.split.ensures.upper c.requires.full in
    put_lower c.args.chunk.now.entries c.split.new.self.entries c.split.new.other.entries
    c.insert-then-offset-le256.new.self.entries 256 c.args.offset c.args.entry c.split.ensures.lower
    c.split.ensures.upper (omega (arith, sizes.0)) c.insert-then-offset-le256.ensures.entries

pub returns-then-offset-le256-clause-least : goal.returns-then-offset-le256-clause-least
returns-then-offset-le256-clause-least g c =
    let sizes = half_sizes c.args.chunk.now.entries c.split.new.self.entries c.split.new.other.entries 256 256
    c.split.ensures.lower c.split.ensures.upper c.requires.full in
    let longer = ap length c.insert-then-offset-le256.ensures.entries
    ∙ length-insert c.split.new.self.entries c.args.offset c.args.entry (omega (arith, sizes.0, sizes.1)) in
    omega (arith, sizes.0, sizes.1, longer)

pub returns-then-offset-le256-clause-most : goal.returns-then-offset-le256-clause-most
returns-then-offset-le256-clause-most g c =
    let sizes = half_sizes c.args.chunk.now.entries c.split.new.self.entries c.split.new.other.entries 256 256
    c.split.ensures.lower c.split.ensures.upper c.requires.full in
    let longer = ap length c.insert-then-offset-le256.ensures.entries
    ∙ length-insert c.split.new.self.entries c.args.offset c.args.entry (omega (arith, sizes.0, sizes.1)) in
    omega (arith, sizes.0, sizes.1, longer)

pub returns-then-offset-le256-clause-fresh_least : goal.returns-then-offset-le256-clause-fresh_least
returns-then-offset-le256-clause-fresh_least g c =
    let sizes = half_sizes c.args.chunk.now.entries c.split.new.self.entries c.split.new.other.entries 256 256
    c.split.ensures.lower c.split.ensures.upper c.requires.full in
    let longer = ap length c.insert-then-offset-le256.ensures.entries
    ∙ length-insert c.split.new.self.entries c.args.offset c.args.entry (omega (arith, sizes.0, sizes.1)) in
    λ _. omega (arith, sizes.0, sizes.1, longer)

pub returns-then-offset-le256-clause-fresh_most : goal.returns-then-offset-le256-clause-fresh_most
returns-then-offset-le256-clause-fresh_most g c =
    let sizes = half_sizes c.args.chunk.now.entries c.split.new.self.entries c.split.new.other.entries 256 256
    c.split.ensures.lower c.split.ensures.upper c.requires.full in
    let longer = ap length c.insert-then-offset-le256.ensures.entries
    ∙ length-insert c.split.new.self.entries c.args.offset c.args.entry (omega (arith, sizes.0, sizes.1)) in
    omega (arith, sizes.0, sizes.1, longer)

pub insert-requires-else-offset-le256-clause-place : goal.insert-requires-else-offset-le256-clause-place
insert-requires-else-offset-le256-clause-place g c =
    let sizes = half_sizes c.args.chunk.now.entries c.split.new.self.entries c.split.new.other.entries 256 256
    c.split.ensures.lower c.split.ensures.upper c.requires.full in
    omega (arith, sizes.0, sizes.1)

pub insert-requires-else-offset-le256-clause-few : goal.insert-requires-else-offset-le256-clause-few
insert-requires-else-offset-le256-clause-few g c =
    let sizes = half_sizes c.args.chunk.now.entries c.split.new.self.entries c.split.new.other.entries 256 256
    c.split.ensures.lower c.split.ensures.upper c.requires.full in
    omega (arith, sizes.0, sizes.1)

pub insert-requires-else-offset-le256-clause-room : goal.insert-requires-else-offset-le256-clause-room
insert-requires-else-offset-le256-clause-room g c =
    let sizes = half_sizes c.args.chunk.now.entries c.split.new.self.entries c.split.new.other.entries 256 256
    c.split.ensures.lower c.split.ensures.upper c.requires.full in
    omega (arith, sizes.0, sizes.1, c.split.ensures.room, c.split.ensures.other_room)

pub returns-else-offset-le256-clause-both : goal.returns-else-offset-le256-clause-both
returns-else-offset-le256-clause-both g c =
    let sizes = half_sizes c.args.chunk.now.entries c.split.new.self.entries c.split.new.other.entries 256 256
    c.split.ensures.lower c.split.ensures.upper c.requires.full in
    put_upper c.args.chunk.now.entries c.split.new.self.entries c.split.new.other.entries
    c.insert-else-offset-le256.new.self.entries 256 c.args.offset c.args.entry c.split.ensures.lower
    c.split.ensures.upper sizes.0 (omega arith) c.insert-else-offset-le256.ensures.entries

pub returns-else-offset-le256-clause-least : goal.returns-else-offset-le256-clause-least
returns-else-offset-le256-clause-least g c =
    let sizes = half_sizes c.args.chunk.now.entries c.split.new.self.entries c.split.new.other.entries 256 256
    c.split.ensures.lower c.split.ensures.upper c.requires.full in
    let longer = ap length c.insert-else-offset-le256.ensures.entries
    ∙ length-insert c.split.new.other.entries (c.args.offset - 256) c.args.entry (omega (arith, sizes.0, sizes.1)) in
    omega (arith, sizes.0, sizes.1, longer)

pub returns-else-offset-le256-clause-most : goal.returns-else-offset-le256-clause-most
returns-else-offset-le256-clause-most g c =
    let sizes = half_sizes c.args.chunk.now.entries c.split.new.self.entries c.split.new.other.entries 256 256
    c.split.ensures.lower c.split.ensures.upper c.requires.full in
    let longer = ap length c.insert-else-offset-le256.ensures.entries
    ∙ length-insert c.split.new.other.entries (c.args.offset - 256) c.args.entry (omega (arith, sizes.0, sizes.1)) in
    omega (arith, sizes.0, sizes.1, longer)

pub returns-else-offset-le256-clause-fresh_least : goal.returns-else-offset-le256-clause-fresh_least
returns-else-offset-le256-clause-fresh_least g c =
    let sizes = half_sizes c.args.chunk.now.entries c.split.new.self.entries c.split.new.other.entries 256 256
    c.split.ensures.lower c.split.ensures.upper c.requires.full in
    let longer = ap length c.insert-else-offset-le256.ensures.entries
    ∙ length-insert c.split.new.other.entries (c.args.offset - 256) c.args.entry (omega (arith, sizes.0, sizes.1)) in
    λ _. omega (arith, sizes.0, sizes.1, longer)

pub returns-else-offset-le256-clause-fresh_most : goal.returns-else-offset-le256-clause-fresh_most
returns-else-offset-le256-clause-fresh_most g c =
    let sizes = half_sizes c.args.chunk.now.entries c.split.new.self.entries c.split.new.other.entries 256 256
    c.split.ensures.lower c.split.ensures.upper c.requires.full in
    let longer = ap length c.insert-else-offset-le256.ensures.entries
    ∙ length-insert c.split.new.other.entries (c.args.offset - 256) c.args.entry (omega (arith, sizes.0, sizes.1)) in
    omega (arith, sizes.0, sizes.1, longer)
