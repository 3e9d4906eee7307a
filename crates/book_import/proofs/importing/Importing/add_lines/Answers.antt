-- One line more is added or seen, with its key.
use Rattle.std.proofs.lemmas.Slice.Zip.{Zip-more, either_empty_from_Zip}
use Rattle.book_import.proofs.StepLemmas.{key-own, keys-next, lines-done, lines-next}
use Rattle.book_import.proofs.importing.Importing.add_lines.Goals as goal

pub add_line-requires : goal.add_line-requires
add_line-requires c =
    let turn = Zip-more c.loop-key.key-iterator c.next.new.self c.next.result (c.in-Some.key, c.in-Some.body)
    c.in-Some.is c.next.ensures.steps in
    key-own c.args.account c.in-Some.key.now c.in-Some.body.now
    (keys-next c.args.account c.loop-key.key-iterator.a.rest.now c.next.new.self.a.rest.now
    c.loop-key.key-iterator.b.rest.now c.next.new.self.b.rest.now c.in-Some.key.now c.in-Some.body.now turn.0 turn.1
    c.loop-key.invariant.keys).0

pub loop-key-preserved : goal.loop-key-preserved
loop-key-preserved c =
    let turn = Zip-more c.loop-key.key-iterator c.next.new.self c.next.result (c.in-Some.key, c.in-Some.body)
    c.in-Some.is c.next.ensures.steps in
    record {
      keys = (keys-next c.args.account c.loop-key.key-iterator.a.rest.now c.next.new.self.a.rest.now
          c.loop-key.key-iterator.b.rest.now c.next.new.self.b.rest.now c.in-Some.key.now c.in-Some.body.now turn.0
          turn.1 c.loop-key.invariant.keys).1;
      left = lines-next c.args.statement c.args.keys.now c.loop-key.key-iterator.a.rest.now
          c.next.new.self.a.rest.now c.args.bodies.now c.loop-key.key-iterator.b.rest.now c.next.new.self.b.rest.now
          c.in-Some.key.now c.in-Some.body.now c.args.self.now c.loop-key.self c.add_line.new.self turn.0 turn.1
          c.loop-key.invariant.left c.in_ok-add_line.ensures;
    }

pub returns : goal.returns
returns c =
    lines-done c.args.statement c.args.keys.now c.loop-key.key-iterator.a.rest.now c.args.bodies.now
    c.loop-key.key-iterator.b.rest.now c.args.self.now c.loop-key.self
    (either_empty_from_Zip c.loop-key.key-iterator c.next.new.self c.next.result c.in-None.is c.next.ensures.steps)
    c.loop-key.invariant.left
