use Rattle.book_opening.specs.State.{state_of}
use Rattle.book_engine.proofs.BoundLemmas.{new_bounded}
use Rattle.book_engine.proofs.WholeLemmas.{sound_whole}
use Rattle.book_engine.proofs.opening.kept.Goals as goal

pub kept_of-requires : goal.kept_of-requires
kept_of-requires c = c.requires.book

pub invariant_of-result : goal.invariant_of-result
invariant_of-result c = record {
  whole = sound_whole (state_of c.args.state) c.requires;
  registers = c.in-Ok.ensures.registers;
  bounded = new_bounded _ c.in-Ok.ensures.new;
  free = c.in-Ok.ensures.free;
}
