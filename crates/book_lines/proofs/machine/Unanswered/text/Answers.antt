use Rattle.std.proofs.Common.{sym, ap}
use Rattle.book_lines.specs.Marks.{memory_answer, keeper_answer}
use Rattle.book_lines.specs.Loop.{text_of}
use Rattle.book_lines.proofs.machine.Unanswered.text.Goals as goal

pub returns-in-Memory : goal.returns-in-Memory
unfolding memory_answer
returns-in-Memory c = sym (ap text_of c.in-Memory.is)

pub returns-in-Keeper : goal.returns-in-Keeper
unfolding keeper_answer
returns-in-Keeper c = sym (ap text_of c.in-Keeper.is)
