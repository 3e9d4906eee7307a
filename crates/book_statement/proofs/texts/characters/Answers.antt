use Rattle.std.proofs.Common.{arith}
use Rattle.book_statement.proofs.TextLemmas.{encodes-push}
use Rattle.book_statement.proofs.texts.characters.Goals as goal

pub loop-byte-preserved : goal.loop-byte-preserved
loop-byte-preserved c =
    encodes-push c.args.bytes.now c.loop-byte.byte-index _ _ (omega arith) c.loop-byte.invariant
    c.in_ok-push.ensures.bytes
