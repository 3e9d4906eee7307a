use Rattle.std.proofs.Common.{sym, subst, drop}
use Rattle.book_sqlite.proofs.NextLemmas.{ReadSoFar, read_end}
use Rattle.book_sqlite.proofs.selects.read_on.Goals as goal

pub returns-in_default : goal.returns-in_default
returns-in_default c =
    read_end c.args.key c.loop-shown.last c.args.shown.now (drop c.loop-shown.shown-index c.args.shown.now) c.args.rows.now.items c.loop-shown.rows.items
    c.loop-shown.invariant

pub returns-then-not-is_above : goal.returns-then-not-is_above
returns-then-not-is_above c =
    read_end c.args.key c.loop-shown.last c.args.shown.now (drop c.loop-shown.shown-index c.args.shown.now) c.args.rows.now.items c.loop-shown.rows.items
    c.loop-shown.invariant

pub returns-in-Err : goal.returns-in-Err
returns-in-Err c =
    read_end c.args.key c.loop-shown.last c.args.shown.now (drop c.loop-shown.shown-index c.args.shown.now) c.args.rows.now.items c.push.new.rows.items
    (subst (ReadSoFar c.args.key c.loop-shown.last c.args.shown.now (drop c.loop-shown.shown-index c.args.shown.now) c.args.rows.now.items)
    (sym c.in-Err.ensures.kept) c.loop-shown.invariant)

pub returns : goal.returns
returns c =
    read_end c.args.key c.loop-shown.last c.args.shown.now (drop c.loop-shown.shown-index c.args.shown.now) c.args.rows.now.items c.loop-shown.rows.items
    c.loop-shown.invariant
