use Rattle.std.proofs.Common.{ap, sym, nat_lt, Bool}
use Rattle.book_commodity.specs.Rules.{broken_where}
use Rattle.book_undo.specs.Book.{book_of}
use Rattle.book_undo.specs.Edit.{leaves, depth}
use Rattle.book_undo.specs.EditRules.{first_missing, out_of_order}
use Rattle.book_undo.specs.declared.rule.EditRule.TheVariants.{OutOfOrder, TooDeep}
use Rattle.book_undo.proofs.OrderLaws.{order_stopped}
use Rattle.book_undo.proofs.ThreeRules.{second_broken, third_broken, three_none}
use Rattle.book_undo.proofs.plain.Plain.check_edit.Goals as goal

pub returns-in-Err : goal.returns-in-Err
returns-in-Err c =
    second_broken (first_missing (book_of c.args.self.now) (leaves c.args.edit.now))
    (out_of_order (leaves c.args.edit.now)) (broken_where (nat_lt 8 (depth c.args.edit.now)) TooDeep)
    (OutOfOrder c.in-Err.place) (sym c.in_default.ensures) (order_stopped (leaves c.args.edit.now) _ c.in-Err.ensures)

pub returns-then-is_deeper : goal.returns-then-is_deeper
returns-then-is_deeper c =
    third_broken (first_missing (book_of c.args.self.now) (leaves c.args.edit.now))
    (out_of_order (leaves c.args.edit.now)) (broken_where (nat_lt 8 (depth c.args.edit.now)) TooDeep) TooDeep
    (sym c.in_default.ensures) (order_stopped (leaves c.args.edit.now) _ c.in_default-along.ensures)
    (ap (λ (t : Bool). broken_where t TooDeep) (sym c.if-is_deeper.ensures))

pub returns : goal.returns
returns c =
    three_none (first_missing (book_of c.args.self.now) (leaves c.args.edit.now))
    (out_of_order (leaves c.args.edit.now)) (broken_where (nat_lt 8 (depth c.args.edit.now)) TooDeep)
    (sym c.in_default.ensures) (order_stopped (leaves c.args.edit.now) _ c.in_default-along.ensures)
    (ap (λ (t : Bool). broken_where t TooDeep) (sym c.if-is_deeper.ensures))
