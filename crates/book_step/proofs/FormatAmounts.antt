-- The lines that a file says, in whatever format, have amounts that a book may hold.
use Rattle.std.proofs.Common.{◌≡◌, ℕ, List, [], Option, Some, None, Ok, subst}
use Rattle.book_commodity.specs.Table.{value_of}
use Rattle.book_commodity.specs.declared.commodity.Commodity.{Commodity}
use Rattle.book_statement.specs.declared.statement.Statement.{Statement}
use Rattle.qif_read.specs.declared.order.DateOrder.{DateOrder}
use Rattle.qif_read.specs.declared.order.DateOrder.TheVariants.{MonthDay, DayMonth}
use Rattle.book_command.specs.declared.command.Format.{Format}
use Rattle.book_command.specs.declared.command.Format.TheVariants.{Mt940, Bai2, QifMonthFirst, QifDayFirst}
use Rattle.book_step.specs.Importing.{said, said_in}
use Rattle.book_step.proofs.BaiAmounts.{bai2-within}
use Rattle.book_step.proofs.Mt940Amounts.{mt940-within}
use Rattle.book_step.proofs.QifAmounts.{qif-within}
use Rattle.book_step.proofs.ReadAmounts.{AllWithin}

in-within :
    (order : DateOrder) (text : List ℕ) (currency : Option Commodity) (statements : List Statement)
    → said_in order text currency ≡ Ok statements → AllWithin statements
in-within order text None statements is = let none : [] ≡ statements = cc in subst AllWithin none tt
in-within order text (Some currency) statements is = qif-within currency order text statements is

pub read-within :
    (commodities : List (ℕ × Commodity)) (text : List ℕ) (format : Format) (statements : List Statement)
    → said commodities text format ≡ Ok statements → AllWithin statements
read-within commodities text Mt940 statements is = mt940-within commodities text statements is
read-within commodities text Bai2 statements is = bai2-within commodities text statements is
read-within commodities text (QifMonthFirst currency) statements is =
    in-within MonthDay text (value_of currency commodities) statements is
read-within commodities text (QifDayFirst currency) statements is =
    in-within DayMonth text (value_of currency commodities) statements is
