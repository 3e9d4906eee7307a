-- The members of the commands that ask for a report, in the order in which they are read.
use Rattle.std.specs.Prelude.{codes}
use Rattle.book_json.specs.Members.{Reader, needed, optional, flag, gives, ◌>>=◌}
use Rattle.book_json.specs.Forms.{whole, day_form}
use Rattle.book_command.specs.declared.command.Report.{Report}
use Rattle.book_command.specs.declared.command.Report.TheVariants as report

-- The account and the days of a register. An absent `csv` is false.
abbrev pub register : Reader Report
register = do
  account ← needed whole (codes "account")
  from ← optional day_form (codes "from")
  to ← optional day_form (codes "to")
  csv ← flag (codes "csv")
  gives (report.Register account from to csv)

-- The day of a trial balance. An absent `csv` is false.
abbrev pub trial : Reader Report
trial = do
  day ← needed day_form (codes "day")
  csv ← flag (codes "csv")
  gives (report.Trial day csv)

-- The day of a balance sheet. An absent `csv` is false.
abbrev pub sheet : Reader Report
sheet = do
  day ← needed day_form (codes "day")
  csv ← flag (codes "csv")
  gives (report.Sheet day csv)

-- The days of income and expenses. An absent `csv` is false.
abbrev pub income : Reader Report
income = do
  from ← needed day_form (codes "from")
  to ← needed day_form (codes "to")
  csv ← flag (codes "csv")
  gives (report.Income from to csv)

-- The account of lots. An absent `csv` is false.
abbrev pub lots : Reader Report
lots = do
  account ← needed whole (codes "account")
  csv ← flag (codes "csv")
  gives (report.Lots account csv)

-- The account and the days of gains.
abbrev pub gains : Reader Report
gains = do
  account ← needed whole (codes "account")
  from ← needed day_form (codes "from")
  to ← needed day_form (codes "to")
  gives (report.Gains account from to)
