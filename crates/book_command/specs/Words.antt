-- The words of commands, which read and answer lines.
use Rattle.std.specs.Prelude.{ℕ, List, [], ◌∷◌, codes}
use Rattle.book_command.specs.declared.word.Word.{Word}
use Rattle.book_command.specs.declared.word.Word.TheVariants.{BookCurrency, CommodityAdd, AccountAdd, AccountEdit}
use Rattle.book_command.specs.declared.word.Word.TheVariants.{AccountDrop, Post, Edit, Drop, Void, Unvoid, Mark}
use Rattle.book_command.specs.declared.word.Word.TheVariants.{PriceSet, PriceDrop, ScheduleAdd, ScheduleDrop}
use Rattle.book_command.specs.declared.word.Word.TheVariants.{ScheduleRun, Bind}
use Rattle.book_command.specs.declared.word.Word.TheVariants.{Import, LineMatch, LineAdd, LineDismiss, LineReopen}
use Rattle.book_command.specs.declared.word.Word.TheVariants.{MatchAuto, Reconcile, ReconcileStatement, Undo, Redo}
use Rattle.book_command.specs.declared.word.Word.TheVariants.{Register, Trial, Sheet, Income, Lots, Gains, Lines}
use Rattle.book_command.specs.declared.word.Word.TheVariants.{Statements, Recons, Voided, Due, Price, Status}

-- Each word behind its text.
abbrev pub words : List (List ℕ × Word)
words =
    (codes "book_currency", BookCurrency)
    ∷ (codes "commodity_add", CommodityAdd)
    ∷ (codes "account_add", AccountAdd)
    ∷ (codes "account_edit", AccountEdit)
    ∷ (codes "account_drop", AccountDrop)
    ∷ (codes "post", Post)
    ∷ (codes "edit", Edit)
    ∷ (codes "drop", Drop)
    ∷ (codes "void", Void)
    ∷ (codes "unvoid", Unvoid)
    ∷ (codes "mark", Mark)
    ∷ (codes "price_set", PriceSet)
    ∷ (codes "price_drop", PriceDrop)
    ∷ (codes "schedule_add", ScheduleAdd)
    ∷ (codes "schedule_drop", ScheduleDrop)
    ∷ (codes "schedule_run", ScheduleRun)
    ∷ (codes "bind", Bind)
    ∷ (codes "import", Import)
    ∷ (codes "line_match", LineMatch)
    ∷ (codes "line_add", LineAdd)
    ∷ (codes "line_dismiss", LineDismiss)
    ∷ (codes "line_reopen", LineReopen)
    ∷ (codes "match_auto", MatchAuto)
    ∷ (codes "reconcile", Reconcile)
    ∷ (codes "reconcile_statement", ReconcileStatement)
    ∷ (codes "undo", Undo)
    ∷ (codes "redo", Redo)
    ∷ (codes "register", Register)
    ∷ (codes "trial", Trial)
    ∷ (codes "sheet", Sheet)
    ∷ (codes "income", Income)
    ∷ (codes "lots", Lots)
    ∷ (codes "gains", Gains)
    ∷ (codes "lines", Lines)
    ∷ (codes "statements", Statements)
    ∷ (codes "recons", Recons)
    ∷ (codes "voided", Voided)
    ∷ (codes "due", Due)
    ∷ (codes "price", Price)
    ∷ (codes "status", Status)
    ∷ []
