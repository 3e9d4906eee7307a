-- Worked words: what is asked, and what is refused.
use Rattle.std.proofs.Common.{◌≡◌, [], ◌∷◌, Some, None, codes, refl}
use Rattle.book_reports.specs.declared.form.Form.TheVariants.{Csv, Plain}
use Rattle.book_show.specs.Words.{asked_of}
use Rattle.book_show.specs.declared.question.Question.TheVariants.{Accounts, Command, Export, Schedules}

-- words
asks_accounts : asked_of (codes "my.book" ∷ codes "accounts" ∷ codes "--csv" ∷ [])
    ≡ Some (record { book = codes "my.book"; question = Accounts; form = Csv })
asks_accounts = refl

asks_command : asked_of (codes "my.book" ∷ codes "command" ∷ codes "12" ∷ [])
    ≡ Some (record { book = codes "my.book"; question = Command 12; form = Plain })
asks_command = refl

asks_export : asked_of (codes "my.book" ∷ codes "export" ∷ [])
    ≡ Some (record { book = codes "my.book"; question = Export; form = Plain })
asks_export = refl

-- a command line and the exported book are no tables, and no book begins with a hyphen
no_table : asked_of (codes "my.book" ∷ codes "command" ∷ codes "12" ∷ codes "--csv" ∷ []) ≡ None
no_table = refl

no_table_of_all : asked_of (codes "my.book" ∷ codes "export" ∷ codes "--csv" ∷ []) ≡ None
no_table_of_all = refl

asks_schedules : asked_of (codes "my.book" ∷ codes "schedules" ∷ codes "--csv" ∷ [])
    ≡ Some (record { book = codes "my.book"; question = Schedules; form = Csv })
asks_schedules = refl

no_table_of_check : asked_of (codes "my.book" ∷ codes "check" ∷ codes "--csv" ∷ []) ≡ None
no_table_of_check = refl

no_book : asked_of (codes "-x" ∷ codes "accounts" ∷ []) ≡ None
no_book = refl
