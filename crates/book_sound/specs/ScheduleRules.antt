-- The rules that each schedule of a book keeps.
use Rattle.std.specs.Prelude.{ℕ, ◌==◌, nat_lt, not, Bool, true, ◌&&◌, List, [], ◌∷◌, length, is_none}
use Rattle.std.specs.List.{list_all}
use Rattle.book_commodity.specs.declared.commodity.Commodity.{Commodity}
use Rattle.book_accounts.specs.declared.account.Account.{Account}
use Rattle.book_splits.specs.TransactionRules.{is_unmarked}
use Rattle.book_splits.specs.declared.split.Split.{Split}
use Rattle.book_schedule.specs.declared.recurrence.Recurrence.{Recurrence}
use Rattle.book_schedule.specs.declared.timing.End.{End}
use Rattle.book_schedule.specs.declared.timing.End.TheVariants.{Never, Until, After}
use Rattle.book_undo.specs.declared.schedule.Schedule.{Schedule}
use Rattle.book_sound.specs.Tests.{is_within, passes_check}

-- Whether a recurrence goes on by 1 to 10,000 days, weeks, months or years at a time (a limit of this project).
abbrev pub has_multiplier : Recurrence → Bool
has_multiplier recurrence = is_within 1 10000 recurrence.every

-- Whether an end after so many occurrences leaves room for one.
abbrev pub has_occurrences : End → Bool
has_occurrences Never = true
has_occurrences (Until last) = true
has_occurrences (After count) = nat_lt 0 count

-- Whether a split of a template is none of the book: its number is 0, and it is unmarked.
abbrev pub is_blank : Split → Bool
is_blank split = (split.id == 0) && is_unmarked split

-- The rules of a schedule: its recurrences have their multipliers in range; it has 1 to 12 of them; an end after so
-- many occurrences leaves room for one; its transactions are made at most 366 days in advance (limits of this
-- project); its template breaks no rule of transactions; the splits of the template are none of the book; and the
-- template is not voided (GnuCash SQL schema, tables schedxactions and recurrences; GnuCash Manual, scheduled
-- transactions).
abbrev pub schedule_rules : List (ℕ × Commodity) → List (ℕ × Account) → ℕ → Schedule → List Bool
schedule_rules commodities accounts number schedule =
    list_all has_multiplier schedule.timing.recurrences
    ∷ is_within 1 12 (length schedule.timing.recurrences)
    ∷ has_occurrences schedule.timing.end
    ∷ not (nat_lt 366 schedule.timing.advance)
    ∷ passes_check commodities accounts schedule.template
    ∷ list_all is_blank schedule.template.splits
    ∷ is_none schedule.template.voided
    ∷ []
