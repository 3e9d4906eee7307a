-- What the rules of schedules see of the commodities and of the accounts: what the check of their templates does.
use Rattle.std.proofs.Common.{◌≡◌, ℕ, true, List}
use Rattle.book_commodity.specs.Rules.{IsSoundTable}
use Rattle.book_commodity.specs.Table.{value_of}
use Rattle.book_commodity.specs.declared.commodity.Commodity.{Commodity}
use Rattle.book_commodity.proofs.DrawnLemmas.{Stays}
use Rattle.book_accounts.specs.declared.account.Account.{Account}
use Rattle.book_splits.proofs.TransactionRuleLemmas.{Suits}
use Rattle.book_undo.specs.declared.schedule.Schedule.{Schedule}
use Rattle.book_sound.specs.Naming.{has_thing, schedule_names}
use Rattle.book_sound.specs.ScheduleRules.{schedule_rules}
use Rattle.book_sound.proofs.CheckFrames.{check_beside, check_on}
use Rattle.book_sound.proofs.TableFrames.{has_that, sound_still}

-- Schedules stay sound where commodities are added.
pub schedules_beside :
    (old new : List (ℕ × Commodity)) (accounts : List (ℕ × Account)) (most : ℕ) (schedules : List (ℕ × Schedule))
    → Stays old new → IsSoundTable (schedule_rules old accounts) most schedules
    → IsSoundTable (schedule_rules new accounts) most schedules
schedules_beside old new accounts most schedules stays =
    sound_still (schedule_rules old accounts) (schedule_rules new accounts) most schedules
    (λ k schedule there kept.
    let passes = check_beside old new accounts schedule.template stays kept.1.1.1.1.0 in
    (kept.0, (kept.1.0, (kept.1.1.0, (kept.1.1.1.0, (passes, kept.1.1.1.1.1))))))

-- Schedules stay sound where the accounts that they name take splits as before.
pub schedules_on :
    (commodities : List (ℕ × Commodity)) (old new : List (ℕ × Account)) (most : ℕ) (schedules : List (ℕ × Schedule))
    → ((account : ℕ) → has_thing (schedule_names account) schedules ≡ true
    → Suits (value_of account old) (value_of account new))
    → IsSoundTable (schedule_rules commodities old) most schedules
    → IsSoundTable (schedule_rules commodities new) most schedules
schedules_on commodities old new most schedules suits =
    sound_still (schedule_rules commodities old) (schedule_rules commodities new) most schedules
    (λ k schedule there kept.
    let named = λ (account : ℕ) (names : schedule_names account schedule ≡ true). suits account
    (has_that (schedule_names account) k schedule schedules there names) in
    let passes = check_on commodities old new schedule.template named kept.1.1.1.1.0 in
    (kept.0, (kept.1.0, (kept.1.1.0, (kept.1.1.1.0, (passes, kept.1.1.1.1.1))))))
