-- Every change of a sound state leads to a sound state, and the fresh state is sound.
use Rattle.std.proofs.Common.{◌≡◌, ℕ, ◌<◌, ◌≤◌, Bool, All, List, [], ◌∷◌, refl, sym, subst, arith}
use Rattle.std.proofs.lemmas.List.Elements.{All-nil, All-cons}
use Rattle.book_commodity.specs.CommodityRules.{commodity_rules}
use Rattle.book_commodity.specs.Rules.{AllHold, IsSoundTable}
use Rattle.book_commodity.proofs.DrawnLemmas.{value_alone}
use Rattle.book_accounts.specs.AccountRules.{account_rules}
use Rattle.book_splits.specs.declared.reconciliation.MarkedSplit.{MarkedSplit}
use Rattle.book_splits.specs.declared.reconciliation.Recon.{Recon}
use Rattle.book_splits.specs.declared.split.Split.{Split}
use Rattle.book_splits.specs.declared.transaction.Txn.{Txn}
use Rattle.book_prices.specs.declared.price.Price.{Price}
use Rattle.book_statement.specs.declared.binding.Binding.{Binding}
use Rattle.book_statement.specs.declared.held.Held.{Held}
use Rattle.book_statement.specs.declared.line.Line.{Line}
use Rattle.book_undo.specs.declared.schedule.Schedule.{Schedule}
use Rattle.book_sound.specs.BindingRules.{binding_rules}
use Rattle.book_sound.specs.LineRules.{line_rules}
use Rattle.book_sound.specs.MarkedTransactionRules.{marked_transaction_rules}
use Rattle.book_sound.specs.PriceRules.{price_rules}
use Rattle.book_sound.specs.ReconciliationRules.{reconciliation_rules}
use Rattle.book_sound.specs.ScheduleRules.{schedule_rules}
use Rattle.book_sound.specs.StatementRules.{statement_rules}
use Rattle.book_command.specs.declared.answer.Answer.{Answer}
use Rattle.book_command.specs.declared.command.Update.{Update}
use Rattle.book_command.specs.declared.command.Update.TheVariants.{BookCurrency, CommodityAdd, AccountAdd, AccountEdit}
use Rattle.book_command.specs.declared.command.Update.TheVariants.{AccountDrop, Drop, Edit, Post, Unvoid, Void}
use Rattle.book_command.specs.declared.command.Update.TheVariants.{PriceDrop, PriceSet, ScheduleAdd, ScheduleDrop}
use Rattle.book_command.specs.declared.command.Update.TheVariants.{ScheduleRun}
use Rattle.book_command.specs.declared.command.Update.TheVariants.{LineAdd}
use Rattle.book_command.specs.declared.command.Update.TheVariants.{Bind, LineDismiss, LineReopen}
use Rattle.book_command.specs.declared.command.Update.TheVariants.{Import}
use Rattle.book_command.specs.declared.command.Update.TheVariants.{Mark}
use Rattle.book_command.specs.declared.command.Update.TheVariants.{LineMatch}
use Rattle.book_command.specs.declared.command.Update.TheVariants.{MatchAuto}
use Rattle.book_command.specs.declared.command.Update.TheVariants.{Reconcile, ReconcileStatement}
use Rattle.book_step.specs.Outcome.{Done}
use Rattle.book_step.specs.Soundness.{IsSound}
use Rattle.book_step.specs.State.{State, fresh_state, fresh_book, euro, root}
use Rattle.book_step.specs.Step.{outcome}
use Rattle.book_step.proofs.SoundAccounts.{account_add-sound, account_drop-sound, account_edit-sound}
use Rattle.book_step.proofs.SoundBank.{bind-sound, line_dismiss-sound, line_reopen-sound}
use Rattle.book_step.proofs.SoundCommodities.{book_currency-sound, commodity_add-sound}
use Rattle.book_step.proofs.SoundEditing.{drop_transaction-sound, edit_transaction-sound}
use Rattle.book_step.proofs.SoundLineAdding.{line_add-sound}
use Rattle.book_step.proofs.SoundImport.{import_file-sound}
use Rattle.book_step.proofs.SoundMatching.{match_auto-sound}
use Rattle.book_step.proofs.SoundLineMatching.{line_match-sound}
use Rattle.book_step.proofs.SoundMarking.{mark-sound}
use Rattle.book_step.proofs.SoundPosting.{post-sound}
use Rattle.book_step.proofs.SoundPrices.{price_drop-sound, price_set-sound}
use Rattle.book_step.proofs.SoundReconciling.{reconcile-sound, reconcile_statement-sound}
use Rattle.book_step.proofs.SoundRuns.{schedule_run-sound}
use Rattle.book_step.proofs.SoundSchedules.{schedule_add-sound, schedule_drop-sound}
use Rattle.book_step.proofs.SoundVoiding.{unvoid_transaction-sound, void_transaction-sound}

-- A change that is done leads from a sound state to a sound one.
pub outcome-sound :
    (state : State) (update : Update) (new : State) (answered : Answer) → IsSound state
    → outcome state update ≡ Done new answered
    → IsSound new
outcome-sound state (BookCurrency commodity) new answered is e = book_currency-sound state commodity new answered is e
outcome-sound state (CommodityAdd commodity) new answered is e = commodity_add-sound state commodity new answered is e
outcome-sound state (AccountAdd account) new answered is e = account_add-sound state account new answered is e
outcome-sound state (AccountEdit account given) new answered is e =
    account_edit-sound state account given new answered is e
outcome-sound state (AccountDrop account) new answered is e = account_drop-sound state account new answered is e
outcome-sound state (Post day given) new answered is e = post-sound state day given new answered is e
outcome-sound state (Edit transaction force day given) new answered is e =
    edit_transaction-sound state transaction force day given new answered is e
outcome-sound state (Drop transaction force) new answered is e =
    drop_transaction-sound state transaction force new answered is e
outcome-sound state (Void transaction reason force) new answered is e =
    void_transaction-sound state transaction reason force new answered is e
outcome-sound state (Unvoid transaction) new answered is e =
    unvoid_transaction-sound state transaction new answered is e
outcome-sound state (PriceSet price) new answered is e = price_set-sound state price new answered is e
outcome-sound state (PriceDrop price) new answered is e = price_drop-sound state price new answered is e
outcome-sound state (ScheduleAdd given) new answered is e = schedule_add-sound state given new answered is e
outcome-sound state (ScheduleDrop schedule) new answered is e = schedule_drop-sound state schedule new answered is e
outcome-sound state (ScheduleRun upto only) new answered is e = schedule_run-sound state upto only new answered is e
outcome-sound state (LineAdd n others description) new answered is e =
    line_add-sound state n others description new answered is e
outcome-sound state (Bind binding) new answered is e = bind-sound state binding new answered is e
outcome-sound state (LineDismiss line) new answered is e = line_dismiss-sound state line new answered is e
outcome-sound state (LineReopen line) new answered is e = line_reopen-sound state line new answered is e
outcome-sound state (Import format text account) new answered is e =
    import_file-sound state format text account new answered is e
outcome-sound state (Mark split cleared force) new answered is e =
    mark-sound state split cleared force new answered is e
outcome-sound state (LineMatch line split) new answered is e = line_match-sound state line split new answered is e
outcome-sound state (MatchAuto account window) new answered is e =
    match_auto-sound state account window new answered is e
outcome-sound state (Reconcile account day closing) new answered is e =
    reconcile-sound state account day closing new answered is e
outcome-sound state (ReconcileStatement statement) new answered is e =
    reconcile_statement-sound state statement new answered is e

-- ---- the fresh state

-- A table of one thing is sound where that keeps its rules.
sound_alone :
    {T : Type 0} (rules : ℕ → T → List Bool) (most n : ℕ) (v : T) → 1 ≤ most → AllHold (rules n v)
    → IsSoundTable rules most ((n, v) ∷ [])
sound_alone {T} rules most n v room kept = record {
  rise = (tt, tt);
  keep = record {
    each = λ k x there.
        let is = value_alone n k x v there in
        subst (λ (m : ℕ). AllHold (rules m x)) (sym is.0) (subst (λ (y : T). AllHold (rules n y)) is.1 kept);
  };
  few = omega (arith, room);
}

-- So is one of nothing.
sound_none : {T : Type 0} (rules : ℕ → T → List Bool) (most : ℕ) → IsSoundTable rules most []
sound_none rules most = record { rise = tt; keep = record { each = λ k x there. absurd cc }; few = omega arith }

-- Each run begins in a sound state.
pub fresh-sound : IsSound fresh_state
fresh-sound = record {
  book = record {
    commodities = sound_alone (commodity_rules fresh_book.commodities) 10000 1 euro (omega arith) (refl, (refl, tt));
    accounts = sound_alone (account_rules fresh_book.commodities fresh_book.accounts) 10000 2 root (omega arith)
        (refl, (refl, (refl, (refl, (refl, (refl, (refl, (refl, tt))))))));
    transactions = sound_none (marked_transaction_rules fresh_book.commodities fresh_book.accounts [] []) 200000;
    prices = sound_none (price_rules fresh_book.commodities []) 1000000;
    schedules = sound_none (schedule_rules fresh_book.commodities fresh_book.accounts) 1000;
    statements = sound_none (statement_rules fresh_book.accounts []) 100000;
    lines = sound_none (line_rules fresh_book.accounts [] [] []) 1000000;
    bindings = sound_none (binding_rules fresh_book.accounts []) 10000;
    reconciliations = sound_none (reconciliation_rules fresh_book.accounts) 100000;
    few_splits = omega arith;
    root = refl;
    currency = refl;
  };
  drawn = record {
    commodities = All-cons (λ (e : ℕ × _). e.0 < 3) (1, euro) [] (omega arith) (All-nil (λ (e : ℕ × _). e.0 < 3));
    accounts = All-cons (λ (e : ℕ × _). e.0 < 3) (2, root) [] (omega arith) (All-nil (λ (e : ℕ × _). e.0 < 3));
    transactions = All-nil (λ (e : ℕ × Txn). e.0 < 3);
    prices = All-nil (λ (e : ℕ × Price). e.0 < 3);
    schedules = All-nil (λ (e : ℕ × Schedule). e.0 < 3);
    statements = All-nil (λ (e : ℕ × Held). e.0 < 3);
    lines = All-nil (λ (e : ℕ × Line). e.0 < 3);
    bindings = All-nil (λ (e : ℕ × Binding). e.0 < 3);
    reconciliations = All-nil (λ (e : ℕ × Recon). e.0 < 3);
    splits = All-nil (λ (split : Split). split.id < 3);
    marked = All-nil (λ (e : ℕ × Recon). All (λ (m : MarkedSplit). m.split < 3) e.1.marked);
    made = All-nil (λ (e : ℕ × Schedule). e.1.timing.made < 3);
  };
  next = omega arith;
  version = omega arith;
}
