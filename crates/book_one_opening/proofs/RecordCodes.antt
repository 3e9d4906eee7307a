-- A row stands for one record alone: the spellings of a kind's records are those of no other record of the kind.
use Rattle.std.proofs.Common.{◌≡◌, ℕ, ◌+◌, ◌==◌, ℤ, true, not, List, [], ◌∷◌, ◌++◌, length, if◌then◌else◌}
use Rattle.std.proofs.Common.{Option, None, is_none}
use Rattle.std.proofs.Common.{◌-◌, zero, suc, flat_map, refl, sym, ap, ◌∙◌, subst, append_assoc, arith}
use Rattle.std.proofs.lemmas.Int.{ints}
use Rattle.book_keeper.specs.declared.row.RowKey.{RowKey}
use Rattle.book_accounts.specs.declared.account.Account.{Account}
use Rattle.book_accounts.specs.declared.kind.AccountKind.TheVariants as account_kind
use Rattle.book_accounts.specs.declared.kind.AccountKind.{AccountKind}
use Rattle.book_commodity.specs.declared.commodity.Commodity.{Commodity}
use Rattle.book_prices.specs.declared.price.Price.{Price}
use Rattle.book_schedule.specs.declared.recurrence.Adjust.TheVariants as adjust
use Rattle.book_schedule.specs.declared.recurrence.Adjust.{Adjust}
use Rattle.book_schedule.specs.declared.recurrence.Recurrence.{Recurrence}
use Rattle.book_schedule.specs.declared.recurrence.RecurrenceKind.TheVariants as recurrence_kind
use Rattle.book_schedule.specs.declared.recurrence.RecurrenceKind.{RecurrenceKind}
use Rattle.book_schedule.specs.declared.timing.End.TheVariants as end
use Rattle.book_schedule.specs.declared.timing.End.{End}
use Rattle.book_schedule.specs.declared.timing.Timing.{Timing}
use Rattle.book_splits.specs.declared.reconciliation.MarkedSplit.{MarkedSplit}
use Rattle.book_splits.specs.declared.reconciliation.Recon.{Recon}
use Rattle.book_splits.specs.declared.split.Mark.TheVariants as mark
use Rattle.book_splits.specs.declared.split.Mark.{Mark}
use Rattle.book_splits.specs.declared.split.Split.{Split}
use Rattle.book_splits.specs.TransactionRules.{has_voided, is_not_voided}
use Rattle.book_splits.specs.declared.transaction.Txn.{Txn}
use Rattle.book_splits.specs.declared.void.KeptSplit.{KeptSplit}
use Rattle.book_splits.specs.declared.void.Void.{Void}
use Rattle.book_splits.proofs.TransactionRuleLemmas.{is_none_of}
use Rattle.std.proofs.lemmas.Bool.{and_parts}
use Rattle.book_statement.specs.declared.binding.Binding.{Binding}
use Rattle.book_statement.specs.declared.held.Held.{Held}
use Rattle.book_statement.specs.declared.line.Line.{Line}
use Rattle.book_statement.specs.declared.line_state.LineState.TheVariants as line_state
use Rattle.book_statement.specs.declared.line_state.LineState.{LineState}
use Rattle.book_statement.specs.declared.part.Part.{Part}
use Rattle.book_statement.specs.declared.statement_line.StatementLine.{StatementLine}
use Rattle.book_undo.specs.Thing.{kind_of as thing_kind_of, row_kind}
use Rattle.book_undo.specs.declared.edit.Edit.{All, Currency, Edit, Gone, Put}
use Rattle.book_undo.specs.declared.edit.Edit.{All'}
use Rattle.book_undo.specs.declared.schedule.Schedule.{Schedule}
use Rattle.book_undo.specs.declared.thing.Thing.TheVariants as thing
use Rattle.book_undo.specs.declared.thing.Thing.{Thing}
use Rattle.book_undo.specs.declared.thing.ThingKind.TheVariants as kind
use Rattle.book_undo.specs.declared.thing.ThingKind.{ThingKind}
use Rattle.book_commodity.specs.Day.{IsDay}
use Rattle.book_codec.specs.Words.{number, signed, string}
use Rattle.book_rows.specs.AccountBytes.{IsAccount, account_bytes, account_made, place_of_account_kind}
use Rattle.book_rows.specs.CommodityBytes.{IsCommodity, commodity_bytes, commodity_made}
use Rattle.book_rows.specs.EditBytes.{HasValues, IsEditWithin, edit_bytes, row_bytes, row_length}
use Rattle.book_rows.specs.HeadBytes.{IsHead, head_bytes, head_made}
use Rattle.book_rows.specs.PriceBytes.{IsPrice, price_bytes, price_made}
use Rattle.book_rows.specs.ReconciliationBytes.{IsMarkedSplit, IsRecon, marked_split_bytes, marked_split_made}
use Rattle.book_rows.specs.ReconciliationBytes.{recon_bytes, recon_made}
use Rattle.book_rows.specs.Row.{IsRecord, StandsFor, fields_of, kind_of}
use Rattle.book_rows.specs.ScheduleBytes.{IsEnd, IsRecurrence, IsSchedule, IsTiming, end_bytes, place_of_adjust}
use Rattle.book_rows.specs.ScheduleBytes.{place_of_recurrence_kind, recurrence_bytes, recurrence_made, schedule_bytes}
use Rattle.book_rows.specs.ScheduleBytes.{schedule_made, timing_bytes, timing_made}
use Rattle.book_rows.specs.StatementBytes.{IsBinding, IsHeld, IsLine, IsLineState, IsPart, IsStatementLine}
use Rattle.book_rows.specs.StatementBytes.{binding_bytes, binding_made, held_bytes, held_made, line_bytes, line_made}
use Rattle.book_rows.specs.StatementBytes.{line_state_bytes, part_bytes, part_made, statement_line_bytes}
use Rattle.book_rows.specs.StatementBytes.{statement_line_made}
use Rattle.book_rows.specs.ThingBytes.{IsThing, thing_bytes}
use Rattle.book_rows.specs.TransactionBytes.{IsKept, IsSplit, IsTxn, IsVoid, kept_bytes, kept_made, place_of_mark}
use Rattle.book_rows.specs.TransactionBytes.{split_bytes, split_made, txn_bytes, void_bytes, void_made}
use Rattle.book_rows.specs.declared.format.RowFormat.{RowFormat}
use Rattle.book_rows.specs.declared.format.RowFormat.TheVariants as format
use Rattle.book_rows.specs.TransactionBytes.{txn_made}
use Rattle.book_rows.specs.Values.{IsNumber, IsShort, IsString}
use Rattle.book_rows.specs.declared.head.Head.{Head}
use Rattle.book_rows.specs.declared.record.Record.TheVariants as record_of
use Rattle.book_rows.specs.declared.record.Record.{Record}
use Rattle.book_rows.proofs.EditLemmas.{HasParts, IsCurrency, IsGone, IsPut, currency_at, gone_at, parts_at, put_at}
use Rattle.book_opening.proofs.ThingRecords.{kind_least, kind_most}
use Rattle.book_one_opening.proofs.Codes.{IsCode, behind, byte-code, first-byte, flag-code, listed-code, made-code}
use Rattle.book_one_opening.proofs.Codes.{number-code, only-items, optional-code, pair-code, signed-code, string-code}
use Rattle.book_one_opening.proofs.Codes.{weaker-code, whole-code, wide-code}

-- ---- texts, days and values of few

text-code : IsCode IsString string
text-code = string-code IsString (λ b fit. fit.1)

day-code : IsCode IsDay signed
day-code = weaker-code signed-code (λ z fit. omega (arith, ints, fit))

short-code : IsCode IsShort number
short-code = weaker-code number-code (λ n fit. omega (arith, fit))

account_kind_at : ℕ → AccountKind
account_kind_at n =
    if n == 1 then account_kind.Root else if n == 2 then account_kind.Asset else if n == 3 then account_kind.Bank
    else if n == 4 then account_kind.Cash else if n == 5 then account_kind.Credit
    else if n == 6 then account_kind.Liability else if n == 7 then account_kind.Stock
    else if n == 8 then account_kind.Mutual else if n == 9 then account_kind.Receivable
    else if n == 10 then account_kind.Payable else if n == 11 then account_kind.Income
    else if n == 12 then account_kind.Expense else account_kind.Equity

account_kind_back : (x : AccountKind) → account_kind_at (place_of_account_kind x) ≡ x
unfolding account_kind_at
account_kind_back account_kind.Root = refl
account_kind_back account_kind.Asset = refl
account_kind_back account_kind.Bank = refl
account_kind_back account_kind.Cash = refl
account_kind_back account_kind.Credit = refl
account_kind_back account_kind.Liability = refl
account_kind_back account_kind.Stock = refl
account_kind_back account_kind.Mutual = refl
account_kind_back account_kind.Receivable = refl
account_kind_back account_kind.Payable = refl
account_kind_back account_kind.Income = refl
account_kind_back account_kind.Expense = refl
account_kind_back account_kind.Equity = refl

mark_at : ℕ → Mark
mark_at n =
    if n == 1 then mark.New else if n == 2 then mark.Cleared else if n == 3 then mark.Reconciled else mark.Voided

mark_back : (x : Mark) → mark_at (place_of_mark x) ≡ x
unfolding mark_at
mark_back mark.New = refl
mark_back mark.Cleared = refl
mark_back mark.Reconciled = refl
mark_back mark.Voided = refl

recurrence_kind_at : ℕ → RecurrenceKind
recurrence_kind_at n =
    if n == 1 then recurrence_kind.Once else if n == 2 then recurrence_kind.Daily
    else if n == 3 then recurrence_kind.Weekly else if n == 4 then recurrence_kind.Monthly
    else if n == 5 then recurrence_kind.EndOfMonth else if n == 6 then recurrence_kind.NthWeekday
    else if n == 7 then recurrence_kind.LastWeekday else recurrence_kind.Yearly

recurrence_kind_back : (x : RecurrenceKind) → recurrence_kind_at (place_of_recurrence_kind x) ≡ x
unfolding recurrence_kind_at
recurrence_kind_back recurrence_kind.Once = refl
recurrence_kind_back recurrence_kind.Daily = refl
recurrence_kind_back recurrence_kind.Weekly = refl
recurrence_kind_back recurrence_kind.Monthly = refl
recurrence_kind_back recurrence_kind.EndOfMonth = refl
recurrence_kind_back recurrence_kind.NthWeekday = refl
recurrence_kind_back recurrence_kind.LastWeekday = refl
recurrence_kind_back recurrence_kind.Yearly = refl

adjust_at : ℕ → Adjust
adjust_at n = if n == 1 then adjust.Nothing else if n == 2 then adjust.Back else adjust.Forward

adjust_back : (x : Adjust) → adjust_at (place_of_adjust x) ≡ x
unfolding adjust_at
adjust_back adjust.Nothing = refl
adjust_back adjust.Back = refl
adjust_back adjust.Forward = refl

thing_kind_at : ℕ → ThingKind
thing_kind_at n =
    if n == 2 then kind.Commodity else if n == 3 then kind.Account else if n == 4 then kind.Txn
    else if n == 5 then kind.Price else if n == 6 then kind.Schedule else if n == 7 then kind.Held
    else if n == 8 then kind.Line else if n == 9 then kind.Binding else kind.Recon

thing_kind_back : (x : ThingKind) → thing_kind_at (row_kind x) ≡ x
unfolding thing_kind_at
thing_kind_back kind.Commodity = refl
thing_kind_back kind.Account = refl
thing_kind_back kind.Txn = refl
thing_kind_back kind.Price = refl
thing_kind_back kind.Schedule = refl
thing_kind_back kind.Held = refl
thing_kind_back kind.Line = refl
thing_kind_back kind.Binding = refl
thing_kind_back kind.Recon = refl

-- ---- values of several parts

commodity-code : IsCode IsCommodity commodity_bytes
commodity-code =
    let code = pair-code text-code (pair-code text-code (pair-code text-code number-code)) in
    made-code (λ (x : Commodity). (x.space, (x.name, (x.full_name, x.fraction)))) commodity_made (λ x. refl) code

account-code : IsCode IsAccount account_bytes
account-code =
    let kinds = byte-code place_of_account_kind account_kind_at account_kind_back in
    let rest = pair-code text-code (pair-code text-code (pair-code flag-code (pair-code flag-code
    (optional-code number-code)))) in
    let parts = pair-code number-code (pair-code (optional-code number-code) rest) in
    let code = pair-code text-code (pair-code kinds parts) in
    made-code
    (λ (x : Account).
    (x.name, (x.kind, (x.commodity, (x.parent, (x.code, (x.note, (x.hidden, (x.placeholder, x.basis)))))))))
    account_made (λ x. refl) code

split-code : IsCode IsSplit split_bytes
split-code =
    let marks = byte-code place_of_mark mark_at mark_back in
    let rest = pair-code marks (pair-code (optional-code number-code) (pair-code signed-code signed-code)) in
    let code = pair-code number-code (pair-code number-code (pair-code text-code (pair-code text-code rest))) in
    made-code
    (λ (x : Split). (x.id, (x.account, (x.memo, (x.action, (x.mark, (x.recon, (x.value, x.quantity))))))))
    split_made (λ x. refl) code

kept-code : IsCode IsKept kept_bytes
kept-code =
    made-code (λ (x : KeptSplit). (x.value, x.quantity)) kept_made (λ x. refl) (pair-code signed-code signed-code)

void-code : IsCode IsVoid void_bytes
void-code =
    made-code (λ (x : Void). (x.reason, x.kept)) void_made (λ x. refl) (pair-code text-code (listed-code kept-code))

-- The fields that both formats have of a transaction.
abbrev Fields : Type 0
Fields = ℕ × (ℤ × (List ℕ × (List ℕ × List Split)))

abbrev fields_in : Txn → Fields
fields_in x = (x.currency, (x.day, (x.num, (x.description, x.splits))))

-- A transaction that is not voided is made of these alone.
made-unvoided : (x : Txn) → is_not_voided x ≡ true → txn_made (fields_in x, None) ≡ x
made-unvoided x unvoided =
    let parts = and_parts (is_none x.voided) (not (has_voided x.splits)) unvoided in
    ap (λ (v : Option Void). txn_made (fields_in x, v)) (sym (is_none_of x.voided parts.0))

txn-code : (m : RowFormat) → IsCode (IsTxn m) (txn_bytes m)
txn-code format.One = record {
  only = λ a b r s fit less e.
      let code = pair-code number-code (pair-code day-code (pair-code text-code (pair-code text-code
      (listed-code split-code)))) in
      let same = code.only (fields_in a) (fields_in b) r s fit.0 less.0 e in (
        sym (made-unvoided a fit.1) ∙ ap (λ (f : Fields). txn_made (f, None)) same.0 ∙ made-unvoided b less.1,
        same.1,
      );
}
txn-code format.Two =
    let code = pair-code number-code (pair-code day-code (pair-code text-code (pair-code text-code
    (listed-code split-code)))) in
    made-code (λ (x : Txn). (fields_in x, x.voided)) txn_made (λ x. refl) (pair-code code (optional-code void-code))

price-code : IsCode IsPrice price_bytes
price-code =
    let code = pair-code number-code (pair-code number-code (pair-code day-code (pair-code number-code number-code))) in
    made-code (λ (x : Price). (x.commodity, (x.currency, (x.day, (x.num, x.denom))))) price_made (λ x. refl) code

recurrence-code : IsCode IsRecurrence recurrence_bytes
recurrence-code =
    let kinds = byte-code place_of_recurrence_kind recurrence_kind_at recurrence_kind_back in
    let adjusts = byte-code place_of_adjust adjust_at adjust_back in
    let code = pair-code kinds (pair-code short-code (pair-code day-code adjusts)) in
    made-code (λ (x : Recurrence). (x.kind, (x.every, (x.start, x.adjust)))) recurrence_made (λ x. refl) code

only-end :
    (a b : End) (r s : List ℕ) → IsEnd a → IsEnd b → end_bytes a ++ r ≡ end_bytes b ++ s → (a ≡ b) × (r ≡ s)
only-end end.Never end.Never r s fit less e = (refl, cc)
only-end (end.Until a) (end.Until b) r s fit less e =
    let same = day-code.only a b r s fit less (behind _ _ _ _ e) in (ap end.Until same.0, same.1)
only-end (end.After a) (end.After b) r s fit less e =
    let same = number-code.only a b r s fit less (behind _ _ _ _ e) in (ap end.After same.0, same.1)
only-end a b r s fit less e = absurd (omega (arith, first-byte _ _ _ _ e))

timing-code : IsCode IsTiming timing_bytes
timing-code =
    let ends : IsCode IsEnd end_bytes = record { only = only-end } in
    let code = pair-code (listed-code recurrence-code) (pair-code ends (pair-code short-code
    (pair-code (optional-code day-code) number-code))) in
    made-code (λ (x : Timing). (x.recurrences, (x.end, (x.advance, (x.last, x.made))))) timing_made (λ x. refl) code

schedule-code : (m : RowFormat) → IsCode (IsSchedule m) (schedule_bytes m)
schedule-code m =
    let code = pair-code text-code (pair-code timing-code (txn-code m)) in
    made-code (λ (x : Schedule). (x.name, (x.timing, x.template))) (λ f. schedule_made ((f.0, f.1.0), f.1.1))
    (λ x. refl) code

held-code : IsCode IsHeld held_bytes
held-code =
    let rest = pair-code (optional-code signed-code) (pair-code day-code (optional-code flag-code)) in
    let code = pair-code number-code (pair-code text-code (pair-code text-code
    (pair-code (optional-code signed-code) rest))) in
    made-code
    (λ (x : Held). (x.account, (x.account_text, (x.number, (x.opening, (x.closing, (x.day, x.ties)))))))
    held_made (λ x. refl) code

part-code : IsCode IsPart part_bytes
part-code =
    let code = pair-code text-code (pair-code text-code signed-code) in
    made-code (λ (x : Part). (x.category, (x.memo, x.amount))) part_made (λ x. refl) code

statement_line-code : IsCode IsStatementLine statement_line_bytes
statement_line-code =
    let rest = pair-code text-code (pair-code text-code (pair-code text-code (pair-code text-code
    (listed-code part-code)))) in
    let code = pair-code day-code (pair-code day-code (pair-code signed-code (pair-code text-code rest))) in
    made-code
    (λ (x : StatementLine).
    (x.day, (x.value_day, (x.amount, (x.kind, (x.ref_own, (x.ref_bank, (x.text, (x.category, x.parts)))))))))
    statement_line_made (λ x. refl) code

only-line_state :
    (a b : LineState) (r s : List ℕ) → IsLineState a → IsLineState b
    → line_state_bytes a ++ r ≡ line_state_bytes b ++ s → (a ≡ b) × (r ≡ s)
only-line_state line_state.Open line_state.Open r s fit less e = (refl, cc)
only-line_state (line_state.Matched a) (line_state.Matched b) r s fit less e =
    let same = number-code.only a b r s fit less (behind _ _ _ _ e) in (ap line_state.Matched same.0, same.1)
only-line_state line_state.Dismissed line_state.Dismissed r s fit less e = (refl, cc)
only-line_state a b r s fit less e = absurd (omega (arith, first-byte _ _ _ _ e))

line-code : IsCode IsLine line_bytes
line-code =
    let states : IsCode IsLineState line_state_bytes = record { only = only-line_state } in
    let code = pair-code number-code (pair-code number-code (pair-code number-code
    (pair-code statement_line-code states))) in
    made-code (λ (x : Line). (x.account, (x.statement, (x.ordinal, (x.body, x.state))))) line_made (λ x. refl) code

binding-code : IsCode IsBinding binding_bytes
binding-code =
    let code = pair-code text-code number-code in
    made-code (λ (x : Binding). (x.text, x.account)) binding_made (λ x. refl) code

marked_split-code : IsCode IsMarkedSplit marked_split_bytes
marked_split-code =
    let code = pair-code number-code signed-code in
    made-code (λ (x : MarkedSplit). (x.split, x.quantity)) marked_split_made (λ x. refl) code

recon-code : IsCode IsRecon recon_bytes
recon-code =
    let code = pair-code number-code (pair-code day-code (pair-code wide-code (pair-code signed-code
    (listed-code marked_split-code)))) in
    made-code (λ (x : Recon). (x.account, (x.day, (x.opening, (x.closing, x.marked))))) recon_made (λ x. refl) code

head-code : IsCode IsHead head_bytes
head-code =
    let code = pair-code number-code (pair-code number-code (pair-code number-code (pair-code number-code
    (pair-code number-code number-code)))) in
    made-code (λ (x : Head). (x.next, (x.version, (x.position, (x.past, (x.later, x.currency)))))) head_made (λ x. refl)
    code

-- ---- edits

-- Things of one kind.
only-thing :
    (m : RowFormat) (a b : Thing) (r s : List ℕ) → row_kind (thing_kind_of a) ≡ row_kind (thing_kind_of b) → IsThing m a → IsThing m b
    → thing_bytes m a ++ r ≡ thing_bytes m b ++ s → (a ≡ b) × (r ≡ s)
only-thing m (thing.Commodity a) (thing.Commodity b) r s kinds fit less e =
    let same = commodity-code.only a b r s fit less e in (ap thing.Commodity same.0, same.1)
only-thing m (thing.Account a) (thing.Account b) r s kinds fit less e =
    let same = account-code.only a b r s fit less e in (ap thing.Account same.0, same.1)
only-thing m (thing.Txn a) (thing.Txn b) r s kinds fit less e =
    let same = (txn-code m).only a b r s fit less e in (ap thing.Txn same.0, same.1)
only-thing m (thing.Price a) (thing.Price b) r s kinds fit less e =
    let same = price-code.only a b r s fit less e in (ap thing.Price same.0, same.1)
only-thing m (thing.Schedule a) (thing.Schedule b) r s kinds fit less e =
    let same = (schedule-code m).only a b r s fit less e in (ap thing.Schedule same.0, same.1)
only-thing m (thing.Held a) (thing.Held b) r s kinds fit less e =
    let same = held-code.only a b r s fit less e in (ap thing.Held same.0, same.1)
only-thing m (thing.Line a) (thing.Line b) r s kinds fit less e =
    let same = line-code.only a b r s fit less e in (ap thing.Line same.0, same.1)
only-thing m (thing.Binding a) (thing.Binding b) r s kinds fit less e =
    let same = binding-code.only a b r s fit less e in (ap thing.Binding same.0, same.1)
only-thing m (thing.Recon a) (thing.Recon b) r s kinds fit less e =
    let same = recon-code.only a b r s fit less e in (ap thing.Recon same.0, same.1)
only-thing m a b r s kinds fit less e = absurd (omega (arith, kinds))

-- The lists of edits at one depth less are spelled apart.
abbrev AreLess : RowFormat → ℕ → Type 0
AreLess m most = (less : ℕ) → most ≡ less + 1 → IsCode (IsEditWithin m less) (edit_bytes m)

only-list :
    (m : RowFormat) (most : ℕ) (a b : Edit) (bytes r s : List ℕ) → AreLess m most → HasParts m most a bytes r → HasParts m most b bytes s
    → (a ≡ b) × (r ≡ s)
only-list m most a b bytes r s codes one other =
    let deep = one.deep in
    let less : ℕ = most - 1 in
    let is : most ≡ less + 1 = omega (arith, deep) in
    let size = number-code.only (length one.list.parts) (length other.list.parts)
    (flat_map (edit_bytes m) one.list.parts ++ r) (flat_map (edit_bytes m) other.list.parts ++ s) one.few other.few
    (sym one.list.spelled ∙ other.list.spelled) in
    let same = only-items (IsEditWithin m less) (edit_bytes m) (codes less is) one.list.parts other.list.parts r s size.0
    (one.within less is) (other.within less is) size.1 in
    (one.list.is ∙ ap All same.0 ∙ sym other.list.is, same.1)

only-put :
    (m : RowFormat) (n : ℕ) (a : Thing) (b : Edit) (bytes r s : List ℕ) → IsNumber n → IsThing m a → HasValues m b
    → bytes ≡ row_kind (thing_kind_of a) ∷ number n ++ (thing_bytes m a ++ r) → IsPut m b bytes s → (Put n a ≡ b) × (r ≡ s)
only-put m n a b bytes r s few fit fits spelled put =
    let less = subst (HasValues m) put.is fits in
    let both = sym spelled ∙ put.spelled in
    let size = number-code.only n put.it (thing_bytes m a ++ r) (thing_bytes m put.thing ++ s) few less.0
    (behind _ _ _ _ both) in
    let same = only-thing m a put.thing r s (first-byte _ _ _ _ both) fit less.1 size.1 in
    (ap (λ (k : ℕ). Put k a) size.0 ∙ ap (λ (x : Thing). Put put.it x) same.0 ∙ sym put.is, same.1)

only-gone :
    (m : RowFormat) (of : ThingKind) (n : ℕ) (b : Edit) (bytes r s : List ℕ) → IsNumber n → HasValues m b
    → bytes ≡ row_kind of ∷ number n ++ r → IsGone b bytes s → (Gone of n ≡ b) × (r ≡ s)
only-gone m of n b bytes r s few fits spelled gone =
    let less = subst (HasValues m) gone.is fits in
    let both = sym spelled ∙ gone.spelled in
    let size = number-code.only n gone.it r s few less (behind _ _ _ _ both) in
    let kinds = sym (thing_kind_back of) ∙ ap thing_kind_at (first-byte _ _ _ _ both) ∙ thing_kind_back gone.kind in
    (ap (λ (k : ThingKind). Gone k n) kinds ∙ ap (λ (k : ℕ). Gone gone.kind k) size.0 ∙ sym gone.is, size.1)

only-currency :
    (m : RowFormat) (n : ℕ) (b : Edit) (bytes r s : List ℕ) → IsNumber n → HasValues m b → bytes ≡ number n ++ r
    → IsCurrency b bytes s → (Currency n ≡ b) × (r ≡ s)
only-currency m n b bytes r s few fits spelled currency =
    let less = subst (HasValues m) currency.is fits in
    let size = number-code.only n currency.it r s few less (sym spelled ∙ currency.spelled) in
    (ap Currency size.0 ∙ sym currency.is, size.1)

only-edit :
    (m : RowFormat) (most : ℕ) (a b : Edit) (r s : List ℕ) → AreLess m most → IsEditWithin m most a → IsEditWithin m most b
    → edit_bytes m a ++ r ≡ edit_bytes m b ++ s → (a ≡ b) × (r ≡ s)
unfolding edit_bytes
only-edit m most (Currency n) b r s codes fit less e =
    only-currency m n b (number n ++ r) r s fit.0 less.0 refl (currency_at m b (number n ++ r) s e)
only-edit m most (Put n a) b r s codes fit less e =
    let bytes = row_kind (thing_kind_of a) ∷ (number n ++ thing_bytes m a) ++ r in
    only-put m n a b bytes r s fit.0.0 fit.0.1 less.0
    (ap (λ (l : List ℕ). row_kind (thing_kind_of a) ∷ l) (append_assoc (number n) (thing_bytes m a) r))
    (put_at m b bytes s e)
only-edit m most (Gone of n) b r s codes fit less e =
    let bytes = row_kind of ∷ number n ++ r in
    only-gone m of n b bytes r s fit.0 less.0 refl (gone_at m b bytes s e)
only-edit m most (All' shape parts) b r s codes fit less e =
    let bytes = (number (row_length parts) ++ row_bytes m parts) ++ r in
    only-list m most (All' shape parts) b bytes r s codes (parts_at m most (All' shape parts) bytes r fit refl)
    (parts_at m most b bytes s less e)

edit-code : (m : RowFormat) (most : ℕ) → IsCode (IsEditWithin m most) (edit_bytes m)
edit-code m zero = record {
  only = λ a b r s fit less e.
      only-edit m zero a b r s (λ fewer is. absurd (omega (arith, is))) fit less e;
}
edit-code m (suc most) = record {
  only = λ a b r s fit less e.
      only-edit m (suc most) a b r s
      (λ fewer is.
      let same : most ≡ fewer = omega (arith, is) in
      subst (λ (n : ℕ). IsCode (IsEditWithin m n) (edit_bytes m)) same (edit-code m most)) fit less e;
}

-- ---- rows

-- Records of one kind.
only-fields :
    (m : RowFormat) (a b : Record) → kind_of a ≡ kind_of b → IsRecord m a → IsRecord m b → fields_of m a ≡ fields_of m b → a ≡ b
only-fields m (record_of.Head a) (record_of.Head b) kinds fit less e =
    ap record_of.Head (whole-code head-code a b fit.0 less.0 e)
only-fields m (record_of.Thing a) (record_of.Thing b) kinds fit less e =
    ap record_of.Thing (only-thing m a b [] [] kinds fit less (ap (λ (l : List ℕ). l ++ []) e)).0
only-fields m (record_of.Back a) (record_of.Back b) kinds fit less e =
    ap record_of.Back (whole-code (edit-code m 8) a b fit less e)
only-fields m (record_of.Forth a) (record_of.Forth b) kinds fit less e =
    ap record_of.Forth (whole-code (edit-code m 8) a b fit less e)
only-fields m (record_of.Thing a) (record_of.Head b) kinds fit less e =
    let least = kind_least (thing_kind_of a) in absurd (omega (arith, kinds, least))
only-fields m (record_of.Head a) (record_of.Thing b) kinds fit less e =
    let least = kind_least (thing_kind_of b) in absurd (omega (arith, kinds, least))
only-fields m (record_of.Thing a) (record_of.Back b) kinds fit less e =
    let most = kind_most (thing_kind_of a) in absurd (omega (arith, kinds, most))
only-fields m (record_of.Back a) (record_of.Thing b) kinds fit less e =
    let most = kind_most (thing_kind_of b) in absurd (omega (arith, kinds, most))
only-fields m (record_of.Thing a) (record_of.Forth b) kinds fit less e =
    let most = kind_most (thing_kind_of a) in absurd (omega (arith, kinds, most))
only-fields m (record_of.Forth a) (record_of.Thing b) kinds fit less e =
    let most = kind_most (thing_kind_of b) in absurd (omega (arith, kinds, most))
only-fields m a b kinds fit less e = absurd (omega (arith, kinds))

-- A row stands for one record at most.
pub only-record :
    (m : RowFormat) (key : RowKey) (body : List ℕ) (a b : Record) → StandsFor m key body a → StandsFor m key body b → a ≡ b
only-record m key body a b one other =
    only-fields m a b (one.0.0 ∙ sym other.0.0) one.1 other.1 (behind _ _ _ _ (sym one.2 ∙ other.2))
