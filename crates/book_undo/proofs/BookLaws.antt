-- What stands under a number after a thing is put or deleted, for each kind of things; and that a book is known by its
-- things and its currency.
use Rattle.std.proofs.Common.{◌≡◌, ℕ, eqb, Bool, true, false, ◌&&◌, if◌then◌else◌, List, Option, Some, None}
use Rattle.std.proofs.Common.{option_map, refl, ap, ◌∙◌, ◌==◌}
use Rattle.book_commodity.specs.Table.{Rises, value_of, with_entry, without_entry}
use Rattle.book_commodity.proofs.TableLemmas.{value_of_with, value_of_without, rises_with, rises_without, same_entries}
use Rattle.book_undo.specs.Book.{Book, IsRising, thing_at, with_currency, with_thing, without_thing}
use Rattle.book_undo.specs.Thing.{kind_of, row_kind, same_kind}
use Rattle.book_commodity.specs.declared.commodity.Commodity.{Commodity}
use Rattle.book_accounts.specs.declared.account.Account.{Account}
use Rattle.book_splits.specs.declared.transaction.Txn.{Txn}
use Rattle.book_prices.specs.declared.price.Price.{Price}
use Rattle.book_undo.specs.declared.schedule.Schedule.{Schedule}
use Rattle.book_statement.specs.declared.held.Held.{Held}
use Rattle.book_statement.specs.declared.line.Line.{Line}
use Rattle.book_statement.specs.declared.binding.Binding.{Binding}
use Rattle.book_splits.specs.declared.reconciliation.Recon.{Recon}
use Rattle.book_undo.specs.declared.thing.Thing.{Thing}
use Rattle.book_undo.specs.declared.thing.Thing.TheVariants as thing
use Rattle.book_undo.specs.declared.thing.ThingKind.{ThingKind}
use Rattle.book_undo.specs.declared.thing.ThingKind.TheVariants as kind

-- Whether a kind with a number is the other kind with the other number.
abbrev pub is_key : ThingKind → ℕ → ThingKind → ℕ → Bool
is_key k m j n = same_kind k j && eqb m n

put-here : {T : Type 0} (of : T → Thing) (m n : ℕ) (v : T) (es : List (ℕ × T))
    → option_map of (value_of m (with_entry n v es))
    ≡ (if eqb m n then Some (of v) else option_map of (value_of m es))
put-here {T} of m n v es =
    let P : Bool → Type 0 = λ t. option_map of (if t then Some v else value_of m es)
    ≡ (if t then Some (of v) else option_map of (value_of m es)) in
    ap (λ (o : Option T). option_map of o) (value_of_with m n v es)
    ∙ elim (eqb m n) as P [ true ↦ refl | false ↦ refl ]

gone-here : {T : Type 0} (of : T → Thing) (m n : ℕ) (es : List (ℕ × T)) → Rises es
    → option_map of (value_of m (without_entry n es)) ≡ (if eqb m n then None else option_map of (value_of m es))
gone-here {T} of m n es r =
    let P : Bool → Type 0 = λ t. option_map of (if t then None else value_of m es)
    ≡ (if t then None else option_map of (value_of m es)) in
    ap (λ (o : Option T). option_map of o) (value_of_without m n es r)
    ∙ elim (eqb m n) as P [ true ↦ refl | false ↦ refl ]

-- A thing that is put stands under its number; all else stands as it did.
pub thing_at-with_thing : (k : ThingKind) (m n : ℕ) (t : Thing) (b : Book)
    → thing_at k m (with_thing n t b) ≡ (if is_key k m (kind_of t) n then Some t else thing_at k m b)
thing_at-with_thing kind.Commodity m n (thing.Commodity x) b =
    put-here (λ y. thing.Commodity y) m n x b.commodities
thing_at-with_thing kind.Commodity m n (thing.Account x) b = refl
thing_at-with_thing kind.Commodity m n (thing.Txn x) b = refl
thing_at-with_thing kind.Commodity m n (thing.Price x) b = refl
thing_at-with_thing kind.Commodity m n (thing.Schedule x) b = refl
thing_at-with_thing kind.Commodity m n (thing.Held x) b = refl
thing_at-with_thing kind.Commodity m n (thing.Line x) b = refl
thing_at-with_thing kind.Commodity m n (thing.Binding x) b = refl
thing_at-with_thing kind.Commodity m n (thing.Recon x) b = refl
thing_at-with_thing kind.Account m n (thing.Commodity x) b = refl
thing_at-with_thing kind.Account m n (thing.Account x) b =
    put-here (λ y. thing.Account y) m n x b.accounts
thing_at-with_thing kind.Account m n (thing.Txn x) b = refl
thing_at-with_thing kind.Account m n (thing.Price x) b = refl
thing_at-with_thing kind.Account m n (thing.Schedule x) b = refl
thing_at-with_thing kind.Account m n (thing.Held x) b = refl
thing_at-with_thing kind.Account m n (thing.Line x) b = refl
thing_at-with_thing kind.Account m n (thing.Binding x) b = refl
thing_at-with_thing kind.Account m n (thing.Recon x) b = refl
thing_at-with_thing kind.Txn m n (thing.Commodity x) b = refl
thing_at-with_thing kind.Txn m n (thing.Account x) b = refl
thing_at-with_thing kind.Txn m n (thing.Txn x) b =
    put-here (λ y. thing.Txn y) m n x b.transactions
thing_at-with_thing kind.Txn m n (thing.Price x) b = refl
thing_at-with_thing kind.Txn m n (thing.Schedule x) b = refl
thing_at-with_thing kind.Txn m n (thing.Held x) b = refl
thing_at-with_thing kind.Txn m n (thing.Line x) b = refl
thing_at-with_thing kind.Txn m n (thing.Binding x) b = refl
thing_at-with_thing kind.Txn m n (thing.Recon x) b = refl
thing_at-with_thing kind.Price m n (thing.Commodity x) b = refl
thing_at-with_thing kind.Price m n (thing.Account x) b = refl
thing_at-with_thing kind.Price m n (thing.Txn x) b = refl
thing_at-with_thing kind.Price m n (thing.Price x) b =
    put-here (λ y. thing.Price y) m n x b.prices
thing_at-with_thing kind.Price m n (thing.Schedule x) b = refl
thing_at-with_thing kind.Price m n (thing.Held x) b = refl
thing_at-with_thing kind.Price m n (thing.Line x) b = refl
thing_at-with_thing kind.Price m n (thing.Binding x) b = refl
thing_at-with_thing kind.Price m n (thing.Recon x) b = refl
thing_at-with_thing kind.Schedule m n (thing.Commodity x) b = refl
thing_at-with_thing kind.Schedule m n (thing.Account x) b = refl
thing_at-with_thing kind.Schedule m n (thing.Txn x) b = refl
thing_at-with_thing kind.Schedule m n (thing.Price x) b = refl
thing_at-with_thing kind.Schedule m n (thing.Schedule x) b =
    put-here (λ y. thing.Schedule y) m n x b.schedules
thing_at-with_thing kind.Schedule m n (thing.Held x) b = refl
thing_at-with_thing kind.Schedule m n (thing.Line x) b = refl
thing_at-with_thing kind.Schedule m n (thing.Binding x) b = refl
thing_at-with_thing kind.Schedule m n (thing.Recon x) b = refl
thing_at-with_thing kind.Held m n (thing.Commodity x) b = refl
thing_at-with_thing kind.Held m n (thing.Account x) b = refl
thing_at-with_thing kind.Held m n (thing.Txn x) b = refl
thing_at-with_thing kind.Held m n (thing.Price x) b = refl
thing_at-with_thing kind.Held m n (thing.Schedule x) b = refl
thing_at-with_thing kind.Held m n (thing.Held x) b =
    put-here (λ y. thing.Held y) m n x b.statements
thing_at-with_thing kind.Held m n (thing.Line x) b = refl
thing_at-with_thing kind.Held m n (thing.Binding x) b = refl
thing_at-with_thing kind.Held m n (thing.Recon x) b = refl
thing_at-with_thing kind.Line m n (thing.Commodity x) b = refl
thing_at-with_thing kind.Line m n (thing.Account x) b = refl
thing_at-with_thing kind.Line m n (thing.Txn x) b = refl
thing_at-with_thing kind.Line m n (thing.Price x) b = refl
thing_at-with_thing kind.Line m n (thing.Schedule x) b = refl
thing_at-with_thing kind.Line m n (thing.Held x) b = refl
thing_at-with_thing kind.Line m n (thing.Line x) b =
    put-here (λ y. thing.Line y) m n x b.lines
thing_at-with_thing kind.Line m n (thing.Binding x) b = refl
thing_at-with_thing kind.Line m n (thing.Recon x) b = refl
thing_at-with_thing kind.Binding m n (thing.Commodity x) b = refl
thing_at-with_thing kind.Binding m n (thing.Account x) b = refl
thing_at-with_thing kind.Binding m n (thing.Txn x) b = refl
thing_at-with_thing kind.Binding m n (thing.Price x) b = refl
thing_at-with_thing kind.Binding m n (thing.Schedule x) b = refl
thing_at-with_thing kind.Binding m n (thing.Held x) b = refl
thing_at-with_thing kind.Binding m n (thing.Line x) b = refl
thing_at-with_thing kind.Binding m n (thing.Binding x) b =
    put-here (λ y. thing.Binding y) m n x b.bindings
thing_at-with_thing kind.Binding m n (thing.Recon x) b = refl
thing_at-with_thing kind.Recon m n (thing.Commodity x) b = refl
thing_at-with_thing kind.Recon m n (thing.Account x) b = refl
thing_at-with_thing kind.Recon m n (thing.Txn x) b = refl
thing_at-with_thing kind.Recon m n (thing.Price x) b = refl
thing_at-with_thing kind.Recon m n (thing.Schedule x) b = refl
thing_at-with_thing kind.Recon m n (thing.Held x) b = refl
thing_at-with_thing kind.Recon m n (thing.Line x) b = refl
thing_at-with_thing kind.Recon m n (thing.Binding x) b = refl
thing_at-with_thing kind.Recon m n (thing.Recon x) b =
    put-here (λ y. thing.Recon y) m n x b.reconciliations

-- Where a thing is deleted nothing stands; all else stands as it did.
pub thing_at-without_thing : (k : ThingKind) (m : ℕ) (j : ThingKind) (n : ℕ) (b : Book) → IsRising b
    → thing_at k m (without_thing j n b) ≡ (if is_key k m j n then None else thing_at k m b)
thing_at-without_thing kind.Commodity m kind.Commodity n b r =
    gone-here (λ y. thing.Commodity y) m n b.commodities r.commodities
thing_at-without_thing kind.Commodity m kind.Account n b r = refl
thing_at-without_thing kind.Commodity m kind.Txn n b r = refl
thing_at-without_thing kind.Commodity m kind.Price n b r = refl
thing_at-without_thing kind.Commodity m kind.Schedule n b r = refl
thing_at-without_thing kind.Commodity m kind.Held n b r = refl
thing_at-without_thing kind.Commodity m kind.Line n b r = refl
thing_at-without_thing kind.Commodity m kind.Binding n b r = refl
thing_at-without_thing kind.Commodity m kind.Recon n b r = refl
thing_at-without_thing kind.Account m kind.Commodity n b r = refl
thing_at-without_thing kind.Account m kind.Account n b r =
    gone-here (λ y. thing.Account y) m n b.accounts r.accounts
thing_at-without_thing kind.Account m kind.Txn n b r = refl
thing_at-without_thing kind.Account m kind.Price n b r = refl
thing_at-without_thing kind.Account m kind.Schedule n b r = refl
thing_at-without_thing kind.Account m kind.Held n b r = refl
thing_at-without_thing kind.Account m kind.Line n b r = refl
thing_at-without_thing kind.Account m kind.Binding n b r = refl
thing_at-without_thing kind.Account m kind.Recon n b r = refl
thing_at-without_thing kind.Txn m kind.Commodity n b r = refl
thing_at-without_thing kind.Txn m kind.Account n b r = refl
thing_at-without_thing kind.Txn m kind.Txn n b r =
    gone-here (λ y. thing.Txn y) m n b.transactions r.transactions
thing_at-without_thing kind.Txn m kind.Price n b r = refl
thing_at-without_thing kind.Txn m kind.Schedule n b r = refl
thing_at-without_thing kind.Txn m kind.Held n b r = refl
thing_at-without_thing kind.Txn m kind.Line n b r = refl
thing_at-without_thing kind.Txn m kind.Binding n b r = refl
thing_at-without_thing kind.Txn m kind.Recon n b r = refl
thing_at-without_thing kind.Price m kind.Commodity n b r = refl
thing_at-without_thing kind.Price m kind.Account n b r = refl
thing_at-without_thing kind.Price m kind.Txn n b r = refl
thing_at-without_thing kind.Price m kind.Price n b r =
    gone-here (λ y. thing.Price y) m n b.prices r.prices
thing_at-without_thing kind.Price m kind.Schedule n b r = refl
thing_at-without_thing kind.Price m kind.Held n b r = refl
thing_at-without_thing kind.Price m kind.Line n b r = refl
thing_at-without_thing kind.Price m kind.Binding n b r = refl
thing_at-without_thing kind.Price m kind.Recon n b r = refl
thing_at-without_thing kind.Schedule m kind.Commodity n b r = refl
thing_at-without_thing kind.Schedule m kind.Account n b r = refl
thing_at-without_thing kind.Schedule m kind.Txn n b r = refl
thing_at-without_thing kind.Schedule m kind.Price n b r = refl
thing_at-without_thing kind.Schedule m kind.Schedule n b r =
    gone-here (λ y. thing.Schedule y) m n b.schedules r.schedules
thing_at-without_thing kind.Schedule m kind.Held n b r = refl
thing_at-without_thing kind.Schedule m kind.Line n b r = refl
thing_at-without_thing kind.Schedule m kind.Binding n b r = refl
thing_at-without_thing kind.Schedule m kind.Recon n b r = refl
thing_at-without_thing kind.Held m kind.Commodity n b r = refl
thing_at-without_thing kind.Held m kind.Account n b r = refl
thing_at-without_thing kind.Held m kind.Txn n b r = refl
thing_at-without_thing kind.Held m kind.Price n b r = refl
thing_at-without_thing kind.Held m kind.Schedule n b r = refl
thing_at-without_thing kind.Held m kind.Held n b r =
    gone-here (λ y. thing.Held y) m n b.statements r.statements
thing_at-without_thing kind.Held m kind.Line n b r = refl
thing_at-without_thing kind.Held m kind.Binding n b r = refl
thing_at-without_thing kind.Held m kind.Recon n b r = refl
thing_at-without_thing kind.Line m kind.Commodity n b r = refl
thing_at-without_thing kind.Line m kind.Account n b r = refl
thing_at-without_thing kind.Line m kind.Txn n b r = refl
thing_at-without_thing kind.Line m kind.Price n b r = refl
thing_at-without_thing kind.Line m kind.Schedule n b r = refl
thing_at-without_thing kind.Line m kind.Held n b r = refl
thing_at-without_thing kind.Line m kind.Line n b r =
    gone-here (λ y. thing.Line y) m n b.lines r.lines
thing_at-without_thing kind.Line m kind.Binding n b r = refl
thing_at-without_thing kind.Line m kind.Recon n b r = refl
thing_at-without_thing kind.Binding m kind.Commodity n b r = refl
thing_at-without_thing kind.Binding m kind.Account n b r = refl
thing_at-without_thing kind.Binding m kind.Txn n b r = refl
thing_at-without_thing kind.Binding m kind.Price n b r = refl
thing_at-without_thing kind.Binding m kind.Schedule n b r = refl
thing_at-without_thing kind.Binding m kind.Held n b r = refl
thing_at-without_thing kind.Binding m kind.Line n b r = refl
thing_at-without_thing kind.Binding m kind.Binding n b r =
    gone-here (λ y. thing.Binding y) m n b.bindings r.bindings
thing_at-without_thing kind.Binding m kind.Recon n b r = refl
thing_at-without_thing kind.Recon m kind.Commodity n b r = refl
thing_at-without_thing kind.Recon m kind.Account n b r = refl
thing_at-without_thing kind.Recon m kind.Txn n b r = refl
thing_at-without_thing kind.Recon m kind.Price n b r = refl
thing_at-without_thing kind.Recon m kind.Schedule n b r = refl
thing_at-without_thing kind.Recon m kind.Held n b r = refl
thing_at-without_thing kind.Recon m kind.Line n b r = refl
thing_at-without_thing kind.Recon m kind.Binding n b r = refl
thing_at-without_thing kind.Recon m kind.Recon n b r =
    gone-here (λ y. thing.Recon y) m n b.reconciliations r.reconciliations

-- The numbers still rise after a thing is put or deleted.
pub rising-with : (n : ℕ) (t : Thing) (b : Book) → IsRising b → IsRising (with_thing n t b)
rising-with n (thing.Commodity x) b r = record {
  commodities = rises_with n x b.commodities r.commodities;
  accounts = r.accounts;
  transactions = r.transactions;
  prices = r.prices;
  schedules = r.schedules;
  statements = r.statements;
  lines = r.lines;
  bindings = r.bindings;
  reconciliations = r.reconciliations;
}
rising-with n (thing.Account x) b r = record {
  commodities = r.commodities;
  accounts = rises_with n x b.accounts r.accounts;
  transactions = r.transactions;
  prices = r.prices;
  schedules = r.schedules;
  statements = r.statements;
  lines = r.lines;
  bindings = r.bindings;
  reconciliations = r.reconciliations;
}
rising-with n (thing.Txn x) b r = record {
  commodities = r.commodities;
  accounts = r.accounts;
  transactions = rises_with n x b.transactions r.transactions;
  prices = r.prices;
  schedules = r.schedules;
  statements = r.statements;
  lines = r.lines;
  bindings = r.bindings;
  reconciliations = r.reconciliations;
}
rising-with n (thing.Price x) b r = record {
  commodities = r.commodities;
  accounts = r.accounts;
  transactions = r.transactions;
  prices = rises_with n x b.prices r.prices;
  schedules = r.schedules;
  statements = r.statements;
  lines = r.lines;
  bindings = r.bindings;
  reconciliations = r.reconciliations;
}
rising-with n (thing.Schedule x) b r = record {
  commodities = r.commodities;
  accounts = r.accounts;
  transactions = r.transactions;
  prices = r.prices;
  schedules = rises_with n x b.schedules r.schedules;
  statements = r.statements;
  lines = r.lines;
  bindings = r.bindings;
  reconciliations = r.reconciliations;
}
rising-with n (thing.Held x) b r = record {
  commodities = r.commodities;
  accounts = r.accounts;
  transactions = r.transactions;
  prices = r.prices;
  schedules = r.schedules;
  statements = rises_with n x b.statements r.statements;
  lines = r.lines;
  bindings = r.bindings;
  reconciliations = r.reconciliations;
}
rising-with n (thing.Line x) b r = record {
  commodities = r.commodities;
  accounts = r.accounts;
  transactions = r.transactions;
  prices = r.prices;
  schedules = r.schedules;
  statements = r.statements;
  lines = rises_with n x b.lines r.lines;
  bindings = r.bindings;
  reconciliations = r.reconciliations;
}
rising-with n (thing.Binding x) b r = record {
  commodities = r.commodities;
  accounts = r.accounts;
  transactions = r.transactions;
  prices = r.prices;
  schedules = r.schedules;
  statements = r.statements;
  lines = r.lines;
  bindings = rises_with n x b.bindings r.bindings;
  reconciliations = r.reconciliations;
}
rising-with n (thing.Recon x) b r = record {
  commodities = r.commodities;
  accounts = r.accounts;
  transactions = r.transactions;
  prices = r.prices;
  schedules = r.schedules;
  statements = r.statements;
  lines = r.lines;
  bindings = r.bindings;
  reconciliations = rises_with n x b.reconciliations r.reconciliations;
}

pub rising-without : (k : ThingKind) (n : ℕ) (b : Book) → IsRising b → IsRising (without_thing k n b)
rising-without kind.Commodity n b r = record {
  commodities = rises_without n b.commodities r.commodities;
  accounts = r.accounts;
  transactions = r.transactions;
  prices = r.prices;
  schedules = r.schedules;
  statements = r.statements;
  lines = r.lines;
  bindings = r.bindings;
  reconciliations = r.reconciliations;
}
rising-without kind.Account n b r = record {
  commodities = r.commodities;
  accounts = rises_without n b.accounts r.accounts;
  transactions = r.transactions;
  prices = r.prices;
  schedules = r.schedules;
  statements = r.statements;
  lines = r.lines;
  bindings = r.bindings;
  reconciliations = r.reconciliations;
}
rising-without kind.Txn n b r = record {
  commodities = r.commodities;
  accounts = r.accounts;
  transactions = rises_without n b.transactions r.transactions;
  prices = r.prices;
  schedules = r.schedules;
  statements = r.statements;
  lines = r.lines;
  bindings = r.bindings;
  reconciliations = r.reconciliations;
}
rising-without kind.Price n b r = record {
  commodities = r.commodities;
  accounts = r.accounts;
  transactions = r.transactions;
  prices = rises_without n b.prices r.prices;
  schedules = r.schedules;
  statements = r.statements;
  lines = r.lines;
  bindings = r.bindings;
  reconciliations = r.reconciliations;
}
rising-without kind.Schedule n b r = record {
  commodities = r.commodities;
  accounts = r.accounts;
  transactions = r.transactions;
  prices = r.prices;
  schedules = rises_without n b.schedules r.schedules;
  statements = r.statements;
  lines = r.lines;
  bindings = r.bindings;
  reconciliations = r.reconciliations;
}
rising-without kind.Held n b r = record {
  commodities = r.commodities;
  accounts = r.accounts;
  transactions = r.transactions;
  prices = r.prices;
  schedules = r.schedules;
  statements = rises_without n b.statements r.statements;
  lines = r.lines;
  bindings = r.bindings;
  reconciliations = r.reconciliations;
}
rising-without kind.Line n b r = record {
  commodities = r.commodities;
  accounts = r.accounts;
  transactions = r.transactions;
  prices = r.prices;
  schedules = r.schedules;
  statements = r.statements;
  lines = rises_without n b.lines r.lines;
  bindings = r.bindings;
  reconciliations = r.reconciliations;
}
rising-without kind.Binding n b r = record {
  commodities = r.commodities;
  accounts = r.accounts;
  transactions = r.transactions;
  prices = r.prices;
  schedules = r.schedules;
  statements = r.statements;
  lines = r.lines;
  bindings = rises_without n b.bindings r.bindings;
  reconciliations = r.reconciliations;
}
rising-without kind.Recon n b r = record {
  commodities = r.commodities;
  accounts = r.accounts;
  transactions = r.transactions;
  prices = r.prices;
  schedules = r.schedules;
  statements = r.statements;
  lines = r.lines;
  bindings = r.bindings;
  reconciliations = rises_without n b.reconciliations r.reconciliations;
}

-- A thing of a kind is made of its value in one way.
value-commodities :
    (o p : Option Commodity) → option_map (λ x. thing.Commodity x) o ≡ option_map (λ x. thing.Commodity x) p
    → o ≡ p
value-commodities None None e = refl
value-commodities None (Some y) e = absurd cc
value-commodities (Some x) None e = absurd cc
value-commodities (Some x) (Some y) e = cc

value-accounts :
    (o p : Option Account) → option_map (λ x. thing.Account x) o ≡ option_map (λ x. thing.Account x) p
    → o ≡ p
value-accounts None None e = refl
value-accounts None (Some y) e = absurd cc
value-accounts (Some x) None e = absurd cc
value-accounts (Some x) (Some y) e = cc

value-transactions :
    (o p : Option Txn) → option_map (λ x. thing.Txn x) o ≡ option_map (λ x. thing.Txn x) p
    → o ≡ p
value-transactions None None e = refl
value-transactions None (Some y) e = absurd cc
value-transactions (Some x) None e = absurd cc
value-transactions (Some x) (Some y) e = cc

value-prices :
    (o p : Option Price) → option_map (λ x. thing.Price x) o ≡ option_map (λ x. thing.Price x) p
    → o ≡ p
value-prices None None e = refl
value-prices None (Some y) e = absurd cc
value-prices (Some x) None e = absurd cc
value-prices (Some x) (Some y) e = cc

value-schedules :
    (o p : Option Schedule) → option_map (λ x. thing.Schedule x) o ≡ option_map (λ x. thing.Schedule x) p
    → o ≡ p
value-schedules None None e = refl
value-schedules None (Some y) e = absurd cc
value-schedules (Some x) None e = absurd cc
value-schedules (Some x) (Some y) e = cc

value-statements :
    (o p : Option Held) → option_map (λ x. thing.Held x) o ≡ option_map (λ x. thing.Held x) p
    → o ≡ p
value-statements None None e = refl
value-statements None (Some y) e = absurd cc
value-statements (Some x) None e = absurd cc
value-statements (Some x) (Some y) e = cc

value-lines :
    (o p : Option Line) → option_map (λ x. thing.Line x) o ≡ option_map (λ x. thing.Line x) p
    → o ≡ p
value-lines None None e = refl
value-lines None (Some y) e = absurd cc
value-lines (Some x) None e = absurd cc
value-lines (Some x) (Some y) e = cc

value-bindings :
    (o p : Option Binding) → option_map (λ x. thing.Binding x) o ≡ option_map (λ x. thing.Binding x) p
    → o ≡ p
value-bindings None None e = refl
value-bindings None (Some y) e = absurd cc
value-bindings (Some x) None e = absurd cc
value-bindings (Some x) (Some y) e = cc

value-reconciliations :
    (o p : Option Recon) → option_map (λ x. thing.Recon x) o ≡ option_map (λ x. thing.Recon x) p
    → o ≡ p
value-reconciliations None None e = refl
value-reconciliations None (Some y) e = absurd cc
value-reconciliations (Some x) None e = absurd cc
value-reconciliations (Some x) (Some y) e = cc

-- The book of these tables and this currency.
pub made :
    List (ℕ × Commodity) → List (ℕ × Account) → List (ℕ × Txn) → List (ℕ × Price)
    → List (ℕ × Schedule) → List (ℕ × Held) → List (ℕ × Line) → List (ℕ × Binding) → List (ℕ × Recon) → ℕ → Book
made cs ac ts ps ss hs ls bs rs currency = record {
  commodities = cs;
  accounts = ac;
  transactions = ts;
  prices = ps;
  schedules = ss;
  statements = hs;
  lines = ls;
  bindings = bs;
  reconciliations = rs;
  currency = currency;
}

-- each book is one
pub made_is :
    (b : Book)
    → made b.commodities b.accounts b.transactions b.prices b.schedules
    b.statements b.lines b.bindings b.reconciliations b.currency
    ≡ b
unfolding made
made_is b = refl

-- Two books with the same things and the same currency are equal.
pub same_book :
    (b c : Book) → IsRising b → IsRising c → b.currency ≡ c.currency
    → ((k : ThingKind) (n : ℕ) → thing_at k n b ≡ thing_at k n c) → b ≡ c
same_book b c r s same things =
    let commodities : b.commodities ≡ c.commodities =
    same_entries b.commodities c.commodities r.commodities s.commodities
    (λ n. value-commodities _ _ (things kind.Commodity n)) in
    let accounts : b.accounts ≡ c.accounts =
    same_entries b.accounts c.accounts r.accounts s.accounts
    (λ n. value-accounts _ _ (things kind.Account n)) in
    let transactions : b.transactions ≡ c.transactions =
    same_entries b.transactions c.transactions r.transactions s.transactions
    (λ n. value-transactions _ _ (things kind.Txn n)) in
    let prices : b.prices ≡ c.prices =
    same_entries b.prices c.prices r.prices s.prices
    (λ n. value-prices _ _ (things kind.Price n)) in
    let schedules : b.schedules ≡ c.schedules =
    same_entries b.schedules c.schedules r.schedules s.schedules
    (λ n. value-schedules _ _ (things kind.Schedule n)) in
    let statements : b.statements ≡ c.statements =
    same_entries b.statements c.statements r.statements s.statements
    (λ n. value-statements _ _ (things kind.Held n)) in
    let lines : b.lines ≡ c.lines =
    same_entries b.lines c.lines r.lines s.lines
    (λ n. value-lines _ _ (things kind.Line n)) in
    let bindings : b.bindings ≡ c.bindings =
    same_entries b.bindings c.bindings r.bindings s.bindings
    (λ n. value-bindings _ _ (things kind.Binding n)) in
    let reconciliations : b.reconciliations ≡ c.reconciliations =
    same_entries b.reconciliations c.reconciliations r.reconciliations s.reconciliations
    (λ n. value-reconciliations _ _ (things kind.Recon n)) in
    let left = made_is b in let right = made_is c in cc

-- ---- the currency and the things
pub thing_at-with_currency : (k : ThingKind) (m c : ℕ) (b : Book)
    → thing_at k m (with_currency c b) ≡ (if (row_kind k == 1) && eqb m 0 then None else thing_at k m b)
thing_at-with_currency kind.Commodity m c b = refl
thing_at-with_currency kind.Account m c b = refl
thing_at-with_currency kind.Txn m c b = refl
thing_at-with_currency kind.Price m c b = refl
thing_at-with_currency kind.Schedule m c b = refl
thing_at-with_currency kind.Held m c b = refl
thing_at-with_currency kind.Line m c b = refl
thing_at-with_currency kind.Binding m c b = refl
thing_at-with_currency kind.Recon m c b = refl

pub currency-with : (n : ℕ) (t : Thing) (b : Book) → (with_thing n t b).currency ≡ b.currency
currency-with n (thing.Commodity x) b = refl
currency-with n (thing.Account x) b = refl
currency-with n (thing.Txn x) b = refl
currency-with n (thing.Price x) b = refl
currency-with n (thing.Schedule x) b = refl
currency-with n (thing.Held x) b = refl
currency-with n (thing.Line x) b = refl
currency-with n (thing.Binding x) b = refl
currency-with n (thing.Recon x) b = refl

pub currency-without : (k : ThingKind) (n : ℕ) (b : Book) → (without_thing k n b).currency ≡ b.currency
currency-without kind.Commodity n b = refl
currency-without kind.Account n b = refl
currency-without kind.Txn n b = refl
currency-without kind.Price n b = refl
currency-without kind.Schedule n b = refl
currency-without kind.Held n b = refl
currency-without kind.Line n b = refl
currency-without kind.Binding n b = refl
currency-without kind.Recon n b = refl
