-- The edits of the commands are exact for a sound book: each leaf may be applied, and changes what stands at its key.
use Rattle.std.proofs.Common.{◌≡◌, ◌≢◌, ℕ, Bool, false, if◌then◌else◌, [], ◌∷◌, Option, Some, None, is_none}
use Rattle.std.proofs.Common.{option_map, refl, sym, ap, ◌∙◌, true, arith}
use Rattle.std.proofs.lemmas.Bool.Decides.{nat_tests}
use Rattle.book_commodity.specs.Table.{value_of}
use Rattle.book_commodity.specs.declared.commodity.Commodity.{Commodity}
use Rattle.book_commodity.proofs.DrawnLemmas.{drawn_free}
use Rattle.book_accounts.specs.declared.account.Account.{Account}
use Rattle.book_splits.specs.declared.transaction.Txn.{Txn}
use Rattle.book_prices.specs.declared.price.Price.{Price}
use Rattle.book_undo.specs.Book.{Book, thing_at, with_thing, without_thing}
use Rattle.book_undo.specs.Edit.{OfGone, OfPut, edited, together}
use Rattle.book_undo.specs.EditRules.{first_missing}
use Rattle.book_undo.specs.Exact.{IsExact}
use Rattle.book_undo.specs.declared.rule.EditRule.TheVariants.{Missing}
use Rattle.book_undo.specs.declared.edit.Edit.{Currency, Gone, Put}
use Rattle.book_undo.specs.declared.thing.Thing.TheVariants as thing
use Rattle.book_undo.specs.declared.thing.ThingKind.TheVariants as kind
use Rattle.book_undo.proofs.ExactLaws.{exact_currency, exact_gone, exact_put}
use Rattle.book_sound.specs.Dismissal.{dismissing}
use Rattle.book_sound.proofs.DismissalEdits.{dismissing_leads}
use Rattle.book_sound.proofs.DismissalExact.{edited_together, exact_together}
use Rattle.book_sound.proofs.SoundFacts.{tables_rise}
use Rattle.book_command.specs.declared.command.GivenAccount.{GivenAccount}
use Rattle.book_step.specs.Accounts.{stays, with_given}
use Rattle.book_step.specs.Editing.{book_with, book_without}
use Rattle.book_step.specs.Prices.{has_numbers}
use Rattle.book_step.specs.SameTransaction.{same_transaction}
use Rattle.book_step.specs.Soundness.{IsSound}
use Rattle.book_step.specs.State.{State}

-- ---- a leaf alone

mapped_there : (found : Option Price) → is_none found ≡ false → is_none (option_map (λ p. thing.Price p) found) ≡ false
mapped_there None there = there
mapped_there (Some p) there = refl

none_some : {X Y : Type 0} (of : X → Y) (found : Option X) (y : Y) → found ≡ None → option_map of found ≢ Some y
none_some of None y none same = absurd cc
none_some of (Some x) y none same = absurd cc

-- what stands under the next number is new
pub new_commodity :
    (state : State) (commodity : Commodity) → IsSound state
    → IsExact state.book (Put state.next (thing.Commodity commodity))
new_commodity state commodity is =
    let free = drawn_free state.next state.book.commodities is.drawn.commodities in
    exact_put state.book state.next (thing.Commodity commodity) (tables_rise state.book is.book)
    (none_some (λ c. thing.Commodity c) (value_of state.next state.book.commodities) (thing.Commodity commodity) free)

pub new_account :
    (state : State) (account : Account) → IsSound state
    → IsExact state.book (Put state.next (thing.Account account))
new_account state account is =
    let free = drawn_free state.next state.book.accounts is.drawn.accounts in
    exact_put state.book state.next (thing.Account account) (tables_rise state.book is.book)
    (none_some (λ a. thing.Account a) (value_of state.next state.book.accounts) (thing.Account account) free)

pub new_price :
    (state : State) (price : Price) → IsSound state → IsExact state.book (Put state.next (thing.Price price))
new_price state price is =
    let free = drawn_free state.next state.book.prices is.drawn.prices in
    exact_put state.book state.next (thing.Price price) (tables_rise state.book is.book)
    (none_some (λ p. thing.Price p) (value_of state.next state.book.prices) (thing.Price price) free)

pub new_put :
    (state : State) (transaction : Txn) → IsSound state
    → IsExact state.book (Put state.next (thing.Txn transaction))
new_put state transaction is =
    let free = drawn_free state.next state.book.transactions is.drawn.transactions in
    exact_put state.book state.next (thing.Txn transaction) (tables_rise state.book is.book)
    (none_some (λ t. thing.Txn t) (value_of state.next state.book.transactions) (thing.Txn transaction) free)

-- another currency, and another account in the place of one
pub other_currency :
    (state : State) (commodity : ℕ) → IsSound state → commodity ≢ state.book.currency
    → IsExact state.book (Currency commodity)
other_currency state commodity is other = exact_currency state.book commodity (tables_rise state.book is.book) other

one_account : (old new : Account) → Some (thing.Account old) ≡ Some (thing.Account new) → new ≡ old
one_account old new same = cc

pub other_account :
    (state : State) (n : ℕ) (given : GivenAccount) (old : Account) → IsSound state
    → value_of n state.book.accounts ≡ Some old → (stays old given).is ≡ false
    → IsExact state.book (Put n (thing.Account (with_given old given)))
other_account state n given old is there differs =
    let new = with_given old given in
    exact_put state.book n (thing.Account new) (tables_rise state.book is.book)
    (λ same.
    let one = one_account old new (sym (ap (option_map (λ (a : Account). thing.Account a)) there) ∙ same) in
    absurd (let same_fields = (stays old given).decides.1 one in cc))

one_price : (old new : Price) → Some (thing.Price old) ≡ Some (thing.Price new) → new ≡ old
one_price old new same = cc

pub other_price :
    (state : State) (n : ℕ) (old new : Price) → IsSound state → value_of n state.book.prices ≡ Some old
    → has_numbers old new ≡ false → IsExact state.book (Put n (thing.Price new))
other_price state n old new is there differs =
    exact_put state.book n (thing.Price new) (tables_rise state.book is.book)
    (λ same.
    let one = one_price old new (sym (ap (option_map (λ (p : Price). thing.Price p)) there) ∙ same) in
    let num = ap (λ (p : Price). p.num) one in
    let denom = ap (λ (p : Price). p.denom) one in
    let equal : has_numbers old new ≡ true = grind (arith, nat_tests, num, denom) in
    absurd (let no = sym equal ∙ differs in cc))

pub price_gone :
    (state : State) (n : ℕ) → IsSound state → is_none (value_of n state.book.prices) ≡ false
    → IsExact state.book (Gone kind.Price n)
price_gone state n is there =
    exact_gone state.book kind.Price n (tables_rise state.book is.book)
    (mapped_there (value_of n state.book.prices) there)

pub account_gone :
    (state : State) (n : ℕ) (old : Account) → IsSound state → value_of n state.book.accounts ≡ Some old
    → IsExact state.book (Gone kind.Account n)
account_gone state n old is there =
    exact_gone state.book kind.Account n (tables_rise state.book is.book)
    (ap (λ (found : Option Account). is_none (option_map (λ a. thing.Account a) found)) there)

-- ---- a transaction, with the lines that lose its splits

one_transaction : (old new : Txn) → Some (thing.Txn old) ≡ Some (thing.Txn new) → new ≡ old
one_transaction old new same = cc

pub other_transaction :
    (state : State) (n : ℕ) (old new : Txn) → IsSound state → value_of n state.book.transactions ≡ Some old
    → (same_transaction new old).is ≡ false
    → IsExact state.book
    (together (Put n (thing.Txn new)) (dismissing old.splits new.splits state.book.lines))
other_transaction state n old new is there differs =
    exact_together state.book (Put n (thing.Txn new)) (OfPut n (thing.Txn new)) old.splits new.splits
    (tables_rise state.book is.book)
    (record {
      one = refl;
      shallow = refl;
      there = refl;
      above = refl;
      below = refl;
      changes = λ same.
          let one = one_transaction old new (sym (ap (option_map (λ (t : Txn). thing.Txn t)) there) ∙ same) in
          absurd (let equal = (same_transaction new old).decides.1 one in cc);
    })

there_first :
    (book : Book) (n : ℕ) → is_none (thing_at kind.Txn n book) ≡ false
    → first_missing book (OfGone kind.Txn n ∷ []) ≡ None
there_first book n there =
    ap (λ (b : Bool). if b then Some (Missing kind.Txn n) else None) there

pub transaction_gone :
    (state : State) (n : ℕ) (old : Txn) → IsSound state → value_of n state.book.transactions ≡ Some old
    → IsExact state.book (together (Gone kind.Txn n) (dismissing old.splits [] state.book.lines))
transaction_gone state n old is there =
    let here = ap (λ (found : Option Txn). is_none (option_map (λ t. thing.Txn t) found)) there in
    exact_together state.book (Gone kind.Txn n) (OfGone kind.Txn n) old.splits [] (tables_rise state.book is.book)
    (record {
      one = refl;
      shallow = refl;
      there = there_first state.book n here;
      above = refl;
      below = refl;
      changes = tt;
    })

-- the books that these edits lead to
pub leads_with :
    (state : State) (n : ℕ) (old new : Txn) → IsSound state
    → edited (together (Put n (thing.Txn new)) (dismissing old.splits new.splits state.book.lines)) state.book
    ≡ book_with state.book n old new
leads_with state n old new is =
    let put = with_thing n (thing.Txn new) state.book in
    edited_together (Put n (thing.Txn new)) (dismissing old.splits new.splits state.book.lines) state.book
    ∙ dismissing_leads old.splits new.splits put is.book.lines.rise

pub leads_without :
    (state : State) (n : ℕ) (old : Txn) → IsSound state
    → edited (together (Gone kind.Txn n) (dismissing old.splits [] state.book.lines)) state.book
    ≡ book_without state.book n old
leads_without state n old is =
    let left = without_thing kind.Txn n state.book in
    edited_together (Gone kind.Txn n) (dismissing old.splits [] state.book.lines) state.book
    ∙ dismissing_leads old.splits [] left is.book.lines.rise
