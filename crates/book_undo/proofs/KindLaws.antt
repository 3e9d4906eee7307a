-- The kinds of things by their numbers, and the leaf that restores what stands under a number.
use Rattle.std.proofs.Common.{◌≡◌, ℕ, ◌==◌, false, List, [], ◌∷◌, get_or, Option, Some, None, option_map, refl}
use Rattle.std.proofs.Common.{sym, ap, ◌∙◌}
use Rattle.book_commodity.specs.Table.{value_of}
use Rattle.book_undo.specs.Book.{Book, thing_at}
use Rattle.book_undo.specs.Edit.{key_at, key_of}
use Rattle.book_undo.specs.Inverse.{leaf_restoring}
use Rattle.book_undo.specs.Thing.{kind_of, row_kind}
use Rattle.book_undo.specs.declared.thing.Thing.{Thing}
use Rattle.book_undo.specs.declared.thing.Thing.TheVariants as thing
use Rattle.book_undo.specs.declared.thing.ThingKind.{ThingKind}
use Rattle.book_undo.specs.declared.thing.ThingKind.TheVariants as kind

kinds : List ThingKind
kinds =
    kind.Commodity ∷ kind.Commodity ∷ kind.Commodity ∷ kind.Account ∷ kind.Txn ∷ kind.Price
    ∷ kind.Schedule ∷ kind.Held ∷ kind.Line ∷ kind.Binding ∷ kind.Recon ∷ []

kind_back : (k : ThingKind) → get_or kinds (row_kind k) kind.Commodity ≡ k
unfolding kinds
kind_back kind.Commodity = refl
kind_back kind.Account = refl
kind_back kind.Txn = refl
kind_back kind.Price = refl
kind_back kind.Schedule = refl
kind_back kind.Held = refl
kind_back kind.Line = refl
kind_back kind.Binding = refl
kind_back kind.Recon = refl

pub same_kinds : (k j : ThingKind) → row_kind k ≡ row_kind j → k ≡ j
same_kinds k j e = sym (kind_back k) ∙ ap (λ (n : ℕ). get_or kinds n kind.Commodity) e ∙ kind_back j

-- no kind has the number of the book's head
pub no_head : (k : ThingKind) → (row_kind k == 1) ≡ false
no_head kind.Commodity = refl
no_head kind.Account = refl
no_head kind.Txn = refl
no_head kind.Price = refl
no_head kind.Schedule = refl
no_head kind.Held = refl
no_head kind.Line = refl
no_head kind.Binding = refl
no_head kind.Recon = refl

-- ---- the leaf that restores a number has its key
restoring-here : {T : Type 0} (of : T → Thing) (k : ThingKind) (n : ℕ) (o : Option T) → ((x : T) → kind_of (of x) ≡ k)
    → key_of (leaf_restoring k n (option_map of o)) ≡ key_at (row_kind k) n
restoring-here of k n None same = refl
restoring-here of k n (Some x) same = ap (λ (j : ThingKind). key_at (row_kind j) n) (same x)

pub key-restoring :
    (k : ThingKind) (n : ℕ) (b : Book)
    → key_of (leaf_restoring k n (thing_at k n b)) ≡ key_at (row_kind k) n
key-restoring kind.Commodity n b =
    restoring-here (λ x. thing.Commodity x) kind.Commodity n (value_of n b.commodities) (λ _. refl)
key-restoring kind.Account n b =
    restoring-here (λ x. thing.Account x) kind.Account n (value_of n b.accounts) (λ _. refl)
key-restoring kind.Txn n b =
    restoring-here (λ x. thing.Txn x) kind.Txn n (value_of n b.transactions) (λ _. refl)
key-restoring kind.Price n b =
    restoring-here (λ x. thing.Price x) kind.Price n (value_of n b.prices) (λ _. refl)
key-restoring kind.Schedule n b =
    restoring-here (λ x. thing.Schedule x) kind.Schedule n (value_of n b.schedules) (λ _. refl)
key-restoring kind.Held n b =
    restoring-here (λ x. thing.Held x) kind.Held n (value_of n b.statements) (λ _. refl)
key-restoring kind.Line n b =
    restoring-here (λ x. thing.Line x) kind.Line n (value_of n b.lines) (λ _. refl)
key-restoring kind.Binding n b =
    restoring-here (λ x. thing.Binding x) kind.Binding n (value_of n b.bindings) (λ _. refl)
key-restoring kind.Recon n b =
    restoring-here (λ x. thing.Recon x) kind.Recon n (value_of n b.reconciliations) (λ _. refl)
