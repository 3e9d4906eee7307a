-- The edit that leads back from an exact edit is exact too.
use Rattle.std.proofs.Common.{◌≡◌, ℕ, ◌==◌, Bool, false, ◌&&◌, ◌||◌, IsTrue, List, [], ◌∷◌, ◌++◌, map}
use Rattle.std.proofs.Common.{refl, sym, ap, ◌∙◌, subst}
use Rattle.book_undo.specs.Book.{Book, thing_at}
use Rattle.book_undo.specs.Edit.{At, Begins, Ends, Key, Leaf, OfCurrency, OfPut, OfGone, Sign, edited, key_of}
use Rattle.book_undo.specs.Edit.{leaves, leaves_row, outline, outline_row}
use Rattle.book_undo.specs.Exact.{IsExact, any_touches, has_currency}
use Rattle.book_undo.specs.Inverse.{LeadsBack}
use Rattle.book_undo.specs.Thing.{kind_of, row_kind}
use Rattle.book_undo.specs.declared.edit.Edit.{Edit, Currency, Put, Gone, All'}
use Rattle.book_undo.specs.declared.edit.Edit.{Row_of-Edit, end_of-Edit, more_of-Edit}
use Rattle.book_undo.specs.declared.thing.ThingKind.{ThingKind}
use Rattle.book_undo.specs.declared.thing.ThingKind.TheVariants as kind

-- The keys that stand among some signs of a form.
abbrev keys_among : List Sign → List Key
keys_among [] = []
keys_among (Begins ∷ signs) = keys_among signs
keys_among (Ends ∷ signs) = keys_among signs
keys_among (At key ∷ signs) = key ∷ keys_among signs

keys_append : (xs ys : List Sign) → keys_among (xs ++ ys) ≡ keys_among xs ++ keys_among ys
keys_append [] ys = refl
keys_append (Begins ∷ xs) ys = keys_append xs ys
keys_append (Ends ∷ xs) ys = keys_append xs ys
keys_append (At key ∷ xs) ys = ap (λ (keys : List Key). key ∷ keys) (keys_append xs ys)

map_both : (xs ys : List Leaf) → map key_of (xs ++ ys) ≡ map key_of xs ++ map key_of ys
map_both [] ys = refl
map_both (x ∷ xs) ys = ap (λ (keys : List Key). key_of x ∷ keys) (map_both xs ys)

nothing_behind : (keys : List Key) → keys ++ [] ≡ keys
nothing_behind [] = refl
nothing_behind (key ∷ keys) = ap (λ (more : List Key). key ∷ more) (nothing_behind keys)

-- The keys in the form of an edit are those of its leaves.
mutual
  outline_keys : (e : Edit) → keys_among (outline e) ≡ map key_of (leaves e)
  outline_keys (Currency c) = refl
  outline_keys (Put n t) = refl
  outline_keys (Gone k n) = refl
  outline_keys (All' shape row) =
      keys_append (outline_row row) (Ends ∷ []) ∙ nothing_behind (keys_among (outline_row row)) ∙ row_keys _ row

  row_keys : (n : _) (row : Row_of-Edit n) → keys_among (outline_row row) ≡ map key_of (leaves_row row)
  row_keys n end_of-Edit = refl
  row_keys n (more_of-Edit e more) =
      keys_append (outline e) (outline_row more)
      ∙ ap (λ (keys : List Key). keys ++ keys_among (outline_row more)) (outline_keys e)
      ∙ ap (λ (keys : List Key). map key_of (leaves e) ++ keys) (row_keys _ more)
      ∙ sym (map_both (leaves e) (leaves_row more))

abbrev any_key : ThingKind → ℕ → List Key → Bool
any_key kind number [] = false
any_key kind number (key ∷ keys) =
    ((row_kind kind == key.kind) && (number == key.number)) || any_key kind number keys

touched_keys : (k : ThingKind) (n : ℕ) (ls : List Leaf) → any_touches k n ls ≡ any_key k n (map key_of ls)
touched_keys k n [] = refl
touched_keys k n (l ∷ ls) =
    ap (λ (t : Bool). ((row_kind k == (key_of l).kind) && (n == (key_of l).number)) || t) (touched_keys k n ls)

abbrev any_head : List Key → Bool
any_head [] = false
any_head (key ∷ keys) = (key.kind == 1) || any_head keys

no_head : (k : ThingKind) → (row_kind k == 1) ≡ false
no_head kind.Commodity = refl
no_head kind.Account = refl
no_head kind.Txn = refl
no_head kind.Price = refl
no_head kind.Schedule = refl
no_head kind.Held = refl
no_head kind.Line = refl
no_head kind.Binding = refl
no_head kind.Recon = refl

currency_keys : (ls : List Leaf) → has_currency ls ≡ any_head (map key_of ls)
currency_keys [] = refl
currency_keys (OfCurrency c ∷ ls) = refl
currency_keys (OfPut n t ∷ ls) =
    currency_keys ls ∙ sym (ap (λ (t : Bool). t || any_head (map key_of ls)) (no_head (kind_of t)))
currency_keys (OfGone k n ∷ ls) =
    currency_keys ls ∙ sym (ap (λ (t : Bool). t || any_head (map key_of ls)) (no_head k))

-- The edit that leads back from an exact edit, and has its form, is exact for the edited book.
pub exact_back :
    (b : Book) (e f : Edit) → IsExact b e → LeadsBack b e f → outline f ≡ outline e → IsExact (edited e b) f
exact_back b e f exact leads form =
    let keys : map key_of (leaves f) ≡ map key_of (leaves e) =
    sym (outline_keys f) ∙ ap keys_among form ∙ outline_keys e in
    record {
      allowed = leads.allowed;
      things = λ k n.
          let touched : any_touches k n (leaves f) ≡ any_touches k n (leaves e) =
          touched_keys k n (leaves f) ∙ ap (any_key k n) keys ∙ sym (touched_keys k n (leaves e)) in
          let same : thing_at k n (edited f (edited e b)) ≡ thing_at k n b =
          ap (λ (c : Book). thing_at k n c) leads.same in (
            (λ touch equal. (exact.things k n).0 (subst IsTrue touched touch) (sym equal ∙ same)),
            (λ differ. subst IsTrue (sym touched) ((exact.things k n).1 (λ equal. differ (same ∙ sym equal)))),
          );
      currency =
          let touched : has_currency (leaves f) ≡ has_currency (leaves e) =
          currency_keys (leaves f) ∙ ap any_head keys ∙ sym (currency_keys (leaves e)) in
          let same : (edited f (edited e b)).currency ≡ b.currency = ap (λ (c : Book). c.currency) leads.same in (
            (λ touch equal. exact.currency.0 (subst IsTrue touched touch) (sym equal ∙ same)),
            (λ differ. subst IsTrue (sym touched) (exact.currency.1 (λ equal. differ (same ∙ sym equal)))),
          );
    }
