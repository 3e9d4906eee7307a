-- Edits by their first byte, and lists of edits by their parts as plain lists.
use Rattle.std.proofs.Common.{◌≡◌, ℕ, ◌+◌, ◌^◌, ◌<◌, ◌≤◌, List, [], ◌∷◌, ◌++◌, length, flat_map}
use Rattle.std.proofs.Common.{get_or, Result, Ok, Err, OnOk, refl, sym, ap, ◌∙◌, subst, append_assoc, arith}
use Rattle.std.specs.List.{AllByRecursion}
use mathlib.Core.Former.{Count}
use Rattle.book_codec.specs.Words.{number, listed}
use Rattle.book_undo.specs.Edit.{deepest}
use Rattle.book_undo.specs.Thing.{kind_of, row_kind}
use Rattle.book_undo.specs.declared.edit.Edit.{Edit, Currency, Put, Gone, All, All', Row_of-Edit, end_of-Edit}
use Rattle.book_undo.specs.declared.edit.Edit.{more_of-Edit, items-the_row-Edit, items_hidden-the_row-Edit-0}
use Rattle.book_undo.specs.declared.edit.Edit.{Edit-F, roll-Edit, out-Edit, roll-out-Edit}
use Rattle.book_undo.specs.declared.edit.Edit.TheOpen as layer
use Rattle.book_undo.specs.declared.thing.Thing.{Thing}
use Rattle.book_undo.specs.declared.thing.ThingKind.{ThingKind}
use Rattle.book_undo.proofs.PartLaws.{depth_of_all}
use Rattle.book_rows.specs.EditBytes.{row_length, edit_bytes, row_bytes, HasValues, PartsHaveValues, IsEditWithin}
use Rattle.book_rows.specs.ThingBytes.{thing_bytes}
use Rattle.book_rows.specs.declared.format.RowFormat.{RowFormat}
use Rattle.book_rows.specs.Values.{AreItems}

-- ---- a list's row of parts
abbrev row_of : Edit → (count : Count) × Row_of-Edit count
row_of (All' _ row) = (_, row)
row_of _ = (_, end_of-Edit)

length_of_row : (n : _) (row : Row_of-Edit n) → row_length row ≡ length (items-the_row-Edit n row)
length_of_row n end_of-Edit = refl
length_of_row n (more_of-Edit part more) = omega (arith, length_of_row _ more)

bytes_of_row : (f : RowFormat) (n : _) (row : Row_of-Edit n) → row_bytes f row ≡ flat_map (edit_bytes f) (items-the_row-Edit n row)
unfolding row_bytes
bytes_of_row f n end_of-Edit = refl
bytes_of_row f n (more_of-Edit part more) = ap (λ b. edit_bytes f part ++ b) (bytes_of_row f _ more)

values_of_row :
    (f : RowFormat) (n : _) (row : Row_of-Edit n) → PartsHaveValues f row
    → AllByRecursion (HasValues f) (items-the_row-Edit n row)
values_of_row f n end_of-Edit all = tt
values_of_row f n (more_of-Edit part more) all = (all.0, values_of_row f _ more all.1)

row_of_values :
    (f : RowFormat) (n : _) (row : Row_of-Edit n) → AllByRecursion (HasValues f) (items-the_row-Edit n row)
    → PartsHaveValues f row
row_of_values f n end_of-Edit all = tt
row_of_values f n (more_of-Edit part more) all = (all.0, row_of_values f _ more all.1)

-- The bytes of a list are the byte 0, the number of its parts and its parts.
pub bytes_of_all : (f : RowFormat) (parts : List Edit) → edit_bytes f (All parts) ≡ 0 ∷ listed (edit_bytes f) parts
unfolding edit_bytes listed
bytes_of_all f parts =
    let row = row_of (All parts) in
    let items = items_hidden-the_row-Edit-0 parts in
    ap (λ n. 0 ∷ number n ++ row_bytes f row.1) (length_of_row row.0 row.1 ∙ ap length items)
    ∙ ap (λ b. 0 ∷ number (length parts) ++ b) (bytes_of_row f row.0 row.1 ∙ ap (flat_map (edit_bytes f)) items)

pub values_of_all : (f : RowFormat) (parts : List Edit) → HasValues f (All parts) → AreItems (HasValues f) parts
values_of_all f parts has =
    let row = row_of (All parts) in
    let items = items_hidden-the_row-Edit-0 parts in (
      subst (λ n. n < 2 ^ 64) (length_of_row row.0 row.1 ∙ ap length items) has.0,
      subst (AllByRecursion (HasValues f)) items (values_of_row f row.0 row.1 has.1),
    )

pub all_of_values : (f : RowFormat) (parts : List Edit) → AreItems (HasValues f) parts → HasValues f (All parts)
all_of_values f parts are =
    let row = row_of (All parts) in
    let items = items_hidden-the_row-Edit-0 parts in (
      subst (λ n. n < 2 ^ 64) (sym (length_of_row row.0 row.1 ∙ ap length items)) are.0,
      row_of_values f row.0 row.1 (subst (AllByRecursion (HasValues f)) (sym items) are.1),
    )

-- ---- the depth of a list's parts
values_within :
    (f : RowFormat) (most : ℕ) (parts : List Edit) → AllByRecursion (IsEditWithin f most) parts
    → AllByRecursion (HasValues f) parts
values_within f most [] all = tt
values_within f most (part ∷ more) all = (all.0.0, values_within f most more all.1)

deepest_within :
    (f : RowFormat) (most : ℕ) (parts : List Edit) → AllByRecursion (IsEditWithin f most) parts → deepest parts ≤ most
deepest_within f most [] all = omega arith
deepest_within f most (part ∷ more) all = omega (arith, all.0.1, deepest_within f most more all.1)

all_within :
    (f : RowFormat) (most : ℕ) (parts : List Edit) → AllByRecursion (HasValues f) parts → deepest parts ≤ most
    → AllByRecursion (IsEditWithin f most) parts
all_within f most [] have deep = tt
all_within f most (part ∷ more) have deep =
    ((have.0, omega (arith, deep)), all_within f most more have.1 (omega (arith, deep)))

-- A list has a spelling where its parts have one, at one depth less.
pub list_within :
    (f : RowFormat) (most less : ℕ) (parts : List Edit) → most ≡ less + 1 → length parts < 2 ^ 64
    → AllByRecursion (IsEditWithin f less) parts → IsEditWithin f most (All parts)
list_within f most less parts one few all = (
  all_of_values f parts (few, values_within f less parts all),
  omega (arith, one, depth_of_all parts, deepest_within f less parts all),
)

pub parts_within :
    (f : RowFormat) (most less : ℕ) (parts : List Edit) → most ≡ less + 1 → IsEditWithin f most (All parts)
    → AllByRecursion (IsEditWithin f less) parts
parts_within f most less parts one is =
    all_within f less parts (values_of_all f parts is.0).1 (omega (arith, one, depth_of_all parts, is.1))

-- ---- edits by their first byte
heads : (a b : ℕ) (xs ys : List ℕ) → ◌≡◌ {A = List ℕ} (a ∷ xs) (b ∷ ys) → a ≡ b
heads a b xs ys e = cc

tails : (a b : ℕ) (xs ys : List ℕ) → ◌≡◌ {A = List ℕ} (a ∷ xs) (b ∷ ys) → xs ≡ ys
tails a b xs ys e = cc

-- An edit is a list, and the bytes are the number of its parts, its parts and then the rest.
pub record IsList (f : RowFormat) (edit : Edit) (bytes rest : List ℕ) : Type 0 where
  pub parts : List Edit
  pub is : edit ≡ All parts
  pub spelled : bytes ≡ number (length parts) ++ (flat_map (edit_bytes f) parts ++ rest)

list_bytes :
    (f : RowFormat) (parts : List Edit) (bytes rest : List ℕ) → 0 ∷ bytes ≡ edit_bytes f (All parts) ++ rest
    → bytes ≡ number (length parts) ++ (flat_map (edit_bytes f) parts ++ rest)
unfolding listed
list_bytes f parts bytes rest e =
    tails _ _ _ _ (e ∙ ap (λ (b : List ℕ). b ++ rest) (bytes_of_all f parts))
    ∙ append_assoc (number (length parts)) (flat_map (edit_bytes f) parts) rest

-- The byte 0, the number of parts and their bytes are those of a list.
pub list_spelled :
    (f : RowFormat) (parts : List Edit) (count : ℕ) (bytes behind rest : List ℕ) → bytes ≡ number count ++ behind
    → behind ≡ flat_map (edit_bytes f) parts ++ rest → length parts ≡ count → 0 ∷ bytes ≡ edit_bytes f (All parts) ++ rest
unfolding listed
list_spelled f parts count bytes behind rest first next few =
    ap (λ (b : List ℕ). 0 ∷ b)
    (first ∙ ap (λ (n : ℕ). number n ++ behind) (sym few) ∙ ap (λ (b : List ℕ). number (length parts) ++ b) next
    ∙ sym (append_assoc (number (length parts)) (flat_map (edit_bytes f) parts) rest))
    ∙ ap (λ (b : List ℕ). b ++ rest) (sym (bytes_of_all f parts))

-- The byte 0, the number of parts and the parts that were written are the list.
pub list_written :
    (f : RowFormat) (edit : Edit) (parts slice : List Edit) (count : ℕ) (old pushed counted new : List ℕ) → edit ≡ All parts
    → slice ≡ parts → count ≡ length parts → pushed ≡ old ++ 0 ∷ [] → counted ≡ pushed ++ number count
    → new ≡ counted ++ flat_map (edit_bytes f) slice → new ≡ old ++ edit_bytes f edit
unfolding listed
list_written f edit parts slice count old pushed counted new is same few push spell rest =
    let behind = flat_map (edit_bytes f) parts in
    let whole : edit_bytes f edit ≡ 0 ∷ number (length parts) ++ behind = ap (edit_bytes f) is ∙ bytes_of_all f parts in
    rest ∙ ap (λ (l : List Edit). counted ++ flat_map (edit_bytes f) l) same
    ∙ ap (λ (b : List ℕ). b ++ behind)
    (spell ∙ ap (λ (b : List ℕ). b ++ number count) push ∙ append_assoc old (0 ∷ []) (number count))
    ∙ append_assoc old (0 ∷ number count) behind
    ∙ ap (λ (n : ℕ). old ++ (0 ∷ number n ++ behind)) few
    ∙ ap (λ (b : List ℕ). old ++ b) (sym whole)

-- The byte 0 begins a list.
pub list_at :
    (f : RowFormat) (edit : Edit) (bytes rest : List ℕ) → 0 ∷ bytes ≡ edit_bytes f edit ++ rest → IsList f edit bytes rest
unfolding roll-Edit denote.Hole.Carrier.roll edit_bytes
list_at f edit bytes rest e =
    subst (λ (it : Edit). (0 ∷ bytes ≡ edit_bytes f it ++ rest) → IsList f it bytes rest) (roll-out-Edit edit)
    (of_layer (out-Edit edit)) e
  where
    of_layer : (it : Edit-F Edit) → (0 ∷ bytes ≡ edit_bytes f (roll-Edit it) ++ rest) → IsList f (roll-Edit it) bytes rest
    of_layer (layer.Currency currency) e = absurd (omega (arith, heads _ _ _ _ e))
    of_layer (layer.Put it thing) e = absurd (omega (arith, heads _ _ _ _ e))
    of_layer (layer.Gone kind it) e = absurd (omega (arith, heads _ _ _ _ e))
    of_layer (layer.All parts) e =
        record { parts = parts; is = refl; spelled = list_bytes f parts bytes rest e }

-- An edit is a list of fewer than 2^64 parts that have a spelling at one depth less.
pub record HasParts (f : RowFormat) (most : ℕ) (edit : Edit) (bytes rest : List ℕ) : Type 0 where
  pub list : IsList f edit bytes rest
  pub few : length list.parts < 2 ^ 64
  pub deep : 1 ≤ most
  pub within : (less : ℕ) → most ≡ less + 1 → AllByRecursion (IsEditWithin f less) list.parts

pub parts_at :
    (f : RowFormat) (most : ℕ) (edit : Edit) (bytes rest : List ℕ) → IsEditWithin f most edit
    → 0 ∷ bytes ≡ edit_bytes f edit ++ rest → HasParts f most edit bytes rest
parts_at f most edit bytes rest fits e =
    let list = list_at f edit bytes rest e in
    let all = subst (IsEditWithin f most) list.is fits in
    record {
      list = list;
      few = (values_of_all f list.parts all.0).0;
      deep = omega (arith, depth_of_all list.parts, all.1);
      within = λ less one. parts_within f most less list.parts one all;
    }

-- An edit puts a thing, and the bytes are its kind, its number, its fields and then the rest.
pub record IsPut (f : RowFormat) (edit : Edit) (bytes rest : List ℕ) : Type 0 where
  pub it : ℕ
  pub thing : Thing
  pub is : edit ≡ Put it thing
  pub spelled : bytes ≡ row_kind (kind_of thing) ∷ number it ++ (thing_bytes f thing ++ rest)

-- The byte 1 begins a thing that is put.
pub put_at :
    (f : RowFormat) (edit : Edit) (bytes rest : List ℕ) → 1 ∷ bytes ≡ edit_bytes f edit ++ rest → IsPut f edit bytes rest
unfolding edit_bytes
put_at f (Currency currency) bytes rest e = absurd (omega (arith, heads _ _ _ _ e))
put_at f (Put it thing) bytes rest e = record {
  it = it;
  thing = thing;
  is = refl;
  spelled = tails _ _ _ _ e
      ∙ ap (λ b. row_kind (kind_of thing) ∷ b) (append_assoc (number it) (thing_bytes f thing) rest);
}
put_at f (Gone kind it) bytes rest e = absurd (omega (arith, heads _ _ _ _ e))
put_at f (All' shape parts) bytes rest e = absurd (omega (arith, heads _ _ _ _ e))

-- An edit deletes a thing, and the bytes are its kind, its number and then the rest.
pub record IsGone (edit : Edit) (bytes rest : List ℕ) : Type 0 where
  pub kind : ThingKind
  pub it : ℕ
  pub is : edit ≡ Gone kind it
  pub spelled : bytes ≡ row_kind kind ∷ number it ++ rest

-- The byte 2 begins a thing that is deleted.
pub gone_at :
    (f : RowFormat) (edit : Edit) (bytes rest : List ℕ) → 2 ∷ bytes ≡ edit_bytes f edit ++ rest → IsGone edit bytes rest
unfolding edit_bytes
gone_at f (Currency currency) bytes rest e = absurd (omega (arith, heads _ _ _ _ e))
gone_at f (Put it thing) bytes rest e = absurd (omega (arith, heads _ _ _ _ e))
gone_at f (Gone kind it) bytes rest e = record { kind = kind; it = it; is = refl; spelled = tails _ _ _ _ e }
gone_at f (All' shape parts) bytes rest e = absurd (omega (arith, heads _ _ _ _ e))

-- An edit sets the currency, and the bytes are its number and then the rest.
pub record IsCurrency (edit : Edit) (bytes rest : List ℕ) : Type 0 where
  pub it : ℕ
  pub is : edit ≡ Currency it
  pub spelled : bytes ≡ number it ++ rest

-- The byte 3 begins a currency.
pub currency_at :
    (f : RowFormat) (edit : Edit) (bytes rest : List ℕ) → 3 ∷ bytes ≡ edit_bytes f edit ++ rest → IsCurrency edit bytes rest
unfolding edit_bytes
currency_at f (Currency it) bytes rest e = record { it = it; is = refl; spelled = tails _ _ _ _ e }
currency_at f (Put it thing) bytes rest e = absurd (omega (arith, heads _ _ _ _ e))
currency_at f (Gone kind it) bytes rest e = absurd (omega (arith, heads _ _ _ _ e))
currency_at f (All' shape parts) bytes rest e = absurd (omega (arith, heads _ _ _ _ e))

-- An edit has a first byte, which is 0 to 3.
pub begins : (f : RowFormat) (edit : Edit) (rest : List ℕ) → 1 ≤ length (edit_bytes f edit ++ rest)
unfolding edit_bytes
begins f (Currency it) rest = omega arith
begins f (Put it thing) rest = omega arith
begins f (Gone kind it) rest = omega arith
begins f (All' shape parts) rest = omega arith

pub first_byte : (f : RowFormat) (edit : Edit) (rest : List ℕ) → get_or (edit_bytes f edit ++ rest) 0 0 ≤ 3
unfolding edit_bytes
first_byte f (Currency it) rest = omega arith
first_byte f (Put it thing) rest = omega arith
first_byte f (Gone kind it) rest = omega arith
first_byte f (All' shape parts) rest = omega arith

-- What is made of equal fields is the edit.
pub made_edit :
    {F : Type 0} (of : F → Edit) (f g : F) (edit : Edit) (r s : List ℕ) → edit ≡ of g
    → ◌≡◌ {A = F × List ℕ} (f, r) (g, s) → ◌≡◌ {A = Edit × List ℕ} (of f, r) (edit, s)
made_edit {F} of f g edit r s is same =
    ap (λ (p : F × List ℕ). (of p.0, p.1)) same ∙ ap (λ (it : Edit). (it, s)) (sym is)

-- What holds on success may be said in other words.
pub ok_then : {T E : Type 0} (result : Result T E) {P Q : Type 0} → (P → Q) → OnOk result P → OnOk result Q
ok_then (Ok x) then is = then is
ok_then (Err e) then is = tt
