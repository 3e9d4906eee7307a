-- Edits: what becomes different in a book. An edit is a tree of lists, and its leaves are the single changes.
use Rattle.std.specs.Prelude.{ℕ, ◌+◌, max, Bool, true, false, List, [], ◌∷◌, ◌++◌}
use Rattle.book_undo.specs.Book.{Book, with_currency, with_thing, without_thing}
use Rattle.book_undo.specs.Thing.{kind_of, row_kind}
use Rattle.book_undo.specs.declared.edit.Edit.{Edit, Currency, Put, Gone, All, All'}
use Rattle.book_undo.specs.declared.edit.Edit.{Row_of-Edit, end_of-Edit, more_of-Edit}
use Rattle.book_undo.specs.declared.thing.Thing.{Thing}
use Rattle.book_undo.specs.declared.thing.ThingKind.{ThingKind}

-- The book after an edit. That of a list is the book after its parts, one after another.
abbrev mutual
  pub edited : Edit → Book → Book
  edited (Currency currency) book = with_currency currency book
  edited (Put number thing) book = with_thing number thing book
  edited (Gone kind number) book = without_thing kind number book
  edited (All' shape parts) book = edited_row parts book

  -- The book after the parts of a list, one after another.
  pub edited_row : {count : _} → Row_of-Edit count → Book → Book
  edited_row end_of-Edit book = book
  edited_row (more_of-Edit part more) book = edited_row more (edited part book)

-- The book after some edits, one after another.
abbrev pub edited_all : List Edit → Book → Book
edited_all [] book = book
edited_all (edit ∷ more) book = edited_all more (edited edit book)

-- Whether a row of edits has none.
abbrev pub is_end : {count : _} → Row_of-Edit count → Bool
is_end end_of-Edit = true
is_end (more_of-Edit part more) = false

-- Whether an edit is the list without parts, which changes nothing.
abbrev pub is_nothing : Edit → Bool
is_nothing (Currency currency) = false
is_nothing (Put number thing) = false
is_nothing (Gone kind number) = false
is_nothing (All' shape parts) = is_end parts

-- An edit and others behind it: that alone where there are no others, else the list of all.
abbrev pub together : Edit → List Edit → Edit
together edit [] = edit
together edit (next ∷ more) = All (edit ∷ next ∷ more)

-- A single change: the currency, a thing that is put under a number, or one that is deleted.
pub data Leaf : Type 0 where
  OfCurrency : ℕ → Leaf
  OfPut : ℕ → Thing → Leaf
  OfGone : ThingKind → ℕ → Leaf

-- The leaves of an edit, in order.
abbrev mutual
  pub leaves : Edit → List Leaf
  leaves (Currency currency) = OfCurrency currency ∷ []
  leaves (Put number thing) = OfPut number thing ∷ []
  leaves (Gone kind number) = OfGone kind number ∷ []
  leaves (All' shape parts) = leaves_row parts

  -- The leaves of the parts of a list, in order.
  pub leaves_row : {count : _} → Row_of-Edit count → List Leaf
  leaves_row end_of-Edit = []
  leaves_row (more_of-Edit part more) = leaves part ++ leaves_row more

-- How many lists of an edit stand in one another. A leaf doesn't count.
abbrev mutual
  pub depth : Edit → ℕ
  depth (Currency currency) = 0
  depth (Put number thing) = 0
  depth (Gone kind number) = 0
  depth (All' shape parts) = 1 + depth_row parts

  -- The depth of the deepest of the parts of a list.
  pub depth_row : {count : _} → Row_of-Edit count → ℕ
  depth_row end_of-Edit = 0
  depth_row (more_of-Edit part more) = max (depth part) (depth_row more)

-- The depth of the deepest of some edits.
abbrev pub deepest : List Edit → ℕ
deepest [] = 0
deepest (edit ∷ more) = max (depth edit) (deepest more)

-- What a change changes: the kind's number and the number within the kind. The currency is that of the book's head.
pub record Key : Type 0 where
  pub kind : ℕ
  pub number : ℕ

-- The key of a number within a kind.
abbrev pub key_at : ℕ → ℕ → Key
key_at kind number = record { kind = kind; number = number }

-- The key of what a leaf changes: the currency's is the kind 1 and the number 0.
abbrev pub key_of : Leaf → Key
key_of (OfCurrency currency) = key_at 1 0
key_of (OfPut number thing) = key_at (row_kind (kind_of thing)) number
key_of (OfGone kind number) = key_at (row_kind kind) number

-- A sign in the form of an edit: where a list begins or ends, or the key of a leaf.
pub data Sign : Type 0 where
  Begins : Sign
  Ends : Sign
  At : Key → Sign

-- The form of an edit as a row of signs: a leaf is its key, and a list begins, has the signs of its parts, and ends.
abbrev mutual
  pub outline : Edit → List Sign
  outline (Currency currency) = At (key_at 1 0) ∷ []
  outline (Put number thing) = At (key_at (row_kind (kind_of thing)) number) ∷ []
  outline (Gone kind number) = At (key_at (row_kind kind) number) ∷ []
  outline (All' shape parts) = Begins ∷ outline_row parts ++ Ends ∷ []

  -- The signs of the parts of a list, in order.
  pub outline_row : {count : _} → Row_of-Edit count → List Sign
  outline_row end_of-Edit = []
  outline_row (more_of-Edit part more) = outline part ++ outline_row more
