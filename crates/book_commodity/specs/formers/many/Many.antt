-- A `Many` of things that hold such a list themselves: it is stored as the list of its items, in their order.
use mathlib.Core.Path.{◌≡◌, refl, sym}
use mathlib.Core.List.{List, []}
use mathlib.Core.Former.{Former, this, list, via, children}
use base.Stored.{code_map}
use denote.RattleType.{RattleType}
use denote.HoleLaws.{Alike}
use denote.HolePlaces.{Recodes, struct_places, laid}
use denote.Hole.Carrier.{listed, list-listed}
use denote.Hole.Fix.{over}
use denote.Param.Weighed.{Weighed, w_list}
use denote.Model.Placed.{view_places}
use Rattle.std.specs.formers.vec.Vec as vec
use Rattle.std.specs.declared.alloc.Global.{Global}
use Rattle.std.specs.contracts.alloc.Global as heap
use Rattle.std.specs.contracts.impls.GlobalAllocator.TheImpl.{ghosts}
use Rattle.book_commodity.specs.declared.many.Many.TheInside.{Inside}
use Rattle.book_commodity.specs.declared.many.Many.TheView.{view, invariant}
use Rattle.book_commodity.specs.contracts.many.Many as rows
use Rattle.book_commodity.specs.contracts.many.Many.TheInside as inside

-- Where the items stand: as in a list.
abbrev pub the_former : Former {0} → Former {0}
the_former g = list g

-- So the sizes of the items are those of a list's.
abbrev pub the_weighed : {g : Former {0}} → Weighed g → Weighed (the_former g)
the_weighed w = w_list w

-- Nothing of no type.
pub the_empty : List ⊥
the_empty = []

-- The items that it holds.
abbrev pub the_items : (X : Type 0) → List X → List X
the_items X items = items

-- The stored list is the list of the items.
pub the_items_listed : (X : Type 0) (items : List X)
    → listed _ (children (the_former this) X items) ≡ the_items X items
the_items_listed X items = list-listed X items

-- Its one field, the vector.
abbrev fields : Former {0}
fields =
    via (vec.the_former this Global) Inside (λ X many. many.items) (λ X vector. record { items = vector })
    (λ X many. refl) (λ X vector. refl)

module _ (R S : RattleType) (h : R.Denot → S.Denot) where
  pub the_places : Alike R S h → Alike (rows.the_row R) (rows.the_row S) ((the_former this).map R.Denot S.Denot h)
  the_places alike =
      view_places fields (list this) view (λ X Y k u. refl) (λ X u. refl) R.Denot S.Denot h (rows.the_row R).coded
      (rows.the_row S).coded (invariant R.Denot) (invariant S.Denot) (λ u p q. refl) (λ u p q. refl) (λ u e. tt)
      (λ u e. tt) (over (inside.the_row R)) (over (inside.the_row S))
      (struct_places (inside.the_type R) (inside.the_type S) (vec.mapped h, tt) _ (λ d. refl) refl
      (laid _ _ _ (vec.the_places heap.the_row ghosts R S h alike), tt))

  pub the_codes_placed :
      Recodes R S h → Recodes (rows.the_row R) (rows.the_row S) ((the_former this).map R.Denot S.Denot h)
  the_codes_placed e items = sym (code_map R.coded.code S.coded.code h (λ x. sym (e x)) items)
