-- What leaves the index is there, what comes into it isn't, and both together are the changes.
use Rattle.std.proofs.Common.{◌∙◌, ℕ, ◌+◌, ◌-◌, ◌^◌, ap, List, arith, length, min, subst, sym}
use Rattle.book_commodity.specs.Table.{Rises}
use Rattle.book_match.specs.AmountIndex.{AreAbsent, AreThere, Index, Rises as IndexRises, with_all, without_all}
use Rattle.book_match.specs.declared.free.Free.{Free}
use Rattle.book_free.specs.Following.{come_of, gone_of, with_lines}
use Rattle.book_free.specs.Kept.{Kept}
use Rattle.book_free.specs.declared.moves.Move.{Move}
use Rattle.book_free.proofs.FollowLemmas.{becomes_of, come_fits, has_followed}
use Rattle.book_free.proofs.kept.FreeSplits.follow.Goals as goal

pub take_all-requires-clause-rises : goal.take_all-requires-clause-rises
take_all-requires-clause-rises c =
    let some = c.requires.ready in
    let is = becomes_of c.args.self.now c.args.moves.now some.old some.new
    (subst Rises c.moves.view_is c.moves.invariant.rise) some.can in
    subst IndexRises (sym (c.as_slice.ensures.value ∙ c.moves.invariant.gone_is ∙ ap gone_of c.moves.view_is))
    is.gone_rise

pub take_all-requires-clause-there : goal.take_all-requires-clause-there
take_all-requires-clause-there c =
    let some = c.requires.ready in
    let is = becomes_of c.args.self.now c.args.moves.now some.old some.new
    (subst Rises c.moves.view_is c.moves.invariant.rise) some.can in
    let gone = c.as_slice.ensures.value ∙ c.moves.invariant.gone_is ∙ ap gone_of c.moves.view_is in
    let es = ap (λ (k : Kept). k.index.entries) c.self.view_is in
    subst (λ (xs : List Free). AreThere xs c.self.inside.index.entries) (sym gone)
    (subst (AreThere (gone_of c.args.moves.now)) (sym es) is.there)

pub put_all-requires-clause-room : goal.put_all-requires-clause-room
put_all-requires-clause-room c =
    let come = ap (λ (xs : List Free). length xs)
    (c.as_slice-2.ensures.value ∙ c.moves.invariant.come_is ∙ ap come_of c.moves.view_is) in
    let most = come_fits c.args.moves.now in
    let room = c.requires.room.index in
    let spare = c.take_all.ensures.spare in
    let same = ap (λ (k : Kept). k.index.spare) c.self.view_is in
    omega (arith, come, most, room, spare, same)

pub put_all-requires-clause-rises : goal.put_all-requires-clause-rises
put_all-requires-clause-rises c =
    let some = c.requires.ready in
    let is = becomes_of c.args.self.now c.args.moves.now some.old some.new
    (subst Rises c.moves.view_is c.moves.invariant.rise) some.can in
    subst IndexRises (sym (c.as_slice-2.ensures.value ∙ c.moves.invariant.come_is ∙ ap come_of c.moves.view_is))
    is.come_rise

pub put_all-requires-clause-absent : goal.put_all-requires-clause-absent
put_all-requires-clause-absent c =
    let some = c.requires.ready in
    let is = becomes_of c.args.self.now c.args.moves.now some.old some.new
    (subst Rises c.moves.view_is c.moves.invariant.rise) some.can in
    let come = c.as_slice-2.ensures.value ∙ c.moves.invariant.come_is ∙ ap come_of c.moves.view_is in
    let gone = c.as_slice.ensures.value ∙ c.moves.invariant.gone_is ∙ ap gone_of c.moves.view_is in
    let taken = c.take_all.ensures.entries
    ∙ ap (λ (xs : List Free). without_all xs c.self.inside.index.entries) gone
    ∙ ap (λ (k : Kept). without_all (gone_of c.args.moves.now) k.index.entries) c.self.view_is in
    subst (λ (xs : List Free). AreAbsent xs c.take_all.new.self.entries) (sym come)
    (subst (AreAbsent (come_of c.args.moves.now)) (sym taken) is.absent)

pub returns : goal.returns
returns c old new can =
    let ms = c.args.moves.now in
    let start = c.args.self.now in
    let rise = subst Rises c.moves.view_is c.moves.invariant.rise in
    let gone = c.as_slice.ensures.value ∙ c.moves.invariant.gone_is ∙ ap gone_of c.moves.view_is in
    let come = c.as_slice-2.ensures.value ∙ c.moves.invariant.come_is ∙ ap come_of c.moves.view_is in
    has_followed start c.set_lines.new.self c.take_all.new.self ms old new c.in_order.ensures rise can (record {
      taken = c.take_all.ensures.entries
          ∙ ap (λ (xs : List Free). without_all xs c.self.inside.index.entries) gone
          ∙ ap (λ (k : Kept). without_all (gone_of ms) k.index.entries) c.self.view_is;
      taken_changes = c.take_all.ensures.changes
          ∙ ap (λ (xs : List Free). min (c.self.inside.index.changes + length xs) (2 ^ 64 - 1)) gone
          ∙ ap (λ (k : Kept). min (k.index.changes + length (gone_of ms)) (2 ^ 64 - 1)) c.self.view_is;
      put = ap (λ (i : Index). i.entries) c.set_lines.ensures.index ∙ c.put_all.ensures.entries
          ∙ ap (λ (xs : List Free). with_all xs c.take_all.new.self.entries) come;
      put_changes = ap (λ (i : Index). i.changes) c.set_lines.ensures.index ∙ c.put_all.ensures.changes
          ∙ ap (λ (xs : List Free). min (c.take_all.new.self.changes + length xs) (2 ^ 64 - 1)) come;
      lines = c.set_lines.ensures.matched
          ∙ ap (λ (xs : List (ℕ × Move)). with_lines xs c.self.inside.matched.entries)
          (c.as_slice-3.ensures ∙ c.moves.view_is)
          ∙ ap (λ (k : Kept). with_lines ms k.matched.entries) c.self.view_is;
    })
