use Rattle.std.proofs.Common.{◌≡◌, ◌+◌, List, ap, sym, ◌∙◌, subst, drop, flat_map, arith, rules}
use Rattle.book_commodity.proofs.ListLemmas.{from-item}
use Rattle.book_undo.specs.Edit.{deepest, depth, leaves}
use Rattle.book_undo.specs.declared.edit.Edit.{Edit}
use Rattle.book_undo.proofs.EditLaws.{after_leaves}
use Rattle.book_undo.proofs.PartLaws.{depth_of_all, leaves_of_all}
use Rattle.book_ledger.specs.Room.{LeavesHavePlaces, puts_on}
use Rattle.book_ledger.proofs.CountsLemmas.{on_way_counts}
use Rattle.book_ledger.proofs.EditLemmas.{depth_at, on_way_more, places_parts, puts-append}
use Rattle.book_ledger.proofs.registers.Registers.+follow.Goals as goal

pub follow-follow_all-requires : goal.follow-follow_all-requires
follow-follow_all-requires t c =
    let same : leaves c.args.edit.now ≡ flat_map leaves c.as_slice.result.now =
    ap leaves c.in-All.is ∙ leaves_of_all c.in-All.parts ∙ ap (flat_map leaves) (sym c.as_slice.ensures) in
    let deep : depth c.args.edit.now ≡ 1 + deepest c.as_slice.result.now =
    ap depth c.in-All.is ∙ depth_of_all c.in-All.parts
    ∙ ap (λ (parts : List Edit). 1 + deepest parts) (sym c.as_slice.ensures) in (
      search (rules, deep),
      record {
        places = c.requires.places;
        new_places = subst LeavesHavePlaces same c.requires.new_places;
        room = λ account. let count = ap (puts_on account) same in omega (arith, count, c.requires.room account);
      },
    )

pub follow_all-follow-requires : goal.follow_all-follow-requires
follow_all-follow-requires t c =
    let parts = c.args.parts.now in
    let item = c.part-item.result in
    let next : List Edit = drop (c.loop-part.part-index + 1) parts in
    let split = ap (flat_map leaves) (from-item parts c.loop-part.part-index item c.loop-part-test.true
    c.part-item.is) in
    let size = depth_at parts c.loop-part.part-index item c.loop-part-test.true c.part-item.is in (
      search (rules, size),
      record {
        places = c.requires.places;
        new_places =
            (places_parts (leaves item) (flat_map leaves next)
            (subst LeavesHavePlaces split c.loop-part.invariant.places)).0;
        room = λ account.
            let count = ap (puts_on account) split in
            omega (
              arith,
              count,
              puts-append account (leaves item) (flat_map leaves next),
              c.loop-part.invariant.room account,
            );
      },
    )

pub follow_all-loop-part-preserved : goal.follow_all-loop-part-preserved
follow_all-loop-part-preserved t c =
    let inv = c.loop-part.invariant in
    let parts = c.args.parts.now in
    let item = c.part-item.result in
    let next : List Edit = drop (c.loop-part.part-index + 1) parts in
    let split = ap (flat_map leaves) (from-item parts c.loop-part.part-index item c.loop-part-test.true
    c.part-item.is) in
    record {
      places = (places_parts (leaves item) (flat_map leaves next) (subst LeavesHavePlaces split inv.places)).1;
      room = λ account.
          let count = ap (puts_on account) split in
          omega (
            arith,
            count,
            puts-append account (leaves item) (flat_map leaves next),
            inv.room account,
            c.follow.ensures.room account,
          );
      rows = λ now rises once holds.
          on_way_more c.args.transactions.now.entries c.loop-part.self.entries c.follow.new.self.entries
          (leaves item) (flat_map leaves next) (flat_map leaves (drop c.loop-part.part-index parts))
          (after_leaves (flat_map leaves parts) now) split (inv.rows now rises once holds) c.follow.ensures.rows;
      changes = λ first now rises once there here counts.
          on_way_counts c.args.transactions.now.entries first c.loop-part.self.entries c.follow.new.self.entries
          (leaves item) (flat_map leaves next) (flat_map leaves (drop c.loop-part.part-index parts))
          (after_leaves (flat_map leaves parts) now) split (inv.rows now rises once here) c.follow.ensures.changes
          there (inv.changes first now rises once there here counts);
      there = λ account. c.follow.ensures.there account ∙ inv.there account;
      less = λ account.
          let count = ap (puts_on account) split in
          omega (
            arith,
            count,
            puts-append account (leaves item) (flat_map leaves next),
            inv.less account,
            c.follow.ensures.room account,
          );
    }
