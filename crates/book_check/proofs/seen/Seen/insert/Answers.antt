-- A key is seen afterwards where it is this one, or was seen before.
use Rattle.std.proofs.Common.{◌≡◌, Bool, true, false, cond, List, refl, ap, ◌∙◌}
use Rattle.std.specs.Prelude.{◌||◌}
use Rattle.std.specs.Ordering.{is_eq}
use Rattle.std.specs.declared.cmp.Ordering.{Ordering}
use Rattle.book_check.specs.Seen.{Adds, is_seen}
use Rattle.book_check.proofs.seen.Seen.insert.Goals as goal

either : (this before : Bool) → cond this true before ≡ (this || before)
either true before = refl
either false before = refl

adds_from :
    {K : Type 0} (cmp : K → K → Ordering) (stored old new : List K) (key : K) → stored ≡ old
    → ((other : K) → is_seen cmp new other ≡ cond (is_eq (cmp key other)) true (is_seen cmp stored other))
    → Adds cmp old key new
adds_from {K} cmp stored old new key same updates = λ other.
    updates other ∙ either (is_eq (cmp key other)) (is_seen cmp stored other)
    ∙ ap (λ (keys : List K). is_eq (cmp key other) || is_seen cmp keys other) same

pub returns-clause-adds : goal.returns-clause-adds
returns-clause-adds g c =
    adds_from g.K.Ord.cmp c.self.inside.keys.keys c.args.self.now c.insert.new.self.keys c.args.key c.self.view_is
    c.in_ok-is_new.ensures.updates.0
