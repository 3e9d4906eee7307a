use Rattle.book_json.proofs.TakeLemmas.{member_of, members_view-remove_entry}
use Rattle.book_json.proofs.reading.Reading.take.Goals as goal
use Rattle.std.proofs.Common.{◌∙◌, sym, ap}
use Rattle.serde_json.specs.View.{members_view}

pub returns-clause-member : goal.returns-clause-member
returns-clause-member c = sym (member_of c.args.name.now c.args.self.now.members.entries _ c.remove.ensures.value)

pub returns-clause-left : goal.returns-clause-left
returns-clause-left c = ap members_view c.remove.ensures.entries
    ∙ members_view-remove_entry c.args.name.now c.args.self.now.members.entries
