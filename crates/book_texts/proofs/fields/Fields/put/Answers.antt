use Rattle.std.proofs.Common.{◌∙◌, ap}
use Rattle.serde_json.specs.View.{members_view, view}
use Rattle.serde_json.specs.Written.{members_have_float}
use Rattle.book_texts.proofs.PlainLemmas.{put-plain}
use Rattle.book_texts.proofs.fields.Fields.put.Goals as goal

pub invariant_of-result : goal.invariant_of-result
invariant_of-result c =
    record {
      plain = ap members_have_float c.in_ok-put.ensures.ok
          ∙ put-plain c.args.name.now (view c.args.value)
          (members_view c.args.self.members.entries) c.requires c.args.self.plain;
    }
