-- The key was new where no line had it, and is known afterwards.
use Rattle.book_import.proofs.KeyLemmas.{ArePartsOf, grows-by, new-where}
use Rattle.book_import.proofs.known_keys.KnownKeys.insert.Goals as goal

pub returns-clause-new : goal.returns-clause-new
returns-clause-new c =
    let of : ArePartsOf c.parts_of.result c.args.account c.args.body.now c.args.ordinal = record {
      account = c.parts_of.ensures.account;
      twin = record {
        day = c.parts_of.ensures.day;
        amount = c.parts_of.ensures.amount;
        kind = c.parts_of.ensures.kind;
        own = c.parts_of.ensures.own;
        bank = c.parts_of.ensures.bank;
        text = c.parts_of.ensures.text;
      };
      ordinal = c.parts_of.ensures.ordinal;
    } in
    λ lines has. new-where c.args.self.now c.self.inside.keys.keys lines c.parts_of.result c.args.account
    c.args.body.now c.args.ordinal c.in_ok-is_new.is_new c.self.view_is c.in_ok-is_new.ensures.added of has

pub returns-clause-grows : goal.returns-clause-grows
returns-clause-grows c =
    let of : ArePartsOf c.parts_of.result c.args.account c.args.body.now c.args.ordinal = record {
      account = c.parts_of.ensures.account;
      twin = record {
        day = c.parts_of.ensures.day;
        amount = c.parts_of.ensures.amount;
        kind = c.parts_of.ensures.kind;
        own = c.parts_of.ensures.own;
        bank = c.parts_of.ensures.bank;
        text = c.parts_of.ensures.text;
      };
      ordinal = c.parts_of.ensures.ordinal;
    } in
    λ lines number line is has. grows-by c.args.self.now c.self.inside.keys.keys c.insert.new.self.keys lines number
    line c.parts_of.result c.args.account c.args.body.now c.args.ordinal c.self.view_is
    c.in_ok-is_new.ensures.updates.0 of is has
