use Rattle.std.proofs.lemmas.Str.Pattern.{contains_text}
use Rattle.book_listings.proofs.FindLemmas.{is_held}
use Rattle.book_listings.proofs.find.contains.Goals as goal

pub returns : goal.returns
returns c =
    is_held c.contains.result c.args.part.now c.args.text.now
    (contains_text c.contains.result c.args.part.now c.args.text.now c.contains.ensures.cases)
