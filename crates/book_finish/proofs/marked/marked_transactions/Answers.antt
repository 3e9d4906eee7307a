use Rattle.std.proofs.Common.{◌∙◌}
use Rattle.book_finish.proofs.NumberLemmas.{numbers-are}
use Rattle.book_finish.proofs.marked.marked_transactions.Goals as goal

pub returns : goal.returns
returns c = λ account ts rises is.
    let a = numbers-are account c.args.day ts c.args.register.now.rows c.in_ok-numbers.numbers.items
    c.sort_once.new.numbers.items rises is c.in_ok-numbers.ensures c.sort_once.ensures.rises c.sort_once.ensures.keeps
    c.sort_once.ensures.adds_none in
    c.of.ensures ∙ a
