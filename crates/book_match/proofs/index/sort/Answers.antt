use Rattle.std.proofs.Common.{List, ◌∙◌, rules}
use Rattle.std.proofs.lemmas.List.Sorted.{answers_always}
use Rattle.book_match.specs.declared.free.Free.{Free}
use Rattle.book_match.proofs.OrderLemmas.{order-by, sorted-is}
use Rattle.book_match.proofs.OrderedLemmas.{key-less, key_less, ordered-is, precedes-order}
use Rattle.book_match.specs.AmountIndex.{precedes}
use Rattle.book_match.proofs.index.sort.Goals as goal

pub returns : goal.returns
returns c =
    let before : List Free = c.args.entries.now.items in
    let after : List Free = c.sort_by_key.new.self.items in
    let order = order-by key_less precedes (λ x. x) key-less precedes-order in
    sorted-is key_less order before after
    (c.in_ok-sort_by_key.ensures.sorted (λ entry. (entry.account, entry.amount, entry.day, entry.split))
    (answers_always _ _ _ (λ f a r g h. search rules)))
    (c.sort_by_key.ensures.stable (λ entry. (entry.account, entry.amount, entry.day, entry.split))
    (answers_always _ _ _ (λ f a r g h. search rules)))
    ∙ ordered-is before
