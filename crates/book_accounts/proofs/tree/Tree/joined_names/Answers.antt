use Rattle.std.proofs.Common.{◌≡◌, ℕ, ◌++◌, get_or, string_bytes, List, ap, ◌∙◌, arith}
use Rattle.book_accounts.specs.Path.{name_at}
use Rattle.book_accounts.proofs.PathLemmas.{join_first, join_next}
use Rattle.book_accounts.proofs.tree.Tree.joined_names.Goals as goal
use Rattle.book_accounts.proofs.tree.Tree.joined_names.Goals.{then-place-gt0+in_ok-push, else-place-gt0}

pub loop-place-preserved : goal.loop-place-preserved
loop-place-preserved c =
    let name : List ℕ = name_at c.args.self.now.entries (get_or c.args.numbers.now c.loop-place.place 0) in
    let named : string_bytes c.push_name.new.names ≡ string_bytes c.if-place-gt0.names ++ name =
    c.in_ok-push_name.ensures in
    elim c.if-place-gt0.branch [
      | then-place-gt0+in_ok-push w ↦
          join_next 58 (name_at c.args.self.now.entries) c.args.numbers.now c.loop-place.place
          (string_bytes c.loop-place.names) (string_bytes c.push_name.new.names)
          c.loop-place-test.true w.if-place-gt0.true c.loop-place.invariant
          (named ∙ ap (λ (l : List ℕ). l ++ name)
          (ap string_bytes w.names-is ∙ w.in_ok-push.ensures.bytes
          ∙ ap (λ (l : List ℕ). string_bytes c.loop-place.names ++ l) (w.in_ok-push.ensures.ascii (omega arith))))
      | else-place-gt0 w ↦
          join_first 58 (name_at c.args.self.now.entries) c.args.numbers.now c.loop-place.place
          (string_bytes c.loop-place.names) (string_bytes c.push_name.new.names)
          c.loop-place-test.true (omega arith) c.loop-place.invariant
          (named ∙ ap (λ (l : List ℕ). l ++ name) (ap string_bytes w.names-is))
    ]
