use Rattle.std.proofs.Common.{ℕ, List, [], ◌∷◌, ◌++◌, ap, ◌∙◌}
use Rattle.serde_json.specs.Written.{compact_text, has_float}
use lib.Utf8.{encode}
use Rattle.book_listings.specs.Command.{unvoid_line}
use Rattle.book_listings.proofs.command.unvoid_line.Goals as goal

pub returns : goal.returns
unfolding unvoid_line encode
returns c =
    let plain = ap has_float c.in_ok-value.ensures in
    let text = c.in_ok-line.ensures.text plain ∙ ap compact_text c.in_ok-value.ensures in
    c.of.ensures ∙ c.in_ok-push.ensures.bytes ∙ ap (λ (l : List ℕ). l ++ 10 ∷ []) text
