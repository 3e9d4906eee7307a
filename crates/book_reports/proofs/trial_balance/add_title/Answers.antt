use Rattle.std.proofs.Common.{ℕ, List, [], ◌∷◌, ◌++◌, codes, string_bytes, ap, ◌∙◌, append_assoc}
use Rattle.book_commodity.specs.Day.{day_text}
use Rattle.book_reports.proofs.trial_balance.add_title.Goals as goal

pub returns : goal.returns
unfolding lib.Utf8.encode
returns c =
    let before = string_bytes c.args.out.now in
    c.in_ok-push.ensures.bytes
    ∙ ap (λ (l : List ℕ). l ++ 10 ∷ [])
    (c.in_ok-add_day.ensures ∙ ap (λ (l : List ℕ). l ++ day_text c.args.day) c.in_ok-push_str.ensures.bytes)
    ∙ append_assoc (before ++ codes "Trial balance ") (day_text c.args.day) (10 ∷ [])
    ∙ append_assoc before (codes "Trial balance ") (day_text c.args.day ++ 10 ∷ [])
