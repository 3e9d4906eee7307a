use Rattle.std.proofs.Common.{sym, ap, ◌∙◌}
use Rattle.book_statement.specs.Texts.{without_mark}
use Rattle.book_statement.proofs.TextLemmas.{text_of_utf8, text_of_others}
use Rattle.book_statement.proofs.texts.as_text.Goals as goal

pub returns-in_ok-from_str-in-Ok : goal.returns-in_ok-from_str-in-Ok
returns-in_ok-from_str-in-Ok c =
    let utf8 = c.in-Ok.ensures.cases in
    c.of.ensures ∙ c.in_ok-from_str-in-Ok.ensures.ok ∙ c.without_mark.ensures ∙ ap without_mark utf8.0
    ∙ sym (text_of_utf8 c.args.bytes.now utf8.1)

pub returns-in_ok-characters-in-Err : goal.returns-in_ok-characters-in-Err
returns-in_ok-characters-in-Err c =
    c.of-in-Err.ensures ∙ c.in_ok-characters-in-Err.ensures
    ∙ sym (text_of_others c.args.bytes.now c.in-Err.ensures.cases.0)
