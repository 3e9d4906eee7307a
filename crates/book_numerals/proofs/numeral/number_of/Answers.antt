use Rattle.std.proofs.Common.{◌∙◌, sym}
use Rattle.book_numerals.proofs.NumeralLemmas.{number_read, number_unread}
use Rattle.book_numerals.proofs.numeral.number_of.Goals as goal

pub returns-in-Ok : goal.returns-in-Ok
returns-in-Ok c =
    c.below_limit.ensures
    ∙ number_read c.args.word.now c.in-Ok.number c.parse.result
    (sym c.is_numeral.ensures ∙ c.if-not-is_numeral.false) c.parse.ensures.value.0 c.in-Ok.is

pub returns-in-Err : goal.returns-in-Err
returns-in-Err c =
    number_unread c.args.word.now c.parse.result c.in-Err.field-0
    (sym c.is_numeral.ensures ∙ c.if-not-is_numeral.false) c.parse.ensures.value.0 c.in-Err.is
