use Rattle.std.proofs.Common.{◌≡◌, ◌∷◌, [], ◌+◌, Some, None, drop, position, sym, ap, ◌∙◌, arith}
use Rattle.std.specs.Prelude.{map}
use Rattle.std.proofs.lemmas.Str.{IsUtf8-nil}
use Rattle.book_statement.specs.Texts.{trimmed, lines_of}
use Rattle.book_statement.proofs.TextLemmas.{is_line_feed, first_line, nothing_behind, only_line}
use Rattle.book_statement.proofs.lines.next_line.Goals as goal

pub text_before-requires-clause-ascii : goal.text_before-requires-clause-ascii
text_before-requires-clause-ascii c =
    let found : position is_line_feed c.args.text.now ≡ Some c.in-Some.end =
    ap (λ l. position is_line_feed l) (sym c.as_bytes.ensures.value) ∙ sym c.line_feed.ensures ∙ c.in-Some.is in
    let first = first_line c.args.text.now c.in-Some.end found in omega (arith, first.feed)

pub text_behind-requires-clause-ascii : goal.text_behind-requires-clause-ascii
text_behind-requires-clause-ascii c =
    let found : position is_line_feed c.args.text.now ≡ Some c.in-Some.end =
    ap (λ l. position is_line_feed l) (sym c.as_bytes.ensures.value) ∙ sym c.line_feed.ensures ∙ c.in-Some.is in
    let first = first_line c.args.text.now c.in-Some.end found in omega (arith, first.feed)

pub returns-in-Some-clause-lines : goal.returns-in-Some-clause-lines
returns-in-Some-clause-lines c =
    let found : position is_line_feed c.args.text.now ≡ Some c.in-Some.end =
    ap (λ l. position is_line_feed l) (sym c.as_bytes.ensures.value) ∙ sym c.line_feed.ensures ∙ c.in-Some.is in
    let first = first_line c.args.text.now c.in-Some.end found in
    let line : trimmed c.text_before.result.now ≡ c.trimmed.result.now = sym c.trimmed.ensures in
    ap (map trimmed) first.lines
    ∙ ap (λ l. trimmed l ∷ lines_of (drop (c.in-Some.end + 1) c.args.text.now)) (sym c.text_before.ensures)
    ∙ ap (λ l. l ∷ lines_of (drop (c.in-Some.end + 1) c.args.text.now)) line
    ∙ ap (λ l. c.trimmed.result.now ∷ lines_of l) (sym c.text_behind.ensures)

pub returns-in-None-clause-lines : goal.returns-in-None-clause-lines
returns-in-None-clause-lines c =
    let found : position is_line_feed c.args.text.now ≡ None =
    ap (λ l. position is_line_feed l) (sym c.as_bytes.ensures.value) ∙ sym c.line_feed.ensures ∙ c.in-None.is in
    ap (map trimmed) (only_line c.args.text.now c.requires found) ∙ ap (λ l. l ∷ []) (sym c.trimmed-in-None.ensures)

pub returns-in-Some-clause-rest : goal.returns-in-Some-clause-rest
returns-in-Some-clause-rest c =
    let found : position is_line_feed c.args.text.now ≡ Some c.in-Some.end =
    ap (λ l. position is_line_feed l) (sym c.as_bytes.ensures.value) ∙ sym c.line_feed.ensures ∙ c.in-Some.is in
    let first = first_line c.args.text.now c.in-Some.end found in c.text_behind.ensures ∙ first.rest

pub returns-in-None-clause-rest : goal.returns-in-None-clause-rest
returns-in-None-clause-rest c =
    nothing_behind c.args.text.now (ap (λ l. position is_line_feed l) (sym c.as_bytes.ensures.value)
    ∙ sym c.line_feed.ensures ∙ c.in-None.is)

pub returns-in-Some-clause-utf8 : goal.returns-in-Some-clause-utf8
returns-in-Some-clause-utf8 c = c.text_behind.utf8

pub returns-in-None-clause-utf8 : goal.returns-in-None-clause-utf8
returns-in-None-clause-utf8 c = IsUtf8-nil
