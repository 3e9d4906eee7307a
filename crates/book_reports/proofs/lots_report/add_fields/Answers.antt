use Rattle.std.proofs.Common.{[], ◌∷◌, IsUtf8}
use Rattle.std.proofs.lemmas.List.Elements.{All-cons, All-nil}
use Rattle.book_reports.proofs.lots_report.add_fields.Goals as goal

-- each field is a text
pub add_record-requires : goal.add_record-requires
add_record-requires c =
    let plus = c.as_bytes-2.result.now in
    let minus = c.as_bytes-3.result.now in
    let units = c.as_bytes-4.result.now in
    let day = c.as_bytes-5.result.now in
    let amount = c.as_bytes-6.result.now in
    All-cons IsUtf8 c.as_bytes.result.now (plus ∷ minus ∷ units ∷ day ∷ amount ∷ []) c.as_bytes.ensures.utf8
    (All-cons IsUtf8 plus (minus ∷ units ∷ day ∷ amount ∷ []) c.as_bytes-2.ensures.utf8
    (All-cons IsUtf8 minus (units ∷ day ∷ amount ∷ []) c.as_bytes-3.ensures.utf8
    (All-cons IsUtf8 units (day ∷ amount ∷ []) c.as_bytes-4.ensures.utf8
    (All-cons IsUtf8 day (amount ∷ []) c.as_bytes-5.ensures.utf8
    (All-cons IsUtf8 amount [] c.as_bytes-6.ensures.utf8 (All-nil IsUtf8))))))
