use Rattle.std.proofs.Common.{[], ◌∷◌, IsUtf8}
use Rattle.std.proofs.lemmas.List.Elements.{All-cons, All-nil}
use Rattle.book_reports.proofs.register_report.add_csv_record.Goals as goal

-- each field is a text
pub add_record-requires : goal.add_record-requires
add_record-requires c =
    All-cons IsUtf8 c.as_bytes.result.now (c.as_bytes-2.result.now ∷ c.as_bytes-3.result.now ∷ c.as_bytes-4.result.now ∷ c.as_bytes-5.result.now ∷ c.as_bytes-6.result.now ∷ []) c.as_bytes.ensures.utf8
    (All-cons IsUtf8 c.as_bytes-2.result.now (c.as_bytes-3.result.now ∷ c.as_bytes-4.result.now ∷ c.as_bytes-5.result.now ∷ c.as_bytes-6.result.now ∷ []) c.as_bytes-2.ensures.utf8
    (All-cons IsUtf8 c.as_bytes-3.result.now (c.as_bytes-4.result.now ∷ c.as_bytes-5.result.now ∷ c.as_bytes-6.result.now ∷ []) c.as_bytes-3.ensures.utf8
    (All-cons IsUtf8 c.as_bytes-4.result.now (c.as_bytes-5.result.now ∷ c.as_bytes-6.result.now ∷ []) c.as_bytes-4.ensures.utf8
    (All-cons IsUtf8 c.as_bytes-5.result.now (c.as_bytes-6.result.now ∷ []) c.as_bytes-5.ensures.utf8
    (All-cons IsUtf8 c.as_bytes-6.result.now ([]) c.as_bytes-6.ensures.utf8
    (All-nil IsUtf8))))))
