use Rattle.std.proofs.Common.{IsOk, IsUtf8, subst, sym}
use Rattle.book_reports.proofs.TextLemmas.{record_is_text}
use Rattle.book_table.proofs.layout.add_record.Goals as goal

pub unreachable-requires : goal.unreachable-requires
unreachable-requires c =
    let text = subst IsUtf8 (sym c.in_ok-row_bytes.ensures.bytes) (record_is_text c.args.row.now c.in_ok-row_bytes.ensures.utf8) in
    cc (subst IsOk c.in_default.is (c.from_utf8.ensures.succeeds text))
