-- The fields so far were taken.
use Rattle.std.proofs.Common.{◌≡◌, map, take}
use Rattle.httparse.specs.Spans.{header_bytes}
use Rattle.book_http.specs.Fields.{said}
use Rattle.book_http.proofs.fields.read_fields.Given as goal

abbrev pub invariant-loop-field : goal.invariant-loop-field
invariant-loop-field l = l.said ≡ said (map (header_bytes l.head) (take l.field-index l.fields))
