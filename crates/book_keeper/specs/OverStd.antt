-- A source over a reader of std and a sink over a writer of std: as they are made, what a source has left, and the
-- faults that each has counted.
use Rattle.std.specs.Prelude.{ℕ, false, List, Option}
use Rattle.book_keeper.specs.declared.file_source.FileSource.{FileSource}
use Rattle.book_keeper.specs.declared.stream_sink.StreamSink.{StreamSink}

-- The sink over a writer, with no fault yet.
abbrev pub sink_over : {W : Type 0} → W → StreamSink W
sink_over writer = record { writer = writer; faults = 0; unflushed = false }

-- The bytes that the source's reader reports as still to come.
abbrev pub left_of : {R : Type 0} → (R → Option (List ℕ)) → FileSource R → Option (List ℕ)
left_of remaining source = remaining source.reader

-- How often the source has failed.
abbrev pub source_faults : {R : Type 0} → FileSource R → ℕ
source_faults source = source.faults

-- How often the sink has failed.
abbrev pub sink_faults : {W : Type 0} → StreamSink W → ℕ
sink_faults sink = sink.faults
