-- A reader and a writer of the standard library as a source and a sink: what they keep.
use Rattle.std.specs.Prelude.{None}
use Rattle.hd_io.specs.declared.stream.StdSource.{StdSource}
use Rattle.hd_io.specs.declared.stream.StdSink.{StdSink}
use Rattle.hd_io.specs.Source.{SourceView}
use Rattle.hd_io.specs.Sink.{SinkView}

-- the reader under a source
abbrev pub reader_of : {R : Type 0} → StdSource R → R
reader_of source = source.reader

-- what is seen of a source over a reader: it states no bytes
abbrev pub source_view : {R : Type 0} → StdSource R → SourceView
source_view source = record { left = None; given = source.given; faults = source.faults }

-- the writer under a sink
abbrev pub writer_of : {W : Type 0} → StdSink W → W
writer_of sink = sink.writer

-- what is seen of a sink over a writer: it states no bytes
abbrev pub sink_view : {W : Type 0} → StdSink W → SinkView
sink_view sink = record { written = None; faults = sink.faults }
