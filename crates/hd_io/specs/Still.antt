-- A source and a sink in memory that never fail, as contracts see them: their counts of faults are the
-- constant 0. They are this project's own, for tests.
use Rattle.std.specs.Prelude.{ℕ, ◌+◌, List, ◌++◌, length, drop, Option, None, Some, nat_le, if◌then◌else◌}
use Rattle.hd_io.specs.Source.{SourceView}
use Rattle.hd_io.specs.Sink.{SinkView}

-- a source: what it has left, and how many bytes it has given
pub record StillReading : Type 0 where
  pub left : List ℕ
  pub given : ℕ

-- what is seen of it as a source
abbrev pub still_source_view : StillReading → SourceView
still_source_view s = record { left = Some s.left; given = s.given; faults = 0 }

-- the source after a read that took n bytes
abbrev pub after_still_read : StillReading → ℕ → StillReading
after_still_read source n = record { left = drop n source.left; given = source.given + n }

-- a sink: what is written, which it states while all of it had room, and its room
pub record StillWriting : Type 0 where
  pub written : Option (List ℕ)
  pub room : ℕ

-- what is seen of it as a sink
abbrev pub still_sink_view : StillWriting → SinkView
still_sink_view s = record { written = s.written; faults = 0 }

-- what is stated as written after bytes that were taken: they are kept where they fit into the room
abbrev pub with_piece : ℕ → Option (List ℕ) → List ℕ → Option (List ℕ)
with_piece room None piece = None
with_piece room (Some bytes) piece =
    if nat_le (length bytes + length piece) room then Some (bytes ++ piece) else None

-- the sink after a write that took these bytes
abbrev pub after_still_write : StillWriting → List ℕ → StillWriting
after_still_write sink bytes =
    record { written = with_piece sink.room sink.written bytes; room = sink.room }
