-- A source and a sink in memory whose calls fail by their numbers, as contracts see them.
use Rattle.std.specs.Prelude.{ℕ, ◌+◌, List, drop, Option, Some}
use Rattle.hd_io.specs.Calls.{Calls, after_call}
use Rattle.hd_io.specs.Source.{SourceView}
use Rattle.hd_io.specs.Sink.{SinkView}
use Rattle.hd_io.specs.Still.{with_piece}

-- a source: what it has left, how many bytes it has given, and its calls
pub record Reading : Type 0 where
  pub left : List ℕ
  pub given : ℕ
  pub calls : Calls

-- what is seen of it as a source
abbrev pub reading_view : Reading → SourceView
reading_view s = record { left = Some s.left; given = s.given; faults = s.calls.faults }

-- the source after a read that took n bytes
abbrev pub after_read : Reading → ℕ → Reading
after_read source n = record {
  left = drop n source.left;
  given = source.given + n;
  calls = after_call source.calls;
}

-- a sink: what is written, which it states while all of it had room, its room, and its calls
pub record Writing : Type 0 where
  pub written : Option (List ℕ)
  pub room : ℕ
  pub calls : Calls

-- what is seen of it as a sink
abbrev pub writing_view : Writing → SinkView
writing_view s = record { written = s.written; faults = s.calls.faults }

-- the sink after a write that took these bytes
abbrev pub after_write : Writing → List ℕ → Writing
after_write sink bytes = record {
  written = with_piece sink.room sink.written bytes;
  room = sink.room;
  calls = after_call sink.calls;
}
