use Rattle.std.proofs.Common.{◌≡◌, ◌+◌, ◌≤◌, arith, length-take}
use Rattle.hd_io.proofs.SourceBytes.{gave_count}
use Rattle.hd_io.proofs.source.read_all.Goals as goal

pub returns-then-count-room-clause-too_long : goal.returns-then-count-room-clause-too_long
returns-then-count-room-clause-too_long g c = λ _.
    gave_count _ _ _ c.reading.bytes.items c.read.new.buf c.in-Ok.count (λ n. n ≡ c.args.most + 1)
    c.reading.invariant.gave c.in-Ok.ensures.gave c.in-Ok.ensures.count
    (omega (arith, c.in-Ok.ensures.count, length-take c.min-asked.result c.reading.chunk))

pub returns-then-is_err-clause-memory : goal.returns-then-is_err-clause-memory
returns-then-is_err-clause-memory g c = λ _.
    gave_count _ _ _ c.reading.bytes.items c.read.new.buf c.in-Ok.count (λ n. n ≤ c.args.most)
    c.reading.invariant.gave c.in-Ok.ensures.gave c.in-Ok.ensures.count (omega arith)
