-- The numbers of the header.
use Rattle.std.proofs.Common.{refl}
use Rattle.hdt_c.specs.Numbers.{NumbersAreThese}

pub numbers_are_these : NumbersAreThese
numbers_are_these = record {
  version = refl;
  statuses = record {
    ok = refl;
    closed = refl;
    is_open = refl;
    argument = refl;
    no_memory = refl;
    exhausted = refl;
    stale = refl;
    wrong_kind = refl;
    count_zero = refl;
    null = refl;
    no_field = refl;
    present = refl;
    heap_full = refl;
    table_full = refl;
    none = refl;
    busy = refl;
    room = refl;
    apart = refl;
  };
  faults = record {
    memory = refl;
    exhausted = refl;
    stale = refl;
    wrong_kind = refl;
    count_zero = refl;
    null = refl;
    no_field = refl;
    present = refl;
    heap_full = λ used size. refl;
    table_full = λ given. refl;
  };
  kinds = record {
    short = refl;
    long = refl;
    strong = refl;
    pinned = refl;
    variable = refl;
    counted = refl;
    dependent = refl;
    apart = refl;
  };
  strengths = record {
    short = refl;
    long = refl;
    strong = refl;
    pinned = refl;
  };
  flags = record {
    finalizable = refl;
  };
  limits = record {
    cells = refl;
    blocks = refl;
    contexts = refl;
  };
}
