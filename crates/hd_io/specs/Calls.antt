-- The calls of a source or a sink in memory: some of them are to fail, and the bytes of one may be bounded.
use Rattle.std.specs.Prelude.{ℕ, List, Bool, Option, None, Some, min, nat_eq, if◌then◌else◌}
use Rattle.std.specs.List.{list_any}
use Rattle.hd_io.specs.Counts.{count_up}

-- the numbers of the calls that fail, the number of the next one, how many have failed, and how many bytes
-- one moves at most, where that was set
pub record Calls : Type 0 where
  pub failing : List ℕ
  pub next : ℕ
  pub faults : ℕ
  pub most : Option ℕ

-- before the first call: they are counted from 1, and nothing is set
abbrev pub no_calls : List ℕ → Calls
no_calls failing = record { failing = failing; next = 1; faults = 0; most = None }

-- the number of the next call is among those that fail
abbrev pub fails_next : Calls → Bool
fails_next calls = list_any (λ number. nat_eq number calls.next) calls.failing

-- after one more call: its number stays at the greatest u64 once it is there
abbrev pub after_call : Calls → Calls
after_call calls = record calls {
  next = count_up calls.next 1;
  faults = if fails_next calls then count_up calls.faults 1 else calls.faults;
}

-- from now on a call moves at most `most` bytes
abbrev pub with_most : Calls → ℕ → Calls
with_most calls most = record calls { most = Some most }

-- the number of n bytes that one call moves, by the bound that was set
abbrev pub bounded : Option ℕ → ℕ → ℕ
bounded None n = n
bounded (Some most) n = min n most
