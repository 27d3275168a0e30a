-- The live handle with the least slot from a number on is the next one of all kinds.
use Rattle.std.proofs.Common.{None, Option, Some, false, refl, ◌-◌, ◌^◌, ◌≡◌, ℕ}
use Rattle.std.proofs.lemmas.Bool.{false≢true}
use Rattle.std.specs.Int.{bit_at}
use Rattle.std.specs.Prelude.{IsSome, MatchOption}
use Rattle.hd_model.proofs.MapEntries.{some_value}
use Rattle.hd_model.specs.{declared.data.Kind.Kind, declared.data.Slot.Slot, Kinds.kind_number, State.State, State.handle_at}
use Rattle.hd_model.specs.declared.data.Kind.TheVariants as kind
use Rattle.hd_host.specs.declared.observing.Listed.{Listed}
use Rattle.hd_host.specs.Handles.{HasNoneFrom, IsNextFrom}
use Rattle.hd_host.specs.Kinds.{HasNoneOf, IsHandleOf, IsListedOf}
use Rattle.hd_host.specs.View.{HostView}

abbrev all : ℕ
all = 2 ^ 32 - 1

in-all : (k : Kind) → bit_at all (kind_number k) ≡ 1
in-all kind.Short = refl
in-all kind.Long = refl
in-all kind.Strong = refl
in-all kind.Pinned = refl
in-all kind.Variable = refl
in-all kind.Counted = refl
in-all kind.Dependent = refl

of-all : {s : State} (slot : Slot) → IsSome (handle_at s slot) → IsHandleOf s all false slot
of-all {s} slot there =
    let held = some_value (handle_at s slot) there in
    record {
      has = record { handle = held.0; live = held.1; is_cleared = λ e. absurd (false≢true e) };
      of_kinds = in-all held.0.kind;
    }

pub next_from : (v : HostView) (from : ℕ) (o : Option Listed)
    → MatchOption o (HasNoneOf v.machine.state all false from) (IsListedOf v all false from)
    → MatchOption o (HasNoneFrom v from) (IsNextFrom v from)
next_from v from None none = λ slot low there. none slot low (of-all slot there)
next_from v from (Some listed) next = record {
  from_on = next.next.from_on;
  handle = next.handle;
  info = next.info;
  least = λ other low there. next.next.least other low (of-all other there);
}
