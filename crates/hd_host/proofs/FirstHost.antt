-- A host in which nothing is made.
use Rattle.std.proofs.Common.{List, None, Option, [], ap, arith, get_or, is_some, length, refl, replicate, suc, sym, zero, ℕ, ◌%◌, ◌*◌, ◌+◌, ◌^◌, ◌∙◌, ◌≡◌, ◌≤◌}
use Rattle.std.proofs.lemmas.List.{length-replicate}
use Rattle.std.specs.FinMap as map
use Rattle.std.specs.FinSet as set
use Rattle.std.specs.Ordering.{nat_cmp}
use Rattle.hd_model.specs.{declared.data.Id.Id, declared.data.Slot.Slot, PinnedAddresses.with_pinned}
use Rattle.hd_model.specs.State.{Handle as Held, State, handle_at, handle_register_of, start_of}
use Rattle.hd_model.specs.declared.limits.TheConstants.{CLUMPS, HOST_BLOCKS, OLDEST, REGISTERS, ROWS}
use Rattle.hd_pool.specs.Pool.{FreeSlots}
use Rattle.hd_slots.proofs.TiedPool.{tied_at_start}
use Rattle.hd_store.specs.{Calls.IsSound, Growth.with_blocks, Offers.HasLimits, Store.Machine}
use Rattle.hd_host.specs.declared.stamps.TheConstants.{FREE}
use Rattle.hd_host.specs.Handles.{padded}
use Rattle.hd_host.specs.Inside.{IsGrown, IsHost, low_bits, with_room}
use Rattle.hd_host.proofs.GrownParts.{sound_wide}
use Rattle.hd_host.proofs.LiveEntries.{none_live}
use Rattle.hd_host.proofs.PaddedEntries.{all_filled}

abbrev no_slot : Option Slot
no_slot = None

nothing_in : (count h : ℕ) → get_or (replicate count no_slot) h no_slot ≡ no_slot
nothing_in zero h = refl
nothing_in (suc count) zero = refl
nothing_in (suc count) (suc h) = nothing_in count h

none_in : (rows count k h : ℕ)
    → get_or (get_or (replicate rows (replicate count no_slot)) k []) h no_slot ≡ no_slot
none_in zero count k h = refl
none_in (suc rows) count zero h = nothing_in count h
none_in (suc rows) count (suc k) h = none_in rows count k h

full : FREE % 2 ^ 24 ≡ FREE
full = omega arith

pub host_at_first : (m : Machine) (p : FreeSlots) (stamps : List ℕ) → HasLimits m.numbers
    → m.state ≡ start_of m.numbers
    → p ≡ record { blocks = m.numbers.blocks; kinds = map.empty; free = set.empty }
    → stamps ≡ replicate (ROWS * (m.numbers.blocks + 1)) FREE → IsHost m p stamps
host_at_first m p stamps limits first pool is = record {
  limits = limits;
  tied = tied_at_start m.numbers (with_pinned m.state map.empty) p (ap (λ s. with_pinned s map.empty) first) pool;
  empty = λ context h. ap (λ (s : State). handle_register_of s context h) first
      ∙ none_in m.numbers.callers REGISTERS context h;
  stamps = ap length is ∙ length-replicate (ROWS * (m.numbers.blocks + 1)) FREE;
  live = λ slot low.
      ap (λ (xs : List ℕ). get_or xs slot.0 0 % 2 ^ 24) is
      ∙ ap (λ x. x % 2 ^ 24) (none_live (ROWS * (m.numbers.blocks + 1)) slot.0
      (omega (arith, low, ap length is ∙ length-replicate (ROWS * (m.numbers.blocks + 1)) FREE)))
      ∙ full
      ∙ ap (λ (o : Option (Held Id)). low_bits (is_some o) slot) (sym (map.get-empty nat_cmp slot.0))
      ∙ ap (λ (s : State). low_bits (is_some (handle_at s slot)) slot) (sym first);
}

-- and it has some of its blocks at first
pub grown_at_first : (limit : ℕ) (m : Machine) (p : FreeSlots) (entries : List ℕ) {blocks : ℕ} → IsSound m
    → blocks ≤ limit → limit ≤ HOST_BLOCKS → m.state ≡ start_of m.numbers
    → m.ages ≡ replicate (CLUMPS * blocks) OLDEST → m.numbers.blocks ≡ blocks
    → p ≡ record { blocks = blocks; kinds = map.empty; free = set.empty }
    → entries ≡ replicate (ROWS * (blocks + 1)) FREE → IsGrown limit m p entries
grown_at_first limit m p entries {blocks} sound low most first ages same pool is = record {
  host = host_at_first (with_blocks limit m) (with_room limit p) (padded limit entries)
      (sound_wide limit m (omega (arith, low, same)) most sound).limits first (ap (with_room limit) pool)
      (ap (padded limit) is ∙ all_filled (ROWS * (blocks + 1)) (ROWS * (limit + 1)) FREE (omega (arith, low)));
  sized = record {
    sound = sound;
    ages = ap length ages ∙ length-replicate (CLUMPS * blocks) OLDEST ∙ ap (λ n. CLUMPS * n) (sym same);
    few = omega (arith, low, same);
    most = most;
    pool = omega (arith, same, ap (λ (x : FreeSlots). x.blocks) pool);
    stamps = omega (arith, same, ap length is, length-replicate (ROWS * (blocks + 1)) FREE);
    within = omega (arith, low, ap length is, length-replicate (ROWS * (blocks + 1)) FREE);
  };
}
