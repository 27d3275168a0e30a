-- A handle that is made in a host whose table grew for it, if it had to.
use Rattle.std.proofs.Common.{List, None, Option, Some, ap, length, refl, subst, sym, ℕ, ◌%◌, ◌*◌, ◌+◌, ◌/◌, ◌<◌, ◌^◌, ◌∙◌, ◌≡◌, ◌≤◌}
use Rattle.std.proofs.lemmas.List.{length-set}
use Rattle.std.specs.Prelude.{IfSome, IsSome, slice_index, slice_set}
use Rattle.hd_model.specs.{declared.data.Grown.Grown, declared.data.Kind.Kind, declared.data.Make.Make, declared.data.Refusal.Refusal, declared.data.Slot.Slot, Kinds.kind_of, Run.NoneFree, Step.blocks_needed}
use Rattle.hd_model.specs.State.{IsFree, given_of, handle_at}
use Rattle.hd_model.specs.declared.command.Cmd.TheVariants as cmd
use Rattle.hd_pool.specs.Pool.{FreeSlots, HasNoneFor}
use Rattle.hd_slots.proofs.TiedPool.{none_in_state}
use Rattle.hd_slots.specs.Change.{MayNote, Offers, noted}
use Rattle.hd_slots.specs.declared.change.Change.{Change as Slots}
use Rattle.hd_slots.specs.declared.change.Change.TheVariants.{Takes}
use Rattle.hd_store.specs.{Calls.HasCalled, Calls.KeepsFirst, Calls.pointed, Growth.with_blocks, Store.Machine}
use Rattle.hd_host.specs.declared.fault.Fault.{Fault}
use Rattle.hd_host.specs.declared.fault.Fault.TheVariants as fault
use Rattle.hd_host.specs.declared.handle.Handle.{Handle}
use Rattle.hd_host.specs.declared.stamps.TheConstants.{FREE}
use Rattle.hd_host.specs.{declared.change.Change.Change, Calls.FailsBy, Calls.MakesHandle, Changes.change_by, Handles.handle_of, Handles.padded, Inside.HasBlocksFor, Inside.HasGrown, Inside.IsGrown, Inside.IsHost, Inside.IsSized, Inside.MayHaveBlocksFor, Inside.fault_of, Inside.with_room, View.HostView, View.IsAsItWas, View.state_in}
use Rattle.hd_host.proofs.CallHost.{known_in}
use Rattle.hd_host.proofs.GrownCalls.{shown}
use Rattle.hd_host.proofs.GrownParts.{callers_grown, grown_none, host_grown, noted_on, offers_grown, room_made, sized_with, slot_within, view_grown}
use Rattle.hd_host.proofs.MadeHandle.{made_entry, refused_entry}
use Rattle.hd_host.proofs.MadeHandle as whole
use Rattle.hd_host.proofs.OutOfMemory.{make_ran_out}
use Rattle.hd_host.proofs.PaddedEntries.{index_padded, written_padded}
use Rattle.hd_host.proofs.Registers.{not_pointed}
use Rattle.hd_host.proofs.RoomOfPools.{noted_blocks, noted_room, offers_blocks, room_done}
use Rattle.hd_host.proofs.SameHost.{unchanged}
use Rattle.hd_host.proofs.WiderCall.{sized_called, sized_of, wide_called}
use Rattle.hd_store.specs.Offers.{handle_slot}

-- no slot of a kind is free in a host whose pool has none
pub none_free : {limit : ℕ} {m : Machine} {p : FreeSlots} {entries : List ℕ} {last : Change} {v : HostView}
    → IsGrown limit m p entries → shown limit m entries last ≡ v → (kind : Kind) → HasNoneFor p kind
    → NoneFree v.machine.state kind
none_free {limit} {m} {p} grown view kind none =
    subst (λ (x : HostView). NoneFree x.machine.state kind) view
    (λ slot free. none_in_state (with_blocks limit m).numbers (state_in m) (with_room limit p) grown.host.tied kind none
    slot (record { no_handle = free.no_handle; not_weak = free.not_weak; of_kind = free.of_kind }))

-- where none was offered, the pool is as it was
pub pool_kept : {limit : ℕ} {m m1 : Machine} {p q q1 : FreeSlots} {entries entries1 : List ℕ}
    → HasGrown limit m q entries m1 q1 entries1 → IsGrown limit m p entries → q ≡ p → IsGrown limit m1 q1 entries1
pool_kept {limit} {m1 = m1} {entries1 = entries1} growth start same = record {
  host = subst (λ (x : FreeSlots). IsHost (with_blocks limit m1) x (padded limit entries1))
      (sym (growth.pool ∙ ap (with_room limit) same)) (host_grown growth start.host);
  sized = growth.sized;
}

-- what is offered leaves the table as it is
pub none_grown : {limit : ℕ} {m : Machine} {p q : FreeSlots} {entries : List ℕ} → IsGrown limit m p entries
    → (change : Slots) (o : Option Slot) → Offers p q change o → HasGrown limit m q entries m q entries
none_grown {p = p} {q = q} start change o given =
    grown_none (sized_with start.sized (offers_blocks p q change o given) refl)

-- nor is anything to be noted of a slot that was offered, for which no block was taken
pub none_noted : {m k : Machine} {context t : ℕ} {make : Make} {free slot : Slot} {by : Grown} (q : FreeSlots)
    (of : Kind) → HasCalled m context (cmd.HNew 0 make t) (Some free) k (made_entry context make t slot by)
    → q ≡ noted q (Takes of) (Some slot) by
none_noted {free = free} {slot = slot} q of called =
    ap (noted q (Takes of) (Some slot)) (sym (called.offer free refl).1)

module _ {limit : ℕ} {m0 m : Machine} {p q0 q : FreeSlots} {entries0 entries : List ℕ} {last : Change} {v : HostView}
    (start : IsGrown limit m0 p entries0) (view : shown limit m0 entries0 last ≡ v) {context : ℕ}
    (known : context < v.machine.numbers.callers) (make : Make) (t : ℕ) {of : Kind} (of_is : of ≡ kind_of make)
    (o : Option Slot) (given : Offers p q0 (Takes of) o)
    (growth : HasGrown limit m0 q0 entries0 m q entries) where
  host : IsHost (with_blocks limit m) (with_room limit p) (padded limit entries)
  host = host_grown growth start.host

  view_now : shown limit m entries last ≡ v
  view_now = view_grown growth view

  offers : Offers (with_room limit p) (with_room limit q) (Takes of) o
  offers = offers_grown growth p (Takes of) o given

  pub here : context < m.numbers.callers
  here = subst (λ n. context < n) (sym (callers_grown growth)) (known_in view known)

  pub offered_free : IfSome o (IsFree m.state (kind_of make))
  offered_free =
      whole.offered_free host view_now known make t of_is (with_room limit q) o offers (with_blocks limit m)

  -- it made a handle
  module _ (k : Machine) {slot : Slot} {by : Grown} (called : HasCalled m context (cmd.HNew 0 make t) o
      (pointed k context (Some slot)) (made_entry context make t slot by) × KeepsFirst m context k) where
    wide : HasCalled (with_blocks limit m) context (cmd.HNew 0 make t) o
        (pointed (with_blocks limit k) context (Some slot)) (made_entry context make t slot by)
        × KeepsFirst (with_blocks limit m) context (with_blocks limit k)
    wide = (
      wide_called growth.sized.sound growth.sized.ages growth.sized.few called.0 (room_done limit _ (handle_slot (kind_of make))),
      called.1,
    )

    pub may_note : MayNote q (Takes of) (Some slot) by
    may_note =
        subst (λ x. MayNote q (Takes x) (Some slot) by) (sym of_is)
        (noted_on limit p q host growth.sized.sound growth.sized.pool here
        (subst (λ x. Offers (with_room limit p) (with_room limit q) (Takes x) o) of_is offers)
        (pointed k context (Some slot)) (made_entry context make t slot by) called.0)

    sized : IsSized limit k q.blocks entries
    sized = sized_of growth.sized here None (Some slot)
        (subst (λ (x : Machine). HasCalled x context (cmd.HNew 0 make t) o (pointed k context (Some slot))
        (made_entry context make t slot by)) (sym (not_pointed m context (host.empty context 0))) called.0)
        (called.1 ∙ host.empty context 0)

    pub live_made : IsSome (handle_at k.state slot)
    live_made = whole.live_made host view_now known make t of_is (with_room limit q) o offers (with_blocks limit k) wide

    pub within : slot.0 < length entries
    within = slot_within sized slot live_made

    pub small : slot.0 < 2 ^ 24
    small = whole.small host view_now known make t of_is (with_room limit q) o offers (with_blocks limit k) wide

    pub free : slice_index entries slot.0 % 2 ^ 24 ≡ FREE
    free = ap (λ x. x % 2 ^ 24) (sym (index_padded limit entries slot.0 within))
        ∙ whole.free host view_now known make t of_is (with_room limit q) o offers (with_blocks limit k) wide

    abbrev next : ℕ → ℕ
    next x = x / 2 ^ 24 * 2 ^ 24 + slot.0

    module _ {others : List ℕ} (written : others ≡ slice_set entries slot.0 (next (slice_index entries slot.0))) where
      written_wide : padded limit others
          ≡ slice_set (padded limit entries) slot.0 (next (slice_index (padded limit entries) slot.0))
      written_wide = written_padded limit entries next slot.0 within written

      pub host_made : (r : FreeSlots) → r ≡ noted q (Takes of) (Some slot) by → IsGrown limit k r others
      host_made r is = record {
        host = whole.host_made host view_now known make t of_is (with_room limit q) o offers (with_blocks limit k) wide
            written_wide (with_room limit r) (noted_room limit q (Takes of) (Some slot) by is);
        sized = sized_with sized (noted_blocks q (Takes of) (Some slot) by is)
            (ap length written ∙ length-set entries slot.0 (next (slice_index entries slot.0)));
      }

      pub makes : {handle : Handle} {after : Change} → after ≡ change_by (Some slot) by
          → handle ≡ handle_of (shown limit k others after) slot
          → MakesHandle v context make t (shown limit k others after) handle
      makes after_is is = whole.makes host view_now known make t of_is (with_room limit q) o offers
          (with_blocks limit k) wide written_wide after_is is

  -- the table was full
  module _ (k : Machine) {why : Refusal} (has : HasBlocksFor limit m (Takes of) o)
      (called : HasCalled m context (cmd.HNew 0 make t) o k (refused_entry context (cmd.HNew 0 make t) why)
      × KeepsFirst m context k) where
    full : HasCalled (with_blocks limit m) context (cmd.HNew 0 make t) o (with_blocks limit k)
        (refused_entry context (cmd.HNew 0 make t) why)
        × KeepsFirst (with_blocks limit m) context (with_blocks limit k)
    full = (
      wide_called growth.sized.sound growth.sized.ages growth.sized.few called.0 (room_made limit o called.0 refl
          (subst (λ x. HasBlocksFor limit m (Takes x) o) of_is has)),
      called.1,
    )

    pub host_unmade : IsGrown limit k q entries
    host_unmade = record {
      host = whole.host_unmade host view_now known make t of_is (with_room limit q) o offers (with_blocks limit k) full;
      sized = sized_called growth.sized called.0;
    }

    pub makes_none : {f : Fault} → f ≡ fault_of why
        → FailsBy v context None (cmd.HNew 0 make t) f × IsAsItWas v (shown limit k entries last)
    makes_none is =
        whole.makes_none host view_now known make t of_is (with_room limit q) o offers (with_blocks limit k) full is

  -- memory ran out
  module _ (may : MayHaveBlocksFor limit m (Takes of) o) where
    none_offered : (x : Option Slot) → Offers p q0 (Takes of) x → MayHaveBlocksFor limit m (Takes of) x
        → HasNoneFor p of × (q0 ≡ p) × (given_of m.state + blocks_needed of ≤ limit)
    none_offered None is enough = (is.0, is.1, enough)
    none_offered (Some slot) is enough = absurd enough

    pub host_short : IsGrown limit m q entries
    host_short = pool_kept growth start (none_offered o given may).1

    pub makes_short : FailsBy v context None (cmd.HNew 0 make t) fault.Memory × IsAsItWas v (shown limit m entries last)
    makes_short =
        let all = none_offered o given may in
        let enough = subst (λ x. given_of m.state + blocks_needed x ≤ limit) of_is all.2 in (
          make_ran_out (subst (NoneFree v.machine.state) of_is (none_free start view of all.0))
              (subst (λ (x : HostView). given_of x.machine.state + blocks_needed (kind_of make)
              ≤ x.machine.numbers.blocks) view_now enough),
          subst (λ (x : HostView). IsAsItWas x (shown limit m entries last)) view_now
              (unchanged (shown limit m entries last)),
        )
