-- An entry that is added to the weak table of a host whose table grew for it, if it had to.
use Rattle.std.proofs.Common.{Bool, List, None, Option, Some, ap, arith, cond, false, inl, inr, refl, subst, sym, true, ℕ, ◌+◌, ◌<◌, ◌∙◌, ◌≡◌, ◌≤◌, ◌⊎◌}
use Rattle.std.specs.Cmp.{nat_cmp_total}
use Rattle.std.specs.FinMap.{get, nat_cmp-IsAntisymmetric}
use Rattle.std.specs.FinSet.{FinSet, contains, insert, remove, same_set}
use Rattle.std.specs.Ordering.{nat_cmp}
use Rattle.std.specs.Prelude.{is_some}
use Rattle.std.proofs.lemmas.Bool.{cases_eq}
use Rattle.hd_tiers.proofs.SetMembers.{insert_other, insert_same, remove_other, remove_same}
use Rattle.hd_model.specs.{declared.data.Entry.Entry, declared.data.Grown.Grown, declared.data.Refusal.Refusal, declared.data.Slot.Slot}
use Rattle.hd_model.specs.State.{IsFree, State, block_of, given_of}
use Rattle.hd_model.specs.declared.limits.TheConstants.{BLOCKS}
use Rattle.hd_model.specs.declared.command.Cmd.TheVariants as cmd
use Rattle.hd_model.specs.declared.data.Kind.TheVariants as kinds
use Rattle.hd_pool.specs.Pool.{FreeSlots, HasNoneFor}
use Rattle.hd_slots.specs.Change.{MayNote, Offers, change_in, noted}
use Rattle.hd_slots.specs.declared.change.Change.{Change as Slots}
use Rattle.hd_slots.specs.declared.change.Change.TheVariants.{Adds, Frees, Takes}
use Rattle.hd_store.specs.{Calls.HasCalled, Growth.with_blocks, Offers.IsOffer, Store.Machine}
use Rattle.hd_store.specs.Offers.{MayOffer, TakesTable, asks_of, handle_slot, needs_slot, no_room}
use Rattle.hd_model.specs.declared.data.Grown.TheVariants.{Zero}
use Rattle.hd_host.specs.declared.fault.Fault.{Fault}
use Rattle.hd_host.specs.declared.fault.Fault.TheVariants as fault
use Rattle.hd_host.specs.{declared.change.Change.Change, Calls.AddsEntry, Calls.FailsBy, Changes.change_by, Handles.padded, Inside.HasBlocksFor, Inside.HasGrown, Inside.HasRoom, Inside.IsGrown, Inside.IsHost, Inside.MayHaveBlocksFor, Inside.fault_of, Inside.with_room, View.HostView, View.IsAsItWas}
use Rattle.hd_host.proofs.AddedEntry.{added_entry}
use Rattle.hd_host.proofs.AddedEntry as whole
use Rattle.hd_host.proofs.CallHost.{known_in}
use Rattle.hd_host.proofs.GrownCalls.{shown}
use Rattle.hd_host.proofs.GrownMakes.{none_free, pool_kept}
use Rattle.hd_host.proofs.GrownParts.{callers_grown, host_grown, noted_on, offers_grown, room_made, sized_with, state_grown, view_grown}
use Rattle.hd_host.proofs.MadeHandle.{refused_entry}
use Rattle.hd_host.proofs.OutOfMemory.{add_ran_out, first_ran_out}
use Rattle.hd_host.proofs.RoomOfPools.{noted_blocks, noted_room, room_done}
use Rattle.hd_host.proofs.SameHost.{unchanged}
use Rattle.hd_host.proofs.WiderCall.{sized_called, wide_called}

-- a member that was removed is put back
put_back : (s : FinSet nat_cmp) (k : ℕ) → contains s k ≡ true → insert (remove s k) k ≡ s
put_back s k member = same_set nat_cmp_total nat_cmp-IsAntisymmetric _ _ (λ q. elim (cases_eq q k) [
  | inl same ↦ insert_same (remove s k) k q same ∙ sym member ∙ ap (contains s) (sym same)
  | inr apart ↦ insert_other (remove s k) k q apart ∙ remove_other s k q apart
])

module _ {limit : ℕ} {m0 m : Machine} {p q0 q : FreeSlots} {entries0 entries : List ℕ} {last : Change} {v : HostView}
    (start : IsGrown limit m0 p entries0) (view : shown limit m0 entries0 last ≡ v) {context : ℕ}
    (known : context < v.machine.numbers.callers) (key value : ℕ) {change : Slots}
    (change_is : change ≡ change_in m0.state context (cmd.CAdd key value)) (o : Option Slot)
    (given : Offers p q0 change o) (growth : HasGrown limit m0 q0 entries0 m q entries) where
  host : IsHost (with_blocks limit m) (with_room limit p) (padded limit entries)
  host = host_grown growth start.host

  view_now : shown limit m entries last ≡ v
  view_now = view_grown growth view

  offers : Offers (with_room limit p) (with_room limit q) change o
  offers = offers_grown growth p change o given

  change_now : change ≡ change_in m.state context (cmd.CAdd key value)
  change_now = change_is ∙ ap (λ (s : State). change_in s context (cmd.CAdd key value)) (sym (state_grown growth))

  pub here : context < m.numbers.callers
  here = subst (λ n. context < n) (sym (callers_grown growth)) (known_in view known)

  pub may_offer : IsOffer m.state context (cmd.CAdd key value) o
  may_offer = whole.may_offer host view_now known key value (with_room limit q) o change_now offers

  -- it was added
  module _ {k : Machine} {slot : Slot} {by : Grown}
      (called : HasCalled m context (cmd.CAdd key value) o k (added_entry context key value slot by)) where
    wide : HasCalled (with_blocks limit m) context (cmd.CAdd key value) o (with_blocks limit k)
        (added_entry context key value slot by)
    wide = wide_called growth.sized.sound growth.sized.ages growth.sized.few called
        (room_done limit _ (asks_of m.state context (cmd.CAdd key value)))

    pub may_note : MayNote q change (Some slot) by
    may_note =
        subst (λ x. MayNote q x (Some slot) by) (sym change_now)
        (noted_on limit p q host growth.sized.sound growth.sized.pool here
        (subst (λ x. Offers (with_room limit p) (with_room limit q) x o) change_now offers) k
        (added_entry context key value slot by) called)

    pub host_added : (r : FreeSlots) → r ≡ noted q change (Some slot) by → IsGrown limit k r entries
    host_added r is = record {
      host = whole.host_added host view_now known key value (with_room limit q) o change_now offers wide
          (with_room limit r) (noted_room limit q change (Some slot) by is);
      sized = sized_with (sized_called growth.sized called) (noted_blocks q change (Some slot) by is) refl;
    }

    pub adds : {after : Change} → after ≡ change_by (Some slot) by
        → AddsEntry v context key value (shown limit k entries after)
    adds after_is =
        whole.adds host view_now known key value (with_room limit q) o change_now offers wide after_is

  -- ---- by whether it needs a slot that the weak table has yet to get

  abbrev Needs : Bool → Type 0
  Needs b = needs_slot m.state context (cmd.CAdd key value) ≡ b

  change_by_need : (b : Bool) → Needs b → change ≡ cond b (Takes kinds.Dependent) Adds
  change_by_need b is = change_now ∙ ap (λ x. cond x (Takes kinds.Dependent) Adds) is

  asks_by_need : (b : Bool) → Needs b
      → asks_of m.state context (cmd.CAdd key value) ≡ cond b (handle_slot kinds.Dependent) no_room
  asks_by_need b is = ap (λ x. cond x (handle_slot kinds.Dependent) no_room) is

  -- it was refused
  module _ {k : Machine} {why : Refusal} (has : HasBlocksFor limit m change o)
      (called : HasCalled m context (cmd.CAdd key value) o k (refused_entry context (cmd.CAdd key value) why)) where
    abbrev entry : Entry
    entry = refused_entry context (cmd.CAdd key value) why

    room : (b : Bool) → Needs b
        → HasRoom limit (given_of m.state) (asks_of m.state context (cmd.CAdd key value)) entry.reply
    room true is =
        subst (λ a. HasRoom limit (given_of m.state) a entry.reply) (sym (asks_by_need true is))
        (room_made limit o called (asks_by_need true is)
        (subst (λ x. HasBlocksFor limit m x o) (change_by_need true is) has))
    room false is = subst (λ a. HasRoom limit (given_of m.state) a entry.reply) (sym (asks_by_need false is)) tt

    none : HasCalled (with_blocks limit m) context (cmd.CAdd key value) o (with_blocks limit k) entry
    none = wide_called growth.sized.sound growth.sized.ages growth.sized.few called (room _ refl)

    pub host_unadded : IsGrown limit k q entries
    host_unadded = record {
      host = whole.host_unadded host view_now known key value (with_room limit q) o change_now offers none;
      sized = sized_called growth.sized called;
    }

    pub adds_none : {f : Fault} → f ≡ fault_of why
        → FailsBy v context None (cmd.CAdd key value) f × IsAsItWas v (shown limit k entries last)
    adds_none is = whole.adds_none host view_now known key value (with_room limit q) o change_now offers none is

  -- memory ran out
  module _ (may : MayHaveBlocksFor limit m change o) where
    abbrev Short : Type 0
    Short = Needs true × HasNoneFor p kinds.Dependent × (q0 ≡ p) × (given_of m.state + 2 ≤ limit)

    short : (b : Bool) → Needs b → (x : Option Slot) → Offers p q0 (cond b (Takes kinds.Dependent) Adds) x
        → MayHaveBlocksFor limit m (cond b (Takes kinds.Dependent) Adds) x → Short
    short true is None by enough = (is, by.0, by.1, enough)
    short true is (Some slot) by enough = absurd enough
    short false is x by enough = absurd enough

    is_short : Short
    is_short =
        let by = change_by_need (needs_slot m.state context (cmd.CAdd key value)) refl in
        short _ refl o (subst (λ x. Offers p q0 x o) by given)
        (subst (λ x. MayHaveBlocksFor limit m x o) by may)

    pub host_short : IsGrown limit m q entries
    host_short = pool_kept growth start is_short.2

    pub adds_short : FailsBy v context None (cmd.CAdd key value) fault.Memory
        × IsAsItWas v (shown limit m entries last)
    adds_short = (
      add_ran_out (subst (λ (x : HostView). needs_slot x.machine.state context (cmd.CAdd key value) ≡ true)
          view_now is_short.0)
          (subst (λ (x : HostView). given_of x.machine.state + 2 ≤ x.machine.numbers.blocks) view_now is_short.3)
          (none_free start view kinds.Dependent is_short.1),
      subst (λ (x : HostView). IsAsItWas x (shown limit m entries last)) view_now
          (unchanged (shown limit m entries last)),
    )

  -- memory ran out with the first entry, and the slot that was offered is free again
  module _ {k : Machine} (first : TakesTable m.numbers m.state context (cmd.CAdd key value) o)
      (same : k ≡ m) where
    taking : Offers p q0 (Takes kinds.Dependent) o
    taking = subst (λ x. Offers p q0 x o) (change_by_need true first.needs) given

    back : (x : Option Slot) → Offers p q0 (Takes kinds.Dependent) x
        → MayNote q Frees x Zero × (with_room limit (noted q Frees x Zero) ≡ with_room limit p)
    back None by = (tt, growth.pool ∙ ap (with_room limit) by.1)
    back (Some slot) by =
        let pool : with_room limit q ≡ with_room limit (record p { free = remove p.free slot.0 }) =
        growth.pool ∙ ap (with_room limit) by.1 in (
          record {
            added = ap (λ (x : FreeSlots). is_some (get x.kinds (block_of slot))) pool
                ∙ ap is_some by.0.free.1;
            taken = ap (λ (x : FreeSlots). contains x.free slot.0) pool
                ∙ remove_same p.free slot.0 slot.0 refl;
          },
          ap (λ (x : FreeSlots). record x { free = insert x.free slot.0 }) pool
              ∙ ap (λ free. record (with_room limit p) { free = free })
              (put_back p.free slot.0 by.0.free.0),
        )

    pub may_back : MayNote q Frees o Zero
    may_back = (back o taking).0

    pub host_back : (r : FreeSlots) → r ≡ noted q Frees o Zero → IsGrown limit k r entries
    host_back r is = subst (λ x. IsGrown limit x r entries) (sym same) (record {
      host = subst (λ (x : FreeSlots). IsHost (with_blocks limit m) x (padded limit entries))
          (sym (ap (with_room limit) is ∙ (back o taking).1)) host;
      sized = sized_with growth.sized (noted_blocks q Frees o Zero is) refl;
    })

    room_first : (x : Option Slot) → o ≡ x → (given_of v.machine.state + 2 ≤ v.machine.numbers.blocks)
        ⊎ ((slot : Slot) × IsFree v.machine.state kinds.Dependent slot)
    room_first None none = inl (subst
        (λ (x : HostView). given_of x.machine.state + 2 ≤ x.machine.numbers.blocks) view_now
        (omega (arith, first.room none, growth.sized.few)))
    room_first (Some slot) is =
        let asks = asks_by_need true first.needs in
        let offer = subst (λ x. IsOffer m.state context (cmd.CAdd key value) x) is may_offer in
        inr (
          slot,
          subst (λ (x : HostView). IsFree x.machine.state kinds.Dependent slot) view_now
              (subst (λ a. MayOffer m.state a slot) asks offer),
        )

    pub adds_first : FailsBy v context None (cmd.CAdd key value) fault.Memory
        × IsAsItWas v (shown limit k entries last)
    adds_first = (
      first_ran_out
          (subst (λ (x : HostView). BLOCKS < x.machine.numbers.blocks) view_now
          (omega (arith, first.large, growth.sized.few)))
          (subst (λ (x : HostView). needs_slot x.machine.state context (cmd.CAdd key value) ≡ true) view_now
          first.needs)
          (subst (λ (x : HostView). (slot : ℕ) → get x.machine.state.weak slot ≡ None) view_now first.unused)
          (room_first o refl),
      subst (λ (x : HostView). IsAsItWas x (shown limit k entries last)) view_now
          (subst (λ x. IsAsItWas (shown limit m entries last) (shown limit x entries last)) (sym same)
          (unchanged (shown limit m entries last))),
    )
