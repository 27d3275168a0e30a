-- A call of a host: what may be offered to its command, what its pool is after it, and that the slots and
-- blocks that it takes and gives back are the least.
use Rattle.std.proofs.Common.{None, Option, refl, subst, sym, ℕ, ◌<◌, ◌≡◌}
use Rattle.std.specs.{Option.ForSome, FinMap.FinMap, FinMap.empty, Ordering.nat_cmp}
use Rattle.hd_model.specs.{declared.command.Cmd.Cmd, declared.data.Entry.Entry, declared.data.Slot.Slot, PinnedAddresses.with_pinned, Run.TakesLeast, State.Numbers, State.State}
use Rattle.hd_model.proofs.{WellFormedWrites.handle_register_keeps, AgedRuns.nothing_at}
use Rattle.hd_pool.specs.Pool.{FreeSlots}
use Rattle.hd_slots.specs.{declared.change.Change.Change, Change.Offers, Change.MayNote, Change.noted, Change.change_in, Tied.IsTied}
use Rattle.hd_slots.proofs.PoolStep.{may_offer, by_change, takes_least_of}
use Rattle.hd_store.specs.{Calls.HasCalled, PinnedAddresses.Moves, Store.Machine}
use Rattle.hd_store.specs.Offers.{GrowsUnoffered, IsOffer, Takes as TakesOffer}
use Rattle.hd_store.proofs.{SoundCalls.unplaced, OfferAddresses.offer_placed, OfferAddresses.growth_placed}
use Rattle.hd_host.specs.{Steps.pointed, View.state_in}

-- what a handle register has is no matter to a pool
pub tied_pointed : (m : Machine) (p : FreeSlots) (context : ℕ) (slot : Option Slot)
    → context < m.numbers.callers → IsTied m.numbers (state_in m) p
    → IsTied m.numbers (state_in (pointed m context slot)) p
tied_pointed m p context slot known tied = record {
  blocks = tied.blocks;
  kinds = tied.kinds;
  free = tied.free;
  well_formed = handle_register_keeps m.numbers (state_in m) tied.well_formed context 0 slot known;
}

-- nor are pinned addresses
tied_unplaced : (n : Numbers) (s : State) (pinned : FinMap nat_cmp ℕ) (p : FreeSlots)
    → IsTied n (with_pinned s pinned) p → IsTied n (with_pinned s empty) p
tied_unplaced n s pinned p tied = record {
  blocks = tied.blocks;
  kinds = tied.kinds;
  free = tied.free;
  well_formed = unplaced n s pinned tied.well_formed;
}

module _ (m : Machine) (p q : FreeSlots) (tied : IsTied m.numbers (state_in m) p) (context : ℕ)
    (known : context < m.numbers.callers) (slot : Option Slot) (c : Cmd) (o : Option Slot)
    (offers : Offers p q (change_in m.state context c) o) where
  -- the state in which the command is asked
  abbrev asked : State
  asked = state_in (pointed m context slot)

  tied_asked : IsTied m.numbers asked p
  tied_asked = tied_pointed m p context slot known tied

  pub may_be_offered : IsOffer m.state context c o
  may_be_offered =
      offer_placed m.numbers m.state empty context c o (may_offer m.numbers (state_in m) p q tied context c o offers)

  module _ (after : Machine) (e : Entry)
      (called : HasCalled (pointed m context slot) context c o after e) where
    pub moved : Moves (pointed m context slot) e after empty
    moved = called.effect empty (λ x at found. absurd (nothing_at x at found))

    -- what was offered, taken and grown, by the command of the entry
    abbrev Given : ℕ → Cmd → Type 0
    Given k x = Offers p q (change_in asked k x) o × ForSome o (TakesOffer asked k e x)
        × GrowsUnoffered m.numbers asked k x o e

    given : Given e.caller e.cmd
    given = subst (λ k. Given k e.cmd) (sym called.command.0)
        (subst (Given context) (sym called.command.1) (
          offers,
          called.offer,
          growth_placed m.numbers (pointed m context slot).state empty context c o e called.growth,
        ))

    abbrev Noted : Change → Type 0
    Noted change = MayNote q change e.slot e.grown
        × IsTied m.numbers (with_pinned after.state moved.pinned) (noted q change e.slot e.grown)

    follows : Noted (change_in m.state context c)
    follows =
        subst (λ k. Noted (change_in asked k c)) called.command.0
        (subst (λ (x : Cmd). Noted (change_in asked e.caller x)) called.command.1
        (by_change m.numbers asked p tied_asked e (with_pinned after.state moved.pinned) moved.step q o given.1
        given.2 (change_in asked e.caller e.cmd) refl given.0))

    pub may_be_noted : MayNote q (change_in m.state context c) e.slot e.grown
    may_be_noted = follows.0

    -- the pool is tied to the store after it, in whose register there is nothing again
    pub tied_on : (r : FreeSlots) → r ≡ noted q (change_in m.state context c) e.slot e.grown
        → IsTied after.numbers (state_in (pointed after context None)) r
    tied_on r is =
        tied_pointed after r context None
        (subst (λ (n : Numbers). context < n.callers) (sym moved.numbers) known)
        (subst (λ (n : Numbers). IsTied n (state_in after) r) (sym moved.numbers)
        (tied_unplaced m.numbers after.state moved.pinned r
        (subst (IsTied m.numbers (with_pinned after.state moved.pinned)) (sym is) follows.1)))

    pub takes_least : TakesLeast asked e c
    takes_least = subst (λ (x : Cmd). TakesLeast asked e x) called.command.1
        (takes_least_of m.numbers asked p q tied_asked e e.cmd o given.0 given.1)
