-- A call of a store is one of a store with more blocks, and it leaves the table as large as it was.
use Rattle.std.proofs.Common.{List, None, Option, Some, ap, arith, length, replicate, subst, sym, ⊎_elim, ℕ, ◌*◌, ◌+◌, ◌++◌, ◌-◌, ◌<◌, ◌∙◌, ◌≡◌, ◌≤◌}
use Rattle.std.proofs.lemmas.Bool.{cases_lt}
use Rattle.std.specs.{FinMap.FinMap, FinMap.empty, Ordering.nat_cmp}
use Rattle.hd_model.proofs.AgedRuns.{nothing_at}
use Rattle.hd_model.specs.{declared.command.Cmd.Cmd, declared.data.Entry.Entry, declared.data.Kind.Kind, declared.data.Slot.Slot, Aging.aged_by, PinnedAddresses.with_pinned}
use Rattle.hd_model.specs.State.{Numbers, State, given_of}
use Rattle.hd_model.specs.Step.{blocks_needed}
use Rattle.hd_model.specs.WellFormed.{HasHandles, HasWeakTable}
use Rattle.hd_model.specs.declared.limits.TheConstants.{CLUMPS, OLDEST}
use Rattle.hd_store.proofs.SoundCalls.{sound-after, sound-pointed}
use Rattle.hd_store.specs.{Calls.HasCalled, Calls.IsSound, Calls.pointed, Growth.with_blocks, PinnedAddresses.AreAddresses, PinnedAddresses.Moves, Store.Machine}
use Rattle.hd_store.specs.Offers.{Asks, GrowsFor, GrowsOrIsFull, asks_of, block_back, handle_slot, no_room, object_room}
use Rattle.hd_host.specs.Inside.{HasNoSlot, HasRoom, IsSized}
use Rattle.hd_host.proofs.Registers.{called_numbers, pointed-again}
use Rattle.hd_host.proofs.WiderAges.{aged_wider, length_aged}
use Rattle.hd_host.proofs.WiderStep.{wide_step, wider}

module _ {limit : ℕ} {m k : Machine} {context : ℕ} {c : Cmd} {o : Option Slot} {e : Entry} (sound : IsSound m)
    (long : length m.ages ≡ CLUMPS * m.numbers.blocks) (few : m.numbers.blocks ≤ limit)
    (called : HasCalled m context c o k e)
    (room : HasRoom limit (given_of m.state) (asks_of m.state context c) e.reply) where
  -- by the command of the entry
  room_of_entry : HasRoom limit (given_of m.state) (asks_of m.state e.caller e.cmd) e.reply
  room_of_entry =
      subst (λ x. HasRoom limit (given_of m.state) (asks_of m.state x e.cmd) e.reply) (sym called.command.0)
      (subst (λ (x : Cmd). HasRoom limit (given_of m.state) (asks_of m.state context x) e.reply)
      (sym called.command.1) room)

  module _ (before : FinMap nat_cmp ℕ) (are : AreAddresses m.names before) where
    moved : Moves m e k before
    moved = called.effect before are

    abbrev asked : State
    asked = with_pinned m.state before

    handles : HasHandles m.numbers asked
    handles =
        let h = sound.well_formed.handles in
        record { kinds = h.kinds; extras = h.extras; dependents = h.dependents; blocks = h.blocks }

    weak : HasWeakTable asked
    weak =
        let w = sound.well_formed.weak in record { kinds = w.kinds; apart = w.apart; once = w.once }

    ages : (with_blocks limit k).ages ≡ aged_by asked e (with_blocks limit m).ages
    ages =
        ap (λ xs. xs ++ replicate (CLUMPS * limit - length xs) OLDEST) moved.ages
        ∙ ap (λ count. aged_by asked e m.ages ++ replicate (CLUMPS * limit - count) OLDEST)
        (length_aged asked e m.ages)
        ∙ sym (aged_wider m.numbers asked handles weak m.ages long e (with_pinned k.state moved.pinned)
        (CLUMPS * limit - length m.ages) moved.step)

    moves : Moves (with_blocks limit m) e (with_blocks limit k) before
    moves = record {
      pinned = moved.pinned;
      step = wide_step m.numbers limit few asked e (with_pinned k.state moved.pinned) room_of_entry moved.step;
      addresses = moved.addresses;
      ages = ages;
      numbers = ap (wider limit) moved.numbers;
      heap = moved.heap;
    }

  grows : (kind : Kind) → HasRoom limit (given_of m.state) (handle_slot kind) e.reply
      → GrowsOrIsFull m.numbers m.state (blocks_needed kind) e
      → GrowsOrIsFull (wider limit m.numbers) m.state (blocks_needed kind) e
  grows kind full is = record {
    full = λ low. is.full (omega (arith, low, few));
    grows = λ fits. ⊎_elim (λ less. absurd (omega (arith, fits, full (is.full less)))) (λ enough. is.grows enough)
        (cases_lt m.numbers.blocks (given_of m.state + blocks_needed kind));
  }

  grows_for : (a : Asks) (x : Option Slot) → HasRoom limit (given_of m.state) a e.reply
      → GrowsFor m.numbers m.state a x e → GrowsFor (wider limit m.numbers) m.state a x e
  grows_for (object_room fields) x full is = is
  grows_for (handle_slot kind) None full is = grows kind full is
  grows_for (handle_slot kind) (Some slot) full is = is
  grows_for (block_back kind) None full is = is
  grows_for (block_back kind) (Some slot) full is = is
  grows_for no_room x full is = is

  pub wide_called : HasCalled (with_blocks limit m) context c o (with_blocks limit k) e
  wide_called = record {
    command = called.command;
    effect = moves;
    offer = called.offer;
    growth = grows_for (asks_of m.state context c) o room called.growth;
    addresses = called.addresses;
  }

-- ---- the table is as large as it was

module _ {limit : ℕ} {m k : Machine} {room : ℕ} {entries : List ℕ} (sized : IsSized limit m room entries)
    {context : ℕ} {c : Cmd} {o : Option Slot} {e : Entry} (called : HasCalled m context c o k e) where
  pub sized_called : IsSized limit k room entries
  sized_called =
      let moved = called.effect empty (λ x at found. absurd (nothing_at x at found)) in
      let same : k.numbers.blocks ≡ m.numbers.blocks = ap (λ (n : Numbers). n.blocks) moved.numbers in
      record {
        sound = sound-after m k e sized.sound called.effect;
        ages = ap length moved.ages ∙ length_aged (with_pinned m.state empty) e m.ages ∙ sized.ages
            ∙ ap (λ n. CLUMPS * n) (sym same);
        few = omega (arith, same, sized.few);
        most = sized.most;
        pool = omega (arith, same, sized.pool);
        stamps = omega (arith, same, sized.stamps);
        within = sized.within;
      }

-- a slot in the first handle register of a context makes no difference
pub sized_pointed : {limit room : ℕ} {m : Machine} {entries : List ℕ} (context : ℕ) (slot : Option Slot)
    → context < m.numbers.callers → IsSized limit m room entries → IsSized limit (pointed m context slot) room entries
sized_pointed {m = m} context slot known sized = record {
  sound = sound-pointed m context 0 slot sized.sound known;
  ages = sized.ages;
  few = sized.few;
  most = sized.most;
  pool = sized.pool;
  stamps = sized.stamps;
  within = sized.within;
}

module _ {limit : ℕ} {m k : Machine} {room : ℕ} {entries : List ℕ} (sized : IsSized limit m room entries)
    {context : ℕ} (known : context < m.numbers.callers) (slot after : Option Slot) {c : Cmd} {o : Option Slot} {e : Entry}
    (called : HasCalled (pointed m context slot) context c o (pointed k context after) e)
    (empty_after : HasNoSlot k.state context) where
  pub sized_of : IsSized limit k room entries
  sized_of =
      subst (λ (x : Machine). IsSized limit x room entries) (pointed-again k context after empty_after)
      (sized_pointed context None
      (subst (λ (n : Numbers). context < n.callers) (sym (called_numbers called)) known)
      (sized_called (sized_pointed context slot known sized) called))
