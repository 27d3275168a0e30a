-- The parts of a host that has some of its blocks so far: they grow unseen, each live slot is in memory, and
-- what is noted in the pool is within its blocks.
use Rattle.std.proofs.Common.{List, None, Option, Some, ap, arith, inl, inr, is_some, length, refl, subst, sym, ℕ, ◌*◌, ◌/◌, ◌<◌, ◌∙◌, ◌≡◌, ◌≤◌}
use Rattle.std.specs.{Prelude.IsSome}
use Rattle.hd_model.proofs.MapEntries.{some_value}
use Rattle.hd_model.specs.{declared.command.Cmd.Cmd, declared.data.Entry.Entry, declared.data.Kind.Kind, declared.data.Slot.Slot, PinnedAddresses.with_pinned}
use Rattle.hd_model.specs.State.{Numbers, given_of, handle_at}
use Rattle.hd_model.specs.WellFormed.{IsWellFormed}
use Rattle.hd_model.specs.declared.limits.TheConstants.{CLUMPS, HOST_BLOCKS, ROWS}
use Rattle.hd_pool.specs.Pool.{FreeSlots}
use Rattle.hd_slots.specs.Change.{MayNote, Offers, change_in}
use Rattle.hd_slots.specs.Tied.{IsTied}
use Rattle.hd_slots.specs.declared.change.Change.{Change as Slots}
use Rattle.hd_slots.specs.declared.change.Change.TheVariants.{Takes}
use Rattle.hd_store.specs.{Calls.HasCalled, Calls.IsSound, Calls.pointed, Growth.with_blocks, Offers.GrowsFor, Offers.RanOut, Offers.TakesFor, Offers.asks_of, Offers.handle_slot, Store.Machine}
use Rattle.hd_host.specs.declared.change.Change.{Change}
use Rattle.hd_host.specs.{Handles.padded, Inside.HasBlocksFor, Inside.HasGrown, Inside.HasRoom, Inside.IsHost, Inside.IsSized, Inside.with_room, View.HostView, View.state_in}
use Rattle.hd_host.proofs.CallHost.{view_of}
use Rattle.hd_host.proofs.CallPool.{may_be_noted}
use Rattle.hd_host.proofs.Registers.{not_pointed}
use Rattle.hd_host.proofs.RoomOfPools.{note_more, offers_room}

-- ---- soundness

-- a store is sound with more blocks
pub sound_wide : (limit : ℕ) (m : Machine) → m.numbers.blocks ≤ limit → limit ≤ HOST_BLOCKS → IsSound m
    → IsSound (with_blocks limit m)
sound_wide limit m few most sound =
    let w : IsWellFormed m.numbers (with_pinned m.state _) = sound.well_formed in
    record {
      limits = record {
        heap = sound.limits.heap;
        blocks = (omega (arith, sound.limits.blocks.0, few), most);
        callers = sound.limits.callers;
      };
      well_formed = record {
        shape = record {
          registers = w.shape.registers;
          each_registers = w.shape.each_registers;
          handle_registers = w.shape.handle_registers;
          each_handle_registers = w.shape.each_handle_registers;
          statics = w.shape.statics;
          board = w.shape.board;
          serials = w.shape.serials;
        };
        names = w.names;
        objects = w.objects;
        serials = w.serials;
        handles = record {
          kinds = w.handles.kinds;
          extras = w.handles.extras;
          dependents = w.handles.dependents;
          blocks = λ block is. let was = w.handles.blocks block is in (was.0, omega (arith, was.1, few));
        };
        weak = w.weak;
      };
    }

-- where memory ran out
pub wide_out : (limit : ℕ) {m k : Machine} {c : Cmd} → RanOut m.numbers m.state c m k
    → RanOut (with_blocks limit m).numbers (with_blocks limit m).state c (with_blocks limit m) (with_blocks limit k)
wide_out limit out =
    record { memory = out.memory; fits = out.fits; unchanged = ap (with_blocks limit) out.unchanged }

-- ---- sizes

module _ {limit room : ℕ} {m : Machine} {entries : List ℕ} (sized : IsSized limit m room entries) where
  -- another state of the same size
  pub sized_same : {k : Machine} → IsSound k → k.numbers ≡ m.numbers → k.ages ≡ m.ages
      → IsSized limit k room entries
  sized_same {k} sound numbers ages =
      let same : k.numbers.blocks ≡ m.numbers.blocks = ap (λ (n : Numbers). n.blocks) numbers in
      record {
        sound = sound;
        ages = ap length ages ∙ sized.ages ∙ ap (λ n. CLUMPS * n) (sym same);
        few = omega (arith, same, sized.few);
        most = sized.most;
        pool = omega (arith, same, sized.pool);
        stamps = omega (arith, same, sized.stamps);
        within = sized.within;
      }

  -- a pool of as many blocks, and as many entries
  pub sized_with : {room' : ℕ} {others : List ℕ} → room' ≡ room → length others ≡ length entries
      → IsSized limit m room' others
  sized_with pool long = record {
    sound = sized.sound;
    ages = sized.ages;
    few = sized.few;
    most = sized.most;
    pool = omega (arith, pool, sized.pool);
    stamps = omega (arith, long, sized.stamps);
    within = omega (arith, long, sized.within);
  }

  -- a live slot is in memory
  pub slot_within : (slot : Slot) → IsSome (handle_at m.state slot) → slot.0 < length entries
  slot_within slot live =
      let held = some_value (handle_at m.state slot) live in
      let handles = sized.sound.well_formed.handles in
      let inside = handles.blocks (slot.0 / ROWS) (ap is_some (handles.kinds slot.0 held.0 held.1)) in
      omega (arith, inside.1, sized.stamps)

-- ---- growth

pub grown_none : {limit : ℕ} {m : Machine} {p : FreeSlots} {entries : List ℕ} → IsSized limit m p.blocks entries
    → HasGrown limit m p entries m p entries
grown_none sized = record { sized = sized; store = refl; pool = refl; stamps = refl }

module _ {limit : ℕ} {m m1 : Machine} {q q1 : FreeSlots} {entries entries1 : List ℕ}
    (grown : HasGrown limit m q entries m1 q1 entries1) where
  -- a host whose parts grew
  pub host_grown : {p : FreeSlots} → IsHost (with_blocks limit m) p (padded limit entries)
      → IsHost (with_blocks limit m1) p (padded limit entries1)
  host_grown {p} host =
      subst (λ (x : Machine). IsHost x p (padded limit entries1)) (sym grown.store)
      (subst (IsHost (with_blocks limit m) p) (sym grown.stamps) host)

  pub view_grown : {last : Change} {v : HostView} → view_of (with_blocks limit m) (padded limit entries) last ≡ v
      → view_of (with_blocks limit m1) (padded limit entries1) last ≡ v
  view_grown {last} view = (λ i. view_of (grown.store i) (grown.stamps i) last) ∙ view

  pub offers_grown : (p : FreeSlots) (change : Slots) (o : Option Slot) → Offers p q change o
      → Offers (with_room limit p) (with_room limit q1) change o
  offers_grown p change o is =
      subst (λ (x : FreeSlots). Offers (with_room limit p) x change o) (sym grown.pool)
      (offers_room limit p q change o is)

  pub state_grown : m1.state ≡ m.state
  state_grown = ap (λ (x : Machine). x.state) grown.store

  pub callers_grown : m1.numbers.callers ≡ m.numbers.callers
  callers_grown = ap (λ (x : Machine). x.numbers.callers) grown.store

-- ---- a table that is full is so with all blocks

module _ (limit : ℕ) {m k : Machine} {context : ℕ} {c : Cmd} {e : Entry} {kind : Kind} where
  pub room_made : (o : Option Slot) → HasCalled m context c o k e → asks_of m.state context c ≡ handle_slot kind
      → HasBlocksFor limit m (Takes kind) o → HasRoom limit (given_of m.state) (handle_slot kind) e.reply
  room_made None called asks (inl enough) full =
      let done = (subst (λ a. GrowsFor m.numbers m.state a None e) asks called.growth).grows enough in
      absurd (let clash = sym done.0 ∙ full in cc)
  room_made None called asks (inr short) full = short
  room_made (Some slot) called asks has full =
      let taken = subst (λ a. TakesFor e a slot) asks (called.offer slot refl) in
      absurd (let clash = sym taken.2 ∙ full in cc)

-- ---- what is noted

module _ (limit : ℕ) {m : Machine} (p : FreeSlots) {entries : List ℕ}
    (host : IsHost (with_blocks limit m) (with_room limit p) entries) (sound : IsSound m) where
  tied_small : IsTied m.numbers (state_in m) (with_room m.numbers.blocks p)
  tied_small = record {
    blocks = refl;
    kinds = host.tied.kinds;
    free = host.tied.free;
    well_formed = sound.well_formed;
  }

module _ (limit : ℕ) {m : Machine} (p q : FreeSlots) {entries : List ℕ}
    (host : IsHost (with_blocks limit m) (with_room limit p) entries) (sound : IsSound m)
    (more : m.numbers.blocks ≤ q.blocks) {context : ℕ} (known : context < m.numbers.callers) {c : Cmd}
    {o : Option Slot} (offers : Offers (with_room limit p) (with_room limit q) (change_in m.state context c) o) where
  pub noted_of : (slot : Option Slot) (after : Machine) (e : Entry)
      → HasCalled (pointed m context slot) context c o after e
      → MayNote q (change_in m.state context c) e.slot e.grown
  noted_of slot after e called =
      note_more q more (change_in m.state context c) e.slot e.grown
      (may_be_noted m (with_room m.numbers.blocks p) (with_room m.numbers.blocks q)
      (tied_small limit p host sound) context known slot c o
      (offers_room m.numbers.blocks (with_room limit p) (with_room limit q) (change_in m.state context c) o offers) after e called)

  pub noted_on : (after : Machine) (e : Entry) → HasCalled m context c o after e
      → MayNote q (change_in m.state context c) e.slot e.grown
  noted_on after e called =
      noted_of None after e (subst (λ (x : Machine). HasCalled x context c o after e)
      (sym (not_pointed m context (host.empty context 0))) called)
