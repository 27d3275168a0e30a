-- A block that is given back with its data block leaves a host what it is, and is a step of the host.
use Rattle.std.proofs.Common.{List, None, Some, ap, arith, inl, inr, refl, subst, sym, ℕ, ⊎_elim, ◌&&◌, ◌+◌, ◌<◌, ◌||◌, ◌∙◌, ◌≡◌, ◌≢◌, ◌≤◌, ◌⊎◌}
use Rattle.std.proofs.lemmas.Bool.{and_right, cases_eq}
use Rattle.std.specs.FinMap as map
use Rattle.std.specs.FinMap.{empty, get, remove}
use Rattle.std.specs.FinSet as set
use Rattle.std.specs.FinSet.{contains}
use Rattle.std.specs.Ordering.{nat_cmp}
use Rattle.std.specs.Prelude.{IsSome, is_some, not}
use Rattle.hd_tiers.proofs.SetMembers.{difference_same, difference_other}
use Rattle.hd_model.proofs.ReadAfterWrite.{get_left, get_removed, len_less}
use Rattle.hd_model.specs.{declared.data.Kind.Kind, declared.data.Slot.Slot, PinnedAddresses.with_pinned}
use Rattle.hd_model.specs.State.{Numbers, State, block_of, extra_data, given_of, handles_of, use_of}
use Rattle.hd_pool.specs.Pool.{FreeSlots, slots_of}
use Rattle.hd_slots.specs.{Change.without_block, Tied.IsTied, Tied.is_free, Tied.is_live, Tied.kind_of_block}
use Rattle.hd_store.proofs.SpareBlocks.{pair_keeps, slot_left}
use Rattle.hd_store.specs.{Growth.kind_in_use, StateHeap.IsStoredAt, Store.Machine}
use Rattle.hd_store.specs.Spare.{GivesBackPair, IsLeastSpare, IsSpare, without_pair}
use Rattle.hd_host.specs.declared.change.Change.{Change}
use Rattle.hd_host.specs.{Changes.change_back, Inside.IsHost, Turns.IsAsItWasButLast, Turns.TrimsPair, View.HostView, View.state_in}
use Rattle.hd_host.proofs.CallHost.{view_of}

-- a spare block is one whatever addresses were returned
pub spare_pinned : (s : State) (pinned : map.FinMap nat_cmp ℕ) (kind : Kind) (block : ℕ)
    → IsSpare s kind block → IsSpare (with_pinned s pinned) kind block
spare_pinned s pinned kind block spare = record {
  of_kind = spare.of_kind;
  vacant = λ slot here. record {
    no_handle = (spare.vacant slot here).no_handle;
    no_entry = (spare.vacant slot here).no_entry;
  };
}

-- ---- uses of blocks

module _ (s : State) (block extra : ℕ) (extra_is : use_of s extra ≡ Some extra_data) where
  -- another block has the kind that it had, if any
  kind_left : (other : ℕ) → other ≢ block
      → kind_of_block (without_pair s block extra) other ≡ kind_of_block s other
  kind_left other apart =
      ap kind_in_use (get_left (remove s.blocks extra) block other apart)
      ∙ ⊎_elim
      (λ same. ap kind_in_use (ap (get (remove s.blocks extra)) same ∙ get_removed s.blocks extra)
      ∙ sym (ap kind_in_use (ap (use_of s) same ∙ extra_is)))
      (λ away. ap kind_in_use (get_left s.blocks extra other away)) (cases_eq other extra)

  kind_gone : kind_of_block (without_pair s block extra) block ≡ None
  kind_gone = ap kind_in_use (get_removed (remove s.blocks extra) block)

  -- two blocks fewer are in use
  pub pair_fewer : (kind : Kind) → use_of s block ≡ Some (handles_of kind)
      → given_of (without_pair s block extra) + 2 ≡ given_of s
  pair_fewer kind of_kind =
      let apart : block ≢ extra = λ same.
      (let clash : Some (handles_of kind) ≡ Some extra_data =
      sym of_kind ∙ ap (use_of s) same ∙ extra_is in cc) in
      let first = len_less s.blocks extra (ap is_some extra_is) in
      let second = len_less (remove s.blocks extra) block
      (ap is_some (get_left s.blocks extra block apart ∙ of_kind)) in
      omega (arith, first, second)

-- ---- the pool

module _ (n : Numbers) (s : State) (p : FreeSlots) (tied : IsTied n s p) (kind : Kind) (block extra : ℕ)
    (spare : IsSpare s kind block) (extra_is : use_of s extra ≡ Some extra_data) where
  abbrev t : State
  t = without_pair s block extra

  pub tied_pair : IsTied n t (without_block p block)
  tied_pair = record {
    blocks = tied.blocks;
    kinds = λ other. kind_at other (cases_eq other block);
    free = λ slot. free_at slot (cases_eq (block_of slot) block);
    well_formed = pair_keeps n s tied.well_formed kind block extra spare extra_is;
  }
    where
      kind_at : (other : ℕ) → (other ≡ block) ⊎ (other ≢ block)
          → get (map.remove p.kinds block) other ≡ kind_of_block t other
      kind_at other (inl same) =
          ap (get (map.remove p.kinds block)) same ∙ get_removed p.kinds block
          ∙ sym (ap (kind_of_block t) same ∙ kind_gone s block extra extra_is)
      kind_at other (inr apart) =
          get_left p.kinds block other apart ∙ tied.kinds other ∙ sym (kind_left s block extra extra_is other apart)

      free_at : (slot : Slot) → (block_of slot ≡ block) ⊎ (block_of slot ≢ block)
          → contains (set.difference p.free (slots_of block)) slot.0 ≡ is_free t slot
      free_at slot (inl here) =
          difference_same block slot.0 p.free here
          ∙ sym (and_right (not (is_live t slot.0)) (is_some (kind_of_block t (block_of slot)))
          (ap is_some (ap (kind_of_block t) here ∙ kind_gone s block extra extra_is)))
      free_at slot (inr away) =
          difference_other block slot.0 p.free away ∙ tied.free slot
          ∙ sym (λ i. not (is_some (get s.handles slot.0) || is_some (slot_left s block slot.0 away i))
          && is_some (kind_left s block extra extra_is (block_of slot) away i))

-- ---- the host

module _ {m k : Machine} {p : FreeSlots} {stamps : List ℕ} (host : IsHost m p stamps) {kind : Kind}
    {block extra : ℕ} (spare : IsSpare m.state kind block) (gives : GivesBackPair m block extra k) where
  after_is : k ≡ record m { state = without_pair m.state block extra; table = k.table }
  after_is = gives.after

  pub added : IsSome (get p.kinds block)
  added = ap is_some (host.tied.kinds block ∙ ap kind_in_use spare.of_kind)

  pub host_pair : (q : FreeSlots) → q ≡ without_block p block → IsHost k q stamps
  host_pair q is =
      subst (λ (x : Machine). IsHost x q stamps) (sym after_is) (record {
        limits = host.limits;
        tied = subst (IsTied m.numbers (with_pinned (without_pair m.state block extra) empty)) (sym is)
            (tied_pair m.numbers (state_in m) p host.tied kind block extra
            (spare_pinned m.state empty kind block spare) gives.extra_is);
        empty = host.empty;
        stamps = host.stamps;
        live = host.live;
      })

-- what is given back is a step of the host
module _ (v w : HostView) {kind : Kind} {block extra : ℕ} (least : IsLeastSpare v.machine.state kind block)
    (gives : GivesBackPair v.machine block extra w.machine)
    (after : w ≡ record v { machine = w.machine; last = change_back block extra }) where
  machine_is : w.machine
      ≡ record v.machine { state = without_pair v.machine.state block extra; table = w.machine.table }
  machine_is = gives.after

  pub trims_pair : TrimsPair v kind w
  trims_pair = record {
    block = block;
    extra = extra;
    least = least;
    extra_is = gives.extra_is;
    left = record {
      numbers = ap (λ (m : Machine). m.numbers) machine_is;
      state = ap state_in machine_is;
      addresses = λ x a at. subst (λ (m : Machine). IsStoredAt m.heap x a) (sym machine_is) at;
      ages = ap (λ (m : Machine). m.ages) machine_is;
      stamps = ap (λ (x : HostView). x.stamps) after;
      last = refl;
    };
    last = ap (λ (x : HostView). x.last) after;
  }

  -- no lower block is spare, nor the one that was given back
  pub none_lower : ((other : ℕ) → other < block → IsSpare v.machine.state kind other → ⊥)
      → (other : ℕ) → other ≤ block → IsSpare w.machine.state kind other → ⊥
  none_lower lower other low spare =
      still (subst (λ (m : Machine). IsSpare m.state kind other) machine_is spare)
    where
      still : IsSpare (without_pair v.machine.state block extra) kind other → ⊥
      still now =
          let s = v.machine.state in
          let apart : other ≢ block = λ same.
          (let gone : None ≡ Some (handles_of kind) =
          sym (ap (get (remove (remove s.blocks extra) block)) same ∙ get_removed (remove s.blocks extra) block)
          ∙ now.of_kind in cc) in
          let left : get (remove s.blocks extra) other ≡ Some (handles_of kind) =
          sym (get_left (remove s.blocks extra) block other apart) ∙ now.of_kind in
          let away : other ≢ extra = λ same.
          (let gone : None ≡ Some (handles_of kind) =
          sym (ap (get (remove s.blocks extra)) same ∙ get_removed s.blocks extra) ∙ left in cc) in
          lower other (omega (arith, low, apart)) (record {
            of_kind = sym (get_left s.blocks extra other away) ∙ left;
            vacant = λ slot here. record {
              no_handle = (now.vacant slot here).no_handle;
              no_entry = λ e is. (now.vacant slot here).no_entry e
                  (slot_left s block slot.0 (λ same. apart (sym here ∙ same)) ∙ is);
            };
          })

-- nothing is given back
pub but_cleared : (m : Machine) (stamps : List ℕ) (last after : Change) {v : HostView}
    → view_of m stamps last ≡ v → IsAsItWasButLast v (view_of m stamps after)
but_cleared m stamps last after view = record {
  numbers = ap (λ (x : HostView). x.machine.numbers) view;
  state = ap (λ (x : HostView). state_in x.machine) view;
  addresses = λ x a at. subst (λ (y : HostView). IsStoredAt y.machine.heap x a) (sym view) at;
  ages = ap (λ (x : HostView). x.machine.ages) view;
  stamps = ap (λ (x : HostView). x.stamps) view;
  last = refl;
}
