-- A pool that is tied to a state states which slots and blocks are free there.
use Rattle.hd_slots.proofs.Basics.{BlockUse, Dependent, FreeSlots, Handle, HasNoWholeOf, HasNoneFor, Id, IsAllFree, IsFree, IsFreeFor, IsLeastAllFree, IsLeastFree, IsLeastFreeFor, IsLeastWholeOf, IsTied, IsWholeOf, Kind, None, NoneAllFree, NoneFree, Numbers, Option, Slot, Some, State, and_parts, and_right, ap, arith, block_of, contains, contains-empty, extra_data, false, first_slot, get, get-empty, handle_at, handles_of, is_live, is_some, kind_in_use, kind_of_block, nat_cmp, not, refl, start_is_well_formed, start_of, subst, sym, use_of, ℕ, ◌&&◌, ◌||◌, ◌∙◌, ◌≡◌, not-true}
use Rattle.hd_slots.proofs.StepLiveSlots.{neither}
use Rattle.std.specs.FinMap as map
use Rattle.std.specs.FinSet as set

-- a use with a kind is that of handles of the kind
pub use_of_kind : (u : Option BlockUse) (kind : Kind) → kind_in_use u ≡ Some kind → u ≡ Some (handles_of kind)
use_of_kind None kind e = cc
use_of_kind (Some extra_data) kind e = cc
use_of_kind (Some (handles_of k)) kind e = cc

-- an empty pool is tied to the first state
pub tied_at_start : (n : Numbers) (s : State) (p : FreeSlots) → s ≡ start_of n → p ≡ record
    { blocks = n.blocks; kinds = map.empty; free = set.empty } → IsTied n s p
tied_at_start n s p begins is = subst (λ (x : State). IsTied n x p) (sym begins) (record {
  blocks = ap (λ (q : FreeSlots). q.blocks) is;
  kinds = λ block. ap (λ (q : FreeSlots). get q.kinds block) is ∙ get-empty nat_cmp block ∙ ap kind_in_use
      (sym (get-empty nat_cmp block));
  free = λ slot. ap (λ (q : FreeSlots). contains q.free slot.0) is ∙ contains-empty nat_cmp slot.0
      ∙ sym (and_right (not (is_live (start_of n) slot.0))
      (is_some (kind_of_block (start_of n) (block_of slot)))
      (ap (λ u. is_some (kind_in_use u)) (get-empty nat_cmp (block_of slot))));
  well_formed = start_is_well_formed n;
})

module _ (n : Numbers) (s : State) (p : FreeSlots) (tied : IsTied n s p) where
  -- a slot is free in the pool exactly where it is free in the state
  pub in_pool : (kind : Kind) (slot : Slot) → IsFree s kind slot → IsFreeFor p kind slot
  in_pool kind slot free =
      let of_kind : kind_of_block s (block_of slot) ≡ Some kind = ap kind_in_use free.of_kind in (
        tied.free slot ∙ (λ i. not (is_some (free.no_handle i) || is_some (free.not_weak i))
            && is_some (of_kind i)),
        tied.kinds (block_of slot) ∙ of_kind,
      )

  pub in_state : (kind : Kind) (slot : Slot) → IsFreeFor p kind slot → IsFree s kind slot
  in_state kind slot free =
      let parts = and_parts _ _ (sym (tied.free slot) ∙ free.0) in
      let none = neither (get s.handles slot.0) (get s.weak slot.0) (not-true (is_live s slot.0) parts.0) in
      record {
        no_handle = none.0;
        not_weak = none.1;
        of_kind = use_of_kind (use_of s (block_of slot)) kind (sym (tied.kinds (block_of slot)) ∙ free.1);
      }

  pub least_in_state : (kind : Kind) (slot : Slot) → IsLeastFreeFor p kind slot → IsLeastFree s kind slot
  least_in_state kind slot h = record {
    free = in_state kind slot h.free;
    least = λ other free. h.least other (in_pool kind other free);
  }

  pub none_in_state : (kind : Kind) → HasNoneFor p kind → NoneFree s kind
  none_in_state kind none slot free = none slot (in_pool kind slot free)

  -- and so a block of a kind, all of whose slots are
  pub whole_in_pool : (kind : Kind) (block : ℕ) → IsAllFree s kind block → IsWholeOf p kind block
  whole_in_pool kind block all =
      let first : block_of (first_slot block) ≡ block = omega arith in
      record {
        added = ap (get p.kinds) (sym first) ∙ (in_pool kind (first_slot block)
            (all (first_slot block) first)).1;
        whole = λ slot of_block. (in_pool kind slot (all slot of_block)).0;
      }

  pub whole_in_state : (kind : Kind) (block : ℕ) → IsWholeOf p kind block → IsAllFree s kind block
  whole_in_state kind block whole slot of_block =
      in_state kind slot (whole.whole slot of_block, ap (get p.kinds) of_block ∙ whole.added)

  pub least_whole_in_state : (kind : Kind) (block : ℕ) → IsLeastWholeOf p kind block → IsLeastAllFree s kind
      block
  least_whole_in_state kind block h = record {
    free = whole_in_state kind block h.whole;
    least = λ other free. h.least other (whole_in_pool kind other free);
  }

  pub none_whole_in_state : (kind : Kind) → HasNoWholeOf p kind → NoneAllFree s kind
  none_whole_in_state kind none block free = none block (whole_in_pool kind block free)

  -- a block with a kind is a block of the pool
  pub block_added : (block : ℕ) (kind : Kind) → use_of s block ≡ Some (handles_of kind) → get p.kinds block ≡
      Some kind
  block_added block kind used = tied.kinds block ∙ ap kind_in_use used

  -- a live slot is not free, and is in a block of the pool
  pub live_not_free : (slot : Slot) (handle : Handle Id) → handle_at s slot ≡ Some handle → contains p.free
      slot.0 ≡ false
  live_not_free slot handle live = tied.free slot ∙ ap
      (λ o. not (is_some o || is_some (get s.weak slot.0)) && is_some (kind_of_block s (block_of slot))) live

  pub live_added : (slot : Slot) (handle : Handle Id) → handle_at s slot ≡ Some handle → get p.kinds
      (block_of slot) ≡ Some handle.kind
  live_added slot handle live = block_added (block_of slot) handle.kind
      (tied.well_formed.handles.kinds slot.0 handle live)

  -- no slot of a block without a use is live
  unused_apart : (block : ℕ) (kind : Kind) (slot : Slot) → use_of s block ≡ None → block_of slot ≡ block
      → use_of s (block_of slot) ≡ Some (handles_of kind) → ⊥
  unused_apart block kind slot unused of_block used =
      let clash : None ≡ Some (handles_of kind) = sym unused ∙ ap (use_of s) (sym of_block) ∙ used in cc

  pub unused_not_live : (block : ℕ) → use_of s block ≡ None → (slot : Slot) → block_of slot ≡ block
      → is_live s slot.0 ≡ false
  unused_not_live block unused slot of_block =
      λ i. none (get s.handles slot.0) (λ handle is. unused_apart block handle.kind slot unused of_block
      (tied.well_formed.handles.kinds slot.0 handle is)) i
      || none (get s.weak slot.0) (λ content is. unused_apart block Dependent slot unused of_block
      (tied.well_formed.weak.kinds slot.0 (ap is_some is))) i
    where
      none : {A : Type 0} (o : Option A) → ((x : A) → o ≡ Some x → ⊥) → is_some o ≡ false
      none None apart = refl
      none (Some x) apart = absurd (apart x refl)
