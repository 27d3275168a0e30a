-- Over every step the pool after it is tied to the state after it.
use Rattle.hd_slots.proofs.Basics.{Adding, Adds, AddsLeast, Back, BlockUse, Bool, Change, Cmd, Dependent, Entry, FreeSlots, Frees, GivesBackLeast, GivesLeast, Grown, GrowsFor, GrowsUnoffered, HasNoneFor, IfSome, IsFreeFor, IsLeastFreeFor, IsLeastUnused, IsLeastWholeOf, IsOffer, IsTied, Keeps, Kind, MayGrow, MayNote, MayOffer, None, NoneAllFree, NoneFree, Numbers, Offers, One, Option, ROWS, Slot, Some, State, Step, StepOf, Takes, TakesFor, TakesLeast, TakesSlot, Two, Zero, adding_of, and_right, ap, arith, asks_of, block_of, blocks_needed, cases_eq, change_in, cond, contains, extra_data, false, first_slot, get, get_beside, get_inserted, get_left, get_removed, given_of, grown_by, handle_slot, handles_of, in_idle, in_new, inl, inr, is_free, is_live, is_refused, is_some, kind_in_use, kind_of, kind_of_block, nat_cmp, needs_new, not, noted, refl, slots_of, step_keeps, subst, sym, true, use_of, without_use, ℕ, ◌&&◌, ◌*◌, ◌+◌, ◌<◌, ◌↔◌, ◌∙◌, ◌≡◌, ◌≢◌, ◌⊎◌}
use Rattle.std.specs.Option.{ForSome}
use Rattle.hd_model.proofs.StepWrites.{same_slot}
use Rattle.hd_tiers.proofs.SetMembers.{insert_same, insert_other, remove_same, remove_other, union_same, union_other, difference_same, difference_other}
use Rattle.hd_store.specs.Offers.{Takes as TakesOffer}
use Rattle.hd_slots.specs.{declared.change.Change.TheVariants.GivesBack as Gives, Change.without_block}
use Rattle.hd_slots.proofs.StepLiveSlots.{zero_is_not_one, asks_for, is_free as is_hfree, is_trim, LeavesThem, LeavesSlots, leaves_slots, IsNowLive, TakesOrIsFull, takes_or_full, GrowsBy, takes_it, grows_by, FreesAt, frees_at}
use Rattle.hd_slots.proofs.TiedPool.{in_state, least_in_state, none_in_state, whole_in_state, least_whole_in_state, none_whole_in_state, live_not_free, live_added, unused_not_live}
use Rattle.std.specs.FinMap as map
use Rattle.std.specs.FinSet as set
use Rattle.hd_model.specs.declared.data.Refusal.TheVariants as refusal
use Rattle.hd_model.specs.declared.data.Reply.TheVariants as reply
use Rattle.hd_model.specs.declared.command.Cmd.TheVariants as cmd

module _ (n : Numbers) (s : State) (p : FreeSlots) (tied : IsTied n s p) (e : Entry) (t : State)
    (step : Step n s e t) where
  well : Rattle.hd_model.specs.WellFormed.IsWellFormed n t
  well = step_keeps n s t e tied.well_formed step

  -- the same slots are live, and blocks have the same uses
  stays : LeavesSlots n s tied.well_formed e t step → IsTied n t p
  stays same = record {
    blocks = tied.blocks;
    kinds = λ block. tied.kinds block ∙ sym (ap (λ m. kind_in_use (get m block)) same.blocks);
    free = λ slot. tied.free slot
        ∙ sym (λ i. not (same.live slot.0 i) && is_some (kind_in_use (get (same.blocks i) (block_of slot))));
    well_formed = well;
  }

  -- what is true of the pool after a step: the entry may be noted, and the pool is then tied to the state
  -- after it
  abbrev Follows : FreeSlots → Change → Option Slot → Grown → Type 0
  Follows q change slot grown = MayNote q change slot grown × IsTied n t (noted q change slot grown)

  -- whether a slot is free after the step
  free_after : (x : Slot) (a b : Bool) → is_live t x.0 ≡ a
      → is_some (kind_of_block t (block_of x)) ≡ b → (not a && b) ≡ is_free t x
  free_after x a b a_is b_is = sym (λ i. not (a_is i) && b_is i)

  -- ---- a command that takes a slot

  -- it took one that was free
  took_free : (slot : Slot) → IsNowLive n s tied.well_formed e t step slot.0 s.blocks → (q : FreeSlots)
      → q ≡ record p { free = set.remove p.free slot.0 } → IsTied n t q
  took_free slot now q q_is = subst (IsTied n t) (sym q_is) (record {
    blocks = tied.blocks;
    kinds = λ block. tied.kinds block ∙ sym (ap (λ m. kind_in_use (get m block)) now.blocks_are);
    free = λ other. elim (cases_eq other.0 slot.0) [
      | inl same ↦ remove_same p.free slot.0 other.0 same
          ∙ free_after other true _ (ap (is_live t) same ∙ now.here) refl
      | inr apart ↦ remove_other p.free slot.0 other.0 apart ∙ tied.free other
          ∙ free_after other _ _ (now.others other.0 apart)
          (ap (λ m. is_some (kind_in_use (get m (block_of other)))) now.blocks_are)
    ];
    well_formed = well;
  })

  -- it took the first slot of a block by which the table grew
  module _ (kind : Kind) (block : ℕ) (blocks : map.FinMap nat_cmp BlockUse) (unused : use_of s block ≡ None)
      (now : IsNowLive n s tied.well_formed e t step (block * ROWS) blocks)
      (has : use_of t block ≡ Some (handles_of kind))
      (others : (other : ℕ) → other ≢ block → kind_of_block t other ≡ kind_of_block s other) where
    took_first : IsTied n t (grown_by p kind block)
    took_first = record {
      blocks = tied.blocks;
      kinds = λ other. elim (cases_eq other block) [
        | inl same ↦
            ap (get (map.insert p.kinds block kind)) same ∙ get_inserted p.kinds block kind
            ∙ sym (ap kind_in_use (ap (use_of t) same ∙ has))
        | inr apart ↦ get_beside p.kinds block kind other apart ∙ tied.kinds other ∙ sym (others other apart)
      ];
      free = λ other. at other (cases_eq other.0 (first_slot block).0) (cases_eq (block_of other) block);
      well_formed = well;
    }
      where
        at : (other : Slot) → (other.0 ≡ (first_slot block).0) ⊎ (other.0 ≢ (first_slot block).0) →
            (block_of other ≡ block) ⊎ (block_of other ≢ block)
            → contains (set.remove (set.union p.free (slots_of block)) (first_slot block).0) other.0 ≡
            is_free t other
        at other (inl same) _ =
            remove_same (set.union p.free (slots_of block)) (first_slot block).0 other.0 same
            ∙ free_after other true _ (ap (is_live t) same ∙ now.here) refl
        at other (inr apart) (inl here) =
            remove_other (set.union p.free (slots_of block)) (first_slot block).0 other.0 apart
            ∙ union_same block other.0 p.free here
            ∙ free_after other false true
            (now.others other.0 apart ∙ unused_not_live n s p tied block unused other here)
            (ap (λ k. is_some (kind_in_use k)) (ap (use_of t) here ∙ has))
        at other (inr apart) (inr away) =
            remove_other (set.union p.free (slots_of block)) (first_slot block).0 other.0 apart
            ∙ union_other block other.0 p.free away
            ∙ tied.free other
            ∙ free_after other _ _ (now.others other.0 apart) (ap is_some (others (block_of other) away))

  -- no slot was offered, since none is free
  module _ (kind : Kind) (none : HasNoneFor p kind) where
    may_grow : (block : ℕ) → IsLeastUnused n s 1 block → MayGrow p kind block
    may_grow block least = record {
      low = least.low;
      high = omega (arith, least.high, tied.blocks);
      new = tied.kinds block ∙ ap kind_in_use least.unused;
      none = none;
    }

    by_growth : (grown : Grown) → GrowsBy n s tied.well_formed e t step kind grown
        → Follows p (Takes kind) e.slot grown
    by_growth Zero by = (tt, subst (λ (x : State). IsTied n x p) (sym by.0) tied)
    by_growth (One block) by = (
      may_grow block by.1,
      took_first kind block _ by.1.unused by.2
          (ap (λ m. get m block) by.2.blocks_are ∙ get_inserted s.blocks block (handles_of kind))
          (λ other apart. ap (λ m. kind_in_use (get m other)) by.2.blocks_are
          ∙ ap kind_in_use (get_beside s.blocks block (handles_of kind) other apart)),
    )
    by_growth (Two block data_block) by =
        let mid = map.insert s.blocks block (handles_of kind) in
        let apart_blocks : block ≢ data_block = λ same. absurd (omega (arith, same, by.2.low)) in (
          may_grow block by.1,
          took_first kind block _ by.1.unused by.3
              (ap (λ m. get m block) by.3.blocks_are ∙ get_beside mid data_block extra_data block apart_blocks
              ∙ get_inserted s.blocks block (handles_of kind))
              (λ other apart. ap (λ m. kind_in_use (get m other)) by.3.blocks_are
              ∙ elim (cases_eq other data_block) [
                | inl same ↦ ap kind_in_use (ap (get (map.insert mid data_block extra_data)) same ∙
                    get_inserted mid data_block extra_data)
                    ∙ sym (ap kind_in_use (ap (use_of s) same ∙ by.2.unused))
                | inr away ↦ ap kind_in_use (get_beside mid data_block extra_data other away ∙ get_beside
                    s.blocks block (handles_of kind) other apart)
              ]),
        )
    by_growth (Back block) by = absurd by

  by_taking : (kind : Kind) (q : FreeSlots) (o : Option Slot) → Offers p q (Takes kind) o
      → ForSome o (TakesSlot e) → GrowsFor n s (handle_slot kind) o e
      → TakesOrIsFull n s tied.well_formed e t step kind → Follows q (Takes kind) e.slot e.grown
  by_taking kind q None offers taken grows does =
      subst (λ x. Follows x (Takes kind) e.slot e.grown) (sym offers.1)
      (by_growth kind offers.0 e.grown (grows_by n s tied.well_formed e t step kind grows does))
  by_taking kind q (Some slot) offers taken grows does =
      let it = takes_it n s tied.well_formed e t step kind slot (taken slot refl) does in
      subst (Follows q (Takes kind) e.slot) (sym it.grown) (tt, took_free slot it.is_stored q offers.1)

  -- ---- `hfree`

  by_freed : (o : Option Slot) → FreesAt n s tied.well_formed e t step o → Follows p Frees o e.grown
  by_freed None at = (tt, stays at.0)
  by_freed (Some slot) at = (
    record {
      added = ap is_some (live_added n s p tied slot at.handle at.was);
      taken = live_not_free n s p tied slot at.handle at.was;
    },
    record {
      blocks = tied.blocks;
      kinds = λ block. tied.kinds block ∙ sym (ap (λ m. kind_in_use (get m block)) at.blocks);
      free = λ other. elim (cases_eq other.0 slot.0) [
        | inl same ↦
            insert_same p.free slot.0 other.0 same
            ∙ free_after other false true (ap (is_live t) same ∙ at.here)
            (ap (λ m. is_some (kind_in_use (get m (block_of other)))) at.blocks
            ∙ ap (λ (x : Slot). is_some (kind_of_block s (block_of x))) (same_slot other slot same)
            ∙ ap is_some (sym (tied.kinds (block_of slot)) ∙ live_added n s p tied slot at.handle at.was))
        | inr apart ↦
            insert_other p.free slot.0 other.0 apart ∙ tied.free other
            ∙ free_after other _ _ (at.others other.0 apart)
            (ap (λ m. is_some (kind_in_use (get m (block_of other)))) at.blocks)
      ];
      well_formed = well;
    },
  )

  -- ---- `trim`

  dropped : (kind : Kind) (block : ℕ) → IsLeastWholeOf p kind block → t ≡ without_use s block → IsTied n t
      (without_block p block)
  dropped kind block least after = record {
    blocks = tied.blocks;
    kinds = λ other. kind_at other (cases_eq other block) ∙ ap (λ (x : State). kind_of_block x other)
        (sym after);
    free = λ other. at other (cases_eq (block_of other) block) ∙ ap (λ (x : State). is_free x other)
        (sym after);
    well_formed = well;
  }
    where
      kind_at : (other : ℕ) → (other ≡ block) ⊎ (other ≢ block) → get (map.remove p.kinds block) other ≡
          kind_in_use (get (map.remove s.blocks block) other)
      kind_at other (inl same) =
          ap (get (map.remove p.kinds block)) same ∙ get_removed p.kinds block
          ∙ sym (ap kind_in_use (ap (get (map.remove s.blocks block)) same ∙ get_removed s.blocks block))
      kind_at other (inr apart) = get_left p.kinds block other apart ∙ tied.kinds other ∙ sym
          (ap kind_in_use (get_left s.blocks block other apart))

      at : (other : Slot) → (block_of other ≡ block) ⊎ (block_of other ≢ block) → contains
          (set.difference p.free (slots_of block)) other.0 ≡ is_free (without_use s block) other
      at other (inl here) =
          difference_same block other.0 p.free here
          ∙ sym (and_right _ _ (ap (λ u. is_some (kind_in_use u))
          (ap (get (map.remove s.blocks block)) here ∙ get_removed s.blocks block)))
      at other (inr away) =
          difference_other block other.0 p.free away ∙ tied.free other
          ∙ sym (ap (λ u. not (is_live s other.0) && is_some (kind_in_use u))
          (get_left s.blocks block (block_of other) away))

  by_trim : (kind : Kind) (q : FreeSlots) (o : Option Slot) → Offers p q (Gives kind) o → ForSome o
      (TakesOffer s e.caller e (cmd.Trim kind))
      → GrowsUnoffered n s e.caller (cmd.Trim kind) o e → StepOf n s e t (cmd.Trim kind)
      → Follows q (Gives kind) e.slot e.grown
  by_trim kind q None offers taken grows (inl g) = absurd (zero_is_not_one (sym grows ∙ g.reply))
  by_trim kind q None offers taken grows (inr none) =
      let grown = none.grown in
      subst (λ x. Follows x (Gives kind) e.slot e.grown) (sym offers.1)
      (subst (Follows p (Gives kind) e.slot) (sym grown)
      (tt, subst (λ (x : State). IsTied n x p) (sym none.after) tied))
  by_trim kind q (Some slot) offers taken grows (inl g) =
      let takes = taken slot refl in
      let back : Back g.block ≡ Back (block_of slot) = sym g.grown ∙ takes.1 in
      let same : g.block ≡ block_of slot = cc in
      let whole = offers.1.whole in
      subst (λ x. Follows x (Gives kind) e.slot e.grown) (sym offers.2)
      (subst (Follows p (Gives kind) e.slot) (sym takes.1) (
        record { added = ap is_some whole.added; whole = whole.whole },
        dropped kind (block_of slot) offers.1 (g.after ∙ ap (without_use s) same),
      ))
  by_trim kind q (Some slot) offers taken grows (inr none) = absurd
      (zero_is_not_one (sym none.reply ∙ (taken slot refl).0))

  -- ---- every command

  module _ (q : FreeSlots) (o : Option Slot) (taken : ForSome o (TakesOffer s e.caller e e.cmd))
      (grows : GrowsUnoffered n s e.caller e.cmd o e) where
    pub by_change : (change : Change) → change_in s e.caller e.cmd ≡ change → Offers p q change o
        → Follows q change e.slot e.grown
    by_change (Takes kind) is offers =
        let asks = asks_for s e.caller e.cmd kind is in
        by_taking kind q o offers (subst (λ a. ForSome o (TakesFor e a)) asks taken)
        (subst (λ a. GrowsFor n s a o e) asks grows)
        (takes_or_full n s tied.well_formed e t step kind e.cmd is step.does)
    by_change Frees is offers =
        let free = is_hfree s e.caller e.cmd is in
        subst (λ x. Follows x Frees e.slot e.grown) (sym offers.1)
        (by_freed e.slot (frees_at n s tied.well_formed e t step free.0
        (subst (StepOf n s e t) free.1 step.does)))
    by_change (Gives kind) is offers =
        let trim = is_trim s e.caller kind e.cmd is in
        by_trim kind q o offers (subst (λ (c : Cmd). ForSome o (TakesOffer s e.caller e c)) trim taken)
        (subst (λ (c : Cmd). GrowsUnoffered n s e.caller c o e) trim grows)
        (subst (StepOf n s e t) trim step.does)
    by_change Adds is offers = (
      tt,
      subst (IsTied n t) (sym offers.1) (stays (leaves_slots n s tied.well_formed e t step
          (subst LeavesThem (sym is) tt))),
    )
    by_change Keeps is offers = (
      tt,
      subst (IsTied n t) (sym offers.1) (stays (leaves_slots n s tied.well_formed e t step
          (subst LeavesThem (sym is) tt))),
    )

-- what is offered may be offered
pub may_offer : (n : Numbers) (s : State) (p q : FreeSlots) → IsTied n s p → (caller : ℕ) (c : Cmd)
    (o : Option Slot) → Offers p q (change_in s caller c) o → IsOffer s caller c o
may_offer n s p q tied caller c None offers = tt
may_offer n s p q tied caller c (Some slot) offers = by (change_in s caller c) refl offers
  where
    by : (change : Change) → change_in s caller c ≡ change → Offers p q change (Some slot)
        → MayOffer s (asks_of s caller c) slot
    by (Takes kind) is offers = subst (λ a. MayOffer s a slot) (sym (asks_for s caller c kind is))
        (in_state n s p tied kind slot offers.0.free)
    by (Gives kind) is offers =
        subst (λ (x : Cmd). MayOffer s (asks_of s caller x) slot) (sym (is_trim s caller kind c is))
        (offers.0, whole_in_state n s p tied kind (block_of slot) offers.1.whole)
    by Adds is offers = let clash = offers.0 in cc
    by Frees is offers = let clash = offers.0 in cc
    by Keeps is offers = let clash = offers.0 in cc

module _ (n : Numbers) (s : State) (p q : FreeSlots) (tied : IsTied n s p) (e : Entry) where
  -- an entry that takes what is offered takes the least
  gives_least : (kind : Kind) (o : Option Slot) → Offers p q (Takes kind) o → ForSome o (TakesSlot e)
      → GivesLeast s e kind
  gives_least kind None offers taken = inr (none_in_state n s p tied kind offers.0)
  gives_least kind (Some slot) offers taken =
      let takes = taken slot refl in
      inl (slot, least_in_state n s p tied kind slot offers.0, takes.0, takes.1)

  gives_back_least : (kind : Kind) (o : Option Slot) → Offers p q (Gives kind) o
      → ForSome o (TakesOffer s e.caller e (cmd.Trim kind)) → GivesBackLeast s e kind
  gives_back_least kind None offers taken = inr (none_whole_in_state n s p tied kind offers.0)
  gives_back_least kind (Some slot) offers taken =
      let takes = taken slot refl in
      inl (block_of slot, least_whole_in_state n s p tied kind (block_of slot) offers.1, takes.1)

  pub takes_least_of : (c : Cmd) (o : Option Slot) → Offers p q (change_in s e.caller c) o
      → ForSome o (TakesOffer s e.caller e c) → TakesLeast s e c
  takes_least_of (cmd.HNew d make r) o offers taken = gives_least (kind_of make) o offers taken
  takes_least_of (cmd.Trim kind) o offers taken = gives_back_least kind o offers taken
  takes_least_of (cmd.CAdd k v) o offers taken = by (adding_of s e.caller k) refl
    where
      by : (a : Adding) → adding_of s e.caller k ≡ a → AddsLeast s e a
      by (is_refused refusal) is = tt
      by (in_idle slot key) is = tt
      by (in_new key) is =
          let takes : change_in s e.caller (cmd.CAdd k v) ≡ Takes Dependent =
          ap (λ a. cond (needs_new a) (Takes Dependent) Adds) is in
          gives_least Dependent o (subst (λ c. Offers p q c o) takes offers)
          (subst (λ a. ForSome o (TakesFor e a)) (asks_for s e.caller (cmd.CAdd k v) Dependent takes) taken)
  takes_least_of c o offers taken = tt

  -- a full table is reported exactly where no slot is free and too few blocks are without a use
  pub finds_full : (t : State) (step : Step n s e t) (kind : Kind) (o : Option Slot) → Offers p q (Takes kind) o
      → ForSome o (TakesSlot e) → GrowsFor n s (handle_slot kind) o e
      → TakesOrIsFull n s tied.well_formed e t step kind
      → (e.reply ≡ reply.Refused (refusal.TableFull (given_of s)))
      ↔ (NoneFree s kind × (n.blocks < given_of s + blocks_needed kind))
  finds_full t step kind None offers taken grows (inl m) =
      (λ is. let clash = sym m.done ∙ is in cc, λ both. grows.full both.1)
  finds_full t step kind None offers taken grows (inr full) =
      (λ is. (none_in_state n s p tied kind offers.0, full.few), λ both. full.refused.reply)
  finds_full t step kind (Some slot) offers taken grows does = (
    λ is. let clash = sym (taken slot refl).2 ∙ is in cc,
    λ both. absurd (both.0 slot (in_state n s p tied kind slot offers.0.free)),
  )

  -- `trim` returns 0 exactly where no block may go, and else 1
  pub trims_none : (kind : Kind) (o : Option Slot) → Offers p q (Gives kind) o
      → ForSome o (TakesOffer s e.caller e (cmd.Trim kind)) → GrowsUnoffered n s e.caller (cmd.Trim kind) o e
      → (e.reply ≡ reply.Value 0) ↔ NoneAllFree s kind
  trims_none kind None offers taken grows = (λ _. none_whole_in_state n s p tied kind offers.0, λ _. grows)
  trims_none kind (Some slot) offers taken grows = (
    λ is. absurd (zero_is_not_one (sym is ∙ (taken slot refl).0)),
    λ none. absurd (none (block_of slot) (whole_in_state n s p tied kind (block_of slot) offers.1.whole)),
  )

  pub trims_some : (kind : Kind) (o : Option Slot) → Offers p q (Gives kind) o
      → ForSome o (TakesOffer s e.caller e (cmd.Trim kind)) → ¬ (NoneAllFree s kind) → e.reply ≡ reply.Value 1
  trims_some kind None offers taken some = absurd (some (none_whole_in_state n s p tied kind offers.0))
  trims_some kind (Some slot) offers taken some = (taken slot refl).0

-- a block that is added to a pool without a free slot of its kind, and the slot that is taken then
module _ (p : FreeSlots) (kind : Kind) (block : ℕ) (none : HasNoneFor p kind) (mid : FreeSlots)
    (mid_is : mid ≡ record p {
      kinds = map.insert p.kinds block kind;
      free = set.union p.free (slots_of block);
    }) where
  free_is : (x : ℕ) → contains mid.free x ≡ contains (set.union p.free (slots_of block)) x
  free_is x = ap (λ (m : FreeSlots). contains m.free x) mid_is

  kind_is : (x : ℕ) → get mid.kinds x ≡ get (map.insert p.kinds block kind) x
  kind_is x = ap (λ (m : FreeSlots). get m.kinds x) mid_is

  first_free : IsFreeFor mid kind (first_slot block)
  first_free =
      let here : block_of (first_slot block) ≡ block = omega arith in (
        free_is (first_slot block).0 ∙ union_same block (first_slot block).0 p.free here,
        kind_is (block_of (first_slot block)) ∙ ap (get (map.insert p.kinds block kind)) here ∙ get_inserted
            p.kinds block kind,
      )

  least_is_first : (slot : Slot) → IsLeastFreeFor mid kind slot → slot.0 ≡ (first_slot block).0
  least_is_first slot least = at (cases_eq (block_of slot) block)
    where
      at : (block_of slot ≡ block) ⊎ (block_of slot ≢ block) → slot.0 ≡ (first_slot block).0
      at (inl here) = omega (arith, least.least (first_slot block) first_free)
      at (inr away) = absurd (none slot (
        sym (union_other block slot.0 p.free away) ∙ sym (free_is slot.0) ∙ least.free.0,
        sym (get_beside p.kinds block kind (block_of slot) away) ∙ sym (kind_is (block_of slot)) ∙
            least.free.1,
      ))

  pub grows : (o : Option Slot) (after : FreeSlots) → IfSome o (IsLeastFreeFor mid kind)
      → IfSome o (λ slot. after ≡ record mid { free = set.remove mid.free slot.0 }) →
      (is_some o ≡ false → HasNoneFor mid kind) → after ≡ grown_by p kind block
  grows None after least taken empty = absurd (empty refl (first_slot block) first_free)
  grows (Some slot) after least taken empty =
      taken ∙ (λ i. record {
        blocks = (mid_is i).blocks;
        kinds = (mid_is i).kinds;
        free = set.remove (mid_is i).free (least_is_first slot least i);
      })
