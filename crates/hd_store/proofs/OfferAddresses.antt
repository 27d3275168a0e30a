-- What is offered to a command, how the table grows and which steps are taken do not depend on pinned
-- addresses.
use Rattle.hd_store.proofs.StoreWords.{Asks, Cmd, Entry, FinMap, GrowsFor, GrowsUnoffered, IsOffer, List, MayOffer, None, Numbers, Option, Slot, Some, State, TakesSteps, TakesStepsBy, TakesStepsIn, ap, asks_of, block_back, buckets_of, cond, handle_slot, nat_cmp, no_room, object_room, subst, with_pinned, ℕ, ◌*◌, ◌-◌, ◌∙◌, ◌≡◌, ◌≤◌}
use Rattle.std.proofs.lemmas.Bool.{le-leb}
use Rattle.std.specs.Prelude.{nat_le}
use Rattle.hd_model.specs.declared.limits.TheConstants.{BLOCKS, CALLERS}

-- what steps an entry takes does not depend on pinned addresses
pub steps_placed : {buckets : ℕ} (s : State) (p : FinMap nat_cmp ℕ) (ages : List ℕ) (e : Entry)
    (before after : ℕ)
    → TakesStepsBy buckets s ages e before after → TakesStepsBy buckets (with_pinned s p) ages e before after
steps_placed s p ages e before after is = record {
  others = is.others;
  searches = is.searches;
  collects = is.collects;
}

-- within the limits of a script they are those of a script
pub script_steps : (n : Numbers) {s : State} {ages : List ℕ} {e : Entry} {before after : ℕ}
    → n.blocks ≤ BLOCKS → n.callers ≤ CALLERS → TakesStepsIn n s ages e before after
    → TakesSteps s ages e before after
script_steps n {s} {ages} {e} {before} {after} few callers is =
    let many : buckets_of n.blocks n.callers ≡ 4096 =
    ap (λ b. cond b (cond (nat_le n.callers CALLERS) 4096 (16 * BLOCKS - 1)) (16 * n.blocks - 1))
    (le-leb n.blocks BLOCKS few)
    ∙ ap (λ b. cond b 4096 (16 * BLOCKS - 1)) (le-leb n.callers CALLERS callers) in
    subst (λ buckets. TakesStepsBy buckets s ages e before after) many is

-- nor does what is offered, and whether the table grows
module _ (n : Numbers) (s : State) (p : FinMap nat_cmp ℕ) where
  pub offer_placed : (caller : ℕ) (c : Cmd) (o : Option Slot) → IsOffer (with_pinned s p) caller c o
      → IsOffer s caller c o
  offer_placed caller c None is = tt
  offer_placed caller c (Some slot) is = by (asks_of s caller c) is
    where
      by : (a : Asks) → MayOffer (with_pinned s p) a slot → MayOffer s a slot
      by (object_room fields) is = is
      by (handle_slot kind) is =
          record { no_handle = is.no_handle; not_weak = is.not_weak; of_kind = is.of_kind }
      by (block_back kind) is = (
        is.0,
        λ other same.
            let free = is.1 other same in
            record { no_handle = free.no_handle; not_weak = free.not_weak; of_kind = free.of_kind },
      )
      by no_room is = is

  pub growth_placed : (caller : ℕ) (c : Cmd) (o : Option Slot) (e : Entry) → GrowsUnoffered n s caller c o e
      → GrowsUnoffered n (with_pinned s p) caller c o e
  growth_placed caller c o e = by (asks_of s caller c) o
    where
      by : (a : Asks) (o : Option Slot) → GrowsFor n s a o e → GrowsFor n (with_pinned s p) a o e
      by (object_room fields) o is = is
      by (handle_slot kind) None is = record { full = is.full; grows = is.grows }
      by (handle_slot kind) (Some slot) is = is
      by (block_back kind) None is = is
      by (block_back kind) (Some slot) is = is
      by no_room o is = is
