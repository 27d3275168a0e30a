-- The blocks whose slots are all free, as the calls of a pool list them.
use Rattle.hd_pool.proofs.Basics.{HOST_BLOCKS, Bool, HasAllOf, HasNoneBetween, NumberSet, IsLeastBetween, IsLeastWholeOf, IsPool, IsTrue, IsWholeOf, IsWholes, KINDS, List, None, Option, ROWS, Some, ap, arith, both_ways, cases_eq, cases_lt, contains, contains-empty, difference, empty, false, get_or-set_other, get_or-set_same, inl, inr, insert, is_some, kind_at, length, nat_cmp, numbers_of, index_of, KindBlocks, refl, remove, same_Some, set, subst, sym, true, union, ℕ, ◌*◌, ◌+◌, ◌-◌, ◌/◌, ◌<◌, ◌∙◌, ◌≡◌, ◌≢◌, ◌≤◌, ◌↔◌}
use Rattle.hd_model.specs.{declared.data.Kind.Kind}
use Rattle.hd_pool.specs.Pool.{FreeSlots, HasNoWholeOf}
use Rattle.hd_pool.proofs.PoolCalls.{block_low, block_small, is_there, is_whole, same_index, seen, whole_all, whole_kind, whole_within}
use Rattle.hd_tiers.proofs.SetMembers.{insert_same, insert_other, insert_keeps, remove_same, remove_other, union_same, union_other, difference_same, difference_other}

-- the same sets
pub wholes_along : {kinds : List (Option Kind)} {free wholes free' wholes' : NumberSet} {stride stride' : ℕ}
    → free' ≡ free → stride' ≡ stride → wholes' ≡ wholes → IsWholes kinds free stride wholes
    → IsWholes kinds free' stride' wholes'
wholes_along {kinds} e d f inv = subst (λ x. x) (λ i. IsWholes kinds (sym e i) (sym d i) (sym f i)) inv

module _ {kinds : List (Option Kind)} {free wholes : NumberSet} {ready : KindBlocks} (pool : IsPool kinds free ready)
    (inv : IsWholes kinds free ready.stride wholes) where
  abbrev index : Kind → ℕ → ℕ
  index j b = index_of ready.stride j b

  low : (j : Kind) (b : ℕ) → kind_at kinds b ≡ Some j → b < ready.stride
  low j b is = block_low pool b (is_there kinds b j is)

  -- ---- a block is added

  module _ (block : ℕ) (k : Kind) (within : block < length kinds) (new : kind_at kinds block ≡ None) where
    here : (b : ℕ) → b ≡ block → kind_at (set kinds block (Some k)) b ≡ Some k
    here b e = ap (kind_at (set kinds block (Some k))) e ∙ get_or-set_same kinds block (Some k) None within

    other : (b : ℕ) → b ≢ block → kind_at (set kinds block (Some k)) b ≡ kind_at kinds b
    other b apart = get_or-set_other kinds block b (Some k) None apart

    pub added : IsWholes (set kinds block (Some k)) (record free
        { members = union free.members (numbers_of block) }) ready.stride
        (record wholes { members = insert wholes.members (index k block) })
    added = record {
      room = inv.room;
      listed = λ j b of_kind all. elim (cases_eq b block) [
        | inl e ↦ insert_same wholes.members (index k block) (index j b)
            (λ i. index (same_Some j k (sym of_kind ∙ here b e) i) (e i))
        | inr apart ↦ insert_keeps wholes.members (index k block) (index j b)
            (inv.listed j b (sym (other b apart) ∙ of_kind)
            (λ i of_block. sym (union_other block i free.members (λ e. apart (sym of_block ∙ e))) ∙ all i of_block))
      ];
      all_free = λ j b small member. elim (cases_eq (index j b) (index k block)) [
        | inl e ↦ let same = same_index ready.stride j k b block small (omega (arith, pool.wide)) e in (
          here b same.1 ∙ ap Some (sym same.0),
          λ i of_block. union_same block i free.members (of_block ∙ same.1),
        )
        | inr apart ↦ let old = inv.all_free j b small
            (sym (insert_other wholes.members (index k block) (index j b) apart) ∙ member) in
            let differs : b ≢ block = λ e. absurd (both_ways (is_some (kind_at kinds b))
            (ap (λ x. is_some (kind_at kinds x)) e ∙ ap is_some new) (ap is_some old.0)) in (
              other b differs ∙ old.0,
              λ i of_block. union_other block i free.members (λ e. differs (sym of_block ∙ e)) ∙ old.1 i of_block,
            )
      ];
    }

  -- ---- a slot is taken, and put back

  module _ {k : Kind} (slot : ℕ) (of_kind : kind_at kinds (slot / ROWS) ≡ Some k) where
    -- a number in `wholes` that is that of the block of the slot is that of its kind
    apart_from : (j : Kind) (b : ℕ) → kind_at kinds b ≡ Some j → index j b ≢ index k (slot / ROWS)
        → b ≢ slot / ROWS
    apart_from j b is apart e =
        apart (λ i. index (same_Some j k (sym is ∙ ap (kind_at kinds) e ∙ of_kind) i) (e i))

    taken : IsWholes kinds (record free { members = remove free.members slot }) ready.stride
        (record wholes { members = remove wholes.members (index k (slot / ROWS)) })
    taken = record {
      room = inv.room;
      listed = λ j b is all. elim (cases_eq b (slot / ROWS)) [
        | inl e ↦ absurd (both_ways _ (remove_same free.members slot slot refl) (all slot (sym e)))
        | inr apart ↦ remove_other wholes.members (index k (slot / ROWS)) (index j b)
            (λ e. apart (same_index ready.stride j k b (slot / ROWS) (omega (arith, low j b is))
            (omega (arith, low k (slot / ROWS) of_kind)) e).1)
            ∙ inv.listed j b is (λ i of_block. sym (remove_other free.members slot i
            (λ e. apart (sym of_block ∙ ap (λ x. x / ROWS) e))) ∙ all i of_block)
      ];
      all_free = λ j b small member. elim (cases_eq (index j b) (index k (slot / ROWS))) [
        | inl e ↦ absurd (both_ways _ (remove_same wholes.members (index k (slot / ROWS)) (index j b) e)
            member)
        | inr apart ↦ let old = inv.all_free j b small
            (sym (remove_other wholes.members (index k (slot / ROWS)) (index j b) apart) ∙ member) in (
              old.0,
              λ i of_block. remove_other free.members slot i
                  (λ e. apart_from j b old.0 apart (sym of_block ∙ ap (λ x. x / ROWS) e)) ∙ old.1 i of_block,
            )
      ];
    }

    -- its block had a slot in use
    taken_more : (HasAllOf free.members (slot / ROWS) → ⊥)
        → IsWholes kinds (record free { members = remove free.members slot }) ready.stride wholes
    taken_more not_full = record {
      room = inv.room;
      listed = λ j b is all. inv.listed j b is (λ i of_block. elim (cases_eq i slot) [
        | inl e ↦ absurd (both_ways _ (remove_same free.members slot i e) (all i of_block))
        | inr apart ↦ sym (remove_other free.members slot i apart) ∙ all i of_block
      ]);
      all_free = λ j b small member. let old = inv.all_free j b small member in (
        old.0,
        λ i of_block. remove_other free.members slot i (λ e. not_full (subst (HasAllOf free.members)
            (sym of_block ∙ ap (λ x. x / ROWS) e) old.1)) ∙ old.1 i of_block,
      );
    }

    -- its block is listed no more where its slots were all free
    pub taken_where : (after : NumberSet) (at : ℕ) → at ≡ index k (slot / ROWS) → (full : Bool)
        → IsTrue full ↔ HasAllOf free.members (slot / ROWS)
        → (full ≡ true → after ≡ record wholes { members = remove wholes.members at })
        → (full ≡ false → after ≡ wholes)
        → IsWholes kinds (record free { members = remove free.members slot }) ready.stride after
    taken_where after at at_is true all removed kept =
        wholes_along refl refl (removed refl ∙ ap (λ n. record wholes { members = remove wholes.members n }) at_is) taken
    taken_where after at at_is false all removed kept =
        wholes_along refl refl (kept refl) (taken_more (λ yes. both_ways false refl (all.1 yes)))

    still : (b : ℕ) → HasAllOf free.members b → HasAllOf (insert free.members slot) b
    still b all i of_block = insert_keeps free.members slot i (all i of_block)

    was : (b : ℕ) → b ≢ slot / ROWS → HasAllOf (insert free.members slot) b → HasAllOf free.members b
    was b apart all i of_block =
        sym (insert_other free.members slot i (λ e. apart (sym of_block ∙ ap (λ x. x / ROWS) e))) ∙ all i of_block

    -- all slots of its block are free
    put_last : HasAllOf (insert free.members slot) (slot / ROWS)
        → IsWholes kinds (record free { members = insert free.members slot }) ready.stride
        (record wholes { members = insert wholes.members (index k (slot / ROWS)) })
    put_last full = record {
      room = inv.room;
      listed = λ j b is all. elim (cases_eq b (slot / ROWS)) [
        | inl e ↦ insert_same wholes.members (index k (slot / ROWS)) (index j b)
            (λ i. index (same_Some j k (sym is ∙ ap (kind_at kinds) e ∙ of_kind) i) (e i))
        | inr apart ↦ insert_keeps wholes.members (index k (slot / ROWS)) (index j b)
            (inv.listed j b is (was b apart all))
      ];
      all_free = λ j b small member. elim (cases_eq (index j b) (index k (slot / ROWS))) [
        | inl e ↦ let same = same_index ready.stride j k b (slot / ROWS) small (omega (arith, low k (slot / ROWS) of_kind)) e in (
          ap (kind_at kinds) same.1 ∙ of_kind ∙ ap Some (sym same.0),
          subst (HasAllOf (insert free.members slot)) (sym same.1) full,
        )
        | inr apart ↦ let old = inv.all_free j b small
            (sym (insert_other wholes.members (index k (slot / ROWS)) (index j b) apart) ∙ member) in
            (old.0, still b old.1)
      ];
    }

    -- some slot of its block is not free
    put_more : (HasAllOf (insert free.members slot) (slot / ROWS) → ⊥)
        → IsWholes kinds (record free { members = insert free.members slot }) ready.stride wholes
    put_more not_full = record {
      room = inv.room;
      listed = λ j b is all. elim (cases_eq b (slot / ROWS)) [
        | inl e ↦ absurd (not_full (subst (HasAllOf (insert free.members slot)) e all))
        | inr apart ↦ inv.listed j b is (was b apart all)
      ];
      all_free = λ j b small member. let old = inv.all_free j b small member in (old.0, still b old.1);
    }

    -- its block is listed where its slots are all free
    pub put_where : (after : NumberSet) (at : ℕ) → at ≡ index k (slot / ROWS) → (full : Bool)
        → IsTrue full ↔ HasAllOf (insert free.members slot) (slot / ROWS)
        → (full ≡ true → after ≡ record wholes { members = insert wholes.members at })
        → (full ≡ false → after ≡ wholes)
        → IsWholes kinds (record free { members = insert free.members slot }) ready.stride after
    put_where after at at_is true all inserted kept =
        wholes_along refl refl (inserted refl ∙ ap (λ n. record wholes { members = insert wholes.members n }) at_is)
        (put_last (all.0 refl))
    put_where after at at_is false all inserted kept =
        wholes_along refl refl (kept refl) (put_more (λ yes. both_ways false refl (all.1 yes)))

  -- ---- a block is dropped

  module _ (block : ℕ) {k : Kind} (of_kind : kind_at kinds block ≡ Some k) where
    left_other : (b : ℕ) → b ≢ block → kind_at (set kinds block None) b ≡ kind_at kinds b
    left_other b apart = get_or-set_other kinds block b None None apart

    pub dropped : IsWholes (set kinds block None) (record free
        { members = difference free.members (numbers_of block) }) ready.stride
        (record wholes { members = remove wholes.members (index k block) })
    dropped = record {
      room = inv.room;
      listed = λ j b is all. elim (cases_eq b block) [
        | inl e ↦ absurd (both_ways _ (difference_same block (ROWS * b) free.members (omega (arith, e)))
            (all (ROWS * b) (omega arith)))
        | inr apart ↦ let known = sym (left_other b apart) ∙ is in
            remove_other wholes.members (index k block) (index j b)
            (λ e. apart (same_index ready.stride j k b block (omega (arith, low j b known))
            (omega (arith, low k block of_kind)) e).1)
            ∙ inv.listed j b known (λ i of_block. sym (difference_other block i free.members
            (λ e. apart (sym of_block ∙ e))) ∙ all i of_block)
      ];
      all_free = λ j b small member. elim (cases_eq (index j b) (index k block)) [
        | inl e ↦ absurd (both_ways _ (remove_same wholes.members (index k block) (index j b) e) member)
        | inr apart ↦ let old = inv.all_free j b small
            (sym (remove_other wholes.members (index k block) (index j b) apart) ∙ member) in
            let differs : b ≢ block = λ e. apart (λ i. index (same_Some j k (sym old.0 ∙ ap (kind_at kinds) e ∙ of_kind) i) (e i)) in (
              left_other b differs ∙ old.0,
              λ i of_block. difference_other block i free.members (λ e. differs (sym of_block ∙ e))
                  ∙ old.1 i of_block,
            )
      ];
    }

  -- ---- what is found

  module _ {v : FreeSlots} (is : seen kinds free ≡ v) (k : Kind) {start : ℕ} (start_is : start ≡ index k 0)
    where
      listed_whole : (b : ℕ) → IsWholeOf v k b → contains wholes.members (index k b) ≡ true
      listed_whole b whole = inv.listed k b (whole_kind pool is k b whole) (whole_all pool is k b whole)

      pub no_whole : HasNoneBetween wholes.members start (start + ready.stride) → HasNoWholeOf v k
      no_whole none b whole =
          let within = whole_within pool is k b whole in
          both_ways _ (none (index k b) (omega (arith, start_is)) (omega (arith, start_is, within, pool.wide)))
          (listed_whole b whole)

      module _ {at : ℕ} (found : IsLeastBetween wholes.members start (start + ready.stride) at) where
        at_is : at ≡ index k (at - start)
        at_is = omega (arith, found.low, found.high, start_is)

        has : (kind_at kinds (at - start) ≡ Some k) × HasAllOf free.members (at - start)
        has = inv.all_free k (at - start) (omega (arith, found.low, found.high))
            (ap (contains wholes.members) (sym at_is) ∙ found.member)

        pub found_small : at - start ≤ HOST_BLOCKS
        found_small = block_small pool (at - start) (is_there kinds (at - start) k has.0)

        pub found_least : IsLeastWholeOf v k (at - start)
        found_least = record {
          whole = is_whole pool is k (at - start) has.0 has.1;
          least = λ other whole. elim (cases_lt other (at - start)) [
            | inl less ↦ absurd (both_ways _
                (found.least (index k other) (omega (arith, start_is)) (omega (arith, less, at_is)))
                (listed_whole other whole))
            | inr le ↦ le
          ];
        }

-- ---- the start

pub opened_wholes : (kinds : List (Option Kind)) (free wholes : NumberSet) (stride : ℕ)
    → ((b : ℕ) → kind_at kinds b ≡ None) → KINDS * stride ≤ wholes.room → wholes.members ≡ empty
    → IsWholes kinds free stride wholes
opened_wholes kinds free wholes stride none wide wholes_is = record {
  room = wide;
  listed = λ j b is all. absurd (both_ways _ (ap is_some (none b)) (ap is_some is));
  all_free = λ j b small member. absurd (both_ways _
      (ap (λ m. contains m (index_of stride j b)) wholes_is ∙ contains-empty nat_cmp (index_of stride j b))
      member);
}

-- by what was written at the index of a block
pub wholes_left : (kinds : List (Option Kind)) {free wholes : NumberSet} {stride : ℕ} (block : ℕ)
    {left : Option Kind} → left ≡ None → IsWholes (set kinds block None) free stride wholes
    → IsWholes (set kinds block left) free stride wholes
wholes_left kinds {free} {wholes} {stride} block none inv =
    subst (λ (o : Option Kind). IsWholes (set kinds block o) free stride wholes) (sym none) inv
