-- What each call of a pool does to its fields and to the set of free slots.
use Rattle.hd_pool.proofs.Basics.{HOST_BLOCKS, Bool, FinSet, FreeSlots, HasAllOf, HasNoneBetween, HasNoneFor, HasNoneOf, HasSomeOf, NumberSet, IfNone, IfSome, IsFreeFor, IsLeastBetween, IsLeastFreeFor, IsLeastOf, IsPool, IsSome, IsWholeOf, List, None, Option, KINDS, ROWS, Some, ap, arith, both_ways, by_index-clear, by_index-put, cases_eq, cases_lt, contains, contains-empty, difference, empty, false, get, get-by_index, get_or, get_or-set_other, get_or-set_same, get_or_past, get_or_read, inl, inr, insert, is_some, kind_at, length, length-set, nat_cmp, numbers_of, index_of, KindBlocks, refl, remove, same_Some, same_from_place, set, subst, sym, true, union, ℕ, ◌*◌, ◌+◌, ◌-◌, ◌/◌, ◌<◌, ◌∙◌, ◌≡◌, ◌≢◌, ◌≤◌, ◌⊎◌}
use Rattle.hd_model.specs.{declared.data.Kind.Kind, declared.data.Slot.Slot, Kinds.kind_number, Indexed.by_index}
use Rattle.hd_model.proofs.KindTests.{same_number}
use Rattle.hd_tiers.proofs.SetMembers.{insert_same, insert_other, insert_keeps, remove_same, remove_other, union_same, union_other, difference_same, difference_other}
use Rattle.std.specs.FinMap as map

-- two numbers in `ready` are equal only for the same kind and block
pub same_index : (stride : ℕ) (j k : Kind) (a b : ℕ) → a < stride → b < stride
    → index_of stride j a ≡ index_of stride k b → (j ≡ k) × (a ≡ b)
same_index stride j k a b small small' e =
    let same = same_from_place (kind_number j) a (kind_number k) b stride small small' e in
    (same_number j k same.0, same.1)

-- a number of a kind, as `Ready` asks for it
pub is_of : {stride : ℕ} (k : Kind) (block : ℕ) {index room : ℕ} → index ≡ index_of stride k block → block < stride
    → index < room → (index < room) × (index_of stride k 0 ≤ index) × (index < index_of stride k stride)
is_of k block is small within = (within, omega (arith, is), omega (arith, is, small))

-- each kind has as many numbers after a change of members that is made where it is wanted
pub same_stride : (wanted : Bool) {ready after changed : KindBlocks} → (wanted ≡ true → after ≡ changed)
    → (wanted ≡ false → after ≡ ready) → changed.stride ≡ ready.stride → after.stride ≡ ready.stride
same_stride true is kept like = ap (λ (r : KindBlocks). r.stride) (is refl) ∙ like
same_stride false is kept like = ap (λ (r : KindBlocks). r.stride) (kept refl)

-- ---- a read of the kinds

pub kind_within : (kinds : List (Option Kind)) (block : ℕ) → IsSome (kind_at kinds block) → block < length kinds
kind_within kinds block there =
    elim (cases_lt block (length kinds)) [
      | inl is ↦ is
      | inr past ↦ absurd (both_ways _ (ap is_some (get_or_past kinds block None past)) there)
    ]

pub is_there : (kinds : List (Option Kind)) (block : ℕ) (k : Kind) → kind_at kinds block ≡ Some k → IsSome
    (kind_at kinds block)
is_there kinds block k e = ap is_some e

not_both : {P : Type 0} (b : Bool) → b ≡ false → b ≡ true → P
not_both b is_false is_true = absurd (both_ways b is_false is_true)

-- what callers see
abbrev pub seen : List (Option Kind) → NumberSet → FreeSlots
seen kinds free = record { blocks = length kinds - 1; kinds = by_index kinds; free = free.members }

-- a pool of the same sets
pub along : {kinds : List (Option Kind)} {free free' : NumberSet} {ready ready' : KindBlocks} → free' ≡ free
    → ready' ≡ ready → IsPool kinds free ready → IsPool kinds free' ready'
along {kinds} {free} {free'} {ready} {ready'} e f inv =
    subst (λ (s : NumberSet). IsPool kinds s ready') (sym e)
    (subst (λ (r : KindBlocks). IsPool kinds free r) (sym f) inv)

module _ {kinds : List (Option Kind)} {free : NumberSet} {ready : KindBlocks} (inv : IsPool kinds free ready) where
  abbrev index : Kind → ℕ → ℕ
  index j b = index_of ready.stride j b

  -- a block that was added is small
  pub block_small : (block : ℕ) → IsSome (kind_at kinds block) → block ≤ HOST_BLOCKS
  block_small block there = omega (arith, kind_within kinds block there, inv.limit)

  pub block_low : (block : ℕ) → IsSome (kind_at kinds block) → block < ready.stride
  block_low block there = omega (arith, kind_within kinds block there, inv.wide)

  -- ---- a block is added

  module _ (block : ℕ) (k : Kind) (within : block < length kinds) (new : kind_at kinds block ≡ None) where
    pub added : IsPool (set kinds block (Some k)) (record free
        { members = union free.members (numbers_of block) })
        (record ready { members = insert ready.members (index k block) })
    added = record {
      some = omega (arith, inv.some, length-set kinds block (Some k));
      limit = omega (arith, inv.limit, length-set kinds block (Some k));
      wide = omega (arith, inv.wide, length-set kinds block (Some k));
      room = omega (arith, inv.room, length-set kinds block (Some k));
      ready_room = inv.ready_room;
      added = λ slot member. elim (cases_eq (slot / ROWS) block) [
        | inl e ↦ ap is_some (here (slot / ROWS) e)
        | inr apart ↦ ap is_some (other (slot / ROWS) apart)
            ∙ inv.added slot (sym (union_other block slot free.members apart) ∙ member)
      ];
      opened = λ j slot of_kind member. elim (cases_eq (slot / ROWS) block) [
        | inl e ↦ insert_same ready.members (index k block) (index j (slot / ROWS))
            (λ i. index (same_Some j k (sym of_kind ∙ here (slot / ROWS) e) i) (e i))
        | inr apart ↦ insert_keeps ready.members (index k block) (index j (slot / ROWS))
            (inv.opened j slot (sym (other (slot / ROWS) apart) ∙ of_kind)
            (sym (union_other block slot free.members apart) ∙ member))
      ];
      has_free = λ j b small member. elim (cases_eq (index j b) (index k block)) [
        | inl e ↦ let same = same_index ready.stride j k b block small (omega (arith, inv.wide)) e in (
          here b same.1 ∙ ap Some (sym same.0),
          record {
            number = ROWS * b;
            of_block = omega arith;
            member = union_same block (ROWS * b) free.members (omega (arith, same.1));
          },
        )
        | inr apart ↦ let old = inv.has_free j b small
            (sym (insert_other ready.members (index k block) (index j b) apart) ∙ member) in
            let differs : b ≢ block = λ e. not_both (is_some (kind_at kinds b))
            (ap (λ x. is_some (kind_at kinds x)) e ∙ ap is_some new) (ap is_some old.0) in (
              other b differs ∙ old.0,
              record {
                number = old.1.number;
                of_block = old.1.of_block;
                member = union_other block old.1.number free.members (λ e. differs (sym old.1.of_block ∙ e)) ∙
                    old.1.member;
              },
            )
      ];
    }
      where
        here : (b : ℕ) → b ≡ block → kind_at (set kinds block (Some k)) b ≡ Some k
        here b e = ap (kind_at (set kinds block (Some k))) e ∙ get_or-set_same kinds block (Some k) None
            within

        other : (b : ℕ) → b ≢ block → kind_at (set kinds block (Some k)) b ≡ kind_at kinds b
        other b apart = get_or-set_other kinds block b (Some k) None apart

  -- ---- a slot is taken

  module _ {k : Kind} (slot : ℕ) (of_kind : kind_at kinds (slot / ROWS) ≡ Some k) where
    kept_member : (q : ℕ) → contains (remove free.members slot) q ≡ true → contains free.members q ≡ true
    kept_member q member =
        elim (cases_eq q slot) [
          | inl e ↦ not_both _ (remove_same free.members slot q e) member
          | inr apart ↦ sym (remove_other free.members slot q apart) ∙ member
        ]

    -- its block has another free slot
    pub taken : HasSomeOf (remove free.members slot) (slot / ROWS)
        → IsPool kinds (record free { members = remove free.members slot }) ready
    taken left = record {
      some = inv.some;
      limit = inv.limit;
      wide = inv.wide;
      room = inv.room;
      ready_room = inv.ready_room;
      added = λ q member. inv.added q (kept_member q member);
      opened = λ j q is member. inv.opened j q is (kept_member q member);
      has_free = λ j b small member. let old = inv.has_free j b small member in (
        old.0,
        elim (cases_eq b (slot / ROWS)) [
          | inl e ↦ subst (HasSomeOf (remove free.members slot)) (sym e) left
          | inr apart ↦ record {
            number = old.1.number;
            of_block = old.1.of_block;
            member = remove_other free.members slot old.1.number
                (λ e. apart (sym old.1.of_block ∙ ap (λ x. x / ROWS) e)) ∙ old.1.member;
          }
        ],
      );
    }

    -- it was the last free slot of its block
    pub taken_last : HasNoneOf (remove free.members slot) (slot / ROWS)
        → IsPool kinds (record free { members = remove free.members slot })
        (record ready { members = remove ready.members (index k (slot / ROWS)) })
    taken_last none = record {
      some = inv.some;
      limit = inv.limit;
      wide = inv.wide;
      room = inv.room;
      ready_room = inv.ready_room;
      added = λ q member. inv.added q (kept_member q member);
      opened = λ j q is member.
          let apart : q / ROWS ≢ slot / ROWS = λ e. not_both _ (none q e) member in
          let small = block_low (q / ROWS) (is_there kinds (q / ROWS) j is) in
          let small' = block_low (slot / ROWS) (is_there kinds (slot / ROWS) k of_kind) in
          remove_other ready.members (index k (slot / ROWS)) (index j (q / ROWS))
          (λ e. apart (same_index ready.stride j k (q / ROWS) (slot / ROWS) (omega arith) (omega arith) e).1)
          ∙ inv.opened j q is (kept_member q member);
      has_free = λ j b small member. elim (cases_eq (index j b) (index k (slot / ROWS))) [
        | inl e ↦ not_both _ (remove_same ready.members (index k (slot / ROWS)) (index j b) e) member
        | inr apart ↦ let old = inv.has_free j b small
            (sym (remove_other ready.members (index k (slot / ROWS)) (index j b) apart) ∙ member) in
            let differs : b ≢ slot / ROWS = λ e. apart
            (λ i. index (same_Some j k (sym old.0 ∙ ap (kind_at kinds) e ∙ of_kind) i) (e i)) in (
              old.0,
              record {
                number = old.1.number;
                of_block = old.1.of_block;
                member = remove_other free.members slot old.1.number
                    (λ e. differs (sym old.1.of_block ∙ ap (λ x. x / ROWS) e)) ∙ old.1.member;
              },
            )
      ];
    }

    -- ---- a slot is put back

    pub put : IsPool kinds (record free { members = insert free.members slot })
        (record ready { members = insert ready.members (index k (slot / ROWS)) })
    put = record {
      some = inv.some;
      limit = inv.limit;
      wide = inv.wide;
      room = inv.room;
      ready_room = inv.ready_room;
      added = λ q member. elim (cases_eq q slot) [
        | inl e ↦ ap (λ x. is_some (kind_at kinds (x / ROWS))) e ∙ ap is_some of_kind
        | inr apart ↦ inv.added q (sym (insert_other free.members slot q apart) ∙ member)
      ];
      opened = λ j q is member. elim (cases_eq q slot) [
        | inl e ↦ insert_same ready.members (index k (slot / ROWS)) (index j (q / ROWS))
            (λ i. index (same_Some j k (sym is ∙ ap (λ x. kind_at kinds (x / ROWS)) e ∙ of_kind) i)
            (e i / ROWS))
        | inr apart ↦ insert_keeps ready.members (index k (slot / ROWS)) (index j (q / ROWS))
            (inv.opened j q is (sym (insert_other free.members slot q apart) ∙ member))
      ];
      has_free = λ j b small member. elim (cases_eq (index j b) (index k (slot / ROWS))) [
        | inl e ↦ let small' = block_low (slot / ROWS) (is_there kinds (slot / ROWS) k of_kind) in
            let same = same_index ready.stride j k b (slot / ROWS) small (omega arith) e in (
              ap (kind_at kinds) same.1 ∙ of_kind ∙ ap Some (sym same.0),
              record { number = slot; of_block = sym same.1; member = insert_same free.members slot slot refl },
            )
        | inr apart ↦ let old = inv.has_free j b small
            (sym (insert_other ready.members (index k (slot / ROWS)) (index j b) apart) ∙ member) in (
              old.0,
              record {
                number = old.1.number;
                of_block = old.1.of_block;
                member = insert_keeps free.members slot old.1.number old.1.member;
              },
            )
      ];
    }

    -- a block with a free slot is listed already
    listed : HasSomeOf free.members (slot / ROWS) → contains ready.members (index k (slot / ROWS)) ≡ true
    listed has =
        ap (λ b. contains ready.members (index k b)) (sym has.of_block)
        ∙ inv.opened k has.number (ap (kind_at kinds) has.of_block ∙ of_kind) has.member

    -- its block had a free slot
    put_more : HasSomeOf free.members (slot / ROWS)
        → IsPool kinds (record free { members = insert free.members slot }) ready
    put_more has = record {
      some = inv.some;
      limit = inv.limit;
      wide = inv.wide;
      room = inv.room;
      ready_room = inv.ready_room;
      added = λ q member. elim (cases_eq q slot) [
        | inl e ↦ ap (λ x. is_some (kind_at kinds (x / ROWS))) e ∙ ap is_some of_kind
        | inr apart ↦ inv.added q (sym (insert_other free.members slot q apart) ∙ member)
      ];
      opened = λ j q is member. elim (cases_eq q slot) [
        | inl e ↦
            let its : j ≡ k = same_Some j k (sym is ∙ ap (λ x. kind_at kinds (x / ROWS)) e ∙ of_kind) in
            let same : index j (q / ROWS) ≡ index k (slot / ROWS) = λ i. index (its i) (e i / ROWS) in
            ap (contains ready.members) same ∙ listed has
        | inr apart ↦ inv.opened j q is (sym (insert_other free.members slot q apart) ∙ member)
      ];
      has_free = λ j b small member. let old = inv.has_free j b small member in (
        old.0,
        record {
          number = old.1.number;
          of_block = old.1.of_block;
          member = insert_keeps free.members slot old.1.number old.1.member;
        },
      );
    }

    -- its block is listed where it had none
    pub put_where : (after : KindBlocks) (at : ℕ) → at ≡ index k (slot / ROWS) → (first : Bool)
        → (first ≡ false → HasSomeOf free.members (slot / ROWS))
        → (first ≡ true → after ≡ record ready { members = insert ready.members at })
        → (first ≡ false → after ≡ ready)
        → IsPool kinds (record free { members = insert free.members slot }) after
    put_where after at at_is true more inserted kept =
        along refl (inserted refl ∙ ap (λ n. record ready { members = insert ready.members n }) at_is) put
    put_where after at at_is false more inserted kept = along refl (kept refl) (put_more (more refl))

  -- ---- a block is dropped

  module _ (block : ℕ) {k : Kind} (of_kind : kind_at kinds block ≡ Some k) where
    pub dropped : IsPool (set kinds block None) (record free
        { members = difference free.members (numbers_of block) })
        (record ready { members = remove ready.members (index k block) })
    dropped = record {
      some = omega (arith, inv.some, length-set kinds block None);
      limit = omega (arith, inv.limit, length-set kinds block None);
      wide = omega (arith, inv.wide, length-set kinds block None);
      room = omega (arith, inv.room, length-set kinds block None);
      ready_room = inv.ready_room;
      added = λ q member. let apart = outside q member in ap is_some (other (q / ROWS) apart) ∙ inv.added q
          (kept q apart member);
      opened = λ j q is member.
          let apart = outside q member in
          let was = sym (other (q / ROWS) apart) ∙ is in
          let small = block_low (q / ROWS) (is_there kinds (q / ROWS) j was) in
          let small' = block_low block (is_there kinds block k of_kind) in
          remove_other ready.members (index k block) (index j (q / ROWS))
          (λ e. apart (same_index ready.stride j k (q / ROWS) block (omega arith) (omega arith) e).1)
          ∙ inv.opened j q was (kept q apart member);
      has_free = λ j b small member. elim (cases_eq (index j b) (index k block)) [
        | inl e ↦ not_both _ (remove_same ready.members (index k block) (index j b) e) member
        | inr apart ↦ let old = inv.has_free j b small
            (sym (remove_other ready.members (index k block) (index j b) apart) ∙ member) in
            let differs : b ≢ block = λ e. apart (λ i. index
            (same_Some j k (sym old.0 ∙ ap (kind_at kinds) e ∙ of_kind) i) (e i)) in (
              other b differs ∙ old.0,
              record {
                number = old.1.number;
                of_block = old.1.of_block;
                member = difference_other block old.1.number free.members (λ e. differs (sym old.1.of_block ∙ e))
                    ∙ old.1.member;
              },
            )
      ];
    }
      where
        other : (b : ℕ) → b ≢ block → kind_at (set kinds block None) b ≡ kind_at kinds b
        other b apart = get_or-set_other kinds block b None None apart

        outside : (q : ℕ) → contains (difference free.members (numbers_of block)) q ≡ true → q / ROWS ≢ block
        outside q member e = not_both _ (difference_same block q free.members e) member

        kept : (q : ℕ) → q / ROWS ≢ block → contains (difference free.members (numbers_of block)) q ≡ true →
            contains free.members q ≡ true
        kept q apart member = sym (difference_other block q free.members apart) ∙ member

  -- ---- what is found

  module _ (k : Kind) where
    kind_of_free : (slot : Slot) → IsFreeFor (seen kinds free) k slot → kind_at kinds (slot.0 / ROWS) ≡ Some k
    kind_of_free slot is = sym (get-by_index kinds (slot.0 / ROWS)) ∙ is.1

    block_is_ready : (slot : Slot) → IsFreeFor (seen kinds free) k slot → contains ready.members
        (index k (slot.0 / ROWS)) ≡ true
    block_is_ready slot is = inv.opened k slot.0 (kind_of_free slot is) is.0

    low_block : (slot : Slot) → IsFreeFor (seen kinds free) k slot → slot.0 / ROWS < ready.stride
    low_block slot is = block_low (slot.0 / ROWS) (is_there kinds (slot.0 / ROWS) k (kind_of_free slot is))

    -- no block of the kind has a free slot
    pub none_ready : HasNoneBetween ready.members (index k 0) (index k 0 + ready.stride)
        → HasNoneFor (seen kinds free) k
    none_ready none slot is =
        let low = low_block slot is in
        not_both _ (none (index k (slot.0 / ROWS)) (omega arith) (omega arith)) (block_is_ready slot is)

    module _ {at : ℕ} (first : IsLeastBetween ready.members (index k 0) (index k 0 + ready.stride) at)
        {block : ℕ} (block_is : block ≡ at - index k 0) where
      at_is : at ≡ index k block
      at_is = omega (arith, first.low, first.high)

      small : block < ready.stride
      small = omega (arith, first.low, first.high)

      pub block_has : (kind_at kinds block ≡ Some k) × HasSomeOf free.members block
      block_has = inv.has_free k block small (ap (contains ready.members) (sym at_is) ∙ first.member)

      -- so the block has a least free slot
      pub block_not_empty : HasNoneOf free.members block → ⊥
      block_not_empty none = let w = block_has.1 in both_ways _ (none w.number w.of_block) w.member

      module _ {slot : ℕ} (least : IsLeastOf free.members block slot) where
        pub slot_kind : kind_at kinds (slot / ROWS) ≡ Some k
        slot_kind = ap (kind_at kinds) least.of_block ∙ block_has.0

        pub least_free : IsLeastFreeFor (seen kinds free) k (record { 0 = slot })
        least_free = record {
          free = (least.member, get-by_index kinds (slot / ROWS) ∙ slot_kind);
          least = λ other is. at_most other is (cases_lt (other.0 / ROWS) block) (cases_lt other.0 slot);
        }
          where
            at_most : (other : Slot) → IsFreeFor (seen kinds free) k other → (other.0 / ROWS < block) ⊎
                (block ≤ other.0 / ROWS) → (other.0 < slot) ⊎ (slot ≤ other.0) → slot ≤ other.0
            at_most other is _ (inr le) = le
            at_most other is (inl before) (inl less) =
                not_both _ (first.least (index k (other.0 / ROWS)) (omega arith) (omega (arith, at_is)))
                (block_is_ready other is)
            at_most other is (inr after) (inl less) =
                not_both _ (least.least other.0 (omega (arith, least.of_block)) less) is.0

-- ---- the start

pub opened_empty : (kinds : List (Option Kind)) (free : NumberSet) (ready : KindBlocks)
    → ((b : ℕ) → kind_at kinds b ≡ None) → 1 ≤ length kinds → length kinds ≤ HOST_BLOCKS + 1
    → length kinds ≤ ready.stride → free ≡ record { room = ROWS * length kinds; members = empty }
    → KINDS * ready.stride ≤ ready.room → ready.members ≡ empty → IsPool kinds free ready
opened_empty kinds free ready none some limit wide free_is room ready_is = record {
  some = some;
  limit = limit;
  wide = wide;
  room = omega (arith, ap (λ (s : NumberSet). s.room) free_is);
  ready_room = room;
  added = λ slot member. not_both _ (no_member (ap (λ (s : NumberSet). s.members) free_is) slot) member;
  opened = λ j slot is member. not_both _ (no_member (ap (λ (s : NumberSet). s.members) free_is) slot) member;
  has_free = λ j b small member. not_both _ (no_member ready_is (index_of ready.stride j b)) member;
}
  where
    no_member : {m : FinSet nat_cmp} → m ≡ empty → (q : ℕ) → contains m q ≡ false
    no_member e q = ap (λ m. contains m q) e ∙ contains-empty nat_cmp q

-- ---- what callers see of a change

-- a pool by what was written at the index of a block
pub with_left : (kinds : List (Option Kind)) {free : NumberSet} {ready : KindBlocks} (block : ℕ) {left : Option Kind}
    → left ≡ None → IsPool (set kinds block None) free ready → IsPool (set kinds block left) free ready
with_left kinds {free} {ready} block none inv =
    subst (λ (o : Option Kind). IsPool (set kinds block o) free ready) (sym none) inv

module _ {kinds : List (Option Kind)} {free : NumberSet} {ready : KindBlocks} (inv : IsPool kinds free ready) {v : FreeSlots}
    (is : seen kinds free ≡ v) where
  pub blocks_is : length kinds - 1 ≡ v.blocks
  blocks_is = ap (λ (u : FreeSlots). u.blocks) is

  pub kind_is : (block : ℕ) → kind_at kinds block ≡ get v.kinds block
  kind_is block = sym (get-by_index kinds block) ∙ ap (λ (u : FreeSlots). get u.kinds block) is

  pub there : (block : ℕ) → IsSome (get v.kinds block) → IsSome (kind_at kinds block)
  there block some = ap is_some (kind_is block) ∙ some

  pub seen_put : (block : ℕ) (k : Kind) (f : FinSet nat_cmp → FinSet nat_cmp) {after : NumberSet} → block < length
      kinds → after ≡ record free { members = f free.members }
      → seen (set kinds block (Some k)) after ≡ record v
      { kinds = map.insert v.kinds block k; free = f v.free }
  seen_put block k f {after} within e =
      let now : seen (set kinds block (Some k)) (record free { members = f free.members })
      ≡ record {
        blocks = length kinds - 1;
        kinds = map.insert (by_index kinds) block k;
        free = f free.members;
      } =
      λ i. record {
        blocks = length-set kinds block (Some k) i - 1;
        kinds = by_index-put kinds block k within i;
        free = f free.members;
      } in
      ap (seen (set kinds block (Some k))) e ∙ now ∙ ap
      (λ (u : FreeSlots). record u { kinds = map.insert u.kinds block k; free = f u.free }) is

  seen_clear : (block : ℕ) (f : FinSet nat_cmp → FinSet nat_cmp) {after : NumberSet} → after ≡ record free
      { members = f free.members }
      → seen (set kinds block None) after ≡ record v { kinds = map.remove v.kinds block; free = f v.free }
  seen_clear block f {after} e =
      let now : seen (set kinds block None) (record free { members = f free.members })
      ≡ record { blocks = length kinds - 1; kinds = map.remove (by_index kinds) block; free = f free.members }
      =
      λ i. record {
        blocks = length-set kinds block None i - 1;
        kinds = by_index-clear kinds block i;
        free = f free.members;
      } in
      ap (seen (set kinds block None)) e ∙ now ∙ ap
      (λ (u : FreeSlots). record u { kinds = map.remove u.kinds block; free = f u.free }) is

  -- the same, by what was written at the block's index
  pub seen_left : {left : Option Kind} → left ≡ None → (block : ℕ) (f : FinSet nat_cmp → FinSet nat_cmp)
      {after : NumberSet} → after ≡ record free { members = f free.members }
      → seen (set kinds block left) after ≡ record v { kinds = map.remove v.kinds block; free = f v.free }
  seen_left none block f {after} e =
      ap (λ (o : Option Kind). seen (set kinds block o) after) none ∙ seen_clear block f e

  -- ---- a block that was added

  module _ (block : ℕ) (some : IsSome (get v.kinds block)) where
    pub in_list : block < length kinds
    in_list = kind_within kinds block (there block some)

    pub low : block < ready.stride
    low = block_low inv block (there block some)

    pub has_room : ROWS * block + 63 < free.room
    has_room = omega (arith, in_list, inv.room)

    module _ {read : Option Kind} (is_read : read ≡ get_or kinds block read) where
      pub read_kind : read ≡ kind_at kinds block
      read_kind = get_or_read kinds block read in_list is_read None

      pub read_some : IsSome read
      read_some = ap is_some read_kind ∙ there block some

  -- ---- whole blocks

  module _ (k : Kind) (block : ℕ) where
    pub is_whole : kind_at kinds block ≡ Some k → HasAllOf free.members block → IsWholeOf v k block
    is_whole of_kind all = record {
      added = sym (kind_is block) ∙ of_kind;
      whole = λ slot of_block. ap (λ (u : FreeSlots). contains u.free slot.0) (sym is) ∙ all slot.0 of_block;
    }

    pub whole_kind : IsWholeOf v k block → kind_at kinds block ≡ Some k
    whole_kind whole = kind_is block ∙ whole.added

    pub whole_all : IsWholeOf v k block → HasAllOf free.members block
    whole_all whole q of_block = ap (λ (u : FreeSlots). contains u.free q) is ∙ whole.whole (record { 0 = q })
        of_block

    pub whole_within : IsWholeOf v k block → block < length kinds
    whole_within whole = kind_within kinds block (ap is_some (whole_kind whole))

-- ---- taking a slot, step by step

pub in_some : {A : Type 0} {o : Option A} {x : A} (P : A → Type 0) → o ≡ Some x → IfSome o P → P x
in_some P is all = subst (λ p. IfSome p P) is all

some_of : {A : Type 0} (o : Option A) (P : Type 0) → IfNone o P → (P → ⊥) → IsSome o
some_of None P p not_p = absurd (not_p p)
some_of (Some x) P p not_p = refl

module _ {kinds : List (Option Kind)} {free : NumberSet} {ready : KindBlocks} (inv : IsPool kinds free ready) {v : FreeSlots}
    (is : seen kinds free ≡ v) (k : Kind) {start : ℕ} (start_is : start ≡ index_of ready.stride k 0) where
  pub take_none : HasNoneBetween ready.members start (start + ready.stride) → HasNoneFor v k
  take_none none =
      subst (λ (u : FreeSlots). HasNoneFor u k) is
      (none_ready inv k (subst (λ m. HasNoneBetween ready.members m (m + ready.stride)) start_is none))

  module _ {at : ℕ} (found : IsLeastBetween ready.members start (start + ready.stride) at) where
    first : IsLeastBetween ready.members (index_of ready.stride k 0) (index_of ready.stride k 0 + ready.stride) at
    first = subst (λ m. IsLeastBetween ready.members m (m + ready.stride) at) start_is found

    block_is : at - start ≡ at - index_of ready.stride k 0
    block_is = ap (λ m. at - m) start_is

    has : (kind_at kinds (at - start) ≡ Some k) × HasSomeOf free.members (at - start)
    has = block_has inv k first block_is

    pub take_room : ROWS * (at - start) < free.room
    take_room = omega (arith, kind_within kinds (at - start) (ap is_some has.0), inv.room)

    pub take_some : {A : Type 0} (o : Option A) → IfNone o (HasNoneOf free.members (at - start)) → IsSome o
    take_some o none = some_of o _ none (block_not_empty inv k first block_is)

    module _ {slot : ℕ} (least : IsLeastOf free.members (at - start) slot) where
      pub take_kind : kind_at kinds (slot / ROWS) ≡ Some k
      take_kind = slot_kind inv k first block_is least

      pub take_index : at ≡ index_of ready.stride k (slot / ROWS)
      take_index = omega (arith, first.low, least.of_block, start_is)

      pub take_least : IsLeastFreeFor v k (record { 0 = slot })
      take_least = subst (λ (u : FreeSlots). IsLeastFreeFor u k (record { 0 = slot })) is
          (least_free inv k first block_is least)

      module _ {after : NumberSet} (after_is : after ≡ record free { members = remove free.members slot }) where
        take_more : HasSomeOf after.members (at - start) → IsPool kinds after ready
        take_more left =
            along after_is refl (taken inv slot take_kind
            (subst (HasSomeOf (remove free.members slot)) (sym least.of_block)
            (subst (λ (s : NumberSet). HasSomeOf s.members (at - start)) after_is left)))

        take_last : HasNoneOf after.members (at - start)
            → {ready' : KindBlocks} → ready' ≡ record ready { members = remove ready.members at }
            → IsPool kinds after ready'
        take_last none ready_is =
            along after_is (ready_is ∙ ap (λ m. record ready { members = remove ready.members m }) take_index)
            (taken_last inv slot take_kind
            (subst (HasNoneOf (remove free.members slot)) (sym least.of_block)
            (subst (λ (s : NumberSet). HasNoneOf s.members (at - start)) after_is none)))

        -- its block is listed no more where that was its last free slot
        pub take_ready : (ready' : KindBlocks) (last : Bool) → (last ≡ true → HasNoneOf after.members (at - start))
            → (last ≡ false → HasSomeOf after.members (at - start))
            → (last ≡ true → ready' ≡ record ready { members = remove ready.members at })
            → (last ≡ false → ready' ≡ ready) → IsPool kinds after ready'
        take_ready ready' true none some removed kept = take_last (none refl) (removed refl)
        take_ready ready' false none some removed kept = along refl (kept refl) (take_more (some refl))

      pub seen_taken : {after : NumberSet} → after ≡ record free { members = remove free.members slot }
          → seen kinds after ≡ record v { free = remove v.free slot }
      seen_taken after_is =
          ap (seen kinds) after_is ∙ ap (λ (u : FreeSlots). record u { free = remove u.free slot }) is
