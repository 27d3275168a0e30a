-- The lists of blocks by kind, as they are moved to more numbers for each kind, and the pool with them.
use Rattle.hd_pool.proofs.Basics.{Bool, FinSet, FreeSlots, HOST_BLOCKS, IsPool, IsWholes, KINDS, KindBlocks, List, None, NumberSet, Option, ROWS, Some, [], ap, arith, both_ways, cases_eq, cond, contains, contains-empty, empty, false, false_from_ne_true, get-by_index, get_or, index_of, inl, inr, insert, is_some, kind_at, length, length-append, length-replicate, max, nat_cmp, nat_cmp-IsAntisymmetric, nat_cmp_total, refl, replicate, same_Some, same_map, subst, suc, sym, true, zero, ℕ, ◌*◌, ◌++◌, ◌+◌, ◌-◌, ◌/◌, ◌<◌, ◌∙◌, ◌∷◌, ◌≡◌, ◌≤◌}
use Rattle.hd_model.specs.{declared.data.Kind.Kind, Indexed.by_index}
use Rattle.hd_tiers.proofs.SetMembers.{insert_same, insert_other}
use Rattle.hd_pool.specs.Inside.{IsMoved, with_block}
use Rattle.hd_pool.proofs.PoolCalls.{is_there, kind_within, same_index, seen}

module _ {kinds : List (Option Kind)} {from to : ℕ} {old : FinSet nat_cmp} where
  pub moved_none : {new : FinSet nat_cmp} → new ≡ empty → IsMoved kinds from to 0 old new
  moved_none {new} none = record {
    kept = λ j b lt has. absurd (omega (arith, lt));
    only = λ j b small member. absurd (both_ways (contains new (index_of to j b))
        (ap (λ s. contains s (index_of to j b)) none ∙ contains-empty nat_cmp (index_of to j b)) member);
  }

  -- a block without a kind
  moved_past : {upto : ℕ} {now : FinSet nat_cmp} → IsMoved kinds from to upto old now
      → kind_at kinds upto ≡ None → IsMoved kinds from to (upto + 1) old now
  moved_past {upto} was none = record {
    kept = λ j b lt has. elim (cases_eq b upto) [
      | inl e ↦ let no : None ≡ Some j = sym none ∙ sym (ap (kind_at kinds) e) ∙ has in absurd (cc)
      | inr apart ↦ was.kept j b (omega (arith, lt, apart)) has
    ];
    only = λ j b small member.
        let is = was.only j b small member in (is.0, (omega (arith, is.1.0), is.1.1));
  }

  -- a block that was not listed
  moved_out : {upto : ℕ} {now : FinSet nat_cmp} (k : Kind) → IsMoved kinds from to upto old now
      → kind_at kinds upto ≡ Some k → upto < to → contains old (index_of from k upto) ≡ false
      → IsMoved kinds from to (upto + 1) old now
  moved_out {upto} {now} k was here low out = record {
    kept = λ j b lt has. elim (cases_eq b upto) [
      | inl e ↦
          let kind : k ≡ j = same_Some k j (sym here ∙ sym (ap (kind_at kinds) e) ∙ has) in
          let none : contains now (index_of to k upto) ≡ false =
          false_from_ne_true (contains now (index_of to k upto)) (λ member.
          let is = was.only k upto low member in omega (arith, is.1.0)) in
          (λ i. contains now (index_of to (sym kind i) (e i))) ∙ none ∙ sym out
          ∙ (λ i. contains old (index_of from (kind i) (sym e i)))
      | inr apart ↦ was.kept j b (omega (arith, lt, apart)) has
    ];
    only = λ j b small member.
        let is = was.only j b small member in (is.0, (omega (arith, is.1.0), is.1.1));
  }

  -- a block that was listed
  moved_in : {upto : ℕ} {now new : FinSet nat_cmp} (k : Kind) → IsMoved kinds from to upto old now
      → kind_at kinds upto ≡ Some k → upto < to → contains old (index_of from k upto) ≡ true
      → new ≡ insert now (index_of to k upto) → IsMoved kinds from to (upto + 1) old new
  moved_in {upto} {now} {new} k was here low in_old is =
      subst (IsMoved kinds from to (upto + 1) old) (sym is)
      (record {
        kept = λ j b lt has. elim (cases_eq b upto) [
          | inl e ↦
              let kind : k ≡ j = same_Some k j (sym here ∙ sym (ap (kind_at kinds) e) ∙ has) in
              insert_same now (index_of to k upto) (index_of to j b) (λ i. index_of to (sym kind i) (e i))
              ∙ sym in_old ∙ (λ i. contains old (index_of from (kind i) (sym e i)))
          | inr apart ↦ insert_other now (index_of to k upto) (index_of to j b)
              (λ e. apart (same_index to j k b upto (omega (arith, lt, low)) low e).1)
              ∙ was.kept j b (omega (arith, lt, apart)) has
        ];
        only = λ j b small member. elim (cases_eq (index_of to j b) (index_of to k upto)) [
          | inl e ↦
              let same = same_index to j k b upto small low e in (
                ap (kind_at kinds) same.1 ∙ here ∙ ap Some (sym same.0),
                (
                  omega (arith, same.1),
                  (λ i. contains old (index_of from (same.0 i) (same.1 i))) ∙ in_old,
                ),
              )
          | inr apart ↦
              let is = was.only j b small
              (sym (insert_other now (index_of to k upto) (index_of to j b) apart) ∙ member) in
              (is.0, (omega (arith, is.1.0), is.1.1))
        ];
      })

  -- a block more
  pub moved_on : {upto : ℕ} {now new : FinSet nat_cmp} (o : Option Kind) → IsMoved kinds from to upto old now
      → kind_at kinds upto ≡ o → upto < to → {at : ℕ} → at ≡ to → new ≡ with_block from at o upto old now
      → IsMoved kinds from to (upto + 1) old new
  moved_on {upto} {now} {new} o was here low {at} at_is is =
      subst (IsMoved kinds from to (upto + 1) old)
      (sym (is ∙ ap (λ n. with_block from n o upto old now) at_is)) (by o here)
    where
      listed : (k : Kind) → kind_at kinds upto ≡ Some k → (t : Bool)
          → contains old (index_of from k upto) ≡ t
          → IsMoved kinds from to (upto + 1) old (cond t (insert now (index_of to k upto)) now)
      listed k of_kind true member = moved_in k was of_kind low member refl
      listed k of_kind false out = moved_out k was of_kind low out

      by : (p : Option Kind) → kind_at kinds upto ≡ p
          → IsMoved kinds from to (upto + 1) old (with_block from to p upto old now)
      by None none = moved_past was none
      by (Some k) of_kind = listed k of_kind (contains old (index_of from k upto)) refl

-- what is changed where that is wanted
pub by_wanted : {S M : Type 0} (f : M → S) {m n : M} {after : S} (wanted : Bool) → (wanted ≡ true → after ≡ f m)
    → (wanted ≡ false → after ≡ f n) → after ≡ f (cond wanted m n)
by_wanted f true changed kept = changed refl
by_wanted f false changed kept = kept refl

-- ---- the pool

-- values that come are the default
longer_same : {A : Type 0} (xs : List A) (n i : ℕ) (d : A) → get_or (xs ++ replicate n d) i d ≡ get_or xs i d
longer_same [] zero i d = refl
longer_same [] (suc n) zero d = refl
longer_same [] (suc n) (suc i) d = longer_same [] n i d
longer_same (x ∷ xs) n zero d = refl
longer_same (x ∷ xs) n (suc i) d = longer_same xs n i d

-- free slots with more room
pub roomier : {kinds : List (Option Kind)} {free after : NumberSet} {ready : KindBlocks} (room : ℕ)
    → after ≡ record free { room = max free.room room } → IsPool kinds free ready → IsPool kinds after ready
roomier {kinds} {free} {after} {ready} room is inv =
    subst (λ (s : NumberSet). IsPool kinds s ready) (sym is)
    (record {
      some = inv.some;
      limit = inv.limit;
      wide = inv.wide;
      room = omega (arith, inv.room);
      ready_room = inv.ready_room;
      added = inv.added;
      opened = inv.opened;
      has_free = inv.has_free;
    })

pub wholes_roomier : {kinds : List (Option Kind)} {free after wholes : NumberSet} {stride : ℕ} (room : ℕ)
    → after ≡ record free { room = max free.room room } → IsWholes kinds free stride wholes
    → IsWholes kinds after stride wholes
wholes_roomier {kinds} {free} {after} {wholes} {stride} room is inv =
    subst (λ (s : NumberSet). IsWholes kinds s stride wholes) (sym is)
    (record { room = inv.room; listed = inv.listed; all_free = inv.all_free })

-- more blocks, which have no kind, and lists of a wider stride
module _ {kinds more : List (Option Kind)} {free : NumberSet} {ready : KindBlocks} {to : ℕ}
    (pool : IsPool kinds free ready) (few : to ≤ HOST_BLOCKS + 1) (up : length kinds ≤ to)
    (is : more ≡ kinds ++ replicate (to - length kinds) None) where
  same : (b : ℕ) → kind_at more b ≡ kind_at kinds b
  same b = ap (λ ks. kind_at ks b) is ∙ longer_same kinds (to - length kinds) b None

  long : length more ≡ to
  long = omega (
    arith,
    up,
    ap length is,
    length-append kinds (replicate (to - length kinds) None),
    length-replicate {A = Option Kind} (to - length kinds) None,
  )

  pub seen_widened : {v : FreeSlots} (blocks : ℕ) (after : NumberSet) → seen kinds free ≡ v → to ≡ blocks + 1
      → after.members ≡ free.members → seen more after ≡ record v { blocks = max v.blocks blocks }
  seen_widened {v} blocks after view count members =
      let number : length more - 1 ≡ max (length kinds - 1) blocks = omega (arith, long, up, count) in
      let kinds_are : by_index more ≡ by_index kinds =
      same_map nat_cmp_total nat_cmp-IsAntisymmetric _ _
      (λ b. get-by_index more b ∙ same b ∙ sym (get-by_index kinds b)) in
      let now_is : seen more after ≡ record (seen kinds free) { blocks = max (length kinds - 1) blocks } =
      λ i. record { blocks = number i; kinds = kinds_are i; free = members i } in
      now_is ∙ ap (λ (u : FreeSlots). record u { blocks = max u.blocks blocks }) view

  module _ {stride : ℕ} (wide : stride ≡ to) where
    -- a block is listed now where it was listed before
    now : {old new : FinSet nat_cmp} → IsMoved kinds ready.stride to (length kinds) old new → (j : Kind) (b : ℕ)
        → kind_at more b ≡ Some j → contains old (index_of ready.stride j b) ≡ true
        → contains new (index_of stride j b) ≡ true
    now {old} {new} moved j b of_kind member =
        let was : kind_at kinds b ≡ Some j = sym (same b) ∙ of_kind in
        ap (λ n. contains new (index_of n j b)) wide
        ∙ moved.kept j b (kind_within kinds b (is_there kinds b j was)) was ∙ member

    before : {old new : FinSet nat_cmp} → IsMoved kinds ready.stride to (length kinds) old new → (j : Kind)
        (b : ℕ) → b < stride → contains new (index_of stride j b) ≡ true
        → (b < ready.stride) × (kind_at more b ≡ Some j) × (contains old (index_of ready.stride j b) ≡ true)
    before {old} {new} moved j b small member =
        let old_is = moved.only j b (omega (arith, small, wide))
        (sym (ap (λ n. contains new (index_of n j b)) wide) ∙ member) in
        (omega (arith, old_is.1.0, pool.wide), same b ∙ old_is.0, old_is.1.1)

    pub wholes_widened : {wholes wholes' : NumberSet} → KINDS * to ≤ wholes'.room
        → IsMoved kinds ready.stride to (length kinds) wholes.members wholes'.members
        → IsWholes kinds free ready.stride wholes → IsWholes more free stride wholes'
    wholes_widened room moved inv = record {
      room = omega (arith, wide, room);
      listed = λ j b of_kind all. now moved j b of_kind (inv.listed j b (sym (same b) ∙ of_kind) all);
      all_free = λ j b small member. let old = before moved j b small member in
          (old.1, (inv.all_free j b old.0 old.2).1);
    }

  pub pool_widened : {ready' : KindBlocks} → ready'.stride ≡ to → KINDS * to ≤ ready'.room
      → ROWS * to ≤ free.room → IsMoved kinds ready.stride to (length kinds) ready.members ready'.members
      → IsPool more free ready'
  pool_widened wide ready_room room moved = record {
    some = omega (arith, long, up, pool.some);
    limit = omega (arith, long, few);
    wide = omega (arith, long, wide);
    room = omega (arith, long, room);
    ready_room = omega (arith, wide, ready_room);
    added = λ slot member. ap is_some (same (slot / ROWS)) ∙ pool.added slot member;
    opened = λ j slot of_kind member. now wide moved j (slot / ROWS) of_kind
        (pool.opened j slot (sym (same (slot / ROWS)) ∙ of_kind) member);
    has_free = λ j b small member. let old = before wide moved j b small member in
        (old.1, (pool.has_free j b old.0 old.2).1);
  }

-- a pool that has as many blocks
pub seen_within : (kinds : List (Option Kind)) (free : NumberSet) {v : FreeSlots} (blocks : ℕ)
    → seen kinds free ≡ v → blocks < length kinds → v ≡ record v { blocks = max v.blocks blocks }
seen_within kinds free {v} blocks view within =
    let number : v.blocks ≡ max v.blocks blocks =
    omega (arith, within, ap (λ (u : FreeSlots). u.blocks) view) in
    λ i. record v { blocks = number i }
