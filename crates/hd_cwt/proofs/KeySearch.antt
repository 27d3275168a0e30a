-- The search for a key along the ring of its bucket.
use Rattle.hd_cwt.proofs.Basics.{Bool, Contains, HasBucket, Id, IsBucket, IsWalk, List, LooksAt, None, Option, Some, [], ap, arith, bucket_in, bucket_of, by_index, cases_eq, cases_lt, entries, entries_in, entry_at, eq-eqb, false≢true, filter, first_in, get-by_index, get_or_past, inl, inr, is_in_bucket, later_in, length, length-map, map, mapped_in, member_cases, ne_eqb, node_at, none-some, not_in_none, pairs_cons, pairs_none, pairs_passing, passing_from, passing_in, refl, same_Some, subst, suc, sym, true, ℕ, ⊎_elim, ◌+◌, ◌<◌, ◌∙◌, ◌∷◌, ◌≡◌, ◌≢◌, ◌≤◌}
use Rattle.std.proofs.Common.{AllPairs, T}
use Rattle.std.specs.FinMap.{entries_sorted, is_sorted}
use Rattle.std.specs.FinMap.Entries.{below_all}
use Rattle.std.specs.Ordering.{nat_cmp}
use Rattle.hd_model.proofs.Members.{mapped_from, pairs_mapped}
use Rattle.hd_model.proofs.{MapEntries.below, MapEntries.both, MapEntries.entry_of, MapEntries.get_entry, PropertyCounts.fewer}

-- the key of a slot in a bucket
pub key_of : (n : ℕ) (v : Option (Option Id)) (b : ℕ) → bucket_in n v ≡ Some b
    → (k : Id) × ((v ≡ Some (Some k)) × (bucket_of n k ≡ b))
key_of n None b e = absurd (none-some b e)
key_of n (Some None) b e = absurd (none-some b e)
key_of n (Some (Some k)) b e = (k, (refl, same_Some (bucket_of n k) b e))

-- the keys of a sorted list are apart
entries_apart : (es : List (ℕ × Option Id)) → T (is_sorted nat_cmp es) → AllPairs (λ e f. e.0 ≢ f.0) es
entries_apart [] h = pairs_none (λ e f. e.0 ≢ f.0)
entries_apart (f ∷ es) h =
    let parts : T (below_all nat_cmp f.0 es) × T (is_sorted nat_cmp es) = both _ _ h in
    pairs_cons (λ e f. e.0 ≢ f.0) f es
    (λ e c. let low : f.0 < e.0 = below f.0 es parts.0 e c in λ same. omega (arith, low, same))
    (entries_apart es parts.1)

-- an entry that is in a bucket has a key there
in_bucket : (n b : ℕ) (v : Option Id) → is_in_bucket n b v ≡ true → bucket_in n (Some v) ≡ Some b
in_bucket n b None is = absurd (false≢true is)
in_bucket n b (Some k) is = elim (cases_eq (bucket_of n k) b) [
  | inl same ↦ ap Some same
  | inr apart ↦ absurd (false≢true (sym (ne_eqb (bucket_of n k) b apart) ∙ is))
]

module _ (n : ℕ) (held : List (Option (Option Id))) (next : List ℕ) (end b : ℕ) (l : List ℕ)
    (is : IsBucket n held next end b l) where
  -- a bucket's ring is not longer than the number of its entries
  ring_short : length l ≤ entries_in n (by_index held) b
  ring_short =
      let test : ℕ × Option Id → Bool = λ (e : ℕ × Option Id). is_in_bucket n b e.1 in
      let found : List (ℕ × Option Id) = filter test (entries (by_index held)) in
      let few : length l ≤ length (map (λ (e : ℕ × Option Id). e.0) found) =
      fewer l (map (λ (e : ℕ × Option Id). e.0) found) is.once (λ z h.
      let (k, of_key) = key_of n (entry_at held z) b (is.from z h) in
      mapped_in (λ (e : ℕ × Option Id). e.0) found (z, Some k)
      (passing_in test (entries (by_index held)) (z, Some k)
      (entry_of (by_index held) z (Some k) (get-by_index held z ∙ of_key.0))
      (eq-eqb (bucket_of n k) b of_key.1))) in
      let long : length (map (λ (e : ℕ × Option Id). e.0) found) ≡ length found =
      length-map found (λ (e : ℕ × Option Id). e.0) in
      omega arith

  -- and it has each of them
  ring_long : entries_in n (by_index held) b ≤ length l
  ring_long =
      let test : ℕ × Option Id → Bool = λ (e : ℕ × Option Id). is_in_bucket n b e.1 in
      let all : List (ℕ × Option Id) = entries (by_index held) in
      let found : List (ℕ × Option Id) = filter test all in
      let apart : AllPairs (λ x y. x ≢ y) (map (λ (e : ℕ × Option Id). e.0) found) =
      pairs_mapped (λ e f. e.0 ≢ f.0) (λ x y. x ≢ y) (λ (e : ℕ × Option Id). e.0) found (λ x y h. h)
      (pairs_passing test (λ e f. e.0 ≢ f.0) all (entries_apart all (entries_sorted (by_index held)))) in
      let few : length (map (λ (e : ℕ × Option Id). e.0) found) ≤ length l =
      fewer (map (λ (e : ℕ × Option Id). e.0) found) l apart (λ z h.
      let (e, at) = mapped_from (λ (g : ℕ × Option Id). g.0) found z h in
      let (among, passes) = passing_from test all e at.0 in
      subst (Contains l) at.1 (is.into e.0
      (ap (bucket_in n) (sym (get-by_index held e.0) ∙ get_entry (by_index held) e.0 e.1 among)
      ∙ in_bucket n b e.1 passes))) in
      let long : length (map (λ (e : ℕ × Option Id). e.0) found) ≡ length found =
      length-map found (λ (e : ℕ × Option Id). e.0) in
      omega arith

  pub ring_size : length l ≡ entries_in n (by_index held) b
  ring_size = omega (arith, ring_short, ring_long)

-- the nodes from one on are those of a list, and then an end
abbrev pub IsAhead : List ℕ → ℕ → List ℕ → ℕ → Type 0
IsAhead next at [] end = at ≡ end
IsAhead next at (s ∷ ss) end = (at ≡ s) × IsWalk next s ss end

pub ahead_of : (next : List ℕ) (x : ℕ) (l : List ℕ) (end : ℕ) → IsWalk next x l end
    → IsAhead next (node_at next x) l end
ahead_of next x [] end w = w
ahead_of next x (s ∷ ss) end w = w

-- the slot with the key, if there is one, is ahead
pub record IsSearching (n : ℕ) (held : List (Option (Option Id))) (next : List ℕ) (end : ℕ) (key : Id)
    (at old now : ℕ) : Type 0 where
  pub left : List ℕ
  pub ahead : IsAhead next at left end
  pub slots : (z : ℕ) → Contains left z → z < length held
  pub has : (z : ℕ) → entry_at held z ≡ Some (Some key) → Contains left z
  pub counted : old ≤ now
  pub bound : now + length left ≡ old + entries_in n (by_index held) (bucket_of n key)

-- a slot is the first node of a list that is ahead
record IsNext (next : List ℕ) (at : ℕ) (l : List ℕ) (end : ℕ) : Type 0 where
  slot : ℕ
  rest : List ℕ
  list_is : l ≡ slot ∷ rest
  at_is : at ≡ slot
  walk : IsWalk next slot rest end

next_of : (next : List ℕ) (at : ℕ) (l : List ℕ) (end : ℕ) → IsAhead next at l end → at ≢ end
    → IsNext next at l end
next_of next at [] end ahead apart = absurd (apart ahead)
next_of next at (s ∷ ss) end ahead apart = record {
  slot = s;
  rest = ss;
  list_is = refl;
  at_is = ahead.0;
  walk = ahead.1;
}

pub in_held : (n : ℕ) (held : List (Option (Option Id))) (z b : ℕ) → bucket_in n (entry_at held z) ≡ Some b
    → z < length held
in_held n held z b e = elim (cases_lt z (length held)) [
  | inl low ↦ low
  | inr past ↦ absurd (none-some b (sym (ap (bucket_in n) (get_or_past held z None past)) ∙ e))
]

module _ {n : ℕ} {held : List (Option (Option Id))} {next : List ℕ} {end : ℕ} {key : Id} where
  pub start : HasBucket n held next end (bucket_of n key) → (at old : ℕ) → at ≡ node_at next end
      → IsSearching n held next end key at old old
  start bucket at old e = record {
    left = bucket.list;
    ahead = subst (λ x. IsAhead next x bucket.list end) (sym e)
        (ahead_of next end bucket.list end bucket.is.walk);
    slots = λ z h. in_held n held z (bucket_of n key) (bucket.is.from z h);
    has = λ z h. bucket.is.into z (ap (bucket_in n) h);
    counted = omega arith;
    bound = omega (arith, ring_size n held next end (bucket_of n key) bucket.list bucket.is);
  }

  module _ {at old now : ℕ} (is : IsSearching n held next end key at old now) where
    -- the node that is looked at is a slot, and a step is left
    pub low : at ≢ end → at < length held
    low apart =
        let first : IsNext next at is.left end = next_of next at is.left end is.ahead apart in
        is.slots at (subst (λ l. Contains l at) (sym first.list_is)
        (subst (Contains (first.slot ∷ first.rest)) (sym first.at_is) (first_in first.slot first.rest)))

    pub more : at ≢ end → now < old + entries_in n (by_index held) (bucket_of n key)
    more apart =
        let first : IsNext next at is.left end = next_of next at is.left end is.ahead apart in
        let long : length is.left ≡ suc (length first.rest) = ap length first.list_is in
        omega (arith, is.bound, long)

    pub onward : at ≢ end → entry_at held at ≢ Some (Some key) → (after count : ℕ) → after ≡ node_at next at
        → count ≡ now + 1 → IsSearching n held next end key after old count
    onward apart missed after count e step =
        let first : IsNext next at is.left end = next_of next at is.left end is.ahead apart in
        let long : length is.left ≡ suc (length first.rest) = ap length first.list_is in record {
          left = first.rest;
          ahead = subst (λ x. IsAhead next x first.rest end) (sym (e ∙ ap (node_at next) first.at_is))
              (ahead_of next first.slot first.rest end first.walk);
          slots = λ z h. is.slots z (subst (λ l. Contains l z) (sym first.list_is)
              (later_in first.slot first.rest z h));
          has = λ z h. ⊎_elim (λ same. absurd (missed (ap (entry_at held) (first.at_is ∙ same) ∙ h)))
              (λ later. later)
              (member_cases first.slot first.rest z (subst (λ l. Contains l z) first.list_is (is.has z h)));
          counted = omega (arith, is.counted, step);
          bound = omega (arith, is.bound, long, step);
        }

    -- the entry that was looked at last is the one, or none was left
    pub looked_found : at ≢ end → (slot after : ℕ) → after ≡ now + 1
        → LooksAt (Some slot) (entries_in n (by_index held) (bucket_of n key)) old after
    looked_found apart slot after step =
        let low = more apart in (omega (arith, is.counted, step), omega (arith, low, step))

    pub looked_all : at ≡ end → length held ≤ end
        → LooksAt {A = ℕ} None (entries_in n (by_index held) (bucket_of n key)) old now
    looked_all over high = by is.left is.ahead is.slots is.bound
      where
        by : (l : List ℕ) → IsAhead next at l end → ((y : ℕ) → Contains l y → y < length held)
            → now + length l ≡ old + entries_in n (by_index held) (bucket_of n key)
            → now ≡ old + entries_in n (by_index held) (bucket_of n key)
        by [] ahead slots bound = omega (arith, bound)
        by (s ∷ ss) ahead slots bound =
            let below : s < length held = slots s (first_in s ss) in
            let same : s ≡ end = sym ahead.0 ∙ over in absurd (omega arith)

    pub nowhere : at ≡ end → length held ≤ end → (z : ℕ) → entry_at held z ≡ Some (Some key) → ⊥
    nowhere over high z h = none is.left is.ahead is.slots (is.has z h)
      where
        none : (l : List ℕ) → IsAhead next at l end → ((y : ℕ) → Contains l y → y < length held)
            → Contains l z → ⊥
        none [] ahead slots c = not_in_none z c
        none (s ∷ ss) ahead slots c =
            let below : s < length held = slots s (first_in s ss) in
            let same : s ≡ end = sym ahead.0 ∙ over in absurd (omega arith)
