-- Who joins the queue, once all are found and sorted by their identities.
use Rattle.hd_final.proofs.Basics.{Addr, AllPairs, Bool, Contains, Contains-append_cases, Contains-get_or, Contains-permutation, Counts, Decides, Grows, HasIdentities, Heap, Id, IsFound, IsNonDecreasingBy, IsOut, IsPermutation, IsPermutation-map, IsPermutation-sym, IsYoungField, Joiner, List, Queue, Resurrects, ap, arith, both_ways, get_or, get_or-map, grows_like, has_object, id_at, is_some, len, length, length-append, length-map, mapped_from, object_at, pairs_append, pairs_mapped, placed_at, addresses, same_address, subst, sym, true, ℕ, ⊎_elim, ◌++◌, ◌+◌, ◌<◌, ◌==◌, ◌∙◌, ◌≡◌, ◌≢◌, ◌≤◌}
use Rattle.std.proofs.lemmas.Bool.Decides.{Decides-eqb, Decides-like, same_from_decides}
use Rattle.std.proofs.{lemmas.Map.Keys.IsDistinct-IsPermutation, lemmas.Map.Made.AllPairs-from_IsDistinct, lemmas.Map.Made.IsDistinct-from_AllPairs}
use Rattle.hd_final.proofs.ObjectLookup.{placed_there, id_there, few_differ}

-- a permutation of addresses that differ has addresses that differ
abbrev pub is_address : Addr → Addr → Bool
is_address a b = a.0 == b.0

pub address_decides : (a b : Addr) → Decides (is_address a b) (a ≡ b)
address_decides a b =
    Decides-like (a.0 == b.0) (same_address a b) (λ e. ap (λ (c : Addr). c.0) e) (Decides-eqb a.0 b.0)

either_way : (a b : Addr) → is_address a b ≡ is_address b a
either_way a b = same_from_decides (is_address a b) (is_address b a) (address_decides a b)
    (Decides-like (is_address b a) (λ e. sym e) (λ e. sym e) (address_decides b a))

once_moved : (xs ys : List Addr) → IsPermutation xs ys → AllPairs (λ x y. x ≢ y) xs
    → AllPairs (λ x y. x ≢ y) ys
once_moved xs ys moves once =
    AllPairs-from_IsDistinct address_decides ys
    (IsDistinct-IsPermutation is_address either_way xs ys moves
    (IsDistinct-from_AllPairs address_decides xs once))

-- two objects with one identity are one
pub one_identity : (h : Heap) → HasIdentities h → (a b : Addr) → has_object h a ≡ true → has_object h b ≡ true
    → (id_at h a).0 ≡ (id_at h b).0 → a ≡ b
one_identity h identities a b is_a is_b same =
    let ids : id_at h a ≡ id_at h b = λ i. record { 0 = same i } in
    same_address a b (identities a.0 b.0 (placed_at h a) (placed_at h b) (placed_there h a is_a)
    (placed_there h b is_b) (sym (id_there h a is_a) ∙ ids ∙ id_there h b is_b))

-- those that were found, in another order
module _ {h : Heap} {n : ℕ} {p : Addr → Bool} {js ls ks : List Joiner} (found : IsFound h n p js)
    (sorted : IsPermutation js ls) (lent : ks ≡ ls) where
  moves : IsPermutation js ks
  moves = subst (λ xs. IsPermutation js xs) (sym lent) sorted

  was_found : (j : Joiner) → Contains ks j → Contains js j
  was_found j k = Contains-permutation ks js j (IsPermutation-sym js ks moves) k

  pub joins_each : (a : Addr) → Contains (addresses ks) a → IsOut (object_at h) n p a
  joins_each a k =
      let (j, rest) = mapped_from (λ (j : Joiner). j.at) ks a k in
      subst (λ b. IsOut (object_at h) n p b) rest.1 (found.outside j (was_found j rest.0))

  pub joins_object : (a : Addr) → Contains (addresses ks) a → has_object h a ≡ true
  joins_object a k = ap is_some (joins_each a k).is_stored

  joins_all : (a : Addr) → IsOut (object_at h) n p a → Contains (addresses ks) a
  joins_all a out =
      Contains-permutation (addresses js) (addresses ks) a
      (IsPermutation-map (λ (j : Joiner). j.at) js ks moves) (found.all a out)

  joins_once : AllPairs (λ x y. x ≢ y) (addresses ks)
  joins_once =
      once_moved (addresses js) (addresses ks) (IsPermutation-map (λ (j : Joiner). j.at) js ks moves)
      found.once

  joins_rise : HasIdentities h → IsNonDecreasingBy (λ (j : Joiner). j.id.0) ks
      → AllPairs (λ x y. (id_at h x).0 < (id_at h y).0) (addresses ks)
  joins_rise identities rising =
      pairs_mapped (λ (i j : Joiner). (id_at h i.at).0 < (id_at h j.at).0)
      (λ x y. (id_at h x).0 < (id_at h y).0) (λ (j : Joiner). j.at) ks (λ x y up. up)
      (λ i j d low high.
      let x = get_or ks i d in
      let y = get_or ks j d in
      let early : i < length ks = omega arith in
      let in_x : Contains ks x = Contains-get_or ks i d early in
      let in_y : Contains ks y = Contains-get_or ks j d high in
      let up : x.id.0 ≤ y.id.0 = rising i j d (omega arith) high in
      let id_x : x.id.0 ≡ (id_at h x.at).0 = ap (λ (z : Id). z.0) (found.identified x (was_found x in_x)) in
      let id_y : y.id.0 ≡ (id_at h y.at).0 = ap (λ (z : Id). z.0) (found.identified y (was_found y in_y)) in
      let there_x : has_object h x.at ≡ true = ap is_some (found.outside x (was_found x in_x)).is_stored in
      let there_y : has_object h y.at ≡ true = ap is_some (found.outside y (was_found y in_y)).is_stored in
      let all_differ : length (addresses ks) ≡ length ks = length-map ks (λ (j : Joiner). j.at) in
      let differ : x.at ≢ y.at = λ e. joins_once i j d.at low (omega arith)
      (get_or-map (λ (z : Joiner). z.at) ks i d d.at early ∙ e
      ∙ sym (get_or-map (λ (z : Joiner). z.at) ks j d d.at high)) in
      let ranks : (id_at h x.at).0 ≢ (id_at h y.at).0 =
      λ same. differ (one_identity h identities x.at y.at there_x there_y same) in
      omega arith)

  pub joins_count : Counts (IsOut (object_at h) n p) (length ks)
  joins_count = record {
    members = addresses ks;
    apart = joins_once;
    each = joins_each;
    all = joins_all;
    number = length-map ks (λ (j : Joiner). j.at);
  }

  pub resurrected : HasIdentities h → IsNonDecreasingBy (λ (j : Joiner). j.id.0) ks → (q : Addr → Bool)
      → (queue after : List Addr) → after ≡ queue ++ addresses ks
      → Grows (IsYoungField (object_at h) n) (λ a. Contains (addresses ks) a) p q
      → Resurrects (λ a. (id_at h a).0) (object_at h) n p q queue after
  resurrected identities rising q queue after is grows = record {
    grows = grows_like (IsYoungField (object_at h) n) (λ a. Contains (addresses ks) a)
        (IsOut (object_at h) n p) p q joins_each joins_all grows;
    joins = addresses ks;
    queue_is = is;
    each = joins_each;
    all = joins_all;
    rising = joins_rise identities rising;
  }

  -- the queue with them, by the field and the value of the queue
  module _ {items : List Addr} {room : ℕ} {queue : Queue} (seen : record { queued = items; room = room } ≡
      queue)
      (once : AllPairs (λ x y. x ≢ y) items)
      (objects : (a : Addr) → Contains queue.queued a → has_object h a ≡ true)
      (promoted : (a : Addr) → Contains queue.queued a → p a ≡ true) (fit : len h.objects ≤ queue.room) where
    in_queue : (a : Addr) → Contains items a → Contains queue.queued a
    in_queue a k = subst (λ (q : Queue). Contains q.queued a) seen k

    -- what joins was not queued
    pub queue_once : AllPairs (λ x y. x ≢ y) (items ++ addresses ks)
    queue_once =
        pairs_append (λ x y. x ≢ y) items (addresses ks) once joins_once
        (λ x y early late same. both_ways _ (joins_each y late).out
        (sym (ap p same) ∙ promoted x (in_queue x early)))

    -- there is room for all
    pub queue_fits : length (items ++ addresses ks) ≤ room
    queue_fits =
        let known =
        few_differ h (items ++ addresses ks) queue_once
        (λ a k. ⊎_elim (λ early. objects a (in_queue a early)) (joins_object a)
        (Contains-append_cases items (addresses ks) a k)) in
        omega (arith, known, ap (λ (q : Queue). q.room) seen, fit)

    pub joiners_fit : length items + length ks ≤ room
    joiners_fit =
        omega (arith, queue_fits, length-append items (addresses ks), length-map ks (λ (j : Joiner). j.at))
