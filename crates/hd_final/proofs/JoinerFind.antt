-- The walk that finds who joins, one condemned object after another.
use Rattle.hd_final.proofs.Basics.{Addr, AllPairs, Bool, Contains, Contains-append_left, Contains-get_or, Contains-push, Contains-push_cases, Heap, Id, IsFinding, IsFound, IsOut, Joiner, List, None, Object, Option, REGION, [], and_from, and_parts, ap, arith, both_ways, false, generation_in, get_or, has_object, id_at, inl, inr, is_condemned, is_in_use, is_some, le-leb, leb-true, len, length, length-map, length_push, map_push, mapped_from, not, not-true, not_from_false, not_in_none, object_at, object_in, placed_at, addresses, region_generation, same_address, subst, sym, true, zero, suc, ℕ, ⊎_elim, ◌&&◌, ◌*◌, ◌++◌, ◌+◌, ◌<◌, ◌∙◌, ◌∷◌, ◌≡◌, ◌≢◌, ◌≤◌, ◌⊎◌}
use Rattle.std.proofs.{lemmas.Bool.cases_lt, lemmas.Option.same_Some, lemmas.List.Quantifiers.all_pairs_push}
use Rattle.hd_heap.proofs.NextObjects.{IsNextFrom, end_later, generation_is, next_from, none_inside, none_left}
use Rattle.hd_heap.specs.{Calls.IsFirstIn, Calls.IsFirstObject, Calls.IsNextRegion, Walks.end_in, declared.condemned.ObjectHeader.ObjectHeader}
use Rattle.hd_heap.specs.Sound.{IsSound}
use Rattle.hd_model.specs.Heap.{region_of}
use Rattle.hd_final.proofs.ObjectLookup.{id_there, object_there, few_differ}

-- whether an object is registered and outside a set
abbrev pub is_out : Heap → (Addr → Bool) → Addr → Bool
is_out h p a = (placed_at h a).registered && not (p a)

-- where the first region begins that was not come to: none was before region 1
abbrev pub end_past : ℕ → ℕ
end_past zero = 0
end_past (suc k) = (suc k + 1) * REGION

module _ (h : Heap) (n : ℕ) (p : Addr → Bool) where
  out_condemned : (a : Addr) → IsOut (object_at h) n p a → is_condemned h n a ≡ true
  out_condemned a out =
      and_from _ _ (ap is_some out.is_stored)
      (le-leb _ _ (subst (λ (o : Option (Object Addr)). generation_in o ≤ n) (sym out.is_stored) out.young))

  pub out_from : (a : Addr) → is_condemned h n a ≡ true → is_out h p a ≡ true → IsOut (object_at h) n p a
  out_from a condemned out =
      let (there, young) = and_parts _ _ condemned in
      let (registered, outside) = and_parts _ _ out in
      let is_stored = object_there h a there in record {
        object = object_in (region_generation h (region_of a)) (placed_at h a);
        is_stored = is_stored;
        registered = registered;
        young = subst (λ (o : Option (Object Addr)). generation_in o ≤ n) is_stored (leb-true _ _ young);
        out = not-true _ outside;
      }

  pub out_is : (a : Addr) → IsOut (object_at h) n p a → is_out h p a ≡ true
  out_is a out =
      let is_stored = object_there h a (ap is_some out.is_stored) in
      let same : (placed_at h a).registered ≡ out.object.registered =
      ap (λ (o : Object Addr). o.registered) (same_Some _ _ (sym is_stored ∙ out.is_stored)) in
      and_from _ _ (same ∙ out.registered) (not_from_false _ out.out)

  -- where no object is registered, nobody joins
  pub found_none : ((a : Addr) → has_object h a ≡ true → (placed_at h a).registered ≡ false)
      → IsFound h n p []
  found_none none = record {
    once = λ i j d low high. absurd (omega (arith, high));
    outside = λ j k. absurd (not_in_none j k);
    identified = λ j k. absurd (not_in_none j k);
    all = λ a out. absurd
        (both_ways _ (none a (ap is_some out.is_stored)) (and_parts _ _ (out_is a out)).0);
  }

  -- none was found below address 0
  pub finding_start : IsFinding h n p 0 []
  finding_start = record {
    once = λ i j d low high. absurd (omega (arith, high));
    outside = λ j k. absurd (not_in_none j k);
    identified = λ j k. absurd (not_in_none j k);
    below = λ j k. absurd (not_in_none j k);
    all = λ a out low. absurd (omega (arith, low));
  }

  module _ {bound : ℕ} {js : List Joiner} (found : IsFinding h n p bound js) where
    -- where none is condemned from there on, all are found
    pub found_all : ((a : Addr) → is_condemned h n a ≡ true → a.0 < bound) → IsFound h n p js
    found_all low = record {
      once = found.once;
      outside = found.outside;
      identified = found.identified;
      all = λ a out. found.all a out (low a (out_condemned a out));
    }

    -- none is condemned between two addresses
    pub finding_past : (later : ℕ) → bound ≤ later
        → ((a : Addr) → is_condemned h n a ≡ true → bound ≤ a.0 → later ≤ a.0)
        → IsFinding h n p later js
    finding_past later up none = record {
      once = found.once;
      outside = found.outside;
      identified = found.identified;
      below = λ j k. let low = found.below j k in omega (arith, low, up);
      all = λ a out low. ⊎_elim (λ early. found.all a out early)
          (λ from. absurd (let high = none a (out_condemned a out) from in omega (arith, high, low)))
          (cases_lt a.0 bound);
    }

    module _ {at : Addr} (next : IsNextFrom h n bound at) where
      before : (j : Joiner) → Contains js j → j.at.0 < at.0
      before j k = let low = found.below j k in let from = next.from in omega (arith, low, from)

      -- one outside that is not after it was found, or it is this one
      known : (a : Addr) → IsOut (object_at h) n p a → a.0 < at.0 + 1 → Contains (addresses js) a ⊎ (a ≡ at)
      known a out low =
          ⊎_elim (λ early. inl (found.all a out early))
          (λ from. let high = next.least a (out_condemned a out) from in
          inr (same_address a at (omega (arith, high, low))))
          (cases_lt a.0 bound)

      differs : (a : Addr) → Contains (addresses js) a → a ≢ at
      differs a k same =
          let (j, rest) = mapped_from (λ (j : Joiner). j.at) js a k in
          let low = before j rest.0 in
          let e : j.at.0 ≡ at.0 = ap (λ (b : Addr). b.0) (rest.1 ∙ same) in absurd (omega arith)

      once_more : AllPairs (λ x y. x ≢ y) (addresses js ++ at ∷ [])
      once_more =
          all_pairs_push (λ x y. x ≢ y) (addresses js) at found.once
          (λ k d low. differs (get_or (addresses js) k d) (Contains-get_or (addresses js) k d low))

      -- there is room for one more
      pub found_room : length js < len h.objects
      found_room =
          let few : length (addresses js ++ at ∷ []) ≤ len h.objects =
          few_differ h (addresses js ++ at ∷ []) once_more
          (λ a k. ⊎_elim (λ early.
          let (j, rest) = mapped_from (λ (j : Joiner). j.at) js a early in
          subst (λ b. has_object h b ≡ true) rest.1 (ap is_some (found.outside j rest.0).is_stored))
          (λ same. subst (λ b. has_object h b ≡ true) same (and_parts _ _ next.member).0)
          (Contains-push_cases (addresses js) at a k)) in
          omega (arith, few, length_push (addresses js) at, length-map js (λ (j : Joiner). j.at))

      pub found_more : (id : Id) → id ≡ id_at h at → is_out h p at ≡ true
          → IsFinding h n p (at.0 + 1) (js ++ record { id = id; at = at } ∷ [])
      found_more id identity out =
          let new : Joiner = record { id = id; at = at } in
          let joined : addresses (js ++ new ∷ []) ≡ addresses js ++ at ∷ [] =
          map_push (λ (j : Joiner). j.at) js new in
          record {
            once = subst (λ xs. AllPairs (λ x y. x ≢ y) xs) (sym joined) once_more;
            outside = λ j k. ⊎_elim (λ early. found.outside j early)
                (λ same. subst (λ (i : Joiner). IsOut (object_at h) n p i.at) same
                (out_from at next.member out))
                (Contains-push_cases js new j k);
            identified = λ j k. ⊎_elim (λ early. found.identified j early)
                (λ same. subst (λ (i : Joiner). i.id ≡ id_at h i.at) same identity)
                (Contains-push_cases js new j k);
            below = λ j k. ⊎_elim (λ early. let low = before j early in omega (arith, low))
                (λ same. let e = ap (λ (i : Joiner). i.at.0) same in omega (arith, e))
                (Contains-push_cases js new j k);
            all = λ a is low. subst (λ xs. Contains xs a) (sym joined)
                (⊎_elim (λ early. Contains-append_left (addresses js) (at ∷ []) a early)
                (λ same. subst (λ b. Contains (addresses js ++ at ∷ []) b) (sym same)
                (Contains-push (addresses js) at))
                (known a is low));
          }

      pub found_past : is_out h p at ≡ false → IsFinding h n p (at.0 + 1) js
      found_past inside = record {
        once = found.once;
        outside = found.outside;
        identified = found.identified;
        below = λ j k. let low = before j k in omega (arith, low);
        all = λ a is low. ⊎_elim (λ early. early)
            (λ same. absurd
            (both_ways _ inside (out_is at (subst (λ b. IsOut (object_at h) n p b) same is))))
            (known a is low);
      }

-- ---- in a region

-- what a walk returns, of the heap and the region that it is known to go over
pub first_here : {h k : Heap} {r s end : ℕ} {o : ObjectHeader} → h ≡ k → r ≡ s → IsFirstObject h r end o
    → IsFirstObject k s end o
first_here {k = k} {r = r} {end = end} {o = o} same one is =
    subst (λ (x : ℕ). IsFirstObject k x end o) one (subst (λ (x : Heap). IsFirstObject x r end o) same is)

pub none_here : {h k : Heap} {r s : ℕ} (end : ℕ) → h ≡ k → r ≡ s → IsFirstIn h r end None
    → IsFirstIn k s end None
none_here {k = k} {r = r} end same one is =
    subst (λ (x : ℕ). IsFirstIn k x end None) one (subst (λ (x : Heap). IsFirstIn x r end None) same is)

module _ (h : Heap) (n : ℕ) (p : Addr → Bool) (sound : IsSound h) {r : ℕ} (young : region_generation h r ≤ n)
    {end : ℕ} {js : List Joiner} (found : IsFinding h n p (r * REGION + end) js) where
  module _ {o : ObjectHeader} (is : IsFirstObject h r end o) where
    pub room_here : length js < len h.objects
    room_here = found_room h n p found (next_from h n sound young is)

    -- the next object of the region joins, or not
    module _ {past : ℕ} (past_is : past ≡ end_in r o) where
      pub joins_here : (id : Id) → id ≡ (placed_at h o.at).id → is_out h p o.at ≡ true → (more : List Joiner)
          → more ≡ js ++ record { id = id; at = o.at } ∷ [] → IsFinding h n p (r * REGION + past) more
      joins_here id same out more more_is =
          subst (λ (k : ℕ). IsFinding h n p (r * REGION + k) more) (sym past_is)
          (subst (λ (ks : List Joiner). IsFinding h n p (r * REGION + end_in r o) ks) (sym more_is)
          (finding_past h n p
          (found_more h n p found (next_from h n sound young is) id
          (same ∙ sym {A = Id} (id_there h o.at is.object)) out) (r * REGION + end_in r o)
          (end_later h n sound young is).1 (none_inside h n sound young is)))

      pub passes_here : is_out h p o.at ≡ false → IsFinding h n p (r * REGION + past) js
      passes_here inside =
          subst (λ (k : ℕ). IsFinding h n p (r * REGION + k) js) (sym past_is)
          (finding_past h n p (found_past h n p found (next_from h n sound young is) inside)
          (r * REGION + end_in r o) (end_later h n sound young is).1 (none_inside h n sound young is))

  -- and there are no more
  pub region_found : end ≤ REGION → IsFirstIn h r end None → IsFinding h n p ((r + 1) * REGION) js
  region_found within none =
      finding_past h n p found ((r + 1) * REGION) (omega (arith, within)) (none_left h n r end none)

-- ---- region by region

pub next_later : (after r : ℕ) → after < r → end_past after ≤ r * REGION
next_later zero r less = omega arith
next_later (suc k) r less = omega (arith, less)

pub end_of : (r : ℕ) → 0 < r → (r + 1) * REGION ≡ end_past r
end_of zero some = absurd (omega (arith, some))
end_of (suc k) some = omega arith

module _ (h : Heap) (n : ℕ) (sound : IsSound h) where
  -- what is condemned is in a region from 1 on
  low_region : (a : Addr) → is_condemned h n a ≡ true → 0 < region_of a
  low_region a condemned = (sound.numbers (region_of a) (sound.held a (and_parts _ _ condemned).0)).0

  -- between the regions that were come to and the next one none is condemned
  pub none_between : (after r : ℕ) → IsNextRegion h n after r → (a : Addr) → is_condemned h n a ≡ true
      → end_past after ≤ a.0 → r * REGION ≤ a.0
  unfolding region_of
  none_between after r next a condemned from =
      let low = next.least a condemned (by after (low_region a condemned) from) in
      within low
    where
      by : (k : ℕ) → 0 < region_of a → end_past k ≤ a.0 → k < region_of a
      by zero some up = some
      by (suc k) some up = omega (arith, up)

      within : r ≤ region_of a → r * REGION ≤ a.0
      within low = omega (arith, low)

  -- after the last such region none is condemned
  pub none_later : (after : ℕ) → ((a : Addr) → is_condemned h n a ≡ true → region_of a ≤ after)
      → (a : Addr) → is_condemned h n a ≡ true → a.0 < end_past after
  unfolding region_of
  none_later after last a condemned = by after (low_region a condemned) (last a condemned)
    where
      by : (k : ℕ) → 0 < region_of a → region_of a ≤ k → a.0 < end_past k
      by zero some low = absurd (omega (arith, some, low))
      by (suc k) some low = omega (arith, low)

  -- the next such region is in use, and young
  pub next_held : (after r : ℕ) → IsNextRegion h n after r
      → (is_in_use h r ≡ true) × (region_generation h r ≤ n)
  next_held after r next =
      let (there, young) = and_parts _ _ next.member in (
        subst (λ k. is_in_use h k ≡ true) next.region (sound.held next.at there),
        subst (λ k. region_generation h k ≤ n) next.region
            (let same = generation_is h next.at there in let low = leb-true _ _ young in
            omega (arith, same, low)),
      )
