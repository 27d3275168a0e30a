-- A heap that loses one registration after another.
use Rattle.hd_final.proofs.Basics.{Addr, Contains, Contains-append_left, Contains-push, Contains-push_cases, Heap, List, None, Object, Option, Some, Unregisters, [], ap, arith, cases_eq, drop, false, first_in, get, get_or, get_or-drop, has_object, id_at, id_in, inl, inr, insert, is_some, later_in, length, length-drop, member_cases, not_in_none, object_at, object_in, option_map, placed_at, refl, region_generation, region_of, same_address, subst, sym, take, take_more, true, unregistered, with_object, ℕ, ⊎_elim, ◌++◌, ◌+◌, ◌-◌, ◌<◌, ◌∙◌, ◌∷◌, ◌≡◌, ◌≢◌, ◌≤◌, ◌⊎◌}
use Rattle.hd_final.proofs.ObjectLookup.{placed_there}
use Rattle.hd_model.proofs.ReadAfterWrite.{get_inserted, get_beside}

-- an address is in a list or is not
is_among : (xs : List Addr) (a : Addr) → Contains xs a ⊎ (Contains xs a → ⊥)
is_among [] a = inr (not_in_none a)
is_among (x ∷ xs) a =
    ⊎_elim (λ same. inl (subst (λ z. Contains (x ∷ xs) z) (same_address x a same) (first_in x xs)))
    (λ apart. ⊎_elim (λ h. inl (later_in x xs a h))
    (λ never. inr (λ h. ⊎_elim (λ e. apart (ap (λ (b : Addr). b.0) e)) never (member_cases x xs a h)))
    (is_among xs a))
    (cases_eq x.0 a.0)

-- what the registration does not change is as it was
module _ (xs : List Addr) (h now : Heap) (u : Unregisters xs h now) (a : Addr) where
  pub same_by : {B : Type 0} (f : Option (Object Addr) → B)
      → ((o : Option (Object Addr)) → f (option_map unregistered o) ≡ f o)
      → f (object_at now a) ≡ f (object_at h a)
  same_by f alike =
      ⊎_elim (λ k. ap f (u.among a k) ∙ alike (object_at h a)) (λ never. ap f (u.others a never))
      (is_among xs a)

  pub settled_has : has_object now a ≡ has_object h a
  settled_has = same_by is_some (elim [ None ↦ refl | Some x ↦ refl ])

gone_twice : {N : Type 0} (o : Option (Object N))
    → option_map unregistered (option_map unregistered o) ≡ option_map unregistered o
gone_twice None = refl
gone_twice (Some x) = refl

module _ (xs : List Addr) (h now new : Heap) (x : Addr) (u : Unregisters xs h now)
    (there : has_object now x ≡ true)
    (written : new ≡ with_object now x (record (placed_at now x) { registered = false })) where
  found : get now.objects x.0 ≡ Some (placed_at now x)
  found = placed_there now x there

  hit : object_at new x ≡ option_map unregistered (object_at now x)
  hit =
      let generation = region_generation now (region_of x) in
      let after = record (placed_at now x) { registered = false } in
      ap (λ (g : Heap). object_at g x) written
      ∙ ap (option_map (object_in generation)) (get_inserted now.objects x.0 after)
      ∙ sym (ap (λ o. option_map unregistered (option_map (object_in generation) o)) found)

  miss : (a : Addr) → a.0 ≢ x.0 → object_at new a ≡ object_at now a
  miss a apart =
      let after = record (placed_at now x) { registered = false } in
      ap (λ (g : Heap). object_at g a) written
      ∙ ap (option_map (object_in (region_generation now (region_of a))))
      (get_beside now.objects x.0 after a.0 apart)

  gone : (a : Addr) → option_map unregistered (object_at now a) ≡ option_map unregistered (object_at h a)
  gone a =
      ⊎_elim (λ k. ap (option_map unregistered) (u.among a k) ∙ gone_twice (object_at h a))
      (λ never. ap (option_map unregistered) (u.others a never)) (is_among xs a)

  id_kept : (a : Addr) → id_at new a ≡ id_at now a
  id_kept a =
      let after = record (placed_at now x) { registered = false } in
      ap (λ (g : Heap). id_at g a) written
      ∙ ⊎_elim (λ same. ap id_in (ap (get (insert now.objects x.0 after)) same
      ∙ get_inserted now.objects x.0 after)
      ∙ sym (ap id_in (ap (get now.objects) same ∙ found)))
      (λ apart. ap id_in (get_beside now.objects x.0 after a.0 apart)) (cases_eq a.0 x.0)

  one_settled : Unregisters (xs ++ x ∷ []) h new
  one_settled = record {
    among = λ a k. ⊎_elim
        (λ same. subst (λ b. object_at new b ≡ option_map unregistered (object_at h b))
        (same_address x a (sym same)) (hit ∙ gone x))
        (λ apart. miss a apart ∙ ⊎_elim (λ early. u.among a early)
        (λ e. absurd (apart (ap (λ (b : Addr). b.0) (sym e))))
        (Contains-push_cases xs x a k))
        (cases_eq a.0 x.0);
    others = λ a never.
        miss a (λ same. never (subst (λ b. Contains (xs ++ x ∷ []) b) (same_address x a (sym same))
        (Contains-push xs x)))
        ∙ u.others a (λ k. never (Contains-append_left xs (x ∷ []) a k));
    ids = λ a. id_kept a ∙ u.ids a;
    same =
        written
        ∙ ap (λ (g : Heap). with_object g x (record (placed_at now x) { registered = false })) u.same
        ∙ ap (λ (g : Heap). record h { objects = g.objects }) (sym written);
  }

-- the same of a list from a position on, one position further
pub settled_more : (queued : List Addr) (from i : ℕ) (h now new : Heap) (x : Addr) → from ≤ i
    → i < length queued → x ≡ get_or queued i x
    → Unregisters (take (i - from) (drop from queued)) h now → has_object now x ≡ true
    → new ≡ with_object now x (record (placed_at now x) { registered = false })
    → Unregisters (take (i + 1 - from) (drop from queued)) h new
settled_more queued from i h now new x low high is u there written =
    let rest = drop from queued in
    let within : i - from < length rest = omega (arith, length-drop from queued) in
    let place : from + (i - from) ≡ i = omega arith in
    let next : i + 1 - from ≡ i - from + 1 = omega arith in
    let last : get_or rest (i - from) x ≡ x =
    get_or-drop from queued (i - from) x ∙ ap (λ k. get_or queued k x) place ∙ sym is in
    subst (λ xs. Unregisters xs h new)
    (sym (ap (λ k. take k rest) next ∙ take_more rest (i - from) x within
    ∙ ap (λ y. take (i - from) rest ++ y ∷ []) last))
    (one_settled (take (i - from) rest) h now new x u there written)
