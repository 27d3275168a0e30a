-- A walk over the objects of a heap, in rising address.
use Rattle.std.proofs.Common.{AllPairs, Contains, List, None, Option, Some, [], ap, arith, false, inl, inr, map, refl, subst, sym, true, ℕ, ⊎_elim, ◌++◌, ◌+◌, ◌<◌, ◌∙◌, ◌∷◌, ◌≡◌, ◌≢◌, ◌≤◌, ◌⊎◌}
use Rattle.std.proofs.lemmas.Bool.{cases_lt, le-ltb, lt-ltb, true≢false}
use Rattle.std.proofs.lemmas.List.{map-append}
use Rattle.std.proofs.lemmas.List.Elements.{Contains-append_left, Contains-push, Contains-push_cases}
use Rattle.hd_heap.specs.Calls.{IsNext, is_after}
use Rattle.hd_model.proofs.Members.{mapped_from, member_cases, not_in_none, pairs_append, pairs_none}
use Rattle.hd_model.specs.declared.data.Addr.{Addr}
use Rattle.hd_model.specs.declared.data.Id.{Id}
use Rattle.hd_model.specs.Heap.{HasIdentities, Heap, has_object, id_at}
use Rattle.hd_snapshot.proofs.HeapObjects.{one_identity, same_index}
use Rattle.hd_snapshot.specs.declared.objects.Located.{Located}
use Rattle.hd_snapshot.specs.Inside.{AreLocated, number_of}

-- how far a walk has come
abbrev pub past : Option Addr → ℕ
past None = 0
past (Some a) = a.0 + 1

-- the objects before there are listed
pub record IsWalking (h : Heap) (after : Option Addr) (listed : List Located) : Type 0 where
  pub objects : (o : Located) → Contains listed o → (has_object h o.at ≡ true) × (o.id ≡ id_at h o.at)
  pub before : (o : Located) → Contains listed o → o.at.0 < past after
  pub all : (a : Addr) → has_object h a ≡ true → a.0 < past after
      → Contains listed (record { id = id_at h a; at = a })
  pub once : AllPairs (λ x y. x ≢ y) (map number_of listed)

pub walk-start : (h : Heap) → IsWalking h None []
walk-start h = record {
  objects = λ o among. absurd (not_in_none o among);
  before = λ o among. absurd (not_in_none o among);
  all = λ a is low. absurd (omega (arith, low));
  once = pairs_none (λ x y. x ≢ y);
}

-- an address is after another exactly if the walk has not come there
after-past : (after : Option Addr) (a : Addr) → is_after after a ≡ true → past after ≤ a.0
after-past None a is = omega arith
after-past (Some b) a is = by (cases_lt b.0 a.0)
  where
    by : (b.0 < a.0) ⊎ (a.0 ≤ b.0) → b.0 + 1 ≤ a.0
    by (inl low) = omega (arith, low)
    by (inr high) = absurd (true≢false (sym is ∙ le-ltb b.0 a.0 high))

past-after : (after : Option Addr) (a : Addr) → past after ≤ a.0 → is_after after a ≡ true
past-after None a low = refl
past-after (Some b) a low = lt-ltb b.0 a.0 (omega (arith, low))

module _ {h : Heap} {after : Option Addr} {listed : List Located} (walking : IsWalking h after listed) where
  -- where no object is after it, all are listed
  pub walk-end : ((a : Addr) → has_object h a ≡ true → is_after after a ≡ false) → AreLocated h listed
  walk-end none = record {
    objects = walking.objects;
    all = λ a is. by a is (cases_lt a.0 (past after));
    once = walking.once;
  }
    where
      by : (a : Addr) → has_object h a ≡ true → (a.0 < past after) ⊎ (past after ≤ a.0)
          → Contains listed (record { id = id_at h a; at = a })
      by a is (inl low) = walking.all a is low
      by a is (inr high) = absurd (true≢false (sym (past-after after a high) ∙ none a is))

  module _ (identities : HasIdentities h) (at : Addr) (next : IsNext (has_object h) after at) where
    abbrev found : Located
    found = record { id = id_at h at; at = at }

    beyond : past after ≤ at.0
    beyond = after-past after at next.beyond

    apart : (x y : ℕ) → Contains (map number_of listed) x → Contains (number_of found ∷ []) y → x ≢ y
    apart x y among last same =
        let (o, rest) = mapped_from number_of listed x among in
        let it = walking.objects o rest.0 in
        let y_is : number_of found ≡ y = ⊎_elim (λ e. e) (λ no. absurd (not_in_none y no))
        (member_cases (number_of found) [] y last) in
        let one : o.at ≡ at = one_identity h identities o.at at it.0 next.member
        (ap (λ (i : Id). i.0) (sym it.1) ∙ rest.1 ∙ same ∙ sym y_is) in
        let low = walking.before o rest.0 in
        let index : o.at.0 ≡ at.0 = ap (λ (a : Addr). a.0) one in
        omega (arith, low, index, beyond)

    -- the next object is listed
    pub walk-step : IsWalking h (Some at) (listed ++ found ∷ [])
    walk-step = record {
      objects = λ o among. ⊎_elim (λ old. walking.objects o old)
          (λ new. subst (λ (p : Located). (has_object h p.at ≡ true) × (p.id ≡ id_at h p.at)) new
          (next.member, refl))
          (Contains-push_cases listed found o among);
      before = λ o among. ⊎_elim
          (λ old. let low = walking.before o old in omega (arith, low, beyond))
          (λ new. let index : at.0 ≡ o.at.0 = ap (λ (p : Located). p.at.0) new in omega (arith, index))
          (Contains-push_cases listed found o among);
      all = λ a is low. by a is low (cases_lt a.0 (past after));
      once = subst (AllPairs (λ x y. x ≢ y)) (sym (map-append number_of listed (found ∷ [])))
          (pairs_append (λ x y. x ≢ y) (map number_of listed) (number_of found ∷ []) walking.once
          (λ i j d l h. absurd (omega (arith, l, h))) apart);
    }
      where
        by : (a : Addr) → has_object h a ≡ true → a.0 < past (Some at) → (a.0 < past after) ⊎
            (past after ≤ a.0)
            → Contains (listed ++ found ∷ []) (record { id = id_at h a; at = a })
        by a is low (inl old) = Contains-append_left listed (found ∷ []) _ (walking.all a is old)
        by a is low (inr new) =
            let least = next.least a is (past-after after a new) in
            let same : at.0 ≡ a.0 = omega (arith, least, low) in
            subst (λ (b : Addr). Contains (listed ++ found ∷ []) (record { id = id_at h b; at = b }))
            (same_index at a same) (Contains-push listed found)
