-- The numbers of a report, from what was condemned and what of it is kept.
use Rattle.hd_gc.proofs.Basics.{Addr, Bool, Counts, Heap, IsCondemned, IsExtent, and_from, and_parts, arith, cases_Bool, cases_lt, counts_le, counts_like, counts_once, counts_where, false, generation_at, inl, inr, is_object, le-leb, leb-true, len, not, not-true, not_from_false, object_at, subst, true, ℕ, ⊎_elim, ◌+◌, ◌-◌, ◌<◌, ◌≡◌, ◌≤◌, ◌⊎◌}
use Rattle.std.proofs.lemmas.Bool.{both_ways}
use Rattle.hd_final.proofs.ObjectLookup.{few_differ}
use Rattle.hd_heap.specs.Calls.{is_condemned}
use Rattle.hd_heap.specs.declared.condemned.Extent.{Extent}
use Rattle.hd_model.proofs.PropertyCounts.{counts_join}

module _ (h : Heap) (n : ℕ) where
  condemned_is : (a : Addr) → IsCondemned (object_at h) n a → is_condemned h n a ≡ true
  condemned_is a c = and_from _ _ c.object (le-leb (generation_at (object_at h) a) n c.young)

  condemned_of : (a : Addr) → is_condemned h n a ≡ true → IsCondemned (object_at h) n a
  condemned_of a is =
      let (there, young) = and_parts _ _ is in
      record { object = there; young = leb-true (generation_at (object_at h) a) n young }

  -- what is counted of the condemned is no more than all objects
  pub counted_few : (p : Addr → Bool) (kept : ℕ)
      → Counts (λ x. IsCondemned (object_at h) n x × (p x ≡ true)) kept → kept ≤ len h.objects
  counted_few p kept counts =
      let few = few_differ h counts.members counts.apart (λ a k. (counts.each a k).0.object) in
      omega (arith, few, counts.number)

  module _ (e : Extent) (extent : IsExtent h n e) (p : Addr → Bool) (kept : ℕ)
      (counts : Counts (λ x. IsCondemned (object_at h) n x × (p x ≡ true)) kept) where
    condemned_count : Counts (λ a. is_condemned h n a ≡ true) e.objects
    condemned_count = record {
      members = extent.objects.members;
      apart = extent.objects.apart;
      each = extent.objects.each;
      all = extent.objects.all;
      number = extent.objects.number;
    }

    -- what is kept of the condemned is no more than these
    pub kept_few : kept ≤ e.objects
    kept_few =
        counts_le (λ x. IsCondemned (object_at h) n x × (p x ≡ true)) (λ a. is_condemned h n a ≡ true) kept
        e.objects (λ x w. condemned_is x w.0) counts condemned_count

    -- all else of them is not kept, and no older object is
    pub removed_rest : ((a : Addr) → n < generation_at (object_at h) a → p a ≡ true)
        → Counts (λ a. (is_object (object_at h) a ≡ true) × (p a ≡ false)) (e.objects - kept)
    removed_rest older =
        let (rest, left) = counts_where (λ a. is_condemned h n a ≡ true) (λ a. not (p a)) e.objects
        condemned_count in
        let both = counts_join (λ x. IsCondemned (object_at h) n x × (p x ≡ true))
        (λ x. (is_condemned h n x ≡ true) × (not (p x) ≡ true)) kept rest
        (λ x w out. both_ways (p x) (not-true _ out.1) w.1) counts left in
        let all : kept + rest ≡ e.objects =
        counts_once (λ a. is_condemned h n a ≡ true) (kept + rest) e.objects
        (counts_like
        (λ x. (IsCondemned (object_at h) n x × (p x ≡ true))
        ⊎ ((is_condemned h n x ≡ true) × (not (p x) ≡ true))) (λ a. is_condemned h n a ≡ true) (kept + rest)
        (λ x w. ⊎_elim (λ in_p. condemned_is x in_p.0) (λ out. out.0) w)
        (λ x is. ⊎_elim (λ in_p. inl (condemned_of x is, in_p)) (λ out. inr (is, not_from_false _ out))
        (cases_Bool (p x))) both) condemned_count in
        counts_like (λ x. (is_condemned h n x ≡ true) × (not (p x) ≡ true))
        (λ a. (is_object (object_at h) a ≡ true) × (p a ≡ false)) (e.objects - kept)
        (λ x w. ((and_parts _ _ w.0).0, not-true _ w.1))
        (λ x w. (
          ⊎_elim (λ old. absurd (both_ways (p x) w.1 (older x old)))
              (λ young. condemned_is x (record { object = w.0; young = young }))
              (cases_lt n (generation_at (object_at h) x)),
          not_from_false _ w.1,
        ))
        (subst (Counts (λ x. (is_condemned h n x ≡ true) × (not (p x) ≡ true))) (omega (arith, all)) left)
