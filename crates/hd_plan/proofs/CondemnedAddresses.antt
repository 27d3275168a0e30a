-- Tests of addresses and of what is condemned.
use Rattle.hd_heap.proofs.NextObjects.{generation_is}
use Rattle.hd_plan.proofs.Basics.{Addr, Bool, Heap, IsCondemned, IsCondemnedRegion, IsSound, and_from, and_parts, arith, cases_lt, false, generation_at, has_object, inl, inr, is_condemned, le-leb, leb-true, nat_le, object_at, refl, region_of, sym, true, ℕ, ◌<◌, ◌≡◌, ◌⊎◌}

-- two tests that pass alike are one
pub same_tests : (a b : Bool) → (a ≡ true → b ≡ true) → (b ≡ true → a ≡ true) → a ≡ b
same_tests true b to back = sym (to refl)
same_tests false true to back = back refl
same_tests false false to back = refl

-- the test and the record of what is condemned agree
pub condemned_of : (h : Heap) (n : ℕ) (a : Addr) → is_condemned h n a ≡ true → IsCondemned (object_at h) n a
condemned_of h n a e =
    let parts = and_parts (has_object h a) (nat_le (generation_at (object_at h) a) n) e in
    record { object = parts.0; young = leb-true (generation_at (object_at h) a) n parts.1 }

pub condemned_is : (h : Heap) (n : ℕ) (a : Addr) → IsCondemned (object_at h) n a → is_condemned h n a ≡ true
condemned_is h n a c = and_from _ _ c.object (le-leb (generation_at (object_at h) a) n c.young)

-- its region is a condemned one
pub region_young : {h : Heap} {n : ℕ} → IsSound h → (a : Addr) → IsCondemned (object_at h) n a
    → IsCondemnedRegion h n (region_of a)
region_young {h} sound a c =
    record { held = sound.held a c.object; young = omega (arith, generation_is h a c.object, c.young) }

-- an object is condemned or older, and not both
pub older_or_young : (h : Heap) (n : ℕ) (a : Addr) → has_object h a ≡ true
    → (n < generation_at (object_at h) a) ⊎ (is_condemned h n a ≡ true)
older_or_young h n a object = elim (cases_lt n (generation_at (object_at h) a)) [
  | inl older ↦ inl older
  | inr young ↦ inr (condemned_is h n a (record { object = object; young = young }))
]
