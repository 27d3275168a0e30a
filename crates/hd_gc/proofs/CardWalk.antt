-- The walk over the older objects in set cards.
use Rattle.hd_gc.proofs.Basics.{Addr, Heap, IsField, IsNext, IsOldField, MarksOf, None, Option, Promotes, REGION, Some, and_from, and_parts, arith, cases_Bool, false, generation_at, has_object, inl, inr, is_after, is_carded, is_old_carded, le-ltb, lt-ltb, ltb-false, ltb-true, nat_lt, object_at, refl, subst, sym, true, true≢false, ℕ, ⊎_elim, ◌+◌, ◌-◌, ◌/◌, ◌<◌, ◌^◌, ◌∙◌, ◌≡◌, ◌≤◌, ◌⊎◌}
use Rattle.hd_model.specs.Heap.{region_of}
use Rattle.std.proofs.lemmas.Bool.Decides.{nat_tests}
use Rattle.hd_heap.specs.Sound.{IsSound}
use Rattle.hd_gc.proofs.PromoteSteps.{promotes_like, promotes_on}

-- y is in a field of an older object in a set card, up to an address
pub record IsOldFieldUpTo (h : Heap) (n : ℕ) (after : Option Addr) (y : Addr) : Type 0 where
  pub old : IsOldField h n y
  pub done : is_after after old.from ≡ false

-- how far an address may still rise
abbrev pub left_to : Option Addr → ℕ
left_to None = 2 ^ 32 + 1
left_to (Some a) = 2 ^ 32 - a.0

-- an address of an object is below 2 ^ 32
pub object_fits : (h : Heap) (a : Addr) → IsSound h → has_object h a ≡ true → a.0 < 2 ^ 32
unfolding region_of
object_fits h a sound object =
    let low : a.0 / REGION < 2 ^ 24 = (sound.numbers (region_of a) (sound.held a object)).1 in omega arith

pub carded_older : (h : Heap) (n : ℕ) (a : Addr) → is_old_carded h n a ≡ true
    → n < generation_at (object_at h) a
carded_older h n a e = ltb-true _ _ (and_parts _ _ (and_parts _ _ e).0).1

pub carded_by : (h : Heap) (n : ℕ) (a : Addr) → has_object h a ≡ true → n < generation_at (object_at h) a
    → is_carded h a ≡ true → is_old_carded h n a ≡ true
carded_by h n a object above carded =
    and_from _ _ (and_from _ _ object (lt-ltb n (generation_at (object_at h) a) above)) carded

-- what is after one that is after an address is after the address
beyond_on : (after : Option Addr) (a b : Addr) → is_after after a ≡ true → a.0 < b.0 → is_after after b ≡ true
beyond_on None a b h l = refl
beyond_on (Some c) a b h l = grind (arith, nat_tests)

module _ {h : Heap} {n : ℕ} {m k : MarksOf} {after : Option Addr}
    (done : Promotes (IsOldFieldUpTo h n after) m k) where
  pub carded_next : {a : Addr} {o : MarksOf} → IsNext (is_old_carded h n) after a
      → Promotes (λ y. IsField (object_at h) a y) k o → Promotes (IsOldFieldUpTo h n (Some a)) m o
  carded_next {a} {o} next step =
      promotes_like (λ y. IsOldFieldUpTo h n after y ⊎ IsField (object_at h) a y)
      (IsOldFieldUpTo h n (Some a)) m o to back
      (promotes_on (IsOldFieldUpTo h n after) (λ y. IsField (object_at h) a y) m k o done step)
    where
      to : (y : Addr) → IsOldFieldUpTo h n after y ⊎ IsField (object_at h) a y → IsOldFieldUpTo h n (Some a) y
      to y = ⊎_elim
          (λ (u : IsOldFieldUpTo h n after y). record {
            old = u.old;
            done = ⊎_elim
                (λ above. absurd (true≢false (sym (beyond_on after a u.old.from next.beyond
                (ltb-true a.0 u.old.from.0 above)) ∙ u.done)))
                (λ e. e) (cases_Bool (nat_lt a.0 u.old.from.0));
          })
          (λ f. record {
            old = record { from = a; carded = next.member; field = f };
            done = le-ltb a.0 a.0 (omega arith);
          })

      back : (y : Addr) → IsOldFieldUpTo h n (Some a) y
          → IsOldFieldUpTo h n after y ⊎ IsField (object_at h) a y
      back y u =
          ⊎_elim
          (λ beyond.
          let up : a.0 ≤ u.old.from.0 = next.least u.old.from u.old.carded beyond in
          let down : u.old.from.0 ≤ a.0 = ltb-false a.0 u.old.from.0 u.done in
          let same : u.old.from.0 ≡ a.0 = omega arith in
          inr (subst (λ (x : Addr). IsField (object_at h) x y) (λ i. record { 0 = same i }) u.old.field))
          (λ passed. inl (record { old = u.old; done = passed })) (cases_Bool (is_after after u.old.from))

  pub carded_all : ((a : Addr) → is_old_carded h n a ≡ true → is_after after a ≡ false)
      → Promotes (IsOldField h n) m k
  carded_all none =
      promotes_like (IsOldFieldUpTo h n after) (IsOldField h n) m k (λ y u. u.old)
      (λ y f. record { old = f; done = none f.from f.carded }) done
