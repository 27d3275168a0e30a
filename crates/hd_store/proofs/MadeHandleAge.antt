-- A new handle may be stored once the age of its clump is lowered for it.
use Rattle.hd_store.proofs.StoreWords.{Addr, FinMap, Grown, Handle, Id, IfSome, IsSome, Kind, List, Machine, Make, MayBeStored, None, Object, Option, Slot, Some, State, [], age_of, ap, arith, false, generation_at, generation_in, get, lowered_at, lowered_by_new, lowered_here, lowered_to, made_secondary, name_in, named_in, nat_cmp, object_by_id, option_and_then, option_map, option_map_or, refl, scene_of, secondary_of, secondary_register, subst, sym, true≢false, unwrap_or, with_growth, ℕ, ◌∙◌, ◌≡◌, ◌≤◌, IsMadeHandle, seen_by}
use Rattle.hd_model.specs.{declared.handle.Handle.Handle as Made, Handles.extra_of, Handles.handle_of}
use Rattle.hd_model.proofs.RenamedReach.{secondary_renamed}
use Rattle.hd_store.proofs.IdentityReadings.{no_some}

generation_read : (o : Option (Object Id)) → generation_in o
    ≡ (unwrap_or o (record { fields = []; value = 0; generation = 0; registered = false })).generation
generation_read None = refl
generation_read (Some o) = refl

-- the age is at most the generation of what the ages are lowered to
lowered_target : (s : State) (ages : List ℕ) (slot : Slot) (x : Id)
    → age_of (lowered_to s ages (Some slot) (Some x)) slot.0 ≤ (object_by_id s x).generation
lowered_target s ages slot x =
    subst (λ g. age_of (lowered_to s ages (Some slot) (Some x)) slot.0 ≤ g)
    (generation_read (get s.objects x.0)) (lowered_here ages slot.0 (generation_at (scene_of s).object x))

-- and 0 for a dependent handle
module _ (s : State) (ages : List ℕ) (slot : Slot) (m : Make) where
  target_low : (x : Id) → age_of (lowered_by_new s ages (Some slot) m (Some x)) slot.0
      ≤ (object_by_id s x).generation
  target_low x = by (secondary_register m)
    where
      by : (o : Option ℕ) → age_of (option_map_or (λ _. lowered_at ages (Some slot) 0) o
          (lowered_to s ages (Some slot) (Some x))) slot.0 ≤ (object_by_id s x).generation
      by None = lowered_target s ages slot x
      by (Some r) = let low = lowered_here ages slot.0 0 in omega arith

  second_low : (t : Option Id) (g : ℕ) → IsSome (secondary_register m)
      → age_of (lowered_by_new s ages (Some slot) m t) slot.0 ≤ g
  second_low t g = by (secondary_register m)
    where
      by : (o : Option ℕ) → IsSome o → age_of (option_map_or (λ _. lowered_at ages (Some slot) 0) o
          (lowered_to s ages (Some slot) t)) slot.0 ≤ g
      by None none = absurd (true≢false (sym none))
      by (Some r) some = let low = lowered_here ages slot.0 0 in omega arith

  targets_low : (names : FinMap nat_cmp Id) (o : Option Addr) → IfSome o (λ a.
      age_of (lowered_by_new s ages (Some slot) m (named_in names o)) slot.0
      ≤ (object_by_id s (name_in names a)).generation)
  targets_low names None = tt
  targets_low names (Some a) = target_low (name_in names a)

  seconds_low : (t : Option Id) (o : Option Addr) (g : Addr → ℕ)
      → ((a : Addr) → o ≡ Some a → IsSome (secondary_register m))
      → IfSome o (λ a. age_of (lowered_by_new s ages (Some slot) m t) slot.0 ≤ g a)
  seconds_low t None g has = tt
  seconds_low t (Some a) g has = second_low t (g a) (has a refl)

there_before : {A B : Type 0} (o : Option A) (f : A → Option B) (y : B) → option_and_then f o ≡ Some y
    → IsSome o
there_before None f y is = absurd (no_some y (sym is))
there_before (Some x) f y is = refl

-- m0 is the store before, m1 once the table has grown, m2 once the age is lowered
pub made_may : (m0 m1 m2 : Machine) (k : Kind) (g : Grown) (slot : Slot) (caller t : ℕ) (given : Make)
    (h : Made Addr) → m1 ≡ record m0 { state = with_growth m0.state k g; table = m1.table }
    → m2 ≡ record m1 {
      ages = lowered_by_new m1.state m1.ages (Some slot) given (named_in m1.names h.target);
    } → IsMadeHandle m0 caller given t h → MayBeStored (seen_by m2) slot (handle_of h)
made_may m0 m1 m2 k g slot caller t given h grows lowers made =
    let s = with_growth m0.state k g in
    subst (λ m. MayBeStored (seen_by m) slot (handle_of h))
    (sym (lowers ∙ ap (λ (m : Machine). record m {
      ages = lowered_by_new m.state m.ages (Some slot) given (named_in m.names h.target);
    }) grows)) (record {
      fits = made.fits;
      target = made.target;
      secondary = made.secondary;
      paired = made.paired;
      target_age = targets_low s m0.ages slot given m0.names h.target;
      secondary_age = seconds_low s m0.ages slot given (named_in m0.names h.target)
          (secondary_of (extra_of h.extra)) (λ a. (object_by_id s (name_in m0.names a)).generation) (λ a is.
          there_before (secondary_register given) _ (name_in m0.names a)
          (sym (made_secondary m0.state caller given t)
          ∙ ap (λ (h : Handle Id). secondary_of h.extra) (sym made.handle)
          ∙ secondary_renamed (name_in m0.names) (extra_of h.extra)
          ∙ ap (option_map (name_in m0.names)) is));
    })
