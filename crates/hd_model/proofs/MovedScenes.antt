-- A collection whose objects move is one by identity, and leaves whole scenes and sound ages by address.
use Rattle.hd_model.proofs.Basics.{Bool, Collects, Contains, Counts, Decision, GoesBy, HasSoundAges, Id, IsReading, IsWhole, List, None, Option, Report, Scene, Some, [], ap, cond, eq-eqb, eqb-true, false, grown, is_object, left_by, none-some, refl, same_Some, subst, survivor, sym, true, true≢false, ℕ, ⊎_elim, ◌==◌, ◌∙◌, ◌∷◌, ◌≡◌}
use Rattle.hd_model.proofs.Members.{not_in_none, first_in, later_in, member_cases}
use Rattle.hd_model.proofs.{MapEntries.some_value, SceneCollection.left_from, SceneCollection.whole_after, Ages.grown_sound, CollectionReadings.IsBack, CollectionReadings.collects_read}
use Rattle.hd_model.proofs.SceneReadings.{reading_on, reading_like, whole_read, ages_read}

module _ {N : Type 0} {rank : N → ℕ} {n : ℕ} {s : Scene N} {d : Decision N} {r : Report} (w : IsWhole s)
    (g : GoesBy rank n s d r) where
  -- with no object moved, it is a collection
  pub collects_in_place : Collects rank n s (left_by n d s) r
  collects_in_place = record {
    decision = d;
    goes_by = g;
    objects = λ x. refl;
    handles = λ slot. refl;
    named = refl;
    queue = refl;
  }

  pub whole_in_place : IsWhole (left_by n d s)
  whole_in_place = whole_after rank n s (left_by n d s) r w collects_in_place

  -- Where t is what a collection leaves of s, with each kept object x at its forwarding address
  -- `forwarding x` and no two at one address, it is whole and its ages are sound.
  module _ {t : Scene N} {forwarding : N → N} (m : IsReading forwarding (left_by n d s) t) where
    pub moved_whole : IsWhole t
    moved_whole = whole_read forwarding (left_by n d s) t whole_in_place m

    pub moved_ages : (ages : List ℕ) → HasSoundAges s.object s.handle ages
        → HasSoundAges t.object t.handle (grown n ages)
    moved_ages ages sound =
        ages_read forwarding (left_by n d s) t whole_in_place m (grown n ages)
        (grown_sound rank n s (left_by n d s) r w collects_in_place ages sound)

-- where each kept object has the same identity at its forwarding address, it is a collection by identity
module _ {N M : Type 0} (f g : N → M) (back : M → Option N) (rank : M → ℕ) (n : ℕ) (s t : Scene N)
    (u v : Scene M) (d : Decision N) (r : Report) (forwarding : N → N) where
  pub moved_collects : IsWhole s → IsReading f s u → IsReading g t v → IsBack f back s
      → GoesBy (λ x. rank (f x)) n s d r → IsReading forwarding (left_by n d s) t
      → ((x : N) → d.kept x ≡ true → g (forwarding x) ≡ f x) → Collects rank n u v r
  moved_collects w fs gt b by m same =
      let in_place : Scene N = left_by n d s in
      let whole : IsWhole in_place = whole_in_place w by in
      let after : IsReading (λ x. g (forwarding x)) in_place v =
      reading_on forwarding g in_place t v whole m gt in
      let after_f : IsReading f in_place v =
      reading_like (λ x. g (forwarding x)) f in_place v whole after
      (λ x h. let (o, e) = some_value (in_place.object x) h in
      same x (left_from (d.kept x) (survivor n (d.resurrected x)) (s.object x) o e).0) in
      collects_read f back rank n s in_place u v r w (collects_in_place w by) fs after_f b

-- the first of a list that has an identity
pub find_named : {N : Type 0} → (N → Id) → List N → Id → Option N
find_named f [] y = None
find_named f (x ∷ xs) y = cond ((f x).0 == y.0) (Some x) (find_named f xs y)

module _ {N : Type 0} (f : N → Id) where
  found_named : (xs : List N) (y : Id) (x : N) → find_named f xs y ≡ Some x → Contains xs x × (f x ≡ y)
  unfolding find_named
  found_named [] y x e = absurd (none-some x e)
  found_named (z ∷ xs) y x e = step ((f z).0 == y.0) refl e (found_named xs y x)
    where
      step : (b : Bool) → ((f z).0 == y.0) ≡ b → cond b (Some z) (find_named f xs y) ≡ Some x
          → (find_named f xs y ≡ Some x → Contains xs x × (f x ≡ y)) → Contains (z ∷ xs) x × (f x ≡ y)
      step true at h rest =
          let same : z ≡ x = same_Some z x h in
          let tied : (f z).0 ≡ y.0 = eqb-true (f z).0 y.0 at in (
            subst (λ v. Contains (z ∷ xs) v) same (first_in z xs),
            ap f (sym same) ∙ (λ i. record { 0 = tied i }),
          )
      step false at h rest = let (inside, named) = rest h in (later_in z xs x inside, named)

  finds_named : (xs : List N) (x : N) → ((y z : N) → Contains xs y → Contains xs z → f y ≡ f z → y ≡ z)
      → Contains xs x → find_named f xs (f x) ≡ Some x
  unfolding find_named
  finds_named [] x apart h = absurd (not_in_none x h)
  finds_named (z ∷ xs) x apart h =
      step ((f z).0 == (f x).0) refl
      (finds_named xs x (λ a b p q. apart a b (later_in z xs a p) (later_in z xs b q)))
    where
      step : (b : Bool) → ((f z).0 == (f x).0) ≡ b → (Contains xs x → find_named f xs (f x) ≡ Some x)
          → cond b (Some z) (find_named f xs (f x)) ≡ Some x
      step true at rest =
          let tied : (f z).0 ≡ (f x).0 = eqb-true (f z).0 (f x).0 at in
          ap (λ v. Some v) (apart z x (first_in z xs) h (λ i. record { 0 = tied i }))
      step false at rest =
          ⊎_elim (λ same. absurd (true≢false (sym (eq-eqb (f z).0 (f x).0 (ap (λ v. (f v).0) same)) ∙ at)))
          rest (member_cases z xs x h)

  -- where the objects are those of a list, and identities distinguish them, what has an identity is found
  pub back_by_search : (s : Scene N) (k : ℕ) (p : Counts (λ x. is_object s.object x ≡ true) k)
      → ((x y : N) → is_object s.object x ≡ true → is_object s.object y ≡ true → f x ≡ f y → x ≡ y)
      → IsBack f (find_named f p.members) s
  back_by_search s k p apart = record {
    finds = λ x h. finds_named p.members x (λ y z a b. apart y z (p.each y a) (p.each z b)) (p.all x h);
    found = λ y x e. let (inside, named) = found_named p.members y x e in (p.each x inside, named);
  }

-- by identity alone: what the collector promises of addresses is a collection of the machine
module _ {N : Type 0} (f g : N → Id) (n : ℕ) (s t : Scene N) (u v : Scene Id) (d : Decision N) (r : Report)
    (forwarding : N → N) where
  pub moved_by_identity : (k : ℕ) → Counts (λ x. is_object s.object x ≡ true) k → IsWhole s → IsReading f s u
      → IsReading g t v → GoesBy (λ x. (f x).0) n s d r → IsReading forwarding (left_by n d s) t
      → ((x : N) → d.kept x ≡ true → g (forwarding x) ≡ f x) → Collects (λ (x : Id). x.0) n u v r
  moved_by_identity k p w fs gt by m same =
      moved_collects f g (find_named f p.members) (λ (x : Id). x.0) n s t u v d r forwarding w fs gt
      (back_by_search f s k p fs.apart) by m same
