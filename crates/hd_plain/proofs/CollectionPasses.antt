-- What each pass of a collection leaves and counts.
use Rattle.hd_model.proofs.Basics.{AllPairs, Bool, Contains, Extra, FinMap, Handle, IsSome, List, None, Object, Option, Role, Some, WeakEntry, ap, arith, attaches, cleared, cond, cond-true, false, false≢true, filter, get, holds, insert, is_attaching, is_lost, is_some, length, long, loses, loses_by, map, nat_cmp, nat_le, not, option_map, refl, remove, role, secondary, short, suc, survivor, swept, sym, true, unwrap_or, zero, eq-eqb, eqb-true, ℕ, ◌&&◌, ◌++◌, ◌+◌, ◌==◌, ◌∙◌, ◌∷◌, [], ◌≡◌, ◌≢◌, ◌≤◌}
use Rattle.std.specs.Option.{option_map_or}
use Rattle.hd_model.specs.declared.data.Id.{Id}
use Rattle.hd_model.proofs.IdleCollection.{cleared_same}
use Rattle.hd_model.proofs.ReadAfterWrite.{get_inserted, get_beside, get_removed, get_left}
use Rattle.hd_plain.specs.Inside.{Cleared, Settled, Swept, clear_handle, cleared_one, cleared_to, counted, emptied, keep_object, one_if, pass, remove_object, settle_object, settled_one, sweep_entry, swept_one, swept_to, wakes, without_one}
use Rattle.hd_plain.specs.Collecting.{id_of}
use Rattle.hd_maps.proofs.ListBuilds.{IsLive, Lists}
use Rattle.hd_plain.specs.declared.collecting.Fates.{Fates}
use Rattle.hd_plain.specs.declared.collecting.Losses.{Losses}
use Rattle.hd_plain.proofs.Passes.{after_pass, count_after, queue_after}

-- ---- roles

abbrev role_number : Role → ℕ
role_number holds = 0
role_number short = 1
role_number long = 2
role_number attaches = 3

-- whether two roles are the same one
abbrev pub is_role : Role → Role → Bool
is_role a b = role_number a == role_number b

abbrev role_by : ℕ → Role
role_by zero = holds
role_by (suc zero) = short
role_by (suc (suc zero)) = long
role_by (suc (suc (suc n))) = attaches

by_number : (a : Role) → role_by (role_number a) ≡ a
by_number holds = refl
by_number short = refl
by_number long = refl
by_number attaches = refl

pub role_from : (a b : Role) → is_role a b ≡ true → a ≡ b
role_from a b h = sym (by_number a) ∙ ap role_by (eqb-true (role_number a) (role_number b) h) ∙ by_number b

pub role_same : (a : Role) → is_role a a ≡ true
role_same a = eq-eqb (role_number a) (role_number a) refl

pub cond_none : {A : Type 0} (b : Bool) → ◌≡◌ {A = Option A} (cond b None None) None
cond_none true = refl
cond_none false = refl

pub one_at_most : (b : Bool) → one_if b ≤ 1
one_at_most true = omega arith
one_at_most false = omega arith

module _ (reach kept : Id → Bool) where
  -- ---- handles

  pub stays_attached : (r : Role) (o : Option Id) → loses_by r reach kept o ≡ false
      → (is_attaching r && is_lost kept o) ≡ false
  stays_attached holds o l = refl
  stays_attached short o l = refl
  stays_attached long o l = refl
  stays_attached attaches o l = l

  emptied_extra : (r : Role) (o : Option Id) (e : Extra Id) → loses_by r reach kept o ≡ true
      → cond (is_attaching r) (secondary None) e
      ≡ cond (is_attaching r && is_lost kept o) (secondary None) e
  emptied_extra holds o e l = absurd (false≢true l)
  emptied_extra short o e l = refl
  emptied_extra long o e l = refl
  emptied_extra attaches o e l = sym (cond-true (is_lost kept o) (secondary None) e l)

  -- a handle that loses its target is emptied
  emptied_is : (h : Handle Id) → loses reach kept h ≡ true → emptied h ≡ cleared reach kept h
  emptied_is h l = λ i. record {
    kind = h.kind;
    target = sym (cond-true (loses reach kept h) None h.target l) i;
    extra = emptied_extra (role h) h.target h.extra l i;
  }

  handle_here : (c : Cleared) (slot : ℕ) (o : Option (Handle Id)) → get c.handles slot ≡ o
      → get (option_map_or (clear_handle reach kept c slot) o c).handles slot
      ≡ option_map (cleared reach kept) o
  handle_here c slot None e = e
  handle_here c slot (Some h) e = by (loses reach kept h) refl
    where
      by : (b : Bool) → loses reach kept h ≡ b
          → get (cond b (cleared_to (insert c.handles slot (emptied h)) (counted (role h) c.losses)) c).handles slot ≡ Some (cleared reach kept h)
      by true l = get_inserted c.handles slot (emptied h) ∙ ap (λ g. Some g) (emptied_is h l)
      by false l = e ∙ ap (λ g. Some g)
          (sym (cleared_same reach kept h l (stays_attached (role h) h.target l)))

  handle_beside : (c : Cleared) (slot q : ℕ) → q ≢ slot → (o : Option (Handle Id))
      → get (option_map_or (clear_handle reach kept c slot) o c).handles q ≡ get c.handles q
  handle_beside c slot q ne None = refl
  handle_beside c slot q ne (Some h) = by (loses reach kept h)
    where
      by : (b : Bool)
          → get (cond b (cleared_to (insert c.handles slot (emptied h)) (counted (role h) c.losses)) c).handles q ≡ get c.handles q
      by true = get_beside c.handles slot (emptied h) q ne
      by false = refl

  handles_beside : (c : Cleared) (slot q : ℕ) → q ≢ slot
      → get (cleared_one reach kept c slot).handles q ≡ get c.handles q
  handles_beside c slot q ne = handle_beside c slot q ne (get c.handles slot)

  -- whether a handle has a role and loses its target
  abbrev pub lost_as : Role → Option (Handle Id) → Bool
  lost_as r None = false
  lost_as r (Some h) = loses reach kept h && is_role (role h) r

  -- a counter of losses counts a role
  abbrev pub CountsRole : (Losses → ℕ) → Role → Type 0
  CountsRole count wanted =
      (r : Role) (l : Losses) → count (counted r l) ≡ count l + one_if (is_role r wanted)

  pub role_counted : (count : Losses → ℕ) (wanted : Role) → CountsRole count wanted → (c : Cleared)
      (slot : ℕ) → (o : Option (Handle Id))
      → count (option_map_or (clear_handle reach kept c slot) o c).losses
      ≡ count c.losses + one_if (lost_as wanted o)
  role_counted count wanted counts c slot None = omega arith
  role_counted count wanted counts c slot (Some h) = by (loses reach kept h)
    where
      by : (b : Bool)
          → count (cond b (cleared_to (insert c.handles slot (emptied h)) (counted (role h) c.losses)) c).losses ≡ count c.losses + one_if (b && is_role (role h) wanted)
      by true = counts (role h) c.losses
      by false = omega arith

  pub short_counts : CountsRole (λ (l : Losses). l.short) short
  short_counts holds l = omega arith
  short_counts short l = refl
  short_counts long l = omega arith
  short_counts attaches l = omega arith

  pub long_counts : CountsRole (λ (l : Losses). l.long) long
  long_counts holds l = omega arith
  long_counts short l = omega arith
  long_counts long l = refl
  long_counts attaches l = omega arith

  pub dep_counts : CountsRole (λ (l : Losses). l.dep) attaches
  dep_counts holds l = omega arith
  dep_counts short l = omega arith
  dep_counts long l = omega arith
  dep_counts attaches l = refl

  -- a step of a pass adds one at most to each count
  pub few_more : (count : Losses → ℕ) (wanted : Role) → CountsRole count wanted → (c : Cleared) (slot : ℕ)
      → {d : Cleared} → d ≡ cleared_one reach kept c slot → {i : ℕ} → count c.losses ≤ i
      → count d.losses ≤ i + 1
  few_more count wanted counts c slot {d} is {i} low =
      let same : count d.losses ≡ count c.losses + one_if (lost_as wanted (get c.handles slot)) =
      ap (λ (e : Cleared). count e.losses) is ∙ role_counted count wanted counts c slot (get c.handles slot) in
      let one : one_if (lost_as wanted (get c.handles slot)) ≤ 1 =
      one_at_most (lost_as wanted (get c.handles slot)) in
      omega (arith, same, low, one)

  -- the handles after a pass over all that are live, and how many of a role lost their targets
  module _ (c : Cleared) (slots : List ℕ) (live : Lists (IsLive c.handles) slots) where
    pub handles_after : (q : ℕ) → get (pass (cleared_one reach kept) c slots).handles q
        ≡ option_map (cleared reach kept) (get c.handles q)
    handles_after =
        after_pass (λ (d : Cleared). d.handles) (cleared_one reach kept) handles_beside
        (λ k. option_map (cleared reach kept))
        (λ d k. handle_here d k (get d.handles k) refl) c slots live.apart
        (λ q never. rest q never (get c.handles q) refl)
      where
        rest : (q : ℕ) → (Contains slots q → ⊥) → (o : Option (Handle Id)) → get c.handles q ≡ o
            → option_map (cleared reach kept) o ≡ o
        rest q never None e = refl
        rest q never (Some h) e = absurd (never (live.all q (ap is_some e)))

    pub losses_after : (count : Losses → ℕ) (wanted : Role) → CountsRole count wanted
        → count (pass (cleared_one reach kept) c slots).losses
        ≡ count c.losses + length (filter (λ q. lost_as wanted (get c.handles q)) slots)
    losses_after count wanted counts =
        count_after (λ (d : Cleared). d.handles) (cleared_one reach kept) handles_beside
        (λ k. lost_as wanted)
        (λ d. count d.losses)
        (λ d k. role_counted count wanted counts d k (get d.handles k)) c slots live.apart

  -- ---- entries

  -- whether there is an entry, and its key is not kept
  abbrev pub is_stale : Option (Option (WeakEntry Id)) → Bool
  is_stale None = false
  is_stale (Some None) = false
  is_stale (Some (Some e)) = not (kept e.key)

  entry_here : (s : Swept) (slot : ℕ) (o : Option (Option (WeakEntry Id))) → get s.held slot ≡ o
      → get (option_map_or (sweep_entry kept s slot) (unwrap_or o None) s).held slot
      ≡ option_map (swept kept) o
  entry_here s slot None e = e
  entry_here s slot (Some None) e = e
  entry_here s slot (Some (Some x)) e = by (kept x.key)
    where
      by : (b : Bool)
          → get (cond b s (swept_to (insert s.held slot None) (s.count + 1))).held slot
          ≡ Some (cond b (Some x) None)
      by true = e
      by false = get_inserted s.held slot None

  entry_beside : (s : Swept) (slot q : ℕ) → q ≢ slot → (o : Option (WeakEntry Id))
      → get (option_map_or (sweep_entry kept s slot) o s).held q ≡ get s.held q
  entry_beside s slot q ne None = refl
  entry_beside s slot q ne (Some x) = by (kept x.key)
    where
      by : (b : Bool)
          → get (cond b s (swept_to (insert s.held slot None) (s.count + 1))).held q
          ≡ get s.held q
      by true = refl
      by false = get_beside s.held slot None q ne

  entries_beside : (s : Swept) (slot q : ℕ) → q ≢ slot
      → get (swept_one kept s slot).held q ≡ get s.held q
  entries_beside s slot q ne = entry_beside s slot q ne (unwrap_or (get s.held slot) None)

  pub entry_counted : (s : Swept) (slot : ℕ) (o : Option (Option (WeakEntry Id)))
      → (option_map_or (sweep_entry kept s slot) (unwrap_or o None) s).count ≡ s.count + one_if (is_stale o)
  entry_counted s slot None = omega arith
  entry_counted s slot (Some None) = omega arith
  entry_counted s slot (Some (Some x)) = by (kept x.key)
    where
      by : (b : Bool)
          → (cond b s (swept_to (insert s.held slot None) (s.count + 1))).count
          ≡ s.count + one_if (not b)
      by true = omega arith
      by false = refl

  pub few_stale : (s : Swept) (slot : ℕ) {d : Swept} → d ≡ swept_one kept s slot → {i : ℕ} → s.count ≤ i
      → d.count ≤ i + 1
  few_stale s slot {d} is {i} low =
      let same : d.count ≡ s.count + one_if (is_stale (get s.held slot)) =
      ap (λ (e : Swept). e.count) is ∙ entry_counted s slot (get s.held slot) in
      let one : one_if (is_stale (get s.held slot)) ≤ 1 = one_at_most (is_stale (get s.held slot)) in
      omega (arith, same, low, one)

  module _ (s : Swept) (slots : List ℕ) (entries : Lists (λ k. IsSome (get s.held k)) slots) where
    pub entries_after : (q : ℕ) → get (pass (swept_one kept) s slots).held q
        ≡ option_map (swept kept) (get s.held q)
    entries_after =
        after_pass (λ (d : Swept). d.held) (swept_one kept) entries_beside (λ k. option_map (swept kept))
        (λ d k. entry_here d k (get d.held k) refl) s slots entries.apart
        (λ q never. rest q never (get s.held q) refl)
      where
        rest : (q : ℕ) → (Contains slots q → ⊥) → (o : Option (Option (WeakEntry Id))) → get s.held q ≡ o
            → option_map (swept kept) o ≡ o
        rest q never None e = refl
        rest q never (Some c) e = absurd (never (entries.all q (ap is_some e)))

    pub stale_after : (pass (swept_one kept) s slots).count
        ≡ s.count + length (filter (λ q. is_stale (get s.held q)) slots)
    stale_after =
        count_after (λ (d : Swept). d.held) (swept_one kept) entries_beside (λ k. is_stale)
        (λ (d : Swept). d.count) (λ d k. entry_counted d k (get d.held k)) s slots entries.apart

  -- ---- objects

  module _ (n : ℕ) where
    abbrev pub settled_object : ℕ → Option (Object Id) → Option (Object Id)
    settled_object k o =
        cond (kept (id_of k)) (option_map (λ (x : Object Id). survivor n (wakes n (reach (id_of k)) x) x) o)
        None

    object_here : (s : Settled) (k : ℕ) (o : Option (Object Id)) → get s.objects k ≡ o
        → get (option_map_or (settle_object n reach kept s k) o s).objects k ≡ settled_object k o
    object_here s k None e = e ∙ sym (cond_none (kept (id_of k)))
    object_here s k (Some x) e = by (kept (id_of k))
      where
        by : (b : Bool)
            → get (cond b (keep_object n (wakes n (reach (id_of k)) x) s k x) (remove_object s k)).objects k
            ≡ cond b (Some (survivor n (wakes n (reach (id_of k)) x) x)) None
        by true = get_inserted s.objects k (survivor n (wakes n (reach (id_of k)) x) x)
        by false = get_removed s.objects k

    object_beside : (s : Settled) (k q : ℕ) → q ≢ k → (o : Option (Object Id))
        → get (option_map_or (settle_object n reach kept s k) o s).objects q ≡ get s.objects q
    object_beside s k q ne None = refl
    object_beside s k q ne (Some x) = by (kept (id_of k))
      where
        by : (b : Bool)
            → get (cond b (keep_object n (wakes n (reach (id_of k)) x) s k x) (remove_object s k)).objects q
            ≡ get s.objects q
        by true = get_beside s.objects k (survivor n (wakes n (reach (id_of k)) x) x) q ne
        by false = get_left s.objects k q ne

    objects_beside : (s : Settled) (k q : ℕ) → q ≢ k
        → get (settled_one n reach kept s k).objects q ≡ get s.objects q
    objects_beside s k q ne = object_beside s k q ne (get s.objects k)

    -- whether an object is condemned and stays, is removed, or stays and is resurrected
    abbrev pub survives : ℕ → Option (Object Id) → Bool
    survives k o = option_map_or (λ (x : Object Id). kept (id_of k) && nat_le x.generation n) o false

    abbrev pub is_removed : ℕ → Option (Object Id) → Bool
    is_removed k o = option_map_or (λ (x : Object Id). not (kept (id_of k))) o false

    abbrev pub revives : ℕ → Option (Object Id) → Bool
    revives k o = option_map_or (λ (x : Object Id). kept (id_of k) && wakes n (reach (id_of k)) x) o false

    module _ (s : Settled) (k : ℕ) where
      pub kept_counted : (o : Option (Object Id))
          → (option_map_or (settle_object n reach kept s k) o s).fates.kept
          ≡ s.fates.kept + one_if (survives k o)
      kept_counted None = omega arith
      kept_counted (Some x) = by (kept (id_of k))
        where
          by : (b : Bool)
              → (cond b (keep_object n (wakes n (reach (id_of k)) x) s k x) (remove_object s k)).fates.kept
              ≡ s.fates.kept + one_if (b && nat_le x.generation n)
          by true = refl
          by false = omega arith

      pub removed_counted : (o : Option (Object Id))
          → (option_map_or (settle_object n reach kept s k) o s).fates.removed
          ≡ s.fates.removed + one_if (is_removed k o)
      removed_counted None = omega arith
      removed_counted (Some x) = by (kept (id_of k))
        where
          by : (b : Bool)
              → (cond b (keep_object n (wakes n (reach (id_of k)) x) s k x) (remove_object s k)).fates.removed
              ≡ s.fates.removed + one_if (not b)
          by true = omega arith
          by false = refl

      pub revived_counted : (o : Option (Object Id))
          → (option_map_or (settle_object n reach kept s k) o s).fates.revived
          ≡ s.fates.revived + one_if (revives k o)
      revived_counted None = omega arith
      revived_counted (Some x) = by (kept (id_of k))
        where
          by : (b : Bool)
              → (cond b (keep_object n (wakes n (reach (id_of k)) x) s k x) (remove_object s k)).fates.revived
              ≡ s.fates.revived + one_if (b && wakes n (reach (id_of k)) x)
          by true = refl
          by false = omega arith

      queue_joined : (o : Option (Object Id))
          → (option_map_or (settle_object n reach kept s k) o s).queue
          ≡ cond (revives k o) (s.queue ++ id_of k ∷ []) s.queue
      queue_joined None = refl
      queue_joined (Some x) = by (kept (id_of k))
        where
          by : (b : Bool)
              → (cond b (keep_object n (wakes n (reach (id_of k)) x) s k x) (remove_object s k)).queue
              ≡ cond (b && wakes n (reach (id_of k)) x) (s.queue ++ id_of k ∷ []) s.queue
          by true = refl
          by false = refl

    pub few_fates : (count : Fates → ℕ) (test : ℕ → Option (Object Id) → Bool)
        → ((d : Settled) (k : ℕ) (o : Option (Object Id))
        → count (option_map_or (settle_object n reach kept d k) o d).fates
        ≡ count d.fates + one_if (test k o))
        → (s : Settled) (k : ℕ) {d : Settled} → d ≡ settled_one n reach kept s k → {i : ℕ}
        → count s.fates ≤ i → count d.fates ≤ i + 1
    few_fates count test one s k {d} is {i} low =
        let same : count d.fates ≡ count s.fates + one_if (test k (get s.objects k)) =
        ap (λ (e : Settled). count e.fates) is ∙ one s k (get s.objects k) in
        let small : one_if (test k (get s.objects k)) ≤ 1 = one_at_most (test k (get s.objects k)) in
        omega (arith, same, low, small)

    module _ (s : Settled) (ids : List ℕ) (apart : AllPairs (λ x y. x ≢ y) ids) where
      -- where what is not in the list would stay
      pub objects_after : ((q : ℕ) → (Contains ids q → ⊥)
          → settled_object q (get s.objects q) ≡ get s.objects q) → (q : ℕ)
          → get (pass (settled_one n reach kept) s ids).objects q ≡ settled_object q (get s.objects q)
      objects_after still =
          after_pass (λ (d : Settled). d.objects) (settled_one n reach kept) objects_beside settled_object
          (λ d k. object_here d k (get d.objects k) refl) s ids apart still

      pub fates_after : (count : Fates → ℕ) (test : ℕ → Option (Object Id) → Bool)
          → ((d : Settled) (k : ℕ) (o : Option (Object Id))
          → count (option_map_or (settle_object n reach kept d k) o d).fates
          ≡ count d.fates + one_if (test k o))
          → count (pass (settled_one n reach kept) s ids).fates
          ≡ count s.fates + length (filter (λ q. test q (get s.objects q)) ids)
      fates_after count test one =
          count_after (λ (d : Settled). d.objects) (settled_one n reach kept) objects_beside test
          (λ d. count d.fates) (λ d k. one d k (get d.objects k)) s ids apart

      pub queue_settled : (pass (settled_one n reach kept) s ids).queue
          ≡ s.queue ++ map id_of (filter (λ q. revives q (get s.objects q)) ids)
      queue_settled =
          queue_after (λ (d : Settled). d.objects) (settled_one n reach kept) objects_beside revives id_of
          (λ (d : Settled). d.queue) (λ d k. queue_joined d k (get d.objects k)) s ids apart

  -- objects settle by what is reached and kept of them alone
  pub settled_same : (n : ℕ) (other_reach other_kept : Id → Bool) (k : ℕ) → reach (id_of k) ≡ other_reach (id_of k)
      → kept (id_of k) ≡ other_kept (id_of k) → (s : Settled)
      → settled_one n reach kept s k ≡ settled_one n other_reach other_kept s k
  settled_same n other_reach other_kept k r h s = λ i.
      option_map_or (λ (o : Object Id). cond (h i) (keep_object n (wakes n (r i) o) s k o) (remove_object s k))
      (get s.objects k) s

-- ---- pinned addresses

module _ (p : Id → Bool) (pinned : FinMap nat_cmp ℕ) (ids : List ℕ)
    (all : Lists (λ k. IsSome (get pinned k)) ids) where
  pub addresses_after : (q : ℕ) → get (pass (without_one p) pinned ids) q
      ≡ cond (p (id_of q)) (get pinned q) None
  addresses_after =
      after_pass (λ m. m) (without_one p) (λ m k q ne. beside (p (id_of k)) m k q ne)
      (λ k o. cond (p (id_of k)) o None) (λ m k. here (p (id_of k)) m k) pinned ids all.apart
      (λ q never. rest q never (get pinned q) refl)
    where
      here : (b : Bool) (m : FinMap nat_cmp ℕ) (k : ℕ) → get (cond b m (remove m k)) k ≡ cond b (get m k) None
      here true m k = refl
      here false m k = get_removed m k

      beside : (b : Bool) (m : FinMap nat_cmp ℕ) (k q : ℕ) → q ≢ k
          → get (cond b m (remove m k)) q ≡ get m q
      beside true m k q ne = refl
      beside false m k q ne = get_left m k q ne

      rest : (q : ℕ) → (Contains ids q → ⊥) → (o : Option ℕ) → get pinned q ≡ o
          → cond (p (id_of q)) o None ≡ o
      rest q never None e = cond_none (p (id_of q))
      rest q never (Some x) e = absurd (never (all.all q (ap is_some e)))
