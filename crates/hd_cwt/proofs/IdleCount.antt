-- The idle slots are the held ones without those that have a key.
use Rattle.hd_cwt.proofs.Basics.{Bool, Id, IsIdle, IsListed, IsSome, List, None, Option, Some, WeakTable, ap, arith, filter, get, get_or_default_zero, is_some, keyed_in, len, length, node_at, not, pairs_passing, passing_from, passing_in, refl, subst, sym, true, ℕ, ◌+◌, ◌-◌, ◌∙◌, ◌≡◌, ◌≢◌, ◌≤◌}
use Rattle.std.proofs.lemmas.List.Filters.{length-filter_both}
use Rattle.hd_model.proofs.MapEntries.{counts_keys}
use Rattle.hd_model.proofs.Members.{member_at}
use Rattle.hd_model.proofs.PropertyCounts.{counts_like, counts_once}
use Rattle.hd_model.specs.Counting.{Counts}

-- a held slot has a key, or it is idle
key_held : (v : Option (Option Id)) → keyed_in v ≡ true → IsSome v
key_held None e = absurd (cc e)
key_held (Some None) e = refl
key_held (Some (Some key)) e = refl

idle_held : (v : Option (Option Id)) → IsSome v → not (keyed_in v) ≡ true → v ≡ Some None
idle_held None some e = absurd (cc some)
idle_held (Some None) some e = refl
idle_held (Some (Some key)) some e = absurd (cc e)

module _ {t : WeakTable} {count : ℕ} {slots indexes : List ℕ} {capacity : ℕ}
    (is : IsListed t count slots indexes capacity) where
  -- each slot with a key is listed once
  listed : Counts (λ s. keyed_in (get t.held s) ≡ true) (length slots)
  listed = record {
    members = slots;
    apart = λ i j d before within same.
        let first = get_or_default_zero slots i d (omega (arith, before, within)) in
        let second = get_or_default_zero slots j d within in
        let at = is.placed i (omega (arith, before, within)) in
        omega (arith, before, at, is.placed j within, ap (node_at indexes) (sym first ∙ same ∙ second));
    each = λ s c. subst (λ n. keyed_in (get t.held n) ≡ true) (sym (get_or_default_zero slots c.0 s c.1) ∙ c.2)
        (is.from c.0 c.1);
    all = λ s e. let at = is.into s e in member_at slots (node_at indexes s) 0 s at.0 at.1;
    number = refl;
  }

  held : Counts (λ s. IsSome (get t.held s)) (len t.held)
  held = counts_keys t.held (λ k. k) (λ k. k) (λ k. refl) (λ k. refl)

  -- those with a key among them, and those without
  abbrev keyed : ℕ → Bool
  keyed s = keyed_in (get t.held s)

  passing : (test : ℕ → Bool)
      → Counts (λ s. IsSome (get t.held s) × (test s ≡ true)) (length (filter test held.members))
  passing test = record {
    members = filter test held.members;
    apart = pairs_passing test (λ x y. x ≢ y) held.members held.apart;
    each = λ s c. let (inside, passes) = passing_from test held.members s c in (held.each s inside, passes);
    all = λ s h. passing_in test held.members s (held.all s h.0) h.1;
    number = refl;
  }

  with_key : length (filter keyed held.members) ≡ length slots
  with_key = counts_once (λ s. keyed s ≡ true) _ (length slots)
      (counts_like (λ s. IsSome (get t.held s) × (keyed s ≡ true)) (λ s. keyed s ≡ true) _ (λ s h. h.1)
      (λ s e. (key_held (get t.held s) e, e)) (passing keyed)) listed

  both : length slots + length (filter (λ s. not (keyed s)) held.members) ≡ len t.held
  both = omega (
    arith,
    length-filter_both keyed (λ s. not (keyed s)) (λ s. refl) held.members,
    with_key,
    held.number,
  )

  pub fewer_keyed : length slots ≤ len t.held
  fewer_keyed = omega (arith, both)

  pub idle_counted : Counts (IsIdle t) (len t.held - length slots)
  idle_counted =
      let many : length (filter (λ s. not (keyed s)) held.members) ≡ len t.held - length slots =
      omega (arith, both) in
      subst (Counts (IsIdle t)) many
      (counts_like (λ s. IsSome (get t.held s) × (not (keyed s) ≡ true)) (IsIdle t) _
      (λ s h. idle_held (get t.held s) h.0 h.1)
      (λ s e. (ap is_some e, ap (λ v. not (keyed_in v)) e)) (passing (λ s. not (keyed s))))
