-- What each call does to the entries, by their fields and their value.
use Rattle.hd_cwt.proofs.Basics.{HasBucket, HasIdle, HasKey, HasNoneFrom, Id, IfNone, IfSome, IsEntries, IsIdle, IsLeastFrom, IsLinked, IsSome, List, None, NumberSet, Option, Some, WeakTable, ap, arith, both_ways, bucket_in, bucket_of, by_index, by_index-put, cases_lt, entry_at, exchanged, false≢true, get, get-by_index, get_or, get_or_default_zero, get_or_past, inl, inr, is_some, length, length-set, mod_below, node_at, refl, set, slots_of, subst, sym, turned, ℕ, ◌+◌, ◌<◌, ◌∙◌, ◌≡◌, ◌≤◌, by_index-clear}
use Rattle.std.specs.FinMap as map
use Rattle.std.specs.FinSet.{insert, remove}
use Rattle.hd_cwt.proofs.{BucketChange.put_linked, BucketChange.clear_linked, BucketChange.release_linked, IdleSlots.put_idle, IdleSlots.clear_idle, IdleSlots.release_idle, IdleSlots.is_member, IdleSlots.of_member}

no_bucket : (n : ℕ) (v : Option (Option Id)) → ((k : Id) → v ≡ Some (Some k) → ⊥) → bucket_in n v ≡ None
no_bucket n None free = refl
no_bucket n (Some None) free = refl
no_bucket n (Some (Some k)) free = absurd (free k refl)

module _ {blocks buckets : ℕ} {held : List (Option (Option Id))} {next previous : List ℕ} {idle : NumberSet}
    (is : IsEntries blocks buckets held next previous idle) {t : WeakTable}
    (view : ◌≡◌ {A = WeakTable} (record { blocks = blocks; buckets = buckets; held = by_index held }) t) where
  pub read : (s : ℕ) → get t.held s ≡ entry_at held s
  read s = ap (λ (u : WeakTable). get u.held s) (sym view) ∙ get-by_index held s

  module _ (list : List (Option (Option Id))) (same : list ≡ held) where
    pub found : (o : Option ℕ) (key : Id) → IfSome o (λ s. entry_at list s ≡ Some (Some key))
        → IfSome o (HasKey t key)
    found None key h = h
    found (Some s) key h = read s ∙ ap (λ es. entry_at es s) (sym same) ∙ h

    pub missed : (o : Option ℕ) (key : Id) → IfNone o ((s : ℕ) → entry_at list s ≡ Some (Some key) → ⊥)
        → IfNone o ((s : ℕ) → HasKey t key s → ⊥)
    missed None key h = λ s e. h s (ap (λ es. entry_at es s) same ∙ sym (read s) ∙ e)
    missed (Some s) key h = h

  pub long : length held ≡ slots_of t
  long =
      let same : blocks ≡ t.blocks = ap (λ (u : WeakTable). u.blocks) view in
      omega (arith, is.size, same)

  pub slot_low : (s : ℕ) → s < slots_of t → s < length held
  slot_low s low = omega (arith, low, long)

  -- the node of the bucket of a key
  module _ (key : Id) (end : ℕ) (is_end : end ≡ slots_of t + bucket_of t.buckets key) where
    bucket_low : bucket_of buckets key < buckets
    bucket_low = mod_below key.0 buckets is.some

    end_is : end ≡ length held + bucket_of buckets key
    end_is = is_end ∙ (λ i. sym long i + bucket_of (sym view i).buckets key)

    pub bucket_ring : HasBucket buckets held next end (bucket_of buckets key)
    bucket_ring =
        subst (λ e. HasBucket buckets held next e (bucket_of buckets key)) (sym end_is)
        (is.linked.each (bucket_of buckets key) bucket_low)

    pub bucket_within : (length held ≤ end) × (end < length next)
    bucket_within = (omega (arith, end_is), omega (arith, end_is, bucket_low, is.linked.nodes))

  pub held_low : (s : ℕ) → IsSome (get t.held s) → s < length held
  held_low s some = elim (cases_lt s (length held)) [
    | inl low ↦ low
    | inr past ↦ absurd (false≢true (sym (ap is_some (read s ∙ get_or_past held s None past)) ∙ some))
  ]

  pub node_low : (s : ℕ) → s < length held → s < length next
  node_low s low = omega (arith, low, is.linked.nodes)

  pub back_low : (s : ℕ) → s < length held → s < length previous
  back_low s low = omega (arith, low, is.linked.nodes, is.linked.rings.size)

  pub before_low : (s : ℕ) → s < length held → (back : ℕ) → back ≡ get_or previous s back → back < length next
  before_low s low back is_back =
      let at : back ≡ node_at previous s = is_back ∙ get_or_default_zero previous s back (back_low s low) in
      omega (arith, at, is.linked.rings.back_within s (node_low s low))

  pub room_low : (s : ℕ) → s < length held → s < idle.room
  room_low s low = omega (arith, low, is.idle_slots.room)

  abbrev seen : List (Option (Option Id)) → WeakTable
  seen list = record { blocks = blocks; buckets = buckets; held = by_index list }

  pub viewed : (s : ℕ) (v : Option Id) → s < length held
      → seen (set held s (Some v)) ≡ record t { held = map.insert t.held s v }
  viewed s v low =
      let now : seen (set held s (Some v)) ≡ record (seen held) { held = map.insert (by_index held) s v } =
      λ i. record { blocks = blocks; buckets = buckets; held = by_index-put held s v low i } in
      now ∙ ap (λ (u : WeakTable). record u { held = map.insert u.held s v }) view

  module _ (s : ℕ) (low : s < length held) (next' previous' : List ℕ) {after : NumberSet} where
    pub put_entries : (key : Id) → ((other : Id) → HasKey t other s → ⊥) → (end : ℕ)
        → end ≡ slots_of t + bucket_of t.buckets key → next' ≡ exchanged next end s
        → previous' ≡ turned next previous end s → after ≡ record idle { members = remove idle.members s }
        → IsEntries blocks buckets (set held s (Some (Some key))) next' previous' after
    put_entries key free end is_end is_next is_previous is_after =
        let new = set held s (Some (Some key)) in record {
          limit = is.limit;
          some = is.some;
          few = is.few;
          size = length-set held s (Some (Some key)) ∙ is.size;
          linked =
              subst (λ n. IsLinked buckets new n previous') (sym is_next)
              (subst (IsLinked buckets new (exchanged next end s)) (sym is_previous)
              (put_linked is.linked s low is.some key
              (no_bucket buckets (entry_at held s) (λ k e. free k (read s ∙ e)))
              end (end_is key end is_end)));
          idle_slots = subst (HasIdle new) (sym is_after) (put_idle is.idle_slots s low key);
        }

    pub clear_entries : (back : ℕ) → back ≡ get_or previous s back → next' ≡ exchanged next back s
        → previous' ≡ turned next previous back s → after ≡ record idle { members = insert idle.members s }
        → IsEntries blocks buckets (set held s (Some None)) next' previous' after
    clear_entries back is_back is_next is_previous is_after =
        let new = set held s (Some None) in record {
          limit = is.limit;
          some = is.some;
          few = is.few;
          size = length-set held s (Some None) ∙ is.size;
          linked =
              subst (λ n. IsLinked buckets new n previous') (sym is_next)
              (subst (IsLinked buckets new (exchanged next back s)) (sym is_previous)
              (clear_linked is.linked s low back
              (is_back ∙ get_or_default_zero previous s back (back_low s low))));
          idle_slots = subst (HasIdle new) (sym is_after) (clear_idle is.idle_slots s low);
        }

  -- an idle slot is released
  module _ (s : ℕ) (idles : IsIdle t s) where
    idle_low : s < length held
    idle_low = held_low s (ap is_some idles)

    pub released : seen (set held s None) ≡ record t { held = map.remove t.held s }
    released =
        let now : seen (set held s None) ≡ record (seen held) { held = map.remove (by_index held) s } =
        λ i. record { blocks = blocks; buckets = buckets; held = by_index-clear held s i } in
        now ∙ ap (λ (u : WeakTable). record u { held = map.remove u.held s }) view

    pub release_entries : {after : NumberSet} → after ≡ record idle { members = remove idle.members s }
        → IsEntries blocks buckets (set held s None) next previous after
    release_entries is_after = record {
      limit = is.limit;
      some = is.some;
      few = is.few;
      size = length-set held s None ∙ is.size;
      linked = release_linked is.linked s idle_low (sym (read s) ∙ idles);
      idle_slots = subst (HasIdle (set held s None)) (sym is_after) (release_idle is.idle_slots s idle_low);
    }

  -- ---- the least idle slot

  pub found_idle : (o : Option ℕ) → IfSome o (IsLeastFrom idle.members 0) → IfSome o (IsIdle t)
  found_idle None h = h
  found_idle (Some s) found = read s ∙ of_member is.idle_slots s found.member

  pub found_least : (o : Option ℕ) → IfSome o (IsLeastFrom idle.members 0)
      → IfSome o (λ s. (other : ℕ) → IsIdle t other → s ≤ other)
  found_least None h = h
  found_least (Some s) found = λ other e. elim (cases_lt other s) [
    | inl less ↦ absurd (both_ways _ (found.least other (omega arith) less)
        (is_member is.idle_slots other (sym (read other) ∙ e)))
    | inr more ↦ more
  ]

  pub none_idle : (o : Option ℕ) → IfNone o (HasNoneFrom idle.members 0)
      → IfNone o ((s : ℕ) → IsIdle t s → ⊥)
  none_idle None none = λ s e. both_ways _ (none s (omega arith)) (is_member is.idle_slots s (sym (read s) ∙ e))
  none_idle (Some s) none = none
