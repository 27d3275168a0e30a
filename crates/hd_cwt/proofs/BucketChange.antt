-- A slot gets a key, or loses it: each bucket's ring has the slots of its keys again.
use Rattle.hd_cwt.proofs.Basics.{Contains, HasBucket, Id, IsBucket, IsLinked, List, None, Option, Some, ap, arith, bucket_in, bucket_of, cases_eq, entry_at, eq-eqb, exchanged, false≢true, first_in, get_or-set_other, get_or-set_same, inl, inr, later_in, length, length-set, member_cases, mod_below, node_at, none-some, not, pairs_cons, pairs_passing, passing_from, passing_in, refl, same_Some, set, subst, sym, turned, ℕ, ⊎_elim, ◌+◌, ◌<◌, ◌==◌, ◌∙◌, ◌∷◌, ◌≡◌, ◌≢◌}
use Rattle.hd_cwt.proofs.KeySearch.{in_held}
use Rattle.hd_cwt.proofs.BucketWalks.{without, is_beside, walk_kept, walk_joined, walk_left}
use Rattle.hd_cwt.proofs.RingExchange as ring

-- what is read after an entry is written
module _ (held : List (Option (Option Id))) (s : ℕ) (v : Option (Option Id)) (ls : s < length held) where
  pub written : entry_at (set held s v) s ≡ v
  written = get_or-set_same held s v None ls

  pub entry_cases : (P : Option (Option Id) → Type 0) (z : ℕ) → (z ≡ s → P v)
      → (z ≢ s → P (entry_at held z)) → P (entry_at (set held s v) z)
  entry_cases P z new old = elim (cases_eq z s) [
    | inl e ↦ subst P (sym (ap (entry_at (set held s v)) e ∙ written)) (new e)
    | inr n ↦ subst P (sym (get_or-set_other held s z v None n)) (old n)
  ]

module _ {n : ℕ} {held : List (Option (Option Id))} {next previous : List ℕ}
    (is : IsLinked n held next previous) (s : ℕ) (ls : s < length held) where
  node : s < length next
  node = omega (arith, ls, is.nodes)

  -- a slot gets a key, in the bucket of the node `end`
  module _ (some : 0 < n) (key : Id) (free : bucket_in n (entry_at held s) ≡ None) (end : ℕ)
      (is_end : end ≡ length held + bucket_of n key) where
    bucket_low : bucket_of n key < n
    bucket_low = mod_below key.0 n some

    end_low : end < length next
    end_low = omega (arith, is.nodes, is_end, bucket_low)

    beside : (z : ℕ) → z ≢ end → z ≢ s → node_at (exchanged next end s) z ≡ node_at next z
    beside = ring.other next end (node_at next s) s (node_at next end) end_low node

    -- a slot with a key is neither the slot nor a bucket's node
    not_slot : (b z : ℕ) → bucket_in n (entry_at held z) ≡ Some b → z ≢ s
    not_slot b z e same = none-some b (sym free ∙ ap (λ x. bucket_in n (entry_at held x)) (sym same) ∙ e)

    member_kept : (b : ℕ) (l : List ℕ) (e : ℕ) → IsBucket n held next e b l → (z : ℕ) → Contains l z
        → node_at (exchanged next end s) z ≡ node_at next z
    member_kept b l e bucket z h =
        let low : z < length held = in_held n held z b (bucket.from z h) in
        beside z (λ same. omega (arith, low, is_end, same)) (not_slot b z (bucket.from z h))

    still : (b : ℕ) (l : List ℕ) (e : ℕ) → IsBucket n held next e b l → (z : ℕ) → Contains l z
        → bucket_in n (entry_at (set held s (Some (Some key))) z) ≡ Some b
    still b l e bucket z h =
        entry_cases held s (Some (Some key)) ls (λ v. bucket_in n v ≡ Some b) z
        (λ same. absurd (not_slot b z (bucket.from z h) same)) (λ _. bucket.from z h)

    joined : HasBucket n (set held s (Some (Some key))) (exchanged next end s) end (bucket_of n key)
    joined =
        let old : HasBucket n held next end (bucket_of n key) =
        subst (λ e. HasBucket n held next e (bucket_of n key)) (sym is_end)
        (is.each (bucket_of n key) bucket_low) in record {
          list = s ∷ old.list;
          is = record {
            walk = walk_joined next (exchanged next end s) end s old.list
                (ring.first next end (node_at next s) s (node_at next end) end_low node
                (λ same. omega (arith, ls, is_end, same))
                ∙ is.alone s ls free)
                (ring.second next end (node_at next s) s (node_at next end) end_low node)
                (member_kept (bucket_of n key) old.list end old.is) old.is.walk;
            once = pairs_cons (λ x y. x ≢ y) s old.list
                (λ y h same. not_slot (bucket_of n key) y (old.is.from y h) (sym same)) old.is.once;
            into = λ z h. elim (cases_eq z s) [
              | inl e ↦ subst (Contains (s ∷ old.list)) (sym e) (first_in s old.list)
              | inr other ↦ later_in s old.list z (old.is.into z
                  (sym (ap (bucket_in n) (get_or-set_other held s z (Some (Some key)) None other)) ∙ h))
            ];
            from = λ z h. ⊎_elim
                (λ e. ap (bucket_in n) (ap (entry_at (set held s (Some (Some key)))) (sym e)
                ∙ written held s (Some (Some key)) ls))
                (λ later. still (bucket_of n key) old.list end old.is z later) (member_cases s old.list z h);
          };
        }

    apart : (b : ℕ) → b < n → b ≢ bucket_of n key
        → HasBucket n (set held s (Some (Some key))) (exchanged next end s) (length held + b) b
    apart b low other =
        let old : HasBucket n held next (length held + b) b = is.each b low in record {
          list = old.list;
          is = record {
            walk = walk_kept next (exchanged next end s) (length held + b) (length held + b) old.list
                (λ z. ⊎_elim
                (λ e. beside z (λ same. other (omega (arith, e, is_end, same)))
                (λ same. omega (arith, e, ls, same)))
                (member_kept b old.list (length held + b) old.is z))
                old.is.walk;
            once = old.is.once;
            into = λ z. entry_cases held s (Some (Some key)) ls
                (λ v. bucket_in n v ≡ Some b → Contains old.list z) z
                (λ _ e. absurd (other (sym (same_Some (bucket_of n key) b e)))) (λ _. old.is.into z);
            from = still b old.list (length held + b) old.is;
          };
        }

    pub put_linked : IsLinked n (set held s (Some (Some key))) (exchanged next end s)
        (turned next previous end s)
    put_linked =
        let new = set held s (Some (Some key)) in
        let after = exchanged next end s in
        let long : length new ≡ length held = length-set held s (Some (Some key)) in record {
          rings = ring.rings next previous is.rings end s end_low node;
          nodes = ring.long next previous is.rings end s end_low node ∙ is.nodes
              ∙ ap (λ many. many + n) (sym long);
          each = λ b low. subst (λ many. HasBucket n new after (many + b) b) (sym long)
              (elim (cases_eq b (bucket_of n key)) [
                | inl e ↦ subst (λ c. HasBucket n new after (length held + c) c) (sym e)
                    (subst (λ x. HasBucket n new after x (bucket_of n key)) is_end joined)
                | inr other ↦ apart b low other
              ]);
          alone = λ z low. entry_cases held s (Some (Some key)) ls
              (λ v. bucket_in n v ≡ None → node_at after z ≡ z) z
              (λ _ e. absurd (none-some (bucket_of n key) (sym e)))
              (λ m e. let inside : z < length held = omega (arith, low, long) in
              beside z (λ same. omega (arith, inside, is_end, same)) m ∙ is.alone z inside e);
        }

  -- a slot loses its key, or is alone: `back` is the node before it
  module _ (back : ℕ) (is_back : back ≡ node_at previous s) where
    back_low : back < length next
    back_low = omega (arith, is_back, is.rings.back_within s node)

    before_is : node_at next back ≡ s
    before_is = ap (node_at next) is_back ∙ is.rings.behind s node

    only : (z : ℕ) → z < length next → node_at next z ≡ s → z ≡ back
    only z lz e = sym (is.rings.ahead z lz) ∙ ap (node_at previous) e ∙ sym is_back

    unchanged : (z : ℕ) → z ≢ back → z ≢ s → node_at (exchanged next back s) z ≡ node_at next z
    unchanged = ring.other next back (node_at next s) s (node_at next back) back_low node

    parted : (b : ℕ) → b < n
        → HasBucket n (set held s (Some None)) (exchanged next back s) (length held + b) b
    parted b low =
        let old : HasBucket n held next (length held + b) b = is.each b low in
        let end_low : length held + b < length next = omega (arith, is.nodes) in record {
          list = without s old.list;
          is = record {
            walk = walk_left next (exchanged next back s) (length next) (length held + b) s back node
                (λ same. omega (arith, ls, same)) unchanged
                (ring.first next back (node_at next s) s (node_at next back) back_low node)
                before_is only old.list (length held + b) (length held + b) end_low
                (λ z h. let inside : z < length held = in_held n held z b (old.is.from z h) in
                omega (arith, is.nodes, inside))
                (λ same. omega (arith, ls, same)) (inl refl) old.is.walk;
            once = pairs_passing (λ z. not (z == s)) (λ x y. x ≢ y) old.list old.is.once;
            into = λ z. entry_cases held s (Some None) ls
                (λ v. bucket_in n v ≡ Some b → Contains (without s old.list) z) z
                (λ _ e. absurd (none-some b e))
                (λ m e. passing_in (λ x. not (x == s)) old.list z (old.is.into z e) (is_beside z s m));
            from = λ z h. let (inside, passes) = passing_from (λ x. not (x == s)) old.list z h in
                entry_cases held s (Some None) ls (λ v. bucket_in n v ≡ Some b) z
                (λ e. absurd (false≢true (sym (ap not (eq-eqb z s e)) ∙ passes))) (λ _. old.is.from z inside);
          };
        }

    pub clear_linked : IsLinked n (set held s (Some None)) (exchanged next back s)
        (turned next previous back s)
    clear_linked =
        let new = set held s (Some None) in
        let after = exchanged next back s in
        let long : length new ≡ length held = length-set held s (Some None) in record {
          rings = ring.rings next previous is.rings back s back_low node;
          nodes = ring.long next previous is.rings back s back_low node ∙ is.nodes
              ∙ ap (λ many. many + n) (sym long);
          each = λ b low. subst (λ many. HasBucket n new after (many + b) b) (sym long) (parted b low);
          alone = λ z low. entry_cases held s (Some None) ls
              (λ v. bucket_in n v ≡ None → node_at after z ≡ z) z
              (λ e _. ap (node_at after) e
              ∙ ring.second next back (node_at next s) s (node_at next back) back_low node
              ∙ before_is ∙ sym e)
              (λ m e. let inside : z < length held = omega (arith, low, long) in
              let self : node_at next z ≡ z = is.alone z inside e in
              unchanged z (λ same. m (sym self ∙ ap (node_at next) same ∙ before_is)) m ∙ self);
        }

  -- a slot without a key is in no bucket, whether it is held or not
  module _ (idle : entry_at held s ≡ Some None) where
    same_bucket : (z : ℕ) → bucket_in n (entry_at (set held s None) z) ≡ bucket_in n (entry_at held z)
    same_bucket z =
        entry_cases held s None ls (λ v. bucket_in n v ≡ bucket_in n (entry_at held z)) z
        (λ same. sym (ap (λ x. bucket_in n (entry_at held x)) same ∙ ap (bucket_in n) idle)) (λ _. refl)

    pub release_linked : IsLinked n (set held s None) next previous
    release_linked =
        let new = set held s None in
        let long : length new ≡ length held = length-set held s None in record {
          rings = is.rings;
          nodes = is.nodes ∙ ap (λ many. many + n) (sym long);
          each = λ b low.
              let old : HasBucket n held next (length held + b) b = is.each b low in
              subst (λ many. HasBucket n new next (many + b) b) (sym long) (record {
                list = old.list;
                is = record {
                  walk = old.is.walk;
                  once = old.is.once;
                  into = λ z e. old.is.into z (sym (same_bucket z) ∙ e);
                  from = λ z h. same_bucket z ∙ old.is.from z h;
                };
              });
          alone = λ z low e. is.alone z (omega (arith, low, long)) (sym (same_bucket z) ∙ e);
        }
