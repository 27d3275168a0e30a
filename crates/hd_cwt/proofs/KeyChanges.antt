-- The held slots and their keys, where a slot gets a key or loses it, and in a sweep.
use Rattle.hd_cwt.proofs.Basics.{HOST_BLOCKS, Bool, CanTake, HasKey, Id, IsListed, IsListedAt, IsSome, IsTaken, IsUnlisted, IsWeakTable, List, None, Option, ROWS, Some, WeakTable, [], ap, arith, cases_eq, cases_lt, cond, empty, entries, false, false≢true, get, get-empty, get_or-set_other, get_or-set_same, get_or_default, inl, inr, insert, insert_cases, is_none, is_some, kept_key, keyed_in, len, len-empty, len_again, len_new, length, length-append, length-map, length-set, mapped_in, node_at, none-some, option_map, refl, room_of, same_Some, set, slots_of, some_cases, subst, sym, true, ℕ, ⊎_elim, ◌*◌, ◌++◌, ◌+◌, ◌-◌, ◌/◌, ◌<◌, ◌^◌, ◌∙◌, ◌∷◌, ◌≡◌, ◌≢◌, ◌≤◌, ◌⊎◌, len_less, remove_cases}
use Rattle.std.specs.Ordering.{nat_cmp}
use Rattle.std.specs.FinMap.{keys, len-entries, remove}
use Rattle.std.proofs.Common.{AllPairs}
use Rattle.std.proofs.lemmas.List.{get_or_append_left, get_or-append-add}
use Rattle.hd_model.proofs.{MapEntries.entry_of, PropertyCounts.fewer, ReadAfterWrite.get_beside, ReadAfterWrite.get_inserted, ReadAfterWrite.get_left}
use Rattle.hd_model.specs.Table.{Table, live_at}

-- a slot that is not held can be given a key where there is room
can_room : (t : WeakTable) (s : ℕ) → CanTake t s → get t.held s ≡ None → len t.held < room_of t
can_room t s can none =
    ⊎_elim (λ idle. absurd (none-some None (sym none ∙ idle))) (λ room. room.1) can

-- the table after a write
abbrev pub with_entry : WeakTable → ℕ → Option Id → WeakTable
with_entry t s v = record t { held = insert t.held s v }

-- what a slot with a key has
some_key : (o : Option (Option Id)) → keyed_in o ≡ true → (k : Id) × (o ≡ Some (Some k))
some_key None is = absurd (false≢true is)
some_key (Some None) is = absurd (false≢true is)
some_key (Some (Some k)) is = (k, refl)

held_of : (o : Option (Option Id)) → keyed_in o ≡ true → IsSome o
held_of None is = absurd (false≢true is)
held_of (Some v) is = refl

-- a slot that can be given a key has none
can_none : (t : WeakTable) (s : ℕ) → CanTake t s → keyed_in (get t.held s) ≡ false
can_none t s can = ⊎_elim (λ idle. ap keyed_in idle) (λ room. ap keyed_in room.0) can

pub can_seen : {t seen : WeakTable} → t ≡ seen → (s : ℕ) → CanTake seen s → keyed_in (get t.held s) ≡ false
can_seen {t} view s can = can_none t s (subst (λ u. CanTake u s) (sym view) can)

module _ {t : WeakTable} {count : ℕ} {slots indexes : List ℕ} {capacity : ℕ}
    (is : IsListed t count slots indexes capacity) where
  -- no slot is listed twice, so no more are listed than are held
  same_index : (i j : ℕ) → i < length slots → j < length slots → node_at slots i ≡ node_at slots j → i ≡ j
  same_index i j low more same =
      sym (is.placed i low) ∙ ap (node_at indexes) same ∙ is.placed j more

  listed_apart : AllPairs (λ x y. x ≢ y) slots
  listed_apart = λ i j d less low same.
      let first : i < length slots = omega (arith, less, low) in
      let e : i ≡ j = same_index i j first low
      (sym (get_or_default slots i d 0 first) ∙ same ∙ get_or_default slots j d 0 low) in
      omega (arith, less, e)

  pub few_listed : length slots ≤ len t.held
  few_listed =
      let few : length slots ≤ length (keys t.held) =
      fewer slots (keys t.held) listed_apart (λ z h.
      let at : node_at slots h.0 ≡ z = get_or_default slots h.0 0 z h.1 ∙ h.2 in
      let (k, there) = some_key (get t.held z)
      (ap (λ s. keyed_in (get t.held s)) (sym at) ∙ is.from h.0 h.1) in
      mapped_in (λ (e : ℕ × Option Id). e.0) (entries t.held) (z, Some k)
      (entry_of t.held z (Some k) there)) in
      let long : length (keys t.held) ≡ length (entries t.held) =
      length-map (entries t.held) (λ (e : ℕ × Option Id). e.0) in
      omega (arith, few, long, len-entries t.held)

  pub few_slots : length slots < 2 ^ 32
  few_slots = omega (arith, few_listed, is.table.fits, is.table.limit)

  -- a listed slot is held, and one of the blocks'
  pub slot_held : (i : ℕ) → i < length slots → IsSome (get t.held (node_at slots i))
  slot_held i low = held_of (get t.held (node_at slots i)) (is.from i low)

  pub held_low : (s : ℕ) → IsSome (get t.held s) → s < length indexes
  held_low s had = let inside = is.table.within s had in omega (arith, is.size, inside)

  pub slot_within : (i : ℕ) → i < length slots → node_at slots i < slots_of t
  slot_within i low = is.table.within (node_at slots i) (slot_held i low)

  pub slot_low : (i : ℕ) → i < length slots → node_at slots i < length indexes
  slot_low i low = held_low (node_at slots i) (slot_held i low)

  -- a slot with a key is listed, and there is a last one
  pub keyed_index : (s : ℕ) → keyed_in (get t.held s) ≡ true → node_at indexes s < length slots
  keyed_index s keyed = (is.into s keyed).0

  pub last_low : (s : ℕ) → keyed_in (get t.held s) ≡ true → node_at slots (length slots - 1) < length indexes
  last_low s keyed = slot_low (length slots - 1) (let at = keyed_index s keyed in omega (arith, at))

  module _ (s : ℕ) where
    -- a slot beside the one that is written
    beside : (v : Option Id) (q : ℕ) → q ≢ s → keyed_in (get (insert t.held s v) q) ≡ keyed_in (get t.held q)
    beside v q apart = ap keyed_in (get_beside t.held s v q apart)

    -- a slot has no key from now on, and is held
    module _ (low : s < slots_of t) (fits : len (insert t.held s None) ≤ room_of t) where
      key_before : (key : Id) (a : ℕ) → HasKey (with_entry t s None) key a → HasKey t key a
      key_before key a =
          insert_cases t.held s (λ q o. o ≡ Some (Some key) → HasKey t key q) None a
          (λ e. absurd (none-some key (same_Some None (Some key) e))) (λ _ e. e)

      clear_table : IsWeakTable (with_entry t s None)
      clear_table = record {
        limit = is.table.limit;
        apart = λ key a b ha hb. is.table.apart key a b (key_before key a ha) (key_before key b hb);
        within = some_cases t.held s (λ q. q < slots_of t) None low is.table.within;
        fits = fits;
      }

      -- where it had none, the list is as it was
      unkeyed_listed : keyed_in (get t.held s) ≡ false → (now : ℕ) → now ≡ len (insert t.held s None)
          → IsListed (with_entry t s None) now slots indexes capacity
      unkeyed_listed none now counts = record {
        table = clear_table;
        counted = counts;
        room = is.room;
        size = is.size;
        into = λ q. insert_cases t.held s (λ x o. keyed_in o ≡ true → IsListedAt slots indexes x) None q
            (λ e. absurd (false≢true e)) (λ _ e. is.into q e);
        from = λ i low. beside None (node_at slots i)
            (λ same. false≢true (sym none ∙ ap (λ q. keyed_in (get t.held q)) (sym same) ∙ is.from i low))
            ∙ is.from i low;
        placed = is.placed;
      }

    -- a held slot has one as many
    again : IsSome (get t.held s) → len (insert t.held s None) ≤ room_of t
    again had = omega (arith, is.table.fits, len_again t.held s None had)

    pub clear_idle : IsSome (get t.held s) → keyed_in (get t.held s) ≡ false
        → IsListed (with_entry t s None) count slots indexes capacity
    clear_idle had none = unkeyed_listed (is.table.within s had) (again had) none count
        (is.counted ∙ sym (len_again t.held s None had))

    -- and one that was not held is one more
    pub hold_listed : s < slots_of t → get t.held s ≡ None → len t.held < room_of t
        → IsListed (with_entry t s None) (count + 1) slots indexes capacity
    hold_listed low free room =
        let more = len_new t.held s None free in
        unkeyed_listed low (omega (arith, room, more)) (ap keyed_in free) (count + 1)
        (omega (arith, is.counted, more))

    -- a slot with a key loses it, and is listed no more
    module _ (keyed : keyed_in (get t.held s) ≡ true) {new_slots new_indexes : List ℕ}
        (off : IsUnlisted slots indexes new_slots new_indexes s) where
      abbrev at : ℕ
      at = node_at indexes s

      abbrev end : ℕ
      end = length slots - 1

      abbrev last : ℕ
      last = node_at slots (length slots - 1)

      at_low : at < length slots
      at_low = (is.into s keyed).0

      at_is : node_at slots at ≡ s
      at_is = (is.into s keyed).1

      end_low : end < length slots
      end_low = omega (arith, at_low)

      shorter : length new_slots + 1 ≡ length slots
      shorter = off.shorter

      index_cases : (P : ℕ → Type 0) (i : ℕ) → i < length new_slots → (i ≡ at → P last)
          → (i ≢ at → P (node_at slots i)) → P (node_at new_slots i)
      index_cases P i low here there = elim (cases_eq i at) [
        | inl e ↦ subst P
            (sym (ap (node_at new_slots) e ∙ off.moved (omega (arith, e, low, shorter)))) (here e)
        | inr n ↦ subst P (sym (off.kept i n (omega (arith, low, shorter)))) (there n)
      ]

      apart_from : (j : ℕ) → j < length slots → j ≢ at → node_at slots j ≢ s
      apart_from j low n same = n (sym (is.placed j low) ∙ ap (node_at indexes) same)

      at_last : node_at new_indexes last ≡ at
      at_last = ap (λ ps. node_at ps last) off.replaced
          ∙ get_or-set_same indexes last at 0 (slot_low end end_low)

      at_other : (q : ℕ) → q ≢ last → node_at new_indexes q ≡ node_at indexes q
      at_other q n = ap (λ ps. node_at ps q) off.replaced ∙ get_or-set_other indexes last q at 0 n

      listed_still : (q : ℕ) → q ≢ s → keyed_in (get t.held q) ≡ true → IsListedAt new_slots new_indexes q
      listed_still q apart is_keyed =
          let old = is.into q is_keyed in
          let p : ℕ = node_at indexes q in
          let beyond : p ≢ at = λ same. apart (sym old.1 ∙ ap (node_at slots) same ∙ at_is) in
          elim (cases_eq q last) [
            | inl e ↦
                let was : p ≡ end = ap (node_at indexes) e ∙ is.placed end end_low in
                let now : node_at new_indexes q ≡ at = ap (node_at new_indexes) e ∙ at_last in
                let low : at + 1 < length slots = omega (arith, at_low, beyond, was, old.0) in (
                  omega (arith, now, low, shorter),
                  ap (node_at new_slots) now ∙ off.moved low ∙ sym e,
                )
            | inr n ↦
                let inner : p ≢ end = λ same. n (sym old.1 ∙ ap (node_at slots) same) in
                let now : node_at new_indexes q ≡ p = at_other q n in
                let low : p + 1 < length slots = omega (arith, old.0, inner) in (
                  omega (arith, now, low, shorter),
                  ap (node_at new_slots) now ∙ off.kept p beyond low ∙ old.1,
                )
          ]

      pub clear_listed : IsListed (with_entry t s None) count new_slots new_indexes capacity
      clear_listed =
          let had : IsSome (get t.held s) = held_of (get t.held s) keyed in record {
            table = clear_table (is.table.within s had) (again had);
            counted = is.counted ∙ sym (len_again t.held s None had);
            room = is.room;
            size = omega (arith, is.size, ap length off.replaced, length-set indexes last at);
            into = λ q. insert_cases t.held s
                (λ x o. keyed_in o ≡ true → IsListedAt new_slots new_indexes x) None q
                (λ e. absurd (false≢true e)) (listed_still q);
            from = λ i low. index_cases (λ z. keyed_in (get (insert t.held s None) z) ≡ true) i low
                (λ e. beside None last (apart_from end end_low (λ q. omega (arith, q, e, low, shorter)))
                ∙ is.from end end_low)
                (λ n. let inside : i < length slots = omega (arith, low, shorter) in
                beside None (node_at slots i) (apart_from i inside n) ∙ is.from i inside);
            placed = λ i low. index_cases (λ z. node_at new_indexes z ≡ i) i low (λ e. at_last ∙ sym e)
                (λ n. let inside : i < length slots = omega (arith, low, shorter) in
                at_other (node_at slots i)
                (λ same. let e = same_index i end inside end_low same in omega (arith, e, low, shorter))
                ∙ is.placed i inside);
          }

    -- a slot without a key gets one, and is listed
    module _ {seen : WeakTable} (view : t ≡ seen) (key : Id)
        (is_new : (other : ℕ) → HasKey seen key other → ⊥) (is_within : s < slots_of seen) where
      new : (other : ℕ) → HasKey t key other → ⊥
      new = subst (λ u. (other : ℕ) → HasKey u key other → ⊥) (sym view) is_new

      pub within : s < slots_of t
      within = subst (λ u. s < slots_of u) (sym view) is_within

      key_put : (k : Id) (a : ℕ) → HasKey (with_entry t s (Some key)) k a
          → ((a ≡ s) × (key ≡ k)) ⊎ HasKey t k a
      key_put k a =
          insert_cases t.held s (λ q o. o ≡ Some (Some k) → ((q ≡ s) × (key ≡ k)) ⊎ HasKey t k q) (Some key) a
          (λ e. inl (refl, same_Some key k (same_Some (Some key) (Some k) e))) (λ _ e. inr e)

      put_apart : (k : Id) (a b : ℕ) → HasKey (with_entry t s (Some key)) k a
          → HasKey (with_entry t s (Some key)) k b → a ≡ b
      put_apart k a b ha hb =
          ⊎_elim
          (λ here. ⊎_elim (λ there. here.0 ∙ sym there.0)
          (λ old. absurd (new b (subst (λ x. HasKey t x b) (sym here.1) old))) (key_put k b hb))
          (λ old. ⊎_elim (λ there. absurd (new a (subst (λ x. HasKey t x a) (sym there.1) old)))
          (λ other. is.table.apart k a b old other) (key_put k b hb))
          (key_put k a ha)

      put_table : len (insert t.held s (Some key)) ≤ room_of t → IsWeakTable (with_entry t s (Some key))
      put_table fits = record {
        limit = is.table.limit;
        apart = put_apart;
        within = some_cases t.held s (λ q. q < slots_of t) (Some key) within is.table.within;
        fits = fits;
      }

      abbrev longer : List ℕ
      longer = slots ++ s ∷ []

      long : length longer ≡ length slots + 1
      long = length-append slots (s ∷ [])

      end_is : node_at longer (length slots) ≡ s
      end_is = ap (node_at longer) (omega arith) ∙ get_or-append-add slots (s ∷ []) 0 0

      listed_cases : (P : ℕ → Type 0) (i : ℕ) → i < length longer → (i < length slots → P (node_at slots i))
          → (i ≡ length slots → P s) → P (node_at longer i)
      listed_cases P i low there here = elim (cases_lt i (length slots)) [
        | inl less ↦ subst P (sym (get_or_append_left slots (s ∷ []) 0 i less)) (there less)
        | inr more ↦
            let e : i ≡ length slots = omega (arith, more, low, long) in
            subst P (sym (ap (node_at longer) e ∙ end_is)) (here e)
      ]

      -- with a count, and where there is room for one more held slot
      pub put_listed : keyed_in (get t.held s) ≡ false → (now : ℕ) → now ≡ len (insert t.held s (Some key))
          → len (insert t.held s (Some key)) ≤ room_of t
          → IsListed (with_entry t s (Some key)) now longer (set indexes s (length slots)) capacity
      put_listed none now counts fits = record {
        table = put_table fits;
        counted = counts;
        room = is.room;
        size = omega (arith, is.size, length-set indexes s (length slots));
        into = λ q. insert_cases t.held s
            (λ x o. keyed_in o ≡ true → IsListedAt longer (set indexes s (length slots)) x) (Some key) q
            (λ _. (omega (arith, here, long), ap (node_at longer) here ∙ end_is))
            (λ apart e. let old = is.into q e in let p = there q apart in (
              omega (arith, p, old.0, long),
              ap (node_at longer) p ∙ get_or_append_left slots (s ∷ []) 0 (node_at indexes q) old.0 ∙ old.1,
            ));
        from = λ i low. listed_cases (λ z. keyed_in (get (insert t.held s (Some key)) z) ≡ true) i low
            (λ less. beside (Some key) (node_at slots i) (apart_old i less) ∙ is.from i less)
            (λ _. ap keyed_in (get_inserted t.held s (Some key)));
        placed = λ i low. listed_cases (λ z. node_at (set indexes s (length slots)) z ≡ i) i low
            (λ less. there (node_at slots i) (apart_old i less) ∙ is.placed i less) (λ e. here ∙ sym e);
      }
        where
          here : node_at (set indexes s (length slots)) s ≡ length slots
          here = get_or-set_same indexes s (length slots) 0 (omega (arith, within, is.size))

          there : (q : ℕ) → q ≢ s → node_at (set indexes s (length slots)) q ≡ node_at indexes q
          there q apart = get_or-set_other indexes s q (length slots) 0 apart

          apart_old : (i : ℕ) → i < length slots → node_at slots i ≢ s
          apart_old i less same =
              false≢true (sym none ∙ ap (λ q. keyed_in (get t.held q)) (sym same) ∙ is.from i less)

      -- so it is where the slot was held, and where it was not
      pub put_idle : IsSome (get t.held s) → keyed_in (get t.held s) ≡ false
          → IsListed (with_entry t s (Some key)) count longer (set indexes s (length slots)) capacity
      put_idle had none =
          let same = len_again t.held s (Some key) had in
          put_listed none count (is.counted ∙ sym same) (omega (arith, is.table.fits, same))

      pub put_new : get t.held s ≡ None → CanTake seen s
          → IsListed (with_entry t s (Some key)) (count + 1) longer (set indexes s (length slots)) capacity
      put_new none can =
          let room : len t.held < room_of t = can_room t s (subst (λ u. CanTake u s) (sym view) can) none in
          let more = len_new t.held s (Some key) none in
          put_listed (ap keyed_in none) (count + 1) (omega (arith, is.counted, more))
          (omega (arith, room, more))

-- there is room in the list for a slot that can be given a key
module _ {t : WeakTable} {count : ℕ} {slots indexes : List ℕ} {capacity : ℕ}
    (is : IsListed t count slots indexes capacity) (s : ℕ) {seen : WeakTable} (view : t ≡ seen) (key : Id)
    (is_new : (other : ℕ) → HasKey seen key other → ⊥) (is_within : s < slots_of seen) where
  pub put_room : CanTake seen s → length slots < capacity
  put_room can = by (get t.held s) refl
    where
      bounded : {now : ℕ} → IsListed (with_entry t s (Some key)) now (slots ++ s ∷ [])
          (set indexes s (length slots)) capacity → length slots < capacity
      bounded after =
          let long : length (slots ++ s ∷ []) ≡ length slots + 1 = length-append slots (s ∷ []) in
          omega (arith, few_listed after, after.table.fits, is.room, long)

      by : (o : Option (Option Id)) → get t.held s ≡ o → length slots < capacity
      by None e = bounded (put_new is s view key is_new is_within e can)
      by (Some v) e = bounded (put_idle is s view key is_new is_within (ap is_some e) (can_seen view s can))

-- an idle slot is released: it was not listed
module _ {t : WeakTable} {count : ℕ} {slots indexes : List ℕ} {capacity : ℕ}
    (is : IsListed t count slots indexes capacity) (s : ℕ) (idle : get t.held s ≡ Some None) where
  abbrev without_slot : WeakTable
  without_slot = record t { held = remove t.held s }

  key_left : (key : Id) (a : ℕ) → HasKey without_slot key a → HasKey t key a
  key_left key a =
      remove_cases t.held s (λ q o. o ≡ Some (Some key) → HasKey t key q) a
      (λ e. absurd (none-some (Some key) e)) (λ _ e. e)

  pub some_held : 1 ≤ count
  some_held = let less = len_less t.held s (ap is_some idle) in omega (arith, less, is.counted)

  pub release_listed : IsListed without_slot (count - 1) slots indexes capacity
  release_listed =
      let less = len_less t.held s (ap is_some idle) in record {
        table = record {
          limit = is.table.limit;
          apart = λ key a b ha hb. is.table.apart key a b (key_left key a ha) (key_left key b hb);
          within = λ q. remove_cases t.held s (λ x o. IsSome o → x < slots_of t) q
              (λ none. absurd (false≢true none)) (λ _. is.table.within q);
          fits = omega (arith, is.table.fits, less);
        };
        counted = omega (arith, is.counted, less);
        room = is.room;
        size = is.size;
        into = λ q. remove_cases t.held s (λ x o. keyed_in o ≡ true → IsListedAt slots indexes x) q
            (λ e. absurd (false≢true e)) (λ _ e. is.into q e);
        from = λ i low. ap keyed_in (get_left t.held s (node_at slots i)
            (λ same. false≢true (sym (ap (λ q. keyed_in (get t.held q)) same ∙ ap keyed_in idle)
            ∙ is.from i low))) ∙ is.from i low;
        placed = is.placed;
      }

-- under other names
pub relisted : {t u : WeakTable} {count : ℕ} {a b c d : List ℕ} {m n : ℕ} → IsListed t count a c m → u ≡ t
    → b ≡ a → d ≡ c → n ≡ m → IsListed u count b d n
relisted {t} {u} {count} {a} {b} {c} {d} {m} {n} is table slots indexes capacity =
    subst (λ x. IsListed u count b d x) (sym capacity)
    (subst (λ x. IsListed u count b x m) (sym indexes)
    (subst (λ x. IsListed u count x c m) (sym slots)
    (subst (λ x. IsListed x count a c m) (sym table) is)))

-- a table of which no slot is held
pub none_listed : (blocks buckets capacity : ℕ) (indexes : List ℕ) → blocks ≤ HOST_BLOCKS
    → ROWS * (blocks / 2) ≤ capacity → length indexes ≡ ROWS * (blocks + 1)
    → IsListed (record { blocks = blocks; buckets = buckets; held = empty }) 0 [] indexes capacity
none_listed blocks buckets capacity indexes limit room size = record {
  table = record {
    limit = limit;
    apart = λ key a b has _. absurd (none-some (Some key) (sym (get-empty nat_cmp a) ∙ has));
    within = λ s some. absurd (false≢true (sym (ap is_some (get-empty nat_cmp s)) ∙ some));
    fits = omega (arith, len-empty nat_cmp (Option Id));
  };
  counted = sym (len-empty nat_cmp (Option Id));
  room = room;
  size = omega (arith, size);
  into = λ s keyed. absurd (false≢true (sym (ap keyed_in (get-empty nat_cmp s)) ∙ keyed));
  from = λ i low. absurd (omega (arith, low));
  placed = λ i low. absurd (omega (arith, low));
}

mapped_some : (f : Option Id → Option Id) (o : Option (Option Id)) → is_some (option_map f o) ≡ is_some o
mapped_some f None = refl
mapped_some f (Some v) = refl

null_kept : (seg : Table) (s : ℕ) (o : Option (Option Id)) → is_none (live_at seg s).target ≡ true → IsSome o
    → Some None ≡ option_map (kept_key seg s) o
null_kept seg s None null some = absurd (false≢true some)
null_kept seg s (Some v) null some = ap (λ b. Some (cond b None v)) (sym null)

other_kept : (seg : Table) (s : ℕ) (o : Option (Option Id)) → is_none (live_at seg s).target ≡ false
    → o ≡ option_map (kept_key seg s) o
other_kept seg s None other = refl
other_kept seg s (Some v) other = ap (λ b. Some (cond b None v)) (sym other)

none_none : (b : Bool) (o : Option Id) → o ≡ cond b o o
none_none true o = refl
none_none false o = refl

-- a slot without a key is as a sweep leaves it
unkeyed_kept : (seg : Table) (s : ℕ) (o : Option (Option Id)) → keyed_in o ≡ false
    → o ≡ option_map (kept_key seg s) o
unkeyed_kept seg s None is = refl
unkeyed_kept seg s (Some None) is = ap Some (none_none (is_none (live_at seg s).target) None)
unkeyed_kept seg s (Some (Some k)) is = absurd (false≢true (sym is))

-- a slot with a key that is still to be swept: it is among the first ones of the list
pub record IsAhead (indexes : List ℕ) (left : ℕ) (old now : WeakTable) (s : ℕ) : Type 0 where
  pub same : get now.held s ≡ get old.held s
  pub keyed : keyed_in (get now.held s) ≡ true
  pub low : node_at indexes s < left

-- all slots are swept but those at the first of the list
pub record IsSwept (seg : Table) (indexes : List ℕ) (left : ℕ) (old now : WeakTable) : Type 0 where
  pub blocks : now.blocks ≡ old.blocks
  pub buckets : now.buckets ≡ old.buckets
  pub each : (s : ℕ) → (get now.held s ≡ option_map (kept_key seg s) (get old.held s))
      ⊎ IsAhead indexes left old now s

pub none_swept : (seg : Table) {old : WeakTable} {count : ℕ} {slots indexes : List ℕ} {capacity : ℕ}
    → IsListed old count slots indexes capacity → IsSwept seg indexes (length slots) old old
none_swept seg {old} {count} {slots} {indexes} listed = record {
  blocks = refl;
  buckets = refl;
  each = λ s. by s (keyed_in (get old.held s)) refl;
}
  where
    by : (s : ℕ) (b : Bool) → keyed_in (get old.held s) ≡ b
        → (get old.held s ≡ option_map (kept_key seg s) (get old.held s))
        ⊎ IsAhead indexes (length slots) old old s
    by s true is = inr (record { same = refl; keyed = is; low = (listed.into s is).0 })
    by s false is = inl (unkeyed_kept seg s (get old.held s) is)

module _ {seg : Table} {count : ℕ} {slots indexes : List ℕ} {capacity i : ℕ} {old now : WeakTable}
    (is : IsSwept seg indexes (i + 1) old now) (listed : IsListed now count slots indexes capacity)
    (low : i < length slots) (slot : ℕ) (at : slot ≡ node_at slots i) where
  was_held : (s : ℕ) → IsSome (get now.held s) → IsSome (get old.held s)
  was_held s some =
      ⊎_elim
      (λ swept. sym (mapped_some (kept_key seg s) (get old.held s)) ∙ sym (ap is_some swept) ∙ some)
      (λ ahead. sym (ap is_some ahead.same) ∙ some) (is.each s)

  pub slot_keyed : keyed_in (get now.held slot) ≡ true
  slot_keyed = ap (λ s. keyed_in (get now.held s)) at ∙ listed.from i low

  -- what is ahead is the slot, or before it
  ahead_cases : (s : ℕ) → IsAhead indexes (i + 1) old now s → (s ≡ slot) ⊎ (node_at indexes s < i)
  ahead_cases s ahead = elim (cases_eq (node_at indexes s) i) [
    | inl e ↦ inl (sym (listed.into s ahead.keyed).1 ∙ ap (node_at slots) e ∙ sym at)
    | inr n ↦ inr (let below = ahead.low in omega (arith, below, n))
  ]

  -- the next slot has a target
  pub sweep_left : is_none (live_at seg slot).target ≡ false → IsSwept seg indexes i old now
  sweep_left target = record {
    blocks = is.blocks;
    buckets = is.buckets;
    each = λ s. ⊎_elim (λ swept. inl swept) (λ ahead. ⊎_elim
        (λ e. inl (ahead.same ∙ other_kept seg s (get old.held s)
        (ap (λ q. is_none (live_at seg q).target) e ∙ target)))
        (λ below. inr (record { same = ahead.same; keyed = ahead.keyed; low = below }))
        (ahead_cases s ahead)) (is.each s);
  }

  -- the next slot has none, and its key is taken
  module _ {next : WeakTable} {new_slots new_indexes : List ℕ}
      (taken : IsTaken seg slot now next slots indexes new_slots new_indexes) where
    still_low : (s : ℕ) → IsAhead indexes (i + 1) old now s → s ≢ slot → node_at new_indexes s < i
    still_low s ahead apart =
        let below : node_at indexes s < i =
        ⊎_elim (λ e. absurd (apart e)) (λ less. less) (ahead_cases s ahead) in
        let last : ℕ = node_at slots (length slots - 1) in
        let inner : s ≢ last = λ e.
        let end : node_at indexes s ≡ length slots - 1 =
        ap (node_at indexes) e ∙ listed.placed (length slots - 1) (omega (arith, low)) in
        omega (arith, end, below, low) in
        let same : node_at new_indexes s ≡ node_at indexes s =
        ap (λ ps. node_at ps s) taken.lists.replaced
        ∙ get_or-set_other indexes last s (node_at indexes slot) 0 inner in
        omega (arith, same, below)

    swept_entry : IsSwept seg new_indexes i old (with_entry now slot None)
    swept_entry = record {
      blocks = is.blocks;
      buckets = is.buckets;
      each = λ s. elim (cases_eq s slot) [
        | inl e ↦ inl (ap (get (insert now.held slot None)) e ∙ get_inserted now.held slot None
            ∙ null_kept seg slot (get old.held slot) taken.null
            (was_held slot (held_of (get now.held slot) slot_keyed))
            ∙ ap (λ q. option_map (kept_key seg q) (get old.held q)) (sym e))
        | inr n ↦ ⊎_elim (λ swept. inl (get_beside now.held slot None s n ∙ swept))
            (λ ahead. inr (record {
              same = get_beside now.held slot None s n ∙ ahead.same;
              keyed = ap keyed_in (get_beside now.held slot None s n) ∙ ahead.keyed;
              low = still_low s ahead n;
            })) (is.each s)
      ];
    }

    pub sweep_taken : IsSwept seg new_indexes i old next
    sweep_taken = subst (IsSwept seg new_indexes i old) (sym taken.entries) swept_entry

    pub taken_listed : IsListed next count new_slots new_indexes capacity
    taken_listed = subst (λ u. IsListed u count new_slots new_indexes capacity) (sym taken.entries)
        (clear_listed listed slot slot_keyed taken.lists)

-- all are swept
pub all_swept : {seg : Table} {indexes : List ℕ} {left : ℕ} {old now : WeakTable}
    → IsSwept seg indexes left old now → left ≤ 0 → (s : ℕ)
    → get now.held s ≡ option_map (kept_key seg s) (get old.held s)
all_swept is none s =
    ⊎_elim (λ swept. swept) (λ ahead. let low = ahead.low in absurd (omega (arith, low, none))) (is.each s)
