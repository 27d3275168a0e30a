-- The slots of a walk are the live slots of its kind in due clumps, each once.
use Rattle.hd_ages.proofs.Basics.{AllPairs, HOST_BLOCKS, Bool, CLUMP, CLUMPS, Contains, Contains-append_cases, Contains-append_left, Contains-append_right, IsSome, IsTable, Kind, List, ROWS, Some, Table, [], ap, arith, cases_eq, chain_of, clump_of, clumps_of, contains_key, counts_le, due_clumps, due_slots, fewer, filter, first_in, get, handles_of, is_some, later_in, len, length, length-append, member_cases, nat_le, not_in_none, pairs_append, pairs_cons, pairs_first, pairs_none, pairs_passing, pairs_rest, passing_from, passing_in, range_with_len, refl, slice_index, slots_of, subst, suc, sym, true, zero, ℕ, ⊎_elim, ◌*◌, ◌+◌, ◌-◌, ◌/◌, ◌<◌, ◌∙◌, ◌∷◌, ◌≡◌, ◌≢◌, ◌≤◌}
use Rattle.std.proofs.lemmas.{List.FromFn.length-range_with_len}
use Rattle.hd_model.proofs.MapEntries.{some_value, counts_keys}
use Rattle.hd_ages.specs.Walk.{slots_in}
use Rattle.hd_model.specs.declared.data.Addr.{Addr}
use Rattle.hd_model.specs.State.{Handle}
use Rattle.hd_model.specs.Ages.{is_due}
use Rattle.hd_model.specs.Table.{row_at}

-- a live slot of a kind in a clump that is due
pub record IsDueRow (t : Table) (ages : List ℕ) (n : ℕ) (kind : Kind) (slot : ℕ) : Type 0 where
  pub handle : Handle Addr
  pub is_stored : row_at t slot ≡ Some handle
  pub of_kind : handle.kind ≡ kind
  pub due : is_due ages n slot ≡ true

-- a list has exactly the things of a property, each once
pub record IsListOf {A : Type 0} (P : A → Type 0) (xs : List A) : Type 0 where
  pub apart : AllPairs (λ x y. x ≢ y) xs
  pub each : (x : A) → Contains xs x → P x
  pub all : (x : A) → P x → Contains xs x

-- ---- numbers in a row

in_range : (a k x : ℕ) → Contains (range_with_len a k) x → (a ≤ x) × (x < a + k)
in_range a zero x h = absurd (not_in_none x h)
in_range a (suc k) x h =
    ⊎_elim (λ e. (omega arith, omega arith))
    (λ later. let (low, high) = in_range (a + 1) k x later in (omega arith, omega arith))
    (member_cases a (range_with_len (a + 1) k) x h)

of_range : (a k x : ℕ) → a ≤ x → x < a + k → Contains (range_with_len a k) x
of_range a zero x low high = absurd (omega arith)
of_range a (suc k) x low high =
    ⊎_elim (λ e. subst (λ y. Contains (range_with_len a (suc k)) y) e (first_in a (range_with_len (a + 1) k)))
    (λ ne. later_in a (range_with_len (a + 1) k) x (of_range (a + 1) k x (omega arith) (omega arith)))
    (cases_eq a x)

range_apart : (a k : ℕ) → AllPairs (λ x y. x ≢ y) (range_with_len a k)
range_apart a zero = pairs_none (λ x y. x ≢ y)
range_apart a (suc k) =
    pairs_cons (λ x y. x ≢ y) a (range_with_len (a + 1) k)
    (λ y h e. let low = (in_range (a + 1) k y h).0 in omega arith) (range_apart (a + 1) k)

-- ---- the slots of clumps

module _ (t : Table) where
  in_clump : (c slot : ℕ) → Contains (slots_in t c) slot
      → (contains_key t.rows slot ≡ true) × ((ROWS ≤ slot) × (clump_of slot ≡ c))
  unfolding slots_in
  in_clump c slot h =
      let (inside, live) = passing_from (λ s. contains_key t.rows s) (range_with_len (CLUMP * c + ROWS) CLUMP)
      slot
      h in
      let (low, high) = in_range (CLUMP * c + ROWS) CLUMP slot inside in
      (live, (omega arith, omega arith))

  of_clump : (c slot : ℕ) → contains_key t.rows slot ≡ true → ROWS ≤ slot → clump_of slot ≡ c
      → Contains (slots_in t c) slot
  unfolding slots_in
  of_clump c slot live low e =
      passing_in (λ s. contains_key t.rows s) (range_with_len (CLUMP * c + ROWS) CLUMP) slot
      (of_range (CLUMP * c + ROWS) CLUMP slot (omega arith) (omega arith)) live

  clump_apart : (c : ℕ) → AllPairs (λ x y. x ≢ y) (slots_in t c)
  unfolding slots_in
  clump_apart c =
      pairs_passing (λ s. contains_key t.rows s) (λ x y. x ≢ y) (range_with_len (CLUMP * c + ROWS) CLUMP)
      (range_apart (CLUMP * c + ROWS) CLUMP)

  -- a clump has as many live slots as it has slots, at most
  clump_few : (c : ℕ) → length (slots_in t c) ≤ CLUMP
  unfolding slots_in
  clump_few c =
      let few = fewer (slots_in t c) (range_with_len (CLUMP * c + ROWS) CLUMP) (clump_apart c)
      (λ s h. (passing_from (λ s. contains_key t.rows s) (range_with_len (CLUMP * c + ROWS) CLUMP) s h).0) in
      omega (arith, few, length-range_with_len (CLUMP * c + ROWS) CLUMP)

  pub slots_few : (cs : List ℕ) → length (slots_of t cs) ≤ CLUMP * length cs
  slots_few [] = omega arith
  slots_few (c ∷ cs) =
      omega (arith, length-append (slots_in t c) (slots_of t cs), clump_few c, slots_few cs)

  in_slots : (cs : List ℕ) (slot : ℕ) → Contains (slots_of t cs) slot
      → (contains_key t.rows slot ≡ true) × ((ROWS ≤ slot) × Contains cs (clump_of slot))
  in_slots [] slot h = absurd (not_in_none slot h)
  in_slots (c ∷ cs) slot h =
      ⊎_elim
      (λ here. let (live, rest) = in_clump c slot here in
      (live, (rest.0, subst (λ d. Contains (d ∷ cs) (clump_of slot)) rest.1 (first_in (clump_of slot) cs))))
      (λ later. let (live, rest) = in_slots cs slot later in
      (live, (rest.0, later_in c cs (clump_of slot) rest.1)))
      (Contains-append_cases (slots_in t c) (slots_of t cs) slot h)

  of_slots : (cs : List ℕ) (slot : ℕ) → contains_key t.rows slot ≡ true → ROWS ≤ slot
      → Contains cs (clump_of slot) → Contains (slots_of t cs) slot
  of_slots [] slot live low h = absurd (not_in_none (clump_of slot) h)
  of_slots (c ∷ cs) slot live low h =
      ⊎_elim
      (λ e. Contains-append_left (slots_in t c) (slots_of t cs) slot (of_clump c slot live low (sym e)))
      (λ later. Contains-append_right (slots_in t c) (slots_of t cs) slot (of_slots cs slot live low later))
      (member_cases c cs (clump_of slot) h)

  slots_apart : (cs : List ℕ) → AllPairs (λ x y. x ≢ y) cs → AllPairs (λ x y. x ≢ y) (slots_of t cs)
  slots_apart [] apart = pairs_none (λ x y. x ≢ y)
  slots_apart (c ∷ cs) apart =
      pairs_append (λ x y. x ≢ y) (slots_in t c) (slots_of t cs) (clump_apart c)
      (slots_apart cs (pairs_rest (λ x y. x ≢ y) c cs apart))
      (λ x y h k e. let there = (in_slots cs y k).1.1 in
      pairs_first (λ a b. a ≢ b) c cs apart (clump_of y) there (sym (in_clump c x h).1.1 ∙ ap clump_of e))

-- ---- the due clumps of a chain

module _ (ages : List ℕ) (n : ℕ) where
  abbrev is_young : ℕ → Bool
  is_young c = nat_le (slice_index ages c) n

  in_due : (chain : List ℕ) (c : ℕ) → ((b : ℕ) → Contains chain b → 1 ≤ b)
      → Contains (due_clumps ages n chain) c → Contains chain (c / CLUMPS + 1) × (is_young c ≡ true)
  in_due [] c low h = absurd (not_in_none c h)
  in_due (b ∷ chain) c low h =
      ⊎_elim
      (λ here. let one = low b (first_in b chain) in
      let (inside, young) = passing_from is_young (clumps_of b) c here in
      let (from, to) = in_range (CLUMPS * b - CLUMPS) CLUMPS c inside in
      let e : b ≡ c / CLUMPS + 1 = omega arith in
      (subst (λ d. Contains (b ∷ chain) d) e (first_in b chain), young))
      (λ later. let (inside, young) = in_due chain c (λ d k. low d (later_in b chain d k)) later in
      (later_in b chain (c / CLUMPS + 1) inside, young))
      (Contains-append_cases (filter is_young (clumps_of b)) (due_clumps ages n chain) c h)

  of_due : (chain : List ℕ) (c : ℕ) → Contains chain (c / CLUMPS + 1) → is_young c ≡ true
      → Contains (due_clumps ages n chain) c
  of_due [] c h young = absurd (not_in_none (c / CLUMPS + 1) h)
  of_due (b ∷ chain) c h young =
      ⊎_elim
      (λ e. Contains-append_left (filter is_young (clumps_of b)) (due_clumps ages n chain) c
      (passing_in is_young (clumps_of b) c
      (of_range (CLUMPS * b - CLUMPS) CLUMPS c (omega arith) (omega arith)) young))
      (λ later. Contains-append_right (filter is_young (clumps_of b)) (due_clumps ages n chain) c
      (of_due chain c later young))
      (member_cases b chain (c / CLUMPS + 1) h)

  due_apart : (chain : List ℕ) → ((b : ℕ) → Contains chain b → 1 ≤ b) → AllPairs (λ x y. x ≢ y) chain
      → AllPairs (λ x y. x ≢ y) (due_clumps ages n chain)
  due_apart [] low apart = pairs_none (λ x y. x ≢ y)
  due_apart (b ∷ chain) low apart =
      let one = low b (first_in b chain) in
      let low_rest : (d : ℕ) → Contains chain d → 1 ≤ d = λ d k. low d (later_in b chain d k) in
      pairs_append (λ x y. x ≢ y) (filter is_young (clumps_of b)) (due_clumps ages n chain)
      (pairs_passing is_young (λ x y. x ≢ y) (clumps_of b) (range_apart (CLUMPS * b - CLUMPS) CLUMPS))
      (due_apart chain low_rest (pairs_rest (λ x y. x ≢ y) b chain apart))
      (λ x y h k e. let (from, to) = in_range (CLUMPS * b - CLUMPS) CLUMPS x
      (passing_from is_young (clumps_of b) x h).0 in
      let there : Contains chain (y / CLUMPS + 1) = (in_due chain y low_rest k).0 in
      let same : b ≡ y / CLUMPS + 1 = omega arith in
      pairs_first (λ p q. p ≢ q) b chain apart (y / CLUMPS + 1) there same)

-- ---- the slots of a walk

module _ (t : Table) (is : IsTable t) (ages : List ℕ) (n : ℕ) (k : Kind) where
  low_blocks : (b : ℕ) → Contains (chain_of t k) b → 1 ≤ b
  low_blocks b h = (is.uses b (ap is_some ((is.chained k b).0 h))).0

  each_due : (slot : ℕ) → Contains (due_slots t ages n k) slot → IsDueRow t ages n k slot
  each_due slot h =
      let (live, rest) = in_slots t (due_clumps ages n (chain_of t k)) slot h in
      let low : ROWS ≤ slot = rest.0 in
      let (inside, due) = in_due ages n (chain_of t k) (clump_of slot) low_blocks rest.1 in
      let (handle, is_stored) = some_value (get t.rows slot) live in
      let e : clump_of slot / CLUMPS + 1 ≡ slot / ROWS = omega arith in
      let here : get t.uses (slot / ROWS) ≡ Some (handles_of k) =
      ap (get t.uses) (sym e) ∙ (is.chained k (clump_of slot / CLUMPS + 1)).0 inside in
      let there : get t.uses (slot / ROWS) ≡ Some (handles_of handle.kind) =
      (is.rows slot handle is_stored).block in
      record { handle = handle; is_stored = is_stored; of_kind = cc; due = due }

  all_due : (slot : ℕ) → IsDueRow t ages n k slot → Contains (due_slots t ages n k) slot
  all_due slot r =
      let row = is.rows slot r.handle r.is_stored in
      let low : ROWS ≤ slot = row.low in
      let e : slot / ROWS ≡ clump_of slot / CLUMPS + 1 = omega arith in
      let inside : Contains (chain_of t k) (slot / ROWS) =
      (is.chained k (slot / ROWS)).1 (row.block ∙ ap (λ q. Some (handles_of q)) r.of_kind) in
      of_slots t (due_clumps ages n (chain_of t k)) slot (ap is_some r.is_stored) low
      (of_due ages n (chain_of t k) (clump_of slot) (subst (Contains (chain_of t k)) e inside) r.due)

  pub due_slots_list : IsListOf (IsDueRow t ages n k) (due_slots t ages n k)
  due_slots_list = record {
    apart = slots_apart t (due_clumps ages n (chain_of t k))
        (due_apart ages n (chain_of t k) low_blocks (is.once k));
    each = each_due;
    all = all_due;
  }

  -- a chain has no more blocks than the largest table
  pub chain_few : length (chain_of t k) ≤ HOST_BLOCKS
  chain_few =
      let few = fewer (chain_of t k) (range_with_len 1 HOST_BLOCKS) (is.once k)
      (λ b h. let within = is.uses b (ap is_some ((is.chained k b).0 h)) in
      of_range 1 HOST_BLOCKS b within.0 (let limit = is.limit in omega arith)) in
      omega (arith, few, length-range_with_len 1 HOST_BLOCKS)

  -- their clumps are as few as those of the largest table
  pub due_clumps_few : length (due_clumps ages n (chain_of t k)) ≤ HOST_BLOCKS * CLUMPS
  due_clumps_few =
      let few = fewer (due_clumps ages n (chain_of t k)) (range_with_len 0 (HOST_BLOCKS * CLUMPS))
      (due_apart ages n (chain_of t k) low_blocks (is.once k))
      (λ c h. let inside = (in_due ages n (chain_of t k) c low_blocks h).0 in
      let high = (is.uses (c / CLUMPS + 1) (ap is_some ((is.chained k (c / CLUMPS + 1)).0 inside))).1 in
      let limit = is.limit in
      of_range 0 (HOST_BLOCKS * CLUMPS) c (omega arith) (omega arith)) in
      omega (arith, few, length-range_with_len 0 (HOST_BLOCKS * CLUMPS))

  -- they are as few as the rows of the largest table
  pub due_slots_few : length (due_slots t ages n k) ≤ HOST_BLOCKS * ROWS
  due_slots_few =
      let few = counts_le (IsDueRow t ages n k) (λ (slot : ℕ). IsSome (get t.rows slot))
      (length (due_slots t ages n k)) (len t.rows) (λ slot r. ap is_some r.is_stored)
      (record {
        members = due_slots t ages n k;
        apart = due_slots_list.apart;
        each = each_due;
        all = all_due;
        number = refl;
      })
      (counts_keys t.rows (λ (x : ℕ). x) (λ x. x) (λ k. refl) (λ x. refl)) in
      omega (arith, few, is.live, is.limit)
