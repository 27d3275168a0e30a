-- A store at first: nothing is made, and each register, static and entry of the board is null or empty.
use Rattle.hd_store.proofs.StoreWords.{Addr, Contains, Handle, Id, IsSome, IsStored, List, None, Object, Option, Parts, Placed, Region, Some, T, [], ap, arith, callers_of, cells_of, empty, empty_heap, empty_table, entry_named, fields_in, from_entries, get, get-empty, id_at, is_in_use, is_none, is_some, len-empty, length-replicate, machine_of, map, names_of, nat_cmp, not_in_none, numbers_of, object_at, object_in, objects_by_id, one_extra, one_paired, option_map, read_object, refl, region_generation, region_of, rename_handle, replicate, rest_of, rows_by_id, rows_of, start_of, state_of, subst, sum_by, sym, true, unheld, values, weak_by_id, ℕ, ◌*◌, ◌+◌, ◌∙◌, ◌≡◌, ◌≤◌}
use Rattle.hd_store.proofs.{EntryMaps.no_entries, EntryMaps.same_numbers, EntryReadings.none_kept, EntryReadings.unheld-get, IdentityReadings.no_some, StoreNew.no_names, StoreNew.nothing_mapped, RegisterRoots.rows-first, RegisterRoots.rest-first}
use Rattle.hd_store.specs.Inside.{HasWeakRoom, IsFirst}
use Rattle.hd_model.specs.declared.limits.TheConstants.{HOST_BLOCKS, HOST_HEAP, REGISTERS}

nothing_at : {A : Type 0} (q : ℕ) (x : A) → get (empty {X = A} {R = nat_cmp}) q ≡ Some x → ⊥
nothing_at q x e = no_some x (sym e ∙ get-empty nat_cmp q)

no_sum : {A : Type 0} (f : A → ℕ) → sum_by f (values (empty {X = A} {R = nat_cmp})) ≡ 0
no_sum {A} f = ap (λ (es : List (ℕ × A)). sum_by f (map (λ e. e.1) es)) no_entries

module _ (limit blocks callers room many : ℕ) where
  abbrev pub opened : Parts
  opened = record {
    heap = empty_heap limit;
    table = empty_table blocks;
    ages = replicate (4 * blocks) 2;
    weak = record { blocks = room; buckets = many; held = empty };
    queue = record { queued = []; room = 0 };
    roots = replicate (REGISTERS * callers + REGISTERS) None;
    handle_registers = replicate callers (replicate REGISTERS None);
    board = replicate REGISTERS None;
    serials = replicate callers 0;
  }

  no_field : (x y : Addr) → Contains (fields_in (object_at (empty_heap limit) x)) (Some y) → ⊥
  no_field x y field =
      let none : object_at (empty_heap limit) x ≡ None =
      ap (option_map (object_in (region_generation (empty_heap limit) (region_of x))))
      (get-empty nat_cmp x.0) in
      not_in_none (Some y) (subst (λ (o : Option (Object Addr)). Contains (fields_in o) (Some y)) none field)

  no_region : (r : ℕ) → is_in_use (empty_heap limit) r ≡ true → ⊥
  no_region r held = subst T (sym (sym (ap is_some (get-empty {X = Region} nat_cmp r)) ∙ held)) tt

  -- parts are those of an opened store where each is as it was made
  pub are_opened : (f : Parts) → f.heap ≡ empty_heap limit → f.table ≡ empty_table blocks
      → f.ages ≡ replicate (4 * blocks) 2
      → f.weak ≡ record { blocks = room; buckets = many; held = empty }
      → f.queue ≡ record { queued = []; room = 0 } → f.roots ≡ replicate (REGISTERS * callers + REGISTERS)
      None
      → f.handle_registers ≡ replicate callers (replicate REGISTERS None)
      → f.board ≡ replicate REGISTERS None → f.serials ≡ replicate callers 0 → opened ≡ f
  are_opened f heap table ages weak queue roots handle_registers board serials = λ i. record {
    heap = sym heap i;
    table = sym table i;
    ages = sym ages i;
    weak = sym weak i;
    queue = sym queue i;
    roots = sym roots i;
    handle_registers = sym handle_registers i;
    board = sym board i;
    serials = sym serials i;
  }

  pub stored-opened : limit ≤ HOST_HEAP → blocks ≤ HOST_BLOCKS
      → HasWeakRoom blocks callers (record { blocks = room; buckets = many; held = empty }) → IsStored opened
  stored-opened small few weak_room = record {
    whole = record {
      fields = λ x y field. absurd (no_field x y field);
      named = λ x named. absurd (no_names (REGISTERS * callers + REGISTERS) x named);
      queue = λ x queued. absurd (not_in_none x queued);
      targets = λ slot h x row at. absurd (nothing_at slot h row);
      secondaries = λ slot h x row at. absurd (nothing_at slot h row);
      paired = λ slot h row at. absurd (nothing_at slot h row);
      fits = λ slot h x row at. absurd (nothing_at slot h row);
    };
    identities = λ a b p q there other same. absurd (nothing_at a p there);
    ages = record {
      targets = λ slot h x row at. absurd (nothing_at slot h row);
      secondaries = λ slot h x row at. absurd (nothing_at slot h row);
    };
    cards = λ x y field younger. absurd (no_field x y field);
    full = λ r held. absurd (no_region r held);
    room = let none = len-empty nat_cmp Placed in omega (arith, none);
    within = omega (arith, no_sum cells_of);
    limit = small;
    roots = ap (λ n. REGISTERS * n + REGISTERS) (length-replicate callers (replicate REGISTERS None))
        ∙ sym (length-replicate (REGISTERS * callers + REGISTERS) None);
    serials = length-replicate callers 0 ∙ sym (length-replicate callers (replicate REGISTERS None));
    clumps = sym (length-replicate (4 * blocks) 2);
    blocks = few;
    uses = record {
      within = λ block is. absurd (subst T (sym (subst IsSome (get-empty nat_cmp block) is)) tt);
      extras = omega (arith, no_sum one_paired, no_sum one_extra);
    };
    tied = λ slot key is. absurd (nothing_at slot key is);
    weak_room = subst (λ n. HasWeakRoom blocks n (record { blocks = room; buckets = many; held = empty }))
        (sym (length-replicate callers (replicate REGISTERS None))) weak_room;
  }

  names-opened : names_of (empty_heap limit) ≡ empty
  unfolding names_of
  names-opened =
      ap (λ (es : List (ℕ × Placed)). from_entries {R = nat_cmp} (map (λ e. (e.0, e.1.id)) es)) no_entries

  objects-opened : objects_by_id (empty_heap limit) ≡ empty
  unfolding objects_by_id
  objects-opened = ap (λ (es : List (ℕ × Placed)). from_entries {R = nat_cmp}
      (map (λ e. (e.1.id.0, read_object (empty_heap limit) e.0 e.1)) es)) no_entries

  unheld-opened : unheld empty empty ≡ empty
  unheld-opened =
      same_numbers (unheld empty empty) empty (λ s.
      unheld-get empty empty s
      ∙ none_kept (is_none (get (empty {X = Option Id} {R = nat_cmp}) s)) (get empty s) (get-empty nat_cmp s)
      ∙ sym (get-empty nat_cmp s))

  weak-opened : weak_by_id (empty_heap limit) empty empty ≡ empty
  unfolding weak_by_id
  weak-opened = ap (λ (es : List (ℕ × Option Id)). from_entries {R = nat_cmp}
      (map (λ e. (
        e.0,
        entry_named (id_at (empty_heap limit)) (get (empty {X = Handle Addr} {R = nat_cmp}) e.0) e.1,
      )) es)) no_entries

  rows-empty : rows_by_id (empty_heap limit) empty ≡ empty
  unfolding rows_by_id
  rows-empty = ap (λ (es : List (ℕ × Handle Addr)). from_entries {R = nat_cmp}
      (map (λ e. (e.0, rename_handle (id_at (empty_heap limit)) e.1)) es)) no_entries

  rows-opened : rows_by_id (empty_heap limit) (unheld empty empty) ≡ empty
  rows-opened = ap (rows_by_id (empty_heap limit)) unheld-opened ∙ rows-empty

  none_named : map (option_map (id_at (empty_heap limit))) opened.roots
      ≡ replicate (REGISTERS * callers + REGISTERS) None
  none_named = nothing_mapped (id_at (empty_heap limit)) (REGISTERS * callers + REGISTERS)

  size : callers_of opened ≡ callers
  size = length-replicate callers (replicate REGISTERS None)

  registers-opened : rows_of (callers_of opened) (map (option_map (id_at (empty_heap limit))) opened.roots)
      ≡ replicate (callers_of opened) (replicate REGISTERS None)
  registers-opened =
      ap (rows_of (callers_of opened)) none_named
      ∙ rows-first (callers_of opened) REGISTERS (REGISTERS * callers + REGISTERS) None
      (ap (λ n. REGISTERS * n + REGISTERS) (sym size))

  statics-opened : rest_of (callers_of opened)
      (map (option_map (id_at (empty_heap limit))) opened.roots) ≡ replicate REGISTERS None
  statics-opened =
      ap (rest_of (callers_of opened)) none_named
      ∙ rest-first (callers_of opened) REGISTERS (REGISTERS * callers + REGISTERS) None
      (ap (λ n. REGISTERS * n + REGISTERS) (sym size))

  state-opened : state_of opened ≡ start_of (numbers_of opened)
  state-opened = λ i. record {
    objects = objects-opened i;
    handles = rows-opened i;
    weak = weak-opened i;
    registers = registers-opened i;
    handle_registers = ap (λ n. replicate n (replicate REGISTERS None)) (sym size) i;
    statics = statics-opened i;
    board = replicate REGISTERS None;
    queue = [];
    pinned = empty;
    blocks = empty;
    serials = ap (λ n. replicate n 0) (sym size) i;
  }

  numbers-opened : numbers_of opened ≡ record { heap = limit; blocks = blocks; callers = callers }
  numbers-opened = λ i. record { heap = limit; blocks = blocks; callers = size i }

  -- nothing is made in an opened store
  pub first-opened : IsFirst (record { heap = limit; blocks = blocks; callers = callers }) (machine_of opened)
  first-opened = record {
    numbers = numbers-opened;
    state = state-opened;
    names = names-opened;
    ages = refl;
  }
