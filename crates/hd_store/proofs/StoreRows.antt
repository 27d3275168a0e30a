-- Rows of a store that change: what the machine sees, and that the store keeps what it keeps.
use Rattle.hd_store.proofs.StoreWords.{Addr, Back, BlockUse, Bool, Err, Extra, FinMap, Grown, Handle, HasUses, Heap, Id, IfOk, IfSome, IsGrowth, IsNamed, IsSome, IsStored, IsTied, Kind, List, Machine, MayBeStored, None, Ok, OnErr, One, Option, Parts, Result, Slot, Some, T, Table, Two, WeakTable, Zero, age_of, ap, arith, attaches, block_of, blocks_needed, clump_of, cond, count, entry_named, extra_data, false, fits, generation_at, get, get_beside, get_inserted, get_left, grown_by, handle_at, handles_of, id_at, insert, is_none, is_object, is_paired, is_single, is_some, kind_at, kind_in, kind_in_use, length, length-set, live_at, lowered, lowered_below, machine_of, nat_cmp, not, nothing, object_at, object_named, one_extra, one_paired, option_map, refl, remove, rename_handle, role, role_of, rows_by_id, same_Some, secondary, secondary_of, share, state_of, strength, subst, sum-insert, sum-remove, sum_by, sym, true, true≢false, unheld, unwrap_or, use_of, values, with_growth, with_handle, with_row, without_block, without_handle, without_row, ℕ, ◌*◌, ◌+◌, ◌/◌, ◌∙◌, ◌≡◌, ◌≢◌, ◌≤◌, name_in, seen_by, insert_cases, remove_cases, put_twice, get_removed, callers_of}
use Rattle.hd_store.specs.Inside.{HasWeakRoom}
use Rattle.hd_seg.specs.declared.row.Full.{Full}
use Rattle.hd_model.proofs.{KindExtras.fits_dependent, MapEntries.none_from as no_use}
use Rattle.hd_seg.specs.Pairs.{without_data}
use Rattle.hd_model.proofs.Sums.{sum-taken}
use Rattle.hd_store.proofs.EntryMaps.{same_numbers}
use Rattle.hd_store.proofs.IdentityReadings.{no_some, is_some-map, rows-get, names-are}
use Rattle.hd_store.proofs.HeapCallReadings.{known_object, some_or, generation-is}
use Rattle.hd_store.proofs.EntryReadings.{handles-get, weak-get, unheld-put, unheld-end, weak-put, weak-end, tied-agrees}
use Rattle.hd_model.specs.declared.data.Kind.TheVariants as kind
use Rattle.hd_model.specs.declared.limits.TheConstants.{ROWS}

-- the parts with another table
abbrev pub with_table : Parts → Table → Parts
with_table f t = record f { table = t }

-- a row may be stored in a slot of these parts
pub record IsStorable (f : Parts) (slot : ℕ) (row : Handle Addr) : Type 0 where
  pub target : (x : Addr) → row.target ≡ Some x → is_object (object_at f.heap) x ≡ true
  pub second : (x : Addr) → secondary_of row.extra ≡ Some x → is_object (object_at f.heap) x ≡ true
  pub paired : row.target ≡ None → secondary_of row.extra ≡ None
  pub attaching : (x : Addr) → secondary_of row.extra ≡ Some x → role row ≡ attaches
  pub target_age : (x : Addr) → row.target ≡ Some x → age_of f.ages slot ≤ generation_at (object_at f.heap) x
  pub second_age : (x : Addr) → secondary_of row.extra ≡ Some x
      → age_of f.ages slot ≤ generation_at (object_at f.heap) x

-- each row of a store may be stored where it is
pub storable : (f : Parts) → IsStored f → (slot : ℕ) (row : Handle Addr) → get f.table.rows slot ≡ Some row
    → IsStorable f slot row
storable f stored slot row is = record {
  target = λ x e. stored.whole.targets slot row x is e;
  second = λ x e. stored.whole.secondaries slot row x is e;
  paired = stored.whole.paired slot row is;
  attaching = λ x e. stored.whole.fits slot row x is e;
  target_age = λ x e. stored.ages.targets slot row x is e;
  second_age = λ x e. stored.ages.secondaries slot row x is e;
}

-- the rows of the slots that the weak table holds
abbrev pub AreTied : Parts → Type 0
AreTied f = (slot : ℕ) (key : Option Id) → get f.weak.held slot ≡ Some key
    → IsTied f.heap f.table.rows slot key

-- a slot that the weak table holds has a row
pub held-live : (f : Parts) → IsStored f → (slot : ℕ) → IsSome (get f.weak.held slot)
    → IsSome (get f.table.rows slot)
held-live f stored slot held = by (get f.weak.held slot) refl
  where
    by : (o : Option (Option Id)) → get f.weak.held slot ≡ o → IsSome (get f.table.rows slot)
    by None is = absurd (subst T (sym (sym (ap is_some is) ∙ held)) tt)
    by (Some key) is = ap is_some (stored.tied slot key is).row

-- another table, as many ages, under which its rows may be stored, and another weak table
pub stored-entries : (f : Parts) (t : Table) (ages : List ℕ) (w : WeakTable) → IsStored f
    → t.blocks ≡ f.table.blocks → HasUses t.uses t.blocks → length f.ages ≡ length ages
    → ((slot : ℕ) (row : Handle Addr) → get t.rows slot ≡ Some row → IsStorable
    (record f { ages = ages }) slot row)
    → HasWeakRoom f.table.blocks (callers_of f) w
    → AreTied (record f { table = t; ages = ages; weak = w })
    → IsStored (record f { table = t; ages = ages; weak = w })
stored-entries f t ages w stored blocks uses long each weak_room tied = record {
  whole = record {
    fields = stored.whole.fields;
    named = stored.whole.named;
    queue = stored.whole.queue;
    targets = λ slot row x is e. (each slot row is).target x e;
    secondaries = λ slot row x is e. (each slot row is).second x e;
    paired = λ slot row is. (each slot row is).paired;
    fits = λ slot row x is e. (each slot row is).attaching x e;
  };
  identities = stored.identities;
  ages = record {
    targets = λ slot row x is e. (each slot row is).target_age x e;
    secondaries = λ slot row x is e. (each slot row is).second_age x e;
  };
  cards = stored.cards;
  full = stored.full;
  room = stored.room;
  within = stored.within;
  limit = stored.limit;
  roots = stored.roots;
  serials = stored.serials;
  clumps = ap (λ n. 4 * n) blocks ∙ stored.clumps ∙ long;
  blocks = omega (arith, blocks, stored.blocks);
  uses = uses;
  tied = tied;
  weak_room = subst (λ n. HasWeakRoom n (callers_of f) w) (sym blocks) weak_room;
}

-- the rows in the slots that the weak table holds are as they were
abbrev pub KeepsHeld : Parts → Table → Type 0
KeepsHeld f t = (slot : ℕ) (key : Option Id) → get f.weak.held slot ≡ Some key
    → get t.rows slot ≡ get f.table.rows slot

pub stored-rows : (f : Parts) (t : Table) (ages : List ℕ) → IsStored f → t.blocks ≡ f.table.blocks
    → HasUses t.uses t.blocks → length f.ages ≡ length ages
    → ((slot : ℕ) (row : Handle Addr) → get t.rows slot ≡ Some row → IsStorable
    (record f { ages = ages }) slot row)
    → KeepsHeld f t → IsStored (record f { table = t; ages = ages })
stored-rows f t ages stored blocks uses long each keeps =
    stored-entries f t ages f.weak stored blocks uses long each stored.weak_room
    (λ slot key is. tied-agrees f (record f { table = t; ages = ages }) slot key (stored.tied slot key is)
    (keeps slot key is) (λ x e. refl))

stored-table : (f : Parts) (t : Table) → IsStored f → t.blocks ≡ f.table.blocks → HasUses t.uses t.blocks
    → ((slot : ℕ) (row : Handle Addr) → get t.rows slot ≡ Some row → IsStorable f slot row)
    → KeepsHeld f t → IsStored (with_table f t)
stored-table f t stored blocks uses each keeps = stored-rows f t f.ages stored blocks uses refl each keeps

-- an age is lowered
pub stored-lowered : (f : Parts) (slot g : ℕ) → IsStored f
    → IsStored (record f { ages = lowered f.ages slot g })
stored-lowered f slot g stored =
    stored-rows f f.table (lowered f.ages slot g) stored refl stored.uses
    (sym (length-set f.ages (clump_of slot) _)) (λ s row is.
    let was = storable f stored s row is in
    let low = lowered_below f.ages slot g s in
    record {
      target = was.target;
      second = was.second;
      paired = was.paired;
      attaching = was.attaching;
      target_age = λ x e. let old = was.target_age x e in omega arith;
      second_age = λ x e. let old = was.second_age x e in omega arith;
    }) (λ s key is. refl)

-- with a row that may be stored in a slot, all may be stored where they are
pub storable-put : (f : Parts) (slot : ℕ) (row : Handle Addr) → IsStored f → IsStorable f slot row
    → (s : ℕ) (r : Handle Addr) → get (insert f.table.rows slot row) s ≡ Some r → IsStorable f s r
storable-put f slot row stored may s r =
    insert_cases f.table.rows slot (λ j o. o ≡ Some r → IsStorable f j r) row s
    (λ is. subst (IsStorable f slot) (same_Some row r is) may) (λ apart is. storable f stored s r is)

stored-put : (f : Parts) (slot : ℕ) (row : Handle Addr) → IsStored f → IsStorable f slot row
    → get f.weak.held slot ≡ None → IsStored (with_table f (with_row f.table slot row))
stored-put f slot row stored may free =
    stored-table f (with_row f.table slot row) stored refl stored.uses (storable-put f slot row stored may)
    (λ s key is. get_beside f.table.rows slot row s
    (λ same. no_some key (sym is ∙ ap (get f.weak.held) same ∙ free)))

pub stored-end : (f : Parts) (slot : ℕ) → IsStored f → get f.weak.held slot ≡ None
    → IsStored (with_table f (without_row f.table slot))
stored-end f slot stored free =
    stored-table f (without_row f.table slot) stored refl stored.uses
    (λ s r. remove_cases f.table.rows slot (λ j o. o ≡ Some r → IsStorable f j r) s
    (λ none. absurd (no_some r (sym none))) (λ apart is. storable f stored s r is))
    (λ s key is. get_left f.table.rows slot s
    (λ same. no_some key (sym is ∙ ap (get f.weak.held) same ∙ free)))

-- the rows by identity
pub rows-put : (h : Heap) (rows : FinMap nat_cmp (Handle Addr)) (slot : ℕ) (row : Handle Addr)
    → rows_by_id h (insert rows slot row) ≡ insert (rows_by_id h rows) slot (rename_handle (id_at h) row)
rows-put h rows slot row =
    let after = insert (rows_by_id h rows) slot (rename_handle (id_at h) row) in
    same_numbers _ _ (λ s. rows-get h (insert rows slot row) s
    ∙ insert_cases rows slot (λ j o. option_map (rename_handle (id_at h)) o ≡ get after j) row s
    (sym (get_inserted (rows_by_id h rows) slot _))
    (λ apart. sym (rows-get h rows s) ∙ sym (get_beside (rows_by_id h rows) slot _ s apart)))

pub rows-end : (h : Heap) (rows : FinMap nat_cmp (Handle Addr)) (slot : ℕ)
    → rows_by_id h (remove rows slot) ≡ remove (rows_by_id h rows) slot
rows-end h rows slot =
    same_numbers _ _ (λ s. rows-get h (remove rows slot) s
    ∙ remove_cases rows slot
    (λ j o. option_map (rename_handle (id_at h)) o ≡ get (remove (rows_by_id h rows) slot) j) s
    (sym (get_removed (rows_by_id h rows) slot))
    (λ apart. sym (rows-get h rows s) ∙ sym (get_left (rows_by_id h rows) slot s apart)))

module _ (f : Parts) (m : Machine) (view : machine_of f ≡ m) where
  machine-put : (slot : Slot) (row : Handle Addr) → get f.weak.held slot.0 ≡ None
      → machine_of (with_table f (with_row f.table slot.0 row))
      ≡ record m {
        state = with_handle m.state slot (rename_handle (name_in m.names) row);
        table = with_row f.table slot.0 row;
      }
  machine-put slot row free =
      (λ i. record (machine_of f) {
        state = record (state_of f) {
          handles = (ap (rows_by_id f.heap) (unheld-put f.table.rows f.weak.held slot.0 row free)
              ∙ rows-put f.heap (unheld f.table.rows f.weak.held) slot.0 row
              ∙ ap (λ g. insert (rows_by_id f.heap (unheld f.table.rows f.weak.held)) slot.0
              (rename_handle g row)) (sym (names-are f.heap))) i;
          weak = weak-put f.heap f.table.rows f.weak.held slot.0 row free i;
        };
        table = with_row f.table slot.0 row;
      })
      ∙ ap (λ (n : Machine). record n {
        state = with_handle n.state slot (rename_handle (name_in n.names) row);
        table = with_row f.table slot.0 row;
      }) view

  pub machine-end : (slot : Slot) → get f.weak.held slot.0 ≡ None → machine_of
      (with_table f (without_row f.table slot.0))
      ≡ record m { state = without_handle m.state slot; table = without_row f.table slot.0 }
  machine-end slot free =
      (λ i.
      record (machine_of f) {
        state = record (state_of f) {
          handles = (ap (rows_by_id f.heap) (unheld-end f.table.rows f.weak.held slot.0)
              ∙ rows-end f.heap (unheld f.table.rows f.weak.held) slot.0) i;
          weak = weak-end f.heap f.table.rows f.weak.held slot.0 free i;
        };
        table = without_row f.table slot.0;
      })
      ∙ ap (λ (n : Machine). record n {
        state = without_handle n.state slot;
        table = without_row f.table slot.0;
      }) view

-- only a dependent row has a secondary
attaching : (k : Kind) (e : Extra Addr) (x : Addr) → fits k e ≡ true → secondary_of e ≡ Some x
    → role_of k e ≡ attaches
attaching k nothing x fit is = absurd (no_some x (sym is))
attaching k (strength s) x fit is = absurd (no_some x (sym is))
attaching k (count c) x fit is = absurd (no_some x (sym is))
attaching k (secondary o) x fit is = ap (λ j. role_of j (secondary o)) (fits_dependent k o fit)

-- a row that may be stored in the words of the store may be stored in its parts
module _ (f : Parts) (m : Machine) (view : machine_of f ≡ m) (stored : IsStored f) where
  is_there : (o : Option Addr) (x : Addr) → IsNamed m.names o → o ≡ Some x → IsSome (get m.names x.0)
  is_there o x named is = subst (IsNamed m.names) is named

  aged : (slot : ℕ) (o : Option Addr) (x : Addr) → IsNamed m.names o
      → IfSome o (λ a. age_of m.ages slot ≤ (object_named m a).generation) → o ≡ Some x
      → age_of f.ages slot ≤ generation_at (object_at f.heap) x
  aged slot o x named low is =
      let known = is_there o x named is in
      let here : age_of m.ages slot ≤ (object_named m x).generation =
      subst (λ p. IfSome p (λ a. age_of m.ages slot ≤ (object_named m a).generation)) is low in
      subst (λ g. age_of f.ages slot ≤ g) (sym (generation-is f m view stored x known))
      (subst (λ ages. age_of ages slot ≤ (object_named m x).generation)
      (sym (ap (λ (n : Machine). n.ages) view)) here)

  pub object : (o : Option Addr) (x : Addr) → IsNamed m.names o → o ≡ Some x
      → is_object (object_at f.heap) x ≡ true
  object o x named is = known_object f.heap x
      (subst (λ (n : Machine). IsSome (get n.names x.0)) (sym view) (is_there o x named is))

  may-store : (slot : Slot) (row : Handle Addr) → MayBeStored (seen_by m) slot row
      → IsStorable f slot.0 row
  may-store slot row may = record {
    target = λ x is. object row.target x may.target is;
    second = λ x is. object (secondary_of row.extra) x may.secondary is;
    paired = may.paired;
    attaching = λ x is. attaching row.kind row.extra x may.fits is;
    target_age = λ x is. aged slot.0 row.target x may.target may.target_age is;
    second_age = λ x is. aged slot.0 (secondary_of row.extra) x may.secondary may.secondary_age is;
  }

-- a table with that row
pub row-put : (f : Parts) (m : Machine) → machine_of f ≡ m → IsStored f
    → (slot : Slot) (row : Handle Addr)
    → get f.weak.held slot.0 ≡ None → MayBeStored (seen_by m) slot row → (t : Table)
    → t ≡ with_row f.table slot.0 row
    → IsStored (with_table f t) × (machine_of (with_table f t)
    ≡ record m { state = with_handle m.state slot (rename_handle (name_in m.names) row); table = t })
row-put f m view stored slot row free may t is =
    subst (λ u. IsStored (with_table f u) × (machine_of (with_table f u)
    ≡ record m { state = with_handle m.state slot (rename_handle (name_in m.names) row); table = u }))
    (sym is) (
      stored-put f slot.0 row stored (may-store f m view stored slot row may) free,
      machine-put f m view slot row free,
    )

-- a live slot has a row
module _ (f : Parts) (m : Machine) (view : machine_of f ≡ m) where
  handle-read : (slot : Slot) → handle_at m.state slot ≡ cond (is_none (get f.weak.held slot.0))
      (option_map (rename_handle (id_at f.heap)) (get f.table.rows slot.0)) None
  handle-read slot = ap (λ (n : Machine). handle_at n.state slot) (sym view)
      ∙ handles-get f.heap f.table.rows f.weak.held slot.0

  -- a slot that the weak table does not hold has the handle of its row, and one that it holds has none
  pub row-read : (slot : Slot) → get f.weak.held slot.0 ≡ None
      → handle_at m.state slot ≡ option_map (rename_handle (id_at f.heap)) (get f.table.rows slot.0)
  row-read slot free = handle-read slot ∙ ap (λ o. cond (is_none o)
      (option_map (rename_handle (id_at f.heap)) (get f.table.rows slot.0)) None) free

  pub held-read : (slot : Slot) → IsSome (get f.weak.held slot.0) → handle_at m.state slot ≡ None
  held-read slot held = handle-read slot ∙ by (get f.weak.held slot.0) held
    where
      by : (o : Option (Option Id)) → IsSome o
          → cond (is_none o) (option_map (rename_handle (id_at f.heap)) (get f.table.rows slot.0)) None ≡ None
      by None is = absurd (subst T (sym is) tt)
      by (Some key) is = refl

  -- and the weak table does not hold the slot of a handle, nor one that is none of its in the machine
  pub live-free : (slot : Slot) → IsSome (handle_at m.state slot) → get f.weak.held slot.0 ≡ None
  live-free slot live = by (get f.weak.held slot.0) refl
    where
      by : (o : Option (Option Id)) → get f.weak.held slot.0 ≡ o → get f.weak.held slot.0 ≡ None
      by None is = is
      by (Some key) is = absurd (subst T (sym (sym (ap is_some (held-read slot (ap is_some is))) ∙ live)) tt)

  pub not-held : (slot : Slot) → get m.state.weak slot.0 ≡ None → get f.weak.held slot.0 ≡ None
  not-held slot none = by (get f.weak.held slot.0) refl
    where
      by : (o : Option (Option Id)) → get f.weak.held slot.0 ≡ o → get f.weak.held slot.0 ≡ None
      by None is = is
      by (Some key) is = absurd (no_some (entry_named (id_at f.heap) (get f.table.rows slot.0) key)
          (sym (ap (option_map (entry_named (id_at f.heap) (get f.table.rows slot.0))) is)
          ∙ sym (weak-get f.heap f.table.rows f.weak.held slot.0)
          ∙ ap (λ (n : Machine). get n.state.weak slot.0) view ∙ none))

  pub live-row : (slot : Slot) → IsSome (handle_at m.state slot) → IsSome (get f.table.rows slot.0)
  live-row slot live = sym (is_some-map (rename_handle (id_at f.heap)) (get f.table.rows slot.0))
      ∙ sym (ap is_some (row-read slot (live-free slot live))) ∙ live

  none_from : (o : Option (Handle Addr)) → option_map (rename_handle (id_at f.heap)) o ≡ None → o ≡ None
  none_from None is = refl
  none_from (Some row) is = absurd (no_some (rename_handle (id_at f.heap) row) is)

  pub vacant-row : (slot : Slot) → handle_at m.state slot ≡ None → get m.state.weak slot.0 ≡ None
      → get f.table.rows slot.0 ≡ None
  vacant-row slot none free =
      none_from (get f.table.rows slot.0) (sym (row-read slot (not-held slot free)) ∙ none)

  -- the use of a block
  pub use-read : (block : ℕ) (u : Option BlockUse) → use_of m.state block ≡ u → get f.table.uses block ≡ u
  use-read block u is = ap (λ (n : Machine). use_of n.state block) view ∙ is

  pub kind-read : (slot : Slot) (kind : Kind) → use_of m.state (block_of slot) ≡ Some (handles_of kind)
      → kind_at f.table (slot.0 / ROWS) ≡ kind
  kind-read slot kind is = ap kind_in (use-read (slot.0 / ROWS) (Some (handles_of kind)) is)

-- blocks come into use, or go out of it, and the rows stay
grown_rows : (t : Table) (k : Kind) (g : Grown) → (grown_by t k g).rows ≡ t.rows
grown_rows t k Zero = refl
grown_rows t k (One b) = refl
grown_rows t k (Two b d) = refl
grown_rows t k (Back b) = refl

grown_blocks : (t : Table) (k : Kind) (g : Grown) → (grown_by t k g).blocks ≡ t.blocks
grown_blocks t k Zero = refl
grown_blocks t k (One b) = refl
grown_blocks t k (Two b d) = refl
grown_blocks t k (Back b) = refl

pub stored-same : (f : Parts) (t : Table) → IsStored f → t.rows ≡ f.table.rows → t.blocks ≡ f.table.blocks
    → HasUses t.uses t.blocks → IsStored (with_table f t)
stored-same f t stored rows blocks uses = stored-table f t stored blocks uses
    (λ slot row is. storable f stored slot row (sym (ap (λ m. get m slot) rows) ∙ is))
    (λ slot key is. ap (λ m. get m slot) rows)

within_insert : {A : Type 0} (m : FinMap nat_cmp A) (k most : ℕ) (v : A) → (1 ≤ k) × (k ≤ most)
    → ((b : ℕ) → IsSome (get m b) → (1 ≤ b) × (b ≤ most)) → (b : ℕ) → IsSome (get (insert m k v) b)
    → (1 ≤ b) × (b ≤ most)
within_insert m k most v new old b =
    insert_cases m k (λ j o. IsSome o → (1 ≤ j) × (j ≤ most)) v b (λ is. new) (λ apart. old b)

-- a block without a use gets one
use_added : (w : BlockUse → ℕ) (m : FinMap nat_cmp BlockUse) (b : ℕ) (u : BlockUse) → get m b ≡ None
    → sum_by w (values (insert m b u)) ≡ sum_by w (values m) + w u
use_added w m b u none =
    omega (arith, sum-insert w m b u, ap (share w) none)

-- the blocks that a kind needs to grow
needed : (k : Kind) → blocks_needed k ≡ one_paired (handles_of k) + 1
needed k = by (is_paired k)
  where
    by : (paired : Bool) → ◌≡◌ {A = ℕ} (cond paired 2 1) (cond paired 1 0 + 1)
    by true = refl
    by false = refl

abbrev HasGoodUses : Table → Type 0
HasGoodUses t = HasUses t.uses t.blocks

grown_uses : (t : Table) (k : Kind) (g : Grown) → IsGrowth t k g → HasGoodUses t
    → HasGoodUses (grown_by t k g)
grown_uses t k Zero grows uses = elim grows [ ]
grown_uses t k (One b) grows uses = record {
  within = within_insert t.uses b t.blocks (handles_of k) (grows.1.low, grows.1.high) uses.within;
  extras = (let known = use_added one_paired t.uses b (handles_of k) grows.1.unused in
      let also = use_added one_extra t.uses b (handles_of k) grows.1.unused in
      omega (arith, needed k, grows.0, uses.extras, known, also));
}
grown_uses t k (Two b d) grows uses =
    let more = insert t.uses b (handles_of k) in
    let unused : get more d ≡ None =
    get_beside t.uses b (handles_of k) d (λ same. let low = grows.2.low in omega arith) ∙ grows.2.unused in
    record {
      within = within_insert more d t.blocks extra_data (omega (arith, grows.2.low), grows.2.high)
          (within_insert t.uses b t.blocks (handles_of k) (grows.1.low, grows.1.high) uses.within);
      extras = omega (
        arith,
        needed k,
        grows.0,
        uses.extras,
        use_added one_paired t.uses b (handles_of k) grows.1.unused,
        use_added one_extra t.uses b (handles_of k) grows.1.unused,
        use_added one_paired more d extra_data unused,
        use_added one_extra more d extra_data unused,
      );
    }
grown_uses t k (Back b) grows uses = elim grows [ ]

pub stored-grown : (f : Parts) (t : Table) (k : Kind) → IsStored f → (r : Result Grown Full)
    → IfOk r (IsGrowth f.table k) → IfOk r (λ g. t ≡ grown_by f.table k g) → OnErr r (t ≡ f.table)
    → IsStored (with_table f t)
stored-grown f t k stored (Ok g) grows after kept =
    stored-same f t stored (ap (λ (s : Table). s.rows) after ∙ grown_rows f.table k g)
    (ap (λ (s : Table). s.blocks) after ∙ grown_blocks f.table k g)
    (subst HasGoodUses (sym after) (grown_uses f.table k g grows stored.uses))
stored-grown f t k stored (Err e) grows after kept =
    stored-same f t stored (ap (λ (s : Table). s.rows) kept) (ap (λ (s : Table). s.blocks) kept)
    (subst HasGoodUses (sym kept) stored.uses)

-- the machine sees the blocks in use
grown_seen : (f : Parts) (m : Machine) → machine_of f ≡ m → (k : Kind) (g : Grown) → IsGrowth f.table k g
    → machine_of (with_table f (grown_by f.table k g))
    ≡ record m { state = with_growth m.state k g; table = grown_by f.table k g }
grown_seen f m view k Zero grows = elim grows [ ]
grown_seen f m view k (One b) grows = ap (λ (n : Machine).
    record n { state = with_growth n.state k (One b); table = grown_by f.table k (One b) }) view
grown_seen f m view k (Two b d) grows = ap (λ (n : Machine).
    record n { state = with_growth n.state k (Two b d); table = grown_by f.table k (Two b d) }) view
grown_seen f m view k (Back b) grows = elim grows [ ]

pub machine-grown : (f : Parts) (m : Machine) → machine_of f ≡ m → (t : Table) (k : Kind)
    → (r : Result Grown Full) → IfOk r (IsGrowth f.table k) → IfOk r (λ g. t ≡ grown_by f.table k g)
    → IfOk r (λ g. machine_of (with_table f t) ≡ record m { state = with_growth m.state k g; table = t })
machine-grown f m view t k (Ok g) grows after =
    subst (λ u. machine_of (with_table f u) ≡ record m { state = with_growth m.state k g; table = u })
    (sym after) (grown_seen f m view k g grows)
machine-grown f m view t k (Err e) grows after = tt

-- a block that has lost its kind
back_within : (m : FinMap nat_cmp BlockUse) (k most : ℕ) → ((b : ℕ) → IsSome (get m b) → (1 ≤ b) × (b ≤ most))
    → (b : ℕ) → IsSome (get (remove m k) b) → (1 ≤ b) × (b ≤ most)
back_within m k most old b =
    remove_cases m k (λ j o. IsSome o → (1 ≤ j) × (j ≤ most)) b (λ is. absurd (subst T (sym is) tt))
    (λ apart. old b)

no_extra : (o : Option BlockUse) → is_single o ≡ true → share one_extra o ≡ 0
no_extra None single = refl
no_extra (Some (handles_of k)) single = refl
no_extra (Some extra_data) single = absurd (true≢false (sym single))

no_pair : (o : Option BlockUse) → is_single o ≡ true → share one_paired o ≡ 0
no_pair None single = refl
no_pair (Some (handles_of k)) single = by (is_paired k) single
  where
    by : (paired : Bool) → not paired ≡ true → ◌≡◌ {A = ℕ} (cond paired 1 0) 0
    by true is = absurd (true≢false (sym is))
    by false is = refl
no_pair (Some extra_data) single = refl

pub stored-back : (f : Parts) (t : Table) (k : Kind) (block : ℕ) → IsStored f
    → is_single (get f.table.uses block) ≡ true → t ≡ without_block f.table k block
    → IsStored (with_table f t)
stored-back f t k block stored single is =
    subst (λ u. IsStored (with_table f u)) (sym is)
    (stored-same f (without_block f.table k block) stored refl refl (record {
      within = back_within f.table.uses block f.table.blocks stored.uses.within;
      extras = (let known = no_extra (get f.table.uses block) single in
          let none = no_pair (get f.table.uses block) single in
          let also = sum-remove one_paired f.table.uses block in
          omega (arith, stored.uses.extras, known, none, also, sum-remove one_extra f.table.uses block));
    }))

-- a block of handles with extra data has lost its kind, and a data block its use
pub stored-back-pair : (f : Parts) (t : Table) (k : Kind) (block extra : ℕ) → IsStored f → is_paired k ≡ true
    → get f.table.uses block ≡ Some (handles_of k) → get f.table.uses extra ≡ Some extra_data
    → t ≡ without_block (without_data f.table extra) k block → IsStored (with_table f t)
stored-back-pair f t k block extra stored paired of_kind extra_is is =
    let left = remove f.table.uses extra in
    let apart : block ≢ extra = λ same.
    (let clash : Some (handles_of k) ≡ Some extra_data =
    sym of_kind ∙ ap (get f.table.uses) same ∙ extra_is in cc) in
    let beside : get left block ≡ Some (handles_of k) = get_left f.table.uses extra block apart ∙ of_kind in
    let one : ◌≡◌ {A = ℕ} (one_paired (handles_of k)) 1 = ap (λ (b : Bool). let n : ℕ = cond b 1 0 in n) paired in
    subst (λ u. IsStored (with_table f u)) (sym is)
    (stored-same f (without_block (without_data f.table extra) k block) stored refl refl (record {
      within = back_within left block f.table.blocks
          (back_within f.table.uses extra f.table.blocks stored.uses.within);
      extras = (let paired_left = sum-taken one_paired f.table.uses extra extra_data extra_is in
          let extra_left = sum-taken one_extra f.table.uses extra extra_data extra_is in
          let paired_gone = sum-taken one_paired left block (handles_of k) beside in
          let extra_gone = sum-taken one_extra left block (handles_of k) beside in
          omega (arith, stored.uses.extras, one, paired_left, extra_left, paired_gone, extra_gone));
    }))

-- a block that is none of the table's has no use
pub kind-outside : (f : Parts) (m : Machine) → machine_of f ≡ m → IsStored f → (block : ℕ)
    → ((1 ≤ block) × (block ≤ f.table.blocks) → ⊥) → None ≡ kind_in_use (use_of m.state block)
kind-outside f m view stored block out =
    sym (ap kind_in_use (no_use (get f.table.uses block) (λ is. out (stored.uses.within block is))))
    ∙ ap (λ (n : Machine). kind_in_use (use_of n.state block)) view

single_kind : (k : Kind) → is_paired k ≡ false → is_single (Some (handles_of k)) ≡ true
single_kind k is = ap not is

-- all slots of a block are free
pub block-single : (f : Parts) (m : Machine) → machine_of f ≡ m → (k : Kind) (block : ℕ) → is_paired k ≡ false
    → use_of m.state block ≡ Some (handles_of k) → is_single (get f.table.uses block) ≡ true
block-single f m view k block single is =
    ap (λ (n : Machine). is_single (use_of n.state block)) view ∙ ap is_single is ∙ single_kind k single

-- a row is put twice into one slot
pub put_again : (t : Table) (slot : ℕ) (a b : Handle Addr)
    → with_row (with_row t slot a) slot b ≡ with_row t slot b
put_again t slot a b = ap (λ rows. record t { rows = rows }) (put_twice t.rows slot a b)

pub live-is : (t : Table) (slot : ℕ) → IsSome (get t.rows slot) → get t.rows slot ≡ Some (live_at t slot)
live-is t slot live = some_or (get t.rows slot)
    (record { kind = kind.Short; target = None; extra = nothing }) live

pub live-put : (t : Table) (slot : ℕ) (row : Handle Addr) → live_at (with_row t slot row) slot ≡ row
live-put t slot row = ap (λ o. unwrap_or o (record { kind = kind.Short; target = None; extra = nothing }))
    (get_inserted t.rows slot row)

-- the row of a live slot with another target, and then with another extra
module _ (t : Table) (slot : ℕ) {k : Kind} (kind : (live_at t slot).kind ≡ k) {u : Table}
    (target : Option Addr) (first : u ≡ with_row t slot (record (live_at t slot) { target = target })) where
  between : live_at u slot ≡ record (live_at t slot) { target = target }
  between = ap (λ x. live_at x slot) first ∙ live-put t slot (record (live_at t slot) { target = target })

  pub still-live : IsSome (get u.rows slot)
  still-live = ap (λ (x : Table). is_some (get x.rows slot)) first
      ∙ ap is_some (get_inserted t.rows slot (record (live_at t slot) { target = target }))

  pub still-fits : (e : Extra Addr) → fits k e ≡ true → fits (live_at u slot).kind e ≡ true
  still-fits e fit = ap (λ j. fits j e) (ap (λ (h : Handle Addr). h.kind) between ∙ kind) ∙ fit

  pub rewritten : (v : Table) (e : Extra Addr) → v ≡ with_row u slot (record (live_at u slot) { extra = e })
      → v ≡ with_row t slot (record { kind = k; target = target; extra = e })
  rewritten v e second =
      second ∙ (λ i. with_row (first i) slot (record (between i) { extra = e }))
      ∙ put_again t slot (record (live_at t slot) { target = target })
      (record (live_at t slot) { target = target; extra = e })
      ∙ ap (λ j. with_row t slot (record { kind = j; target = target; extra = e })) kind

-- the row of a live slot with another extra, and then with another target
module _ (t : Table) (slot : ℕ) {k : Kind} (kind : (live_at t slot).kind ≡ k) {u : Table}
    (e : Extra Addr) (first : u ≡ with_row t slot (record (live_at t slot) { extra = e })) where
  beside : live_at u slot ≡ record (live_at t slot) { extra = e }
  beside = ap (λ x. live_at x slot) first ∙ live-put t slot (record (live_at t slot) { extra = e })

  pub beside-live : IsSome (get u.rows slot)
  beside-live = ap (λ (x : Table). is_some (get x.rows slot)) first
      ∙ ap is_some (get_inserted t.rows slot (record (live_at t slot) { extra = e }))

  pub retargeted : (v : Table) (target : Option Addr)
      → v ≡ with_row u slot (record (live_at u slot) { target = target })
      → v ≡ with_row t slot (record { kind = k; target = target; extra = e })
  retargeted v target second =
      second ∙ (λ i. with_row (first i) slot (record (beside i) { target = target }))
      ∙ put_again t slot (record (live_at t slot) { extra = e })
      (record (live_at t slot) { target = target; extra = e })
      ∙ ap (λ j. with_row t slot (record { kind = j; target = target; extra = e })) kind

kind_mapped : (g : Addr → Id) (o : Option (Handle Addr)) → option_map (λ (h : Handle Id). h.kind)
    (option_map (rename_handle g) o) ≡ option_map (λ (h : Handle Addr). h.kind) o
kind_mapped g None = refl
kind_mapped g (Some row) = refl

module _ (f : Parts) (m : Machine) (view : machine_of f ≡ m) (slot : Slot) (k : Kind)
    (live : option_map (λ (h : Handle Id). h.kind) (handle_at m.state slot) ≡ Some k) where
  pub live-unheld : get f.weak.held slot.0 ≡ None
  live-unheld = live-free f m view slot
      (sym (is_some-map (λ (h : Handle Id). h.kind) (handle_at m.state slot)) ∙ ap is_some live)

  kinds : option_map (λ (h : Handle Addr). h.kind) (get f.table.rows slot.0) ≡ Some k
  kinds =
      sym (kind_mapped (id_at f.heap) (get f.table.rows slot.0))
      ∙ ap (option_map (λ (h : Handle Id). h.kind)) (sym (row-read f m view slot live-unheld)) ∙ live

  pub live-kinded : IsSome (get f.table.rows slot.0)
  live-kinded = sym (is_some-map (λ (h : Handle Addr). h.kind) (get f.table.rows slot.0)) ∙ ap is_some kinds

  pub live-kind : (live_at f.table slot.0).kind ≡ k
  live-kind =
      same_Some (live_at f.table slot.0).kind k
      (sym (ap (option_map (λ (h : Handle Addr). h.kind)) (live-is f.table slot.0 live-kinded)) ∙ kinds)
