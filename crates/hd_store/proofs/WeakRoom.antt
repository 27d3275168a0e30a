-- The room of the weak table: it is there with the first slot, and before that in a table no larger than a
-- script's.
use Rattle.hd_store.proofs.StoreWords.{Bool, FinMap, Grown, Id, IsSome, IsStored, Kind, List, LooksAt, Machine, None, Numbers, Option, Parts, SearchSteps, Slot, Some, State, WeakEntry, WeakTable, ap, arith, bucket_of, buckets_of, callers_of, cond, empty, entries, entry_named, false≢true, filter, get, get-empty, id_at, idle_found, idle_slot, inl, inr, is_in_bucket, is_some, key_found, len, length, machine_of, nat_cmp, option_map, refl, register_of, slot_of_key, subst, sym, true, ⊎_elim, ℕ, ◌*◌, ◌-◌, ◌<◌, ◌∙◌, ◌≡◌}
use Rattle.std.proofs.lemmas.Bool.{lt-leb}
use Rattle.std.specs.{Option.option_map_or, Prelude.nat_le}
use Rattle.hd_model.specs.Command.{adding_key, in_idle, in_new, is_refused}
use Rattle.hd_model.specs.declared.command.Cmd.TheVariants as cmd
use Rattle.hd_model.specs.declared.data.Grown.TheVariants.{Back, One, Two, Zero}
use Rattle.hd_model.specs.declared.data.Refusal.TheVariants as refusal
use Rattle.hd_model.specs.declared.limits.TheConstants.{BLOCKS, CALLERS}
use Rattle.hd_model.specs.Step.{with_growth}
use Rattle.hd_store.specs.Offers.{needs_new, needs_slot}
use Rattle.std.specs.FinMap.{empty_of_len}
use Rattle.hd_store.specs.Inside.{BringsTable, HasTable, IsWide, chosen}
use Rattle.hd_store.proofs.{EntryMaps.no_entries, EntryMaps.same_numbers, EntrySearch.weak-read}

none_some : {A : Type 0} (o : Option A) → o ≡ None → IsSome o → ⊥
none_some o none some = false≢true (sym (ap is_some none) ∙ some)

-- a map of nothing
pub none-empty : {A : Type 0} (m : FinMap nat_cmp A) → ((k : ℕ) → get m k ≡ None) → m ≡ empty
none-empty m none = same_numbers m empty (λ k. none k ∙ sym (get-empty nat_cmp k))

pub empty-none : {A : Type 0} (m : FinMap nat_cmp A) → len m ≡ 0 → (k : ℕ) → get m k ≡ None
empty-none m is k = ap (λ (n : FinMap nat_cmp _). get n k) (empty_of_len m is) ∙ get-empty nat_cmp k

-- with more blocks than a script's the number of buckets goes by these alone
pub large_buckets : (blocks a b : ℕ) → BLOCKS < blocks → buckets_of blocks a ≡ buckets_of blocks b
large_buckets blocks a b large =
    let past = lt-leb blocks BLOCKS large in
    ap (λ t. cond t (cond (nat_le a CALLERS) 4096 (16 * BLOCKS - 1)) (16 * blocks - 1)) past
    ∙ sym (ap (λ t. cond t (cond (nat_le b CALLERS) 4096 (16 * BLOCKS - 1)) (16 * blocks - 1)) past)

-- a state whose weak table has no slot
module _ (s : State) (unused : (slot : ℕ) → get s.weak slot ≡ None) where
  idle-unused : idle_slot s ≡ None
  idle-unused = by (idle_slot s) refl
    where
      by : (o : Option Slot) → idle_slot s ≡ o → idle_slot s ≡ None
      by None e = e
      by (Some slot) e =
          absurd (none_some (get s.weak slot.0) (unused slot.0) (ap is_some (idle_found s slot e)))

  key-unused : (key : Id) → slot_of_key s key ≡ None
  key-unused key = by (slot_of_key s key) refl
    where
      by : (o : Option Slot) → slot_of_key s key ≡ o → slot_of_key s key ≡ None
      by None e = e
      by (Some slot) e =
          absurd (none_some (get s.weak slot.0) (unused slot.0) (ap is_some (key_found s key slot e).held))

  -- a `cadd` needs a slot, and its search takes no step
  pub needs-unused : (caller k v : ℕ) (key : Id) → register_of s caller k ≡ Some key
      → needs_slot s caller (cmd.CAdd k v) ≡ true
  needs-unused caller k v key names =
      ap (λ o. needs_new (option_map_or (adding_key s) o (is_refused refusal.Null))) names
      ∙ ap (λ o. needs_new (option_map_or (λ _. is_refused refusal.Present) o
      (option_map_or (λ slot. in_idle slot key) (idle_slot s) (in_new key)))) (key-unused key)
      ∙ ap (λ o. needs_new (option_map_or (λ slot. in_idle slot key) o (in_new key))) idle-unused

  pub steps-unused : (n : ℕ) (key : Id) {before after : ℕ} → SearchSteps n s key before after → after ≡ before
  steps-unused n key {before} {after} is =
      let test : ℕ × Option (WeakEntry Id) → Bool = λ (e : ℕ × Option (WeakEntry Id)).
      is_in_bucket n (bucket_of n key) (option_map (λ (x : WeakEntry Id). x.key) e.1) in
      let nothing : length (filter test (entries s.weak)) ≡ 0 =
      ap (λ (w : FinMap nat_cmp (Option (WeakEntry Id))). length (filter test (entries w)))
      (none-empty s.weak unused)
      ∙ ap (λ (es : List (ℕ × Option (WeakEntry Id))). length (filter test es)) no_entries in
      subst (λ o. LooksAt o (length (filter test (entries s.weak))) before after) (key-unused key) is
      ∙ omega (arith, nothing)

-- what a first entry brings is that of a store with the same numbers and weak table
pub brings-on : (m k : Machine) (o : Option WeakTable) → k.numbers ≡ m.numbers
    → k.state.weak ≡ m.state.weak → BringsTable m o → BringsTable k o
brings-on m k None numbers weak brings = ⊎_elim
    (λ small. inl (omega (arith, small, ap (λ (n : Numbers). n.blocks) numbers)))
    (λ some. inr (λ none. some (λ slot. ap (λ (w : FinMap nat_cmp (Option (WeakEntry Id))). get w slot)
    (sym weak) ∙ none slot))) brings
brings-on m k (Some w) numbers weak brings = (
  record {
    blocks_are = brings.0.blocks_are ∙ ap (λ (n : Numbers). n.blocks) (sym numbers);
    buckets_are = brings.0.buckets_are ∙ ap (λ (n : Numbers). buckets_of n.blocks n.callers) (sym numbers);
  },
  brings.1,
  λ slot. ap (λ (w : FinMap nat_cmp (Option (WeakEntry Id))). get w slot) weak ∙ brings.2 slot,
)

pub grown-weak : (s : State) (kind : Kind) (g : Grown) → (with_growth s kind g).weak ≡ s.weak
grown-weak s kind Zero = refl
grown-weak s kind (One block) = refl
grown-weak s kind (Two block other) = refl
grown-weak s kind (Back block) = refl

module _ (f : Parts) (m : Machine) (view : machine_of f ≡ m) where
  -- the machine sees a slot exactly where the weak table has it
  pub weak-none : ((slot : ℕ) → get f.weak.held slot ≡ None) → (slot : ℕ) → get m.state.weak slot ≡ None
  weak-none none slot =
      weak-read f m view slot
      ∙ ap (option_map (entry_named (id_at f.heap) (get f.table.rows slot))) (none slot)

  pub held-none : ((slot : ℕ) → get m.state.weak slot ≡ None) → (slot : ℕ) → get f.weak.held slot ≡ None
  held-none none slot = by (get f.weak.held slot) refl
    where
      by : (o : Option (Option Id)) → get f.weak.held slot ≡ o → get f.weak.held slot ≡ None
      by None e = e
      by (Some key) e = absurd (none_some (get m.state.weak slot) (none slot) (ap is_some
          (weak-read f m view slot
          ∙ ap (option_map (entry_named (id_at f.heap) (get f.table.rows slot))) e)))

module _ (f : Parts) (stored : IsStored f) where
  -- a weak table with a slot has its room
  pub held-wide : (slot : ℕ) → IsSome (get f.weak.held slot) → IsWide f.table.blocks (callers_of f) f.weak
  held-wide slot held =
      ⊎_elim (λ wide. wide) (λ unused. absurd (none_some (get f.weak.held slot) (unused.1 slot) held))
      stored.weak_room

  module _ (m : Machine) (view : machine_of f ≡ m) where
    pub table-wide : HasTable m → IsWide f.table.blocks (callers_of f) f.weak
    table-wide has = ⊎_elim (λ wide. wide) (λ unused. absurd (⊎_elim
        (λ small. omega (arith, small, unused.0, ap (λ (n : Machine). n.numbers.blocks) view))
        (λ some. some (weak-none f m view unused.1)) has)) stored.weak_room

    -- the first entry brings the table with it
    same_held : (o : Option WeakTable) → BringsTable m o → (chosen f.weak o).held ≡ f.weak.held
    same_held None brings = refl
    same_held (Some w) brings =
        none-empty w.held brings.1 ∙ sym (none-empty f.weak.held (held-none f m view brings.2))

    pub brought-wide : (o : Option WeakTable) → BringsTable m o
        → IsWide f.table.blocks (callers_of f) (chosen f.weak o)
    brought-wide None brings = table-wide brings
    brought-wide (Some w) brings = record {
      blocks_are = brings.0.blocks_are ∙ ap (λ (n : Machine). n.numbers.blocks) (sym view);
      buckets_are = brings.0.buckets_are
          ∙ ap (λ (n : Machine). buckets_of n.numbers.blocks n.numbers.callers) (sym view);
    }

    module _ (o : Option WeakTable) (brings : BringsTable m o) where
      abbrev pub brought : Parts
      brought = record f { weak = chosen f.weak o }

      pub stored-brought : IsStored brought
      stored-brought = record {
        whole = stored.whole;
        identities = stored.identities;
        ages = stored.ages;
        cards = stored.cards;
        full = stored.full;
        room = stored.room;
        within = stored.within;
        limit = stored.limit;
        roots = stored.roots;
        serials = stored.serials;
        clumps = stored.clumps;
        blocks = stored.blocks;
        uses = stored.uses;
        tied = λ slot key is. stored.tied slot key
            (ap (λ (held : FinMap nat_cmp (Option Id)). get held slot) (sym (same_held o brings)) ∙ is);
        weak_room = inl (brought-wide o brings);
      }

      pub view-brought : machine_of brought ≡ m
      view-brought =
          ap (λ (held : FinMap nat_cmp (Option Id)).
          machine_of (record f { weak = record f.weak { held = held } }))
          (same_held o brings) ∙ view
