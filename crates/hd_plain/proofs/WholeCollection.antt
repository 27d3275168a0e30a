-- The passes of a collection, one after another, are one collection of the machine.
use Rattle.hd_model.proofs.Basics.{AllPairs, Bool, CollectsState, Contains, cases_lt, le-ltb, nat_le, nat_lt, not, ⊎_elim, ◌&&◌, ◌||◌, ◌≢◌, Decides, FinMap, IsKept, IsReached, IsSome, IsWellFormed, List, None, Numbers, Object, Option, Some, State, ap, arith, attaches, cond, filter, get, keys, length, long, nat_cmp, nat_tests, none-some, raised, refl, same_Some, scene_of, short, subst, survivor, sym, total_size, true, false, len, size_of, is_pinned, ℕ, ◌*◌, ◌+◌, ◌<◌, ◌^◌, ◌∙◌, ◌≡◌, ◌≤◌}
use Rattle.hd_model.proofs.Sums.{sum-many}
use Rattle.hd_model.specs.declared.data.Id.{Id}
use Rattle.hd_model.specs.declared.limits.TheConstants.{OLDEST}
use Rattle.std.specs.Option.{option_map_or}
use Rattle.hd_plain.specs.Inside.{Cleared, Settled, Swept, cleared_one, cleared_to, no_fates, no_losses, one_if, pass, settle_object, settled_one, settled_to, swept_one, swept_to, wakes, is_above, is_marked, AreFew, HavePassed, IsWalk, report_of}
use Rattle.hd_plain.specs.Collecting.{id_of}
use Rattle.hd_plain.specs.Marked.{Marked}
use Rattle.hd_maps.specs.StoredObjects.{AreFrom, IsYoungest}
use Rattle.hd_maps.specs.TableViews.{slots_of}
use Rattle.hd_maps.proofs.ListBuilds.{IsLive, Lists, keys_listed}
use Rattle.hd_plain.specs.declared.collecting.Changes.{Changes}
use Rattle.hd_plain.specs.declared.collecting.Decided.{Decided}
use Rattle.hd_plain.specs.declared.collecting.Fates.{Fates}
use Rattle.hd_plain.specs.declared.collecting.Losses.{Losses}
use Rattle.hd_plain.specs.declared.collecting.Walk.{Walk}
use Rattle.hd_plain.proofs.CollectedState.{collected, joining, joins_listed, joins_rise, old_kept, reported}
use Rattle.hd_plain.proofs.CollectionPasses.{dep_counts, entries_after, fates_after, handles_after, is_removed, is_stale, kept_counted, long_counts, losses_after, lost_as, objects_after, cond_none, settled_same, queue_settled, removed_counted, revived_counted, revives, settled_object, short_counts, stale_after, survives}
use Rattle.hd_plain.proofs.FreeSlots.{weak_low}
use Rattle.hd_plain.proofs.Passes.{filter_short, pass_same}
use Rattle.hd_plain.proofs.YoungObjects.{ListsYoung, rising_apart, young_lists}
use Rattle.hd_maps.proofs.SeenMaps.{few_keys, keys_length}

-- each object takes some of the cells
pub few_objects : (s : State) → total_size s < 2 ^ 32 → length (keys s.objects) < 2 ^ 32
few_objects s small =
    let many : 1 * len s.objects ≤ total_size s = sum-many size_of 1 (λ o. omega arith) s.objects in
    let names : length (keys s.objects) ≡ len s.objects = keys_length s.objects in
    omega (arith, many, names, small)

-- each slot of the weak table is in a block
pub few_entries : (n : Numbers) (s : State) → IsWellFormed n s → length (keys s.weak) ≤ slots_of n.blocks
few_entries n s w =
    let few : len s.weak ≤ slots_of n.blocks = few_keys s.weak (slots_of n.blocks) (weak_low n s w) in
    omega (arith, few, keys_length s.weak)

-- a count from none on
from_zero : {c n : ℕ} → c ≡ 0 + n → c ≡ n
from_zero e = omega (arith, e)

-- no generation falls, and none is raised above that of an older object
raised_more : (n g h : ℕ) → g ≤ h → raised n g ≤ raised n h
raised_more n g h low = grind (arith, nat_tests)

raised_low : (n g : ℕ) → g ≤ OLDEST → raised n g ≤ OLDEST
raised_low n g low = grind (arith, nat_tests)

-- an object of a generation above n is as it was
raised_above : (n g : ℕ) → n < g → raised n g ≡ g
raised_above n g low = grind (arith, nat_tests)

not_woken : (n : ℕ) (reached : Bool) (o : Object Id) → n < o.generation → wakes n reached o ≡ false
not_woken n reached o low =
    by o.registered (nat_le o.generation n) (below_false n o.generation low)
  where
    below_false : (n g : ℕ) → n < g → nat_le g n ≡ false
    below_false n g low = grind (arith, nat_tests)

    by : (a b : Bool) → b ≡ false → (a && (b && not reached)) ≡ false
    by true b is = ap (λ c. c && not reached) is
    by false b is = refl

survivor_same : (n : ℕ) (reached : Bool) (o : Object Id) → n < o.generation
    → survivor n (wakes n reached o) o ≡ o
survivor_same n reached o low = λ i. record {
  fields = o.fields;
  value = o.value;
  generation = raised_above n o.generation low i;
  registered = (ap (λ b. o.registered && not b) (not_woken n reached o low) ∙ and_true o.registered) i;
}
  where
    and_true : (b : Bool) → (b && true) ≡ b
    and_true true = refl
    and_true false = refl

module _ (n : ℕ) (reach kept : Id → Bool) where
  -- objects that a collection left are as old as those before, with a generation raised as theirs
  pub from_raised : (g : ℕ) (a b : FinMap nat_cmp (Object Id)) → AreFrom g a
      → ((k : ℕ) → get b k ≡ settled_object reach kept n k (get a k)) → AreFrom (raised n g) b
  from_raised g a b from left k p e = by (get a k) refl (sym (left k) ∙ e)
    where
      old : (o : Object Id) → get a k ≡ Some o → (c : Bool)
          → cond c (Some (survivor n (wakes n (reach (id_of k)) o) o)) None ≡ Some p
          → raised n g ≤ p.generation
      old o is true h =
          let same : raised n o.generation ≡ p.generation =
          ap (λ (q : Object Id). q.generation)
          (same_Some (survivor n (wakes n (reach (id_of k)) o) o) p h) in
          let more : raised n g ≤ raised n o.generation = raised_more n g o.generation (from k o is) in
          subst (λ q. raised n g ≤ q) same more
      old o is false h = absurd (none-some p h)

      never : (c : Bool) → ◌≡◌ {A = Option (Object Id)} (cond c None None) (Some p) → raised n g ≤ p.generation
      never true h = absurd (none-some p h)
      never false h = absurd (none-some p h)

      by : (o : Option (Object Id)) → get a k ≡ o → settled_object reach kept n k o ≡ Some p
          → raised n g ≤ p.generation
      by None is h = never (kept (id_of k)) h
      by (Some o) is h = old o is (kept (id_of k)) h

module _ (n : ℕ) (m : Numbers) (s u t : State) (w : IsWellFormed m s) (walk : Walk) (goes : IsWalk n s walk)
    (d : Decided) (reach_is : (x : Id) → Decides (is_above n s.objects d.reached x) (IsReached (scene_of s) n x))
    (kept_is : (x : Id) → Decides (is_above n s.objects d.kept x) (IsKept (scene_of s) n x)) (c : Changes)
    (rest : u ≡ record s { pinned = u.pinned }) (passed : HavePassed n walk d u t c) where
  abbrev reach : Id → Bool
  reach = is_above n s.objects d.reached

  abbrev kept : Id → Bool
  kept = is_above n s.objects d.kept

  abbrev ids : List ℕ
  ids = walk.ids.items

  abbrev slots : List ℕ
  slots = walk.slots.items

  abbrev weak_slots : List ℕ
  weak_slots = walk.entries.items

  -- the passes began with the state before
  abbrev first_handles : Cleared
  first_handles = cleared_to s.handles no_losses

  abbrev first_entries : Swept
  first_entries = swept_to s.weak 0

  abbrev first_objects : Settled
  first_objects = settled_to s.objects s.queue no_fates

  young_are : ListsYoung n s.objects ids
  young_are = young_lists n s.objects ids goes.ids

  -- of an object of no generation above n, what is marked says all
  marked_alone : (k : Marked) (q : ℕ) → Contains ids q → is_marked k (id_of q) ≡ is_above n s.objects k (id_of q)
  marked_alone k q h =
      let (o, is) = young_are.each q h in
      ap (λ b. b || is_marked k (id_of q))
      (sym (ap (λ z. option_map_or (λ (x : Object Id). nat_lt n x.generation) z false) is.0
      ∙ le-ltb n o.generation is.1))

  handles_passed : cleared_to t.handles c.losses ≡ pass (cleared_one reach kept) first_handles slots
  handles_passed = passed.handles
      ∙ (λ i. pass (cleared_one (is_above n (rest i).objects d.reached) (is_above n (rest i).objects d.kept))
      (cleared_to (rest i).handles no_losses) slots)

  entries_passed : swept_to t.weak c.swept ≡ pass (swept_one kept) first_entries weak_slots
  entries_passed = passed.entries
      ∙ (λ i. pass (swept_one (is_above n (rest i).objects d.kept)) (swept_to (rest i).weak 0) weak_slots)

  objects_passed : settled_to t.objects t.queue c.fates ≡ pass (settled_one n reach kept) first_objects ids
  objects_passed = passed.objects
      ∙ (λ i. pass (settled_one n (is_marked d.reached) (is_marked d.kept))
      (settled_to (rest i).objects (rest i).queue no_fates) ids)
      ∙ pass_same (settled_one n (is_marked d.reached) (is_marked d.kept)) (settled_one n reach kept) ids
      (λ k h e. settled_same (is_marked d.reached) (is_marked d.kept) n reach kept k (marked_alone d.reached k h)
      (marked_alone d.kept k h) e) first_objects

  apart_ids : AllPairs (λ x y. x ≢ y) ids
  apart_ids = rising_apart _ young_are.rising

  live : Lists (IsLive s.handles) slots
  live = keys_listed s.handles slots goes.slots

  held : Lists (λ k. IsSome (get s.weak k)) weak_slots
  held = keys_listed s.weak weak_slots goes.entries

  shorts : c.losses.short ≡ length (filter (λ q. lost_as reach kept short (get s.handles q)) slots)
  shorts = from_zero (ap (λ (e : Cleared). e.losses.short) handles_passed
      ∙ losses_after reach kept first_handles slots live (λ (l : Losses). l.short) short
      (short_counts reach kept))

  longs : c.losses.long ≡ length (filter (λ q. lost_as reach kept long (get s.handles q)) slots)
  longs = from_zero (ap (λ (e : Cleared). e.losses.long) handles_passed
      ∙ losses_after reach kept first_handles slots live (λ (l : Losses). l.long) long
      (long_counts reach kept))

  deps : c.losses.dep ≡ length (filter (λ q. lost_as reach kept attaches (get s.handles q)) slots)
  deps = from_zero (ap (λ (e : Cleared). e.losses.dep) handles_passed
      ∙ losses_after reach kept first_handles slots live (λ (l : Losses). l.dep) attaches
      (dep_counts reach kept))

  stales : c.swept ≡ length (filter (λ q. is_stale reach kept (get s.weak q)) weak_slots)
  stales = from_zero (ap (λ (e : Swept). e.count) entries_passed
      ∙ stale_after reach kept first_entries weak_slots held)

  -- a count of objects
  of_ids : (count : Fates → ℕ) (test : ℕ → Option (Object Id) → Bool)
      → ((e : Settled) (k : ℕ) (o : Option (Object Id))
      → count (option_map_or (settle_object n reach kept e k) o e).fates
      ≡ count e.fates + one_if (test k o)) → count no_fates ≡ 0
      → count c.fates ≡ length (filter (λ k. test k (get s.objects k)) ids)
  of_ids count test one none =
      from_zero (ap (λ (e : Settled). count e.fates) objects_passed
      ∙ fates_after reach kept n first_objects ids apart_ids count test one
      ∙ ap (λ z. z + length (filter (λ k. test k (get s.objects k)) ids)) none)

  keeps : c.fates.kept ≡ length (filter (λ k. survives reach kept n k (get s.objects k)) ids)
  keeps = of_ids (λ (f : Fates). f.kept) (survives reach kept n)
      (λ e k o. kept_counted reach kept n e k o) refl

  removes : c.fates.removed ≡ length (filter (λ k. is_removed reach kept n k (get s.objects k)) ids)
  removes = of_ids (λ (f : Fates). f.removed) (is_removed reach kept n)
      (λ e k o. removed_counted reach kept n e k o) refl

  revivals : c.fates.revived ≡ length (filter (λ k. revives reach kept n k (get s.objects k)) ids)
  revivals = of_ids (λ (f : Fates). f.revived) (revives reach kept n)
      (λ e k o. revived_counted reach kept n e k o) refl

  fewer : {x : ℕ} (test : ℕ → Bool) (xs : List ℕ) → x ≡ length (filter test xs) → x ≤ length xs
  fewer test xs is = let less = filter_short test xs in omega (arith, is, less)

  pub few : AreFew c
  few = record {
    kept = let a = fewer _ ids keeps in let b = goes.few_ids in omega (arith, a, b);
    removed = let a = fewer _ ids removes in let b = goes.few_ids in omega (arith, a, b);
    revived = let a = fewer _ ids revivals in let b = goes.few_ids in omega (arith, a, b);
    short = let a = fewer _ slots shorts in let b = goes.few_slots in omega (arith, a, b);
    long = let a = fewer _ slots longs in let b = goes.few_slots in omega (arith, a, b);
    dep = let a = fewer _ slots deps in let b = goes.few_slots in
        let e = fewer _ weak_slots stales in let f = goes.few_entries in omega (arith, a, b, e, f);
  }

  -- what is of a generation above n stays as it is
  still : (q : ℕ) → (Contains ids q → ⊥) → settled_object reach kept n q (get s.objects q) ≡ get s.objects q
  still q never = by (get s.objects q) refl
    where
      by : (o : Option (Object Id)) → get s.objects q ≡ o → settled_object reach kept n q o ≡ o
      by None e = cond_none (kept (id_of q))
      by (Some o) e =
          ⊎_elim
          (λ above.
          ap (λ b. cond b (Some (survivor n (wakes n (reach (id_of q)) o) o)) None)
          (old_kept n reach kept s reach_is kept_is m w ids slots weak_slots young_are live held q o e above)
          ∙ ap (λ z. Some z) (survivor_same n (reach (id_of q)) o above))
          (λ low. absurd (never (young_are.all q o e low))) (cases_lt n o.generation)

  objects_left : (k : ℕ) → get t.objects k ≡ settled_object reach kept n k (get s.objects k)
  objects_left k = ap (λ (e : Settled). get e.objects k) objects_passed
      ∙ objects_after reach kept n first_objects ids apart_ids still k

  -- the least generation is raised as each is
  pub youngest_after : (g : ℕ) → IsYoungest g s.objects → IsYoungest (raised n g) t.objects
  youngest_after g is = record {
    low = raised_low n g is.low;
    from = from_raised n reach kept g s.objects t.objects is.from objects_left;
  }

  -- all in all it is a collection
  pub whole : ((x : ℕ) → get u.pinned x ≡ cond (is_pinned s.handles x) (get s.pinned x) None)
      → CollectsState n s t (report_of c)
  whole pinned =
      subst (λ r. CollectsState n s t r)
      (λ i. record {
        kept = sym keeps i;
        removed = sym removes i;
        short = sym shorts i;
        long = sym longs i;
        dep = sym deps i + sym stales i;
        revived = sym revivals i;
      })
      (collected n reach kept s reach_is kept_is
      (joining n reach kept s reach_is kept_is m w ids slots weak_slots young_are live held)
      (joins_listed n reach kept s reach_is kept_is m w ids slots weak_slots young_are live held)
      (joins_rise n reach kept s reach_is kept_is m w ids slots weak_slots young_are live held) _
      (reported n reach kept s reach_is kept_is m w ids slots weak_slots young_are live held) t
      (record {
        objects = objects_left;
        handles = λ slot. ap (λ (e : Cleared). get e.handles slot) handles_passed
            ∙ handles_after reach kept first_handles slots live slot;
        weak = λ slot. ap (λ (e : Swept). get e.held slot) entries_passed
            ∙ entries_after reach kept first_entries weak_slots held slot;
        pinned = λ k. ap (λ (q : State). get q.pinned k) passed.rest ∙ pinned k;
        rest = passed.rest ∙ (λ i. record (rest i) {
          objects = t.objects;
          handles = t.handles;
          weak = t.weak;
          pinned = sym (ap (λ (q : State). q.pinned) passed.rest) i;
          queue = (ap (λ (e : Settled). e.queue) objects_passed
              ∙ queue_settled reach kept n first_objects ids apart_ids) i;
        });
      }))
