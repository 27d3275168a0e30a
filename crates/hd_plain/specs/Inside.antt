-- What private clauses alone cite.
use Rattle.std.specs.Prelude.{ℕ, List, map, Option, Some, ◌≡◌, ◌==◌, cond, [], ◌∷◌, ◌++◌, None, ◌+◌, ◌<◌, ◌≤◌, Bool, true, false, length, ◌&&◌, nat_le, not, ◌≢◌, ◌^◌, Ok, ◌*◌, option_map, ◌⊎◌, Contains, nat_lt, replicate, Decides, flat_map, ◌||◌}
use Rattle.std.specs.FinMap.{FinMap, entries, get, insert, remove, keys}
use Rattle.std.specs.Ordering.{nat_cmp}
use Rattle.std.specs.Option.{option_map_or}
use Rattle.hd_model.specs.Anchors.{AnchorOf, EdgeOf}
use Rattle.hd_model.specs.Reach.{IsReached, IsRoot}
use Rattle.hd_model.specs.Scene.{scene_of}
use Rattle.hd_model.specs.declared.data.Id.{Id}
use Rattle.hd_model.specs.declared.data.Kind.{Kind}
use Rattle.hd_model.specs.declared.data.Grown.{Grown}
use Rattle.hd_model.specs.Leads.{IsClosure}
use Rattle.hd_model.specs.declared.data.Report.{Report}
use Rattle.hd_model.specs.State.{State, Handle, secondary_of, WeakEntry, Object, secondary, use_of, object_by_id, with_object, weak_handle}
use Rattle.hd_model.specs.Role.{role, Role, holds, short, long, attaches}
use Rattle.hd_model.specs.Collect.{is_attaching, loses, survivor}
use Rattle.hd_model.specs.declared.limits.TheConstants.{BLOCKS, OLDEST, REGISTERS, ROWS}
use Rattle.hd_plain.specs.declared.machine.Seats.{Seats}
use Rattle.hd_commands.specs.declared.done.Done.{Done}
use Rattle.hd_model.specs.declared.data.Grown.TheVariants.{Zero, One, Two, Back}
use Rattle.hd_model.specs.Command.{Outcome}
use Rattle.hd_model.specs.Step.{pinned_by}
use Rattle.hd_plain.specs.declared.marks.Attached.{Attached}
use Rattle.hd_plain.specs.declared.marks.Sight.{Sight}
use Rattle.std.specs.Borrow.{Bor}
use Rattle.hd_plain.specs.Attaching.{secondaries}
use Rattle.hd_plain.specs.declared.collecting.Fates.{Fates}
use Rattle.hd_plain.specs.declared.collecting.Losses.{Losses}
use Rattle.hd_plain.specs.Collecting.{id_of}
use Rattle.hd_maps.specs.declared.data.Edit.{Edit}
use Rattle.hd_plain.specs.Marked.{Marked}
use Rattle.hd_plain.specs.declared.collecting.Changes.{Changes}
use Rattle.hd_plain.specs.declared.collecting.Decided.{Decided}
use Rattle.hd_plain.specs.declared.collecting.Walk.{Walk}
use Rattle.hd_plain.specs.MachineViews.{Becomes, MachineView}
use Rattle.std.specs.FinMap as fin
use Rattle.hd_maps.specs.declared.data.Edit.TheVariants as edit
use Rattle.hd_maps.specs.StoredObjects.{edited}
use Rattle.hd_maps.specs.LentValues.{lent_entry}
use Rattle.hd_maps.specs.WeakSlots.{entry_in}
use Rattle.hd_plain.specs.Commands.{ComesTo}

-- the number of what a field references, if anything
abbrev pub nodes_in : Option Id → List ℕ
nodes_in None = []
nodes_in (Some x) = x.0 ∷ []

-- ---- the anchors of a state, as the machine reads them off lists

-- an anchor by its identity
abbrev pub IsAnchorId : State → ℕ → Type 0
IsAnchorId s y = AnchorOf s (record { 0 = y })

-- a queue as what is referenced
abbrev pub referenced : List Id → List (Option Id)
referenced ids = map (λ (x : Id). Some x) ids

-- ---- what is attached to each object, as the machine lists it

-- a target and a secondary, where both are there
abbrev pub pair_of : Option Id → Option Id → List (ℕ × ℕ)
pair_of None to = []
pair_of (Some from) None = []
pair_of (Some from) (Some to) = (from.0, to.0) ∷ []

-- the pair of a row
abbrev pub pair_in : Option (Handle Id) → List (ℕ × ℕ)
pair_in None = []
pair_in (Some h) = cond (is_attaching (role h)) (pair_of h.target (secondary_of h.extra)) []

-- the pairs of all rows
abbrev pub pairs_in : List (Option (Handle Id)) → List (ℕ × ℕ)
pairs_in [] = []
pairs_in (row ∷ rows) = pair_in row ++ pairs_in rows

-- the second parts of the pairs with a first part
abbrev pub seconds : ℕ → List (ℕ × ℕ) → List ℕ
seconds x [] = []
seconds x (p ∷ ps) = cond (p.0 == x) (p.1 ∷ seconds x ps) (seconds x ps)

-- the pairs were added to the lists
abbrev pub Adds : Attached → Attached → List (ℕ × ℕ) → Type 0
Adds a b ps = (x : ℕ) → secondaries b x ≡ secondaries a x ++ seconds x ps

-- ---- what a collection of the machine does to handles, entries and objects, each in one pass

-- nothing is lost yet
abbrev pub no_losses : Losses
no_losses = record { short = 0; long = 0; dep = 0 }

abbrev pub no_fates : Fates
no_fates = record { kept = 0; removed = 0; revived = 0 }

-- 1 for what is so, and 0 for what is not
abbrev pub one_if : Bool → ℕ
one_if b = cond b 1 0

-- what a step by number makes of something, for each of a list in turn
abbrev pub pass : {S : Type 0} → (S → ℕ → S) → S → List ℕ → S
pass step s [] = s
pass step s (k ∷ ks) = pass step (step s k) ks

-- ---- handles

-- a handle without its target, and without its secondary
abbrev pub emptied : Handle Id → Handle Id
emptied h = record {
  kind = h.kind;
  target = None;
  extra = cond (is_attaching (role h)) (secondary None) h.extra;
}

-- one handle more of a role lost its target
abbrev pub counted : Role → Losses → Losses
counted holds l = l
counted short l = record { short = l.short + 1; long = l.long; dep = l.dep }
counted long l = record { short = l.short; long = l.long + 1; dep = l.dep }
counted attaches l = record { short = l.short; long = l.long; dep = l.dep + 1 }

-- handles, and how many lost their targets
pub record Cleared : Type 0 where
  pub handles : FinMap nat_cmp (Handle Id)
  pub losses : Losses

abbrev pub cleared_to : FinMap nat_cmp (Handle Id) → Losses → Cleared
cleared_to handles losses = record { handles = handles; losses = losses }

-- after a slot
abbrev pub clear_handle : (reach kept : Id → Bool) → Cleared → ℕ → Handle Id → Cleared
clear_handle reach kept c slot h =
    cond (loses reach kept h)
    (cleared_to (insert c.handles slot (emptied h)) (counted (role h) c.losses)) c

abbrev pub cleared_one : (reach kept : Id → Bool) → Cleared → ℕ → Cleared
cleared_one reach kept c slot = option_map_or (clear_handle reach kept c slot) (get c.handles slot) c

-- ---- entries of the weak table

-- the weak table, and how many entries left it
pub record Swept : Type 0 where
  pub held : FinMap nat_cmp (Option (WeakEntry Id))
  pub count : ℕ

abbrev pub swept_to : FinMap nat_cmp (Option (WeakEntry Id)) → ℕ → Swept
swept_to held count = record { held = held; count = count }

abbrev pub sweep_entry : (kept : Id → Bool) → Swept → ℕ → WeakEntry Id → Swept
sweep_entry kept s slot e = cond (kept e.key) s (swept_to (insert s.held slot None) (s.count + 1))

abbrev pub swept_one : (kept : Id → Bool) → Swept → ℕ → Swept
swept_one kept s slot = option_map_or (sweep_entry kept s slot) (entry_in s.held slot) s

-- ---- objects

-- whether an object that is reached or not is to be resurrected by a collection of n
abbrev pub wakes : ℕ → Bool → Object Id → Bool
wakes n reached o = o.registered && (nat_le o.generation n && not reached)

-- the same of what is found at an identity
abbrev pub is_woken : ℕ → (Id → Bool) → FinMap nat_cmp (Object Id) → ℕ → Bool
is_woken n reach objects k = option_map_or (wakes n (reach (id_of k))) (get objects k) false

-- objects, the queue, and how many objects came to each fate
pub record Settled : Type 0 where
  pub objects : FinMap nat_cmp (Object Id)
  pub queue : List Id
  pub fates : Fates

abbrev pub settled_to : FinMap nat_cmp (Object Id) → List Id → Fates → Settled
settled_to objects queue fates = record { objects = objects; queue = queue; fates = fates }

abbrev pub keep_object : ℕ → Bool → Settled → ℕ → Object Id → Settled
keep_object n woken s k o = record {
  objects = insert s.objects k (survivor n woken o);
  queue = cond woken (s.queue ++ id_of k ∷ []) s.queue;
  fates = record {
    kept = s.fates.kept + one_if (nat_le o.generation n);
    removed = s.fates.removed;
    revived = s.fates.revived + one_if woken;
  };
}

abbrev pub remove_object : Settled → ℕ → Settled
remove_object s k = record {
  objects = remove s.objects k;
  queue = s.queue;
  fates = record { kept = s.fates.kept; removed = s.fates.removed + 1; revived = s.fates.revived };
}

abbrev pub settle_object : ℕ → (reach kept : Id → Bool) → Settled → ℕ → Object Id → Settled
settle_object n reach kept s k o =
    cond (kept (id_of k)) (keep_object n (wakes n (reach (id_of k)) o) s k o) (remove_object s k)

abbrev pub settled_one : ℕ → (reach kept : Id → Bool) → Settled → ℕ → Settled
settled_one n reach kept s k = option_map_or (settle_object n reach kept s k) (get s.objects k) s

-- ---- pinned addresses

-- without that of an identity that is outside a set
abbrev pub without_one : (Id → Bool) → FinMap nat_cmp ℕ → ℕ → FinMap nat_cmp ℕ
without_one p pinned k = cond (p (id_of k)) pinned (remove pinned k)

-- ---- what a command returns, and how it leaves the machine

-- so many callers have nothing in any register, and have made no object
pub record AreEmpty (callers : ℕ) (s : Seats) : Type 0 where
  pub callers_are : s.callers ≡ callers
  pub registers : s.registers.items ≡ replicate callers (replicate REGISTERS None)
  pub handle_registers : s.handle_registers.items ≡ replicate callers (replicate REGISTERS None)
  pub serials : s.serials.items ≡ replicate callers 0

-- a command that is never refused came to an outcome
abbrev pub Does : Outcome → MachineView → MachineView → Done → Type 0
Does wanted old new made = ComesTo wanted old new (Ok made)

-- a change of an object is made
abbrev pub Edits : MachineView → Id → Edit → MachineView → Type 0
Edits old id edit new = Becomes old (with_object old.state id (edited edit (object_by_id old.state id))) new

-- what the table needs to grow
abbrev pub Grows : MachineView → Kind → Grown → Type 0
Grows j kind Zero = Unit {0}
Grows j kind (One block) = (use_of j.state block ≡ None) × (block ≤ j.numbers.blocks)
Grows j kind (Two block other) =
    (use_of j.state block ≡ None) × (block ≤ j.numbers.blocks)
    × (use_of j.state other ≡ None) × (other ≤ j.numbers.blocks) × (block ≢ other)
Grows j kind (Back block) = ⊥

-- ---- a set of marked objects, and those of them whose edges are still to be followed

-- whether an object is marked
abbrev pub is_marked : Marked → Id → Bool
is_marked m x = fin.contains_key m.marked x.0

-- an object is marked from now on, and its edges are to be followed if it was not marked before
abbrev pub with_mark : Marked → ℕ → Marked
with_mark m id = cond (fin.contains_key m.marked id) m
    (record { marked = fin.insert m.marked id tt; left = m.left ++ id ∷ [] })

-- so is what is referenced, if anything
abbrev pub with_target : Marked → Option Id → Marked
with_target m None = m
with_target m (Some x) = with_mark m x.0

-- so are all of a list, in turn
abbrev pub with_marks : Marked → List ℕ → Marked
with_marks m [] = m
with_marks m (x ∷ xs) = with_marks (with_mark m x) xs

-- so are all that are referenced, in turn
abbrev pub with_targets : Marked → List (Option Id) → Marked
with_targets m [] = m
with_targets m (o ∷ os) = with_targets (with_target m o) os

-- so are all that lists reference, in turn
abbrev pub with_rows : Marked → List (List (Option Id)) → Marked
with_rows m [] = m
with_rows m (row ∷ rows) = with_rows (with_targets m row) rows

-- what is to be followed is marked, and the edges of all else that is marked lead to what is marked
pub record Awaits (E : Id → Id → Type 0) (m : Marked) : Type 0 where
  pub left : (x : Id) → Contains m.left x.0 → is_marked m x ≡ true
  pub followed : (x y : Id) → is_marked m x ≡ true → E x y → (is_marked m y ≡ true) ⊎ Contains m.left x.0

-- all edges were followed: what is marked is what chains lead to from what was
pub record Closes (E : Id → Id → Type 0) (old new : Marked) : Type 0 where
  pub closure : IsClosure E (is_marked old) (is_marked new)
  pub none_left : new.left ≡ []

-- n is m with the marks of J, each of which is to be followed if it is new
pub record Gains (J : ℕ → Type 0) (m n : Marked) : Type 0 where
  pub keeps : (x : Id) → is_marked m x ≡ true → is_marked n x ≡ true
  pub joins : (y : ℕ) → J y → fin.contains_key n.marked y ≡ true
  pub only : (x : Id) → is_marked n x ≡ true → (is_marked m x ≡ true) ⊎ J x.0
  pub stays : (y : ℕ) → Contains m.left y → Contains n.left y
  pub fresh : (x : Id) → is_marked n x ≡ true → (is_marked m x ≡ true) ⊎ Contains n.left x.0
  pub from : (y : ℕ) → Contains n.left y → Contains m.left y ⊎ J y
  pub even : fin.len n.marked + length m.left ≡ fin.len m.marked + length n.left

-- ---- what a collection marks before it follows edges

-- where it is to be resurrected by a collection of n
abbrev pub resurrected_at : ℕ → (Id → Bool) → FinMap nat_cmp (Object Id) → ℕ → Option Id
resurrected_at n reach objects k = cond (is_woken n reach objects k) (Some (id_of k)) None

-- what the handle in a slot pins
abbrev pub pinned_at : FinMap nat_cmp (Handle Id) → ℕ → Option Id
pinned_at handles slot = pinned_by (get handles slot)

abbrev pub is_holding : Role → Bool
is_holding holds = true
is_holding short = false
is_holding long = false
is_holding attaches = false

-- what a handle holds, and what the handle in a slot holds
abbrev pub held_by : Option (Handle Id) → Option Id
held_by None = None
held_by (Some h) = cond (is_holding (role h)) h.target None

abbrev pub held_at : FinMap nat_cmp (Handle Id) → ℕ → Option Id
held_at handles slot = held_by (get handles slot)

-- the entry in a slot of the weak table as a handle
abbrev pub attaching_at : FinMap nat_cmp (Option (WeakEntry Id)) → ℕ → Option (Handle Id)
attaching_at held slot = option_map (λ (e : WeakEntry Id). weak_handle (Some e)) (entry_in held slot)

-- ---- objects of generations above n, which a collection of n keeps and marks by nothing

-- whether an object is of a generation above n
abbrev pub is_older : ℕ → FinMap nat_cmp (Object Id) → Id → Bool
is_older n objects x = option_map_or (λ (o : Object Id). nat_lt n o.generation) (get objects x.0) false

-- no object is of a generation above the oldest
abbrev pub HasGenerations : FinMap nat_cmp (Object Id) → Type 0
HasGenerations objects = (id : ℕ) (o : Object Id) → get objects id ≡ Some o → o.generation ≤ OLDEST

-- what is referenced, where it is not of a generation above n
abbrev pub young : ℕ → FinMap nat_cmp (Object Id) → Option Id → Option Id
young n objects None = None
young n objects (Some x) = cond (is_older n objects x) None (Some x)

-- the same of a number
abbrev pub young_at : ℕ → FinMap nat_cmp (Object Id) → ℕ → Option Id
young_at n objects k = young n objects (Some (id_of k))

-- an edge to an object that is not of a generation above n
abbrev pub YoungEdge : ℕ → State → Id → Id → Type 0
YoungEdge n s x y = EdgeOf s x y × (is_older n s.objects y ≡ false)

-- whether an object is of a generation above n, or marked
abbrev pub is_above : ℕ → FinMap nat_cmp (Object Id) → Marked → Id → Bool
is_above n objects m x = is_older n objects x || is_marked m x

abbrev pub is_seen : Sight → Marked → Id → Bool
is_seen sight m x = is_above sight.n sight.objects.now m x

-- what the handle in a slot holds, where it is not of a generation above n
abbrev pub young_held : ℕ → FinMap nat_cmp (Object Id) → FinMap nat_cmp (Handle Id) → ℕ → Option Id
young_held n objects handles slot = young n objects (held_by (get handles slot))

-- an anchor that is not of a generation above n
abbrev pub IsYoungAnchor : ℕ → State → ℕ → Type 0
IsYoungAnchor n s y = IsAnchorId s y × (is_older n s.objects (id_of y) ≡ false)

-- an edge leads there from an object of a generation above n, and it is of none such
abbrev pub IsFromOlder : ℕ → State → ℕ → Type 0
IsFromOlder n s y = (x : Id) × ((is_older n s.objects x ≡ true) × YoungEdge n s x (id_of y))

-- what is marked before edges are followed: roots of a collection of n that are not of a generation above n,
-- and what edges from objects of such generations lead to
abbrev pub IsYoungRoot : ℕ → State → ℕ → Type 0
IsYoungRoot n s y =
    (IsRoot (scene_of s) n (id_of y) × (is_older n s.objects (id_of y) ≡ false)) ⊎ IsFromOlder n s y

-- the objects that are not of a generation above n, by identity
abbrev pub young_one : ℕ → ℕ × Object Id → List ℕ
young_one n e = cond (nat_lt n e.1.generation) [] (e.0 ∷ [])

abbrev pub young_in : ℕ → ℕ × Bor (Object Id) → List ℕ
young_in n e = young_one n (lent_entry e)

abbrev pub young_ids : ℕ → FinMap nat_cmp (Object Id) → List ℕ
young_ids n objects = flat_map (young_one n) (entries objects)

-- what edges from an object of a generation above n lead to, where it is of none such
abbrev pub edges_from : ℕ → FinMap nat_cmp (Object Id) → Attached → ℕ × Bor (Object Id) → List (Option Id)
edges_from n objects a e =
    cond (nat_lt n e.1.now.generation)
    (map (young n objects) e.1.now.fields ++ map (young_at n objects) (secondaries a e.0)) []

-- nothing is marked
abbrev pub no_marks : Marked
no_marks = record { marked = fin.empty; left = [] }

-- an identity as that of a root of a collection of n
abbrev pub IsRootId : ℕ → State → ℕ → Type 0
IsRootId n s y = IsRoot (scene_of s) n (id_of y)

-- what is marked is what a collection of n reaches beside objects of generations above n, and no edge of it
-- is left to follow
pub record HasReached (n : ℕ) (s : State) (m : Marked) : Type 0 where
  pub reached : (x : Id) → Decides (is_above n s.objects m x) (IsReached (scene_of s) n x)
  pub awaits : Awaits (YoungEdge n s) m
  pub none_left : m.left ≡ []

-- ---- what a collection goes over, and what its passes leave and count

-- the objects of no generation above n, and the slots of all handles and of the weak table
pub record IsWalk (n : ℕ) (s : State) (w : Walk) : Type 0 where
  pub ids : w.ids.items ≡ young_ids n s.objects
  pub slots : w.slots.items ≡ keys s.handles
  pub entries : w.entries.items ≡ keys s.weak
  pub few_ids : length w.ids.items < 2 ^ 32
  pub few_slots : length w.slots.items ≤ ROWS * (BLOCKS + 1)
  pub few_entries : length w.entries.items ≤ ROWS * (BLOCKS + 1)

-- state t is what the passes of a collection of n leave of state s, and these are what they count
pub record HavePassed (n : ℕ) (w : Walk) (d : Decided) (s t : State) (c : Changes) : Type 0 where
  pub handles : cleared_to t.handles c.losses
      ≡ pass (cleared_one (is_above n s.objects d.reached) (is_above n s.objects d.kept))
      (cleared_to s.handles no_losses) w.slots.items
  pub entries : swept_to t.weak c.swept
      ≡ pass (swept_one (is_above n s.objects d.kept)) (swept_to s.weak 0) w.entries.items
  pub objects : settled_to t.objects t.queue c.fates
      ≡ pass (settled_one n (is_marked d.reached) (is_marked d.kept))
      (settled_to s.objects s.queue no_fates) w.ids.items
  pub rest : t ≡ record s { objects = t.objects; handles = t.handles; weak = t.weak; queue = t.queue }

-- the counts fit 32 bits
pub record AreFew (c : Changes) : Type 0 where
  pub kept : c.fates.kept < 2 ^ 32
  pub removed : c.fates.removed < 2 ^ 32
  pub revived : c.fates.revived < 2 ^ 32
  pub short : c.losses.short < 2 ^ 32
  pub long : c.losses.long < 2 ^ 32
  pub dep : c.losses.dep + c.swept < 2 ^ 32

abbrev pub report_of : Changes → Report
report_of c = record {
  kept = c.fates.kept;
  removed = c.fates.removed;
  short = c.losses.short;
  long = c.losses.long;
  dep = c.losses.dep + c.swept;
  revived = c.fates.revived;
}
