-- What private clauses say of the search for an object's root by levels: the objects from which chains of so
-- many edges lead to it.
use Rattle.std.specs.Prelude.{ℕ, List, map, Option, Some, ◌≡◌, cond, None, ◌≤◌, Bool, true, false, MatchOption, Decides}
use Rattle.std.specs.FinMap.{FinMap, entries, values}
use Rattle.std.specs.Borrow.{Bor}
use Rattle.std.specs.List.{list_any}
use Rattle.std.specs.Ordering.{nat_cmp}
use Rattle.hd_model.specs.Anchors.{AnchorOf, EdgeOf, LeadsIn}
use Rattle.hd_model.specs.Collect.{is_attaching}
use Rattle.hd_model.specs.Handles.{handle_of}
use Rattle.hd_model.specs.Role.{role}
use Rattle.hd_model.specs.State.{State, Handle, Object, WeakEntry, secondary_of}
use Rattle.hd_model.specs.declared.data.Id.{Id}
use Rattle.hd_maps.specs.LentValues.{lent_entry}
use Rattle.hd_maps.specs.TableViews.{Row}
use Rattle.hd_plain.specs.Collecting.{id_of}
use Rattle.hd_plain.specs.Inside.{attaching_at, held_by, is_marked}
use Rattle.hd_plain.specs.Marked.{Marked}

-- whether what is referenced is in a set; null is in none
abbrev pub is_in : (Id → Bool) → Option Id → Bool
is_in p None = false
is_in p (Some x) = p x

-- what is referenced, where it is in a set
abbrev pub among : (Id → Bool) → Option Id → Option Id
among p o = cond (is_in p o) o None

-- what a handle holds of a set
abbrev pub held_among : (Id → Bool) → Row → Option Id
held_among p h = among p (held_by (Some (handle_of h)))

-- an object, where a field of it references one of a set
abbrev pub holder : (Id → Bool) → ℕ × Object Id → Option Id
holder p e = cond (list_any (is_in p) e.1.fields) (Some (id_of e.0)) None

abbrev pub holder_in : (Id → Bool) → ℕ × Bor (Object Id) → Option Id
holder_in p e = holder p (lent_entry e)

-- the target of a handle that attaches one of a set to it
abbrev pub attacher : (Id → Bool) → Option (Handle Id) → Option Id
attacher p None = None
attacher p (Some h) = cond (is_attaching (role h)) (cond (is_in p (secondary_of h.extra)) h.target None) None

abbrev pub attacher_in : (Id → Bool) → Row → Option Id
attacher_in p h = attacher p (Some (handle_of h))

-- the key of an entry whose value is one of a set
abbrev pub attacher_at : (Id → Bool) → FinMap nat_cmp (Option (WeakEntry Id)) → ℕ → Option Id
attacher_at p held slot = attacher p (attaching_at held slot)

-- these are the handles of a state
abbrev pub AreHandles : State → List Row → Type 0
AreHandles s rows = map handle_of rows ≡ values s.handles

-- these are the objects of a state
abbrev pub AreObjects : State → List (ℕ × Bor (Object Id)) → Type 0
AreObjects s listed = map lent_entry listed ≡ entries s.objects

-- an edge leads from an object to one of a set
abbrev pub LeadsTo : State → (Id → Bool) → Id → Type 0
LeadsTo s p x = (y : Id) × ((p y ≡ true) × EdgeOf s x y)

-- what is marked is the objects from which chains of so many edges lead to a goal
abbrev pub IsLevel : State → Id → ℕ → Marked → Type 0
IsLevel s goal edges m = (x : Id) → Decides (is_marked m x) (LeadsIn (EdgeOf s) edges x goal)

-- no chain of fewer edges leads to a goal from an anchor
abbrev pub NoneNearer : State → Id → ℕ → Type 0
NoneNearer s goal edges = (x : Id) (k : ℕ) → AnchorOf s x → LeadsIn (EdgeOf s) k x goal → edges ≤ k

-- the least anchor of a set
pub record IsFirstAnchor (s : State) (p : Id → Bool) (k : ℕ) : Type 0 where
  pub anchor : AnchorOf s (id_of k)
  pub inside : p (id_of k) ≡ true
  pub least : (x : Id) → AnchorOf s x → p x ≡ true → k ≤ x.0

-- the least anchor of a set, if it has one
abbrev pub IsFirst : State → (Id → Bool) → Option ℕ → Type 0
IsFirst s p found = MatchOption found ((x : Id) → AnchorOf s x → p x ≡ true → ⊥) (IsFirstAnchor s p)
