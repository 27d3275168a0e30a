-- What a collection of all generations would keep of what is seen. An object stands for the number of its
-- identity.
use Rattle.std.specs.Prelude.{◌≡◌, ℕ, ◌⊎◌, Bool, true, List, flat_map, Option, Contains, Decides}
use Rattle.hd_model.specs.declared.data.Id.{Id}
use Rattle.hd_model.specs.Leads.{Leads}
use Rattle.hd_seen.specs.declared.SeenObject.{SeenObject}
use Rattle.hd_seen.specs.declared.Snapshot.{Snapshot}
use Rattle.hd_links.specs.Graph.{LeadsOn, anchors_of, numbers_of}

-- a root: an anchor, or what a register references
abbrev pub row_numbers : List (Option Id) → List ℕ
row_numbers row = flat_map numbers_of row

abbrev pub IsRoot : Snapshot → ℕ → Type 0
IsRoot s x = Contains (anchors_of s) x ⊎ Contains (flat_map row_numbers s.registers.items) x

-- a chain of edges leads to an object from a root
abbrev pub IsReached : Snapshot → ℕ → Type 0
IsReached s x = (r : ℕ) × (IsRoot s r × Leads (LeadsOn s) r x)

-- an object is registered for finalization, and the number of one that is
pub record IsRegistered (s : Snapshot) (x : ℕ) : Type 0 where
  pub object : SeenObject
  pub among : Contains s.objects.items object
  pub is : object.id.0 ≡ x
  pub registered : object.registered ≡ true

-- a chain of edges leads to an object from what is reached, or from what is registered and not reached
abbrev pub IsKept : Snapshot → ℕ → Type 0
IsKept s x =
    (r : ℕ) × ((IsReached s r ⊎ (IsRegistered s r × (IsReached s r → ⊥))) × Leads (LeadsOn s) r x)

-- a test says of each object whether it is kept
abbrev pub AreKept : Snapshot → (ℕ → Bool) → Type 0
AreKept s kept = (o : SeenObject) → Contains s.objects.items o → Decides (kept o.id.0) (IsKept s o.id.0)
