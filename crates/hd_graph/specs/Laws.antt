-- What is so of what is seen of each state.
use Rattle.std.specs.Prelude.{◌≡◌, ◌↔◌, ℕ, not, Bool, List, is_some, Contains, Decides}
use Rattle.std.specs.FinMap.{get}
use Rattle.hd_model.specs.Collect.{CollectsState}
use Rattle.hd_model.specs.declared.data.Id.{Id}
use Rattle.hd_model.specs.declared.data.Report.{Report}
use Rattle.hd_model.specs.Heap.{Heap}
use Rattle.hd_model.specs.InUse.{IsGarbage}
use Rattle.hd_model.specs.Reach.{IsKept}
use Rattle.hd_model.specs.Scene.{scene_of}
use Rattle.hd_model.specs.State.{Numbers, State}
use Rattle.hd_model.specs.Table.{Table}
use Rattle.hd_model.specs.WellFormed.{IsWellFormed}
use Rattle.hd_model.specs.declared.limits.TheConstants.{OLDEST}
use Rattle.hd_seen.specs.Seen.{ObjectSeen, picture, view_seen}
use Rattle.hd_seen.specs.declared.Snapshot.{Snapshot}
use Rattle.hd_links.specs.Graph.{Rises, ids_of}
use Rattle.hd_graph.specs.Kept.{AreKept}

-- its objects come by rising identity
abbrev pub PicturesRise : Type 0
PicturesRise =
    (seen : Snapshot) (n : Numbers) (s : State) (ages : List ℕ) (h : Heap) (t : Table)
    → view_seen seen ≡ picture n s ages h t → Rises (ids_of seen)

-- a collection of all generations keeps an object that is marked, and one that is not is garbage: it is there
-- after the collection exactly where it is marked
pub record StaysAsMarked (s : State) (x : Id) (marked : Bool) : Type 0 where
  pub kept : Decides marked (IsKept (scene_of s) OLDEST x)
  pub garbage : Decides (not marked) (IsGarbage OLDEST s x)
  pub stays : (t : State) (r : Report) → CollectsState OLDEST s t r → is_some (get t.objects x.0) ≡ marked

-- so it is of each object, by a test of identities
abbrev pub AllStayAsMarked : State → List ObjectSeen → (ℕ → Bool) → Type 0
AllStayAsMarked s objects kept =
    (o : ObjectSeen) → Contains objects o → StaysAsMarked s o.id (kept o.id.0)

-- grey is exactly what a collection of all generations removes: what is kept of what is seen is what is kept
-- of the state
abbrev pub GreyIsRemoved : Type 0
GreyIsRemoved =
    (seen : Snapshot) (n : Numbers) (s : State) (ages : List ℕ) (h : Heap) (t : Table) (kept : ℕ → Bool)
    → IsWellFormed n s → view_seen seen ≡ picture n s ages h t
    → AreKept seen kept ↔ AllStayAsMarked s (picture n s ages h t).objects kept
