-- What is shown of the state to which a script leads.
use Rattle.std.specs.Prelude.{◌≡◌, ℕ, ◌+◌, Bool, List, [], ◌∷◌, ◌⊎◌, Contains, Option}
use Rattle.hd_graph.specs.Graph.{graph_text}
use Rattle.hd_graph.specs.Laws.{AllStayAsMarked}
use Rattle.hd_graph.specs.declared.Clusters.{Clusters}
use Rattle.hd_io.specs.Counts.{Rose}
use Rattle.hd_io.specs.Sink.{SinkView, Took}
use Rattle.hd_io.specs.Source.{SourceView, GaveCount}
use Rattle.hd_model.specs.declared.data.Id.{Id}
use Rattle.hd_model.specs.declared.limits.TheConstants.{MOST_BYTES}
use Rattle.hd_path.specs.Paths.{ArePathTexts}
use Rattle.hd_run.specs.Bounds.{Bounds}
use Rattle.hd_run.specs.Ending.{ReadBytes}
use Rattle.hd_show.specs.Heaps.{regions_of}
use Rattle.hd_show.specs.Laws.{GenerationsAddUp, ObjectsAreCountedOnce}
use Rattle.hd_show.specs.Show.{show_text}
use Rattle.hd_snapshot.specs.Laws.{IsParted}
use Rattle.hd_talk.specs.Machine.{picture_in}
use Rattle.hd_world.specs.World.{WorldView}
use Rattle.hd_view.specs.Script.{IsBadLine, RanTo}

-- the tables of a world: each object is in one region, the totals of generations are those of the regions, and
-- each object is counted once
pub record AreTables (w : WorldView) (text : List ℕ) : Type 0 where
  pub is_text : text ≡ show_text (picture_in w)
  pub parted : IsParted (picture_in w)
  pub generations : GenerationsAddUp (regions_of (picture_in w)) (picture_in w).regions
  pub objects : ObjectsAreCountedOnce (picture_in w)

-- for each object a chain to it, in the state of a world
abbrev pub AreChains : List Id → WorldView → List ℕ → Type 0
AreChains ids w text = ArePathTexts w.state ids text

-- the graph of a world, where a test says of each object whether a collection of all generations keeps it:
-- grey is exactly what such a collection removes
pub record IsGraph (clusters : Clusters) (w : WorldView) (text : List ℕ) : Type 0 where
  pub kept : ℕ → Bool
  pub marks : AllStayAsMarked w.state (picture_in w).objects kept
  pub is_text : text ≡ graph_text clusters (picture_in w) kept
  pub parted : IsParted (picture_in w)

-- there are more bytes than are taken, or a line of the script is at fault
abbrev pub RefusesScript : Option ℕ → SourceView → SourceView → Type 0
RefusesScript line old new =
    GaveCount old new (λ n. n ≡ MOST_BYTES + 1)
    ⊎ ((bad : ℕ) × ReadBytes old new (λ bytes. IsBadLine line bytes bad))

-- what a call promises that shows a text of the world to which a script leads, by what was seen of the source
-- and of the sink, each before it and after it
pub record ShowPromise (Shows : WorldView → List ℕ → Type 0) (b : Bounds) (line : Option ℕ)
    (old new : SourceView) (before after : SinkView) (status : ℕ) : Type 0 where
  -- on status 0 the text of that world is written
  pub shown : status ≡ 0 → (w : WorldView) × RanTo b line old new w
      × ((text : List ℕ) × Shows w text × Took before after text)
  -- each other status has a cause, no other is returned, and nothing is written but where a write fails
  pub script : status ≡ 3 → RefusesScript line old new × (after ≡ before)
  pub read : status ≡ 4 → Rose old.faults new.faults × (after ≡ before)
  pub write : status ≡ 5 → Rose before.faults after.faults
  pub memory : status ≡ 6 → after ≡ before
  pub statuses : Contains (0 ∷ 3 ∷ 4 ∷ 5 ∷ 6 ∷ []) status
