-- What private clauses alone cite.
use Rattle.std.specs.Prelude.{ℕ, Bool, List, if◌then◌else◌, [], ◌∷◌}
use Rattle.hd_seen.specs.{Seen.object_shown, declared.SeenObject.SeenObject}
use Rattle.hd_graph.specs.{declared.Clusters.Clusters, Graph.object_text}

-- an object as it is stored, where tests say whether it is pinned and whether it is kept
abbrev pub tested_text : Clusters → (ℕ → Bool) → (ℕ → Bool) → SeenObject → List ℕ
tested_text clusters pinned kept o = object_text clusters (pinned o.id.0) (kept o.id.0) (object_shown o)

abbrev pub registered_number : SeenObject → List ℕ
registered_number o = if o.registered then o.id.0 ∷ [] else []
