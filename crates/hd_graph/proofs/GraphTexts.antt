-- The text of objects by tests is that of the picture.
use Rattle.std.proofs.Common.{Bool, List, [], refl, ℕ, ◌++◌, ◌∷◌, ◌≡◌}
use Rattle.std.specs.Prelude.{flat_map, map}
use Rattle.hd_seen.specs.Seen.{ObjectSeen, Picture, object_shown}
use Rattle.hd_seen.specs.declared.SeenObject.{SeenObject}
use Rattle.hd_graph.specs.{Graph.object_text, Inside.tested_text}
use Rattle.hd_graph.specs.Marks.{is_pinned}
use Rattle.hd_graph.specs.declared.Clusters.{Clusters}

module _ (clusters : Clusters) (p : Picture) (pinned kept : ℕ → Bool)
    (same : (x : ℕ) → pinned x ≡ is_pinned p x) where
  pub objects_are : (xs : List SeenObject)
      → flat_map (tested_text clusters pinned kept) xs
      ≡ flat_map (λ (o : ObjectSeen). object_text clusters (is_pinned p o.id.0) (kept o.id.0) o)
      (map object_shown xs)
  objects_are [] = refl
  objects_are (x ∷ xs) =
      λ j. object_text clusters (same x.id.0 j) (kept x.id.0) (object_shown x) ++ objects_are xs j
