-- What `path` writes of an object of a state.
use Rattle.std.specs.Prelude.{◌≡◌, ℕ, ◌/◌, ◌%◌, ◌^◌, ◌<◌, ◌≤◌, List, [], ◌∷◌, ◌++◌, codes, decimal, length, Some, None, IsSome, Contains}
use Rattle.std.specs.FinMap.{get}
use Rattle.hd_model.specs.declared.data.Id.{Id}
use Rattle.hd_model.specs.declared.data.Kind.{Kind}
use Rattle.hd_model.specs.declared.data.Slot.{Slot}
use Rattle.hd_model.specs.Anchors.{EdgeOf, AnchorOf}
use Rattle.hd_model.specs.State.{State, static_of, field_of, object_by_id, last_serial}
use Rattle.hd_links.specs.Graph.{named}
use Rattle.hd_links.specs.Shown.{AttachesIn, HoldsIn}
use Rattle.hd_path.specs.Chains.{HasNoChain, IsLeastChain}
use Rattle.hd_path.specs.Lines.{AreLines, anchor_line, edge_line, path_line}
use Rattle.hd_path.specs.declared.names.Anchor.{Anchor}
use Rattle.hd_path.specs.declared.names.Anchor.TheVariants as anchor
use Rattle.hd_path.specs.declared.names.Edge.{Edge}
use Rattle.hd_path.specs.declared.names.Edge.TheVariants as edge

-- the edges and the anchors of `gcroot`, where an object stands for the number of its identity
abbrev pub LeadsBy : State → ℕ → ℕ → Type 0
LeadsBy s x y = EdgeOf s (named x) (named y)

abbrev pub BeginsAt : State → ℕ → Type 0
BeginsAt s x = AnchorOf s (named x)

abbrev pub InNoStatic : State → Id → Type 0
InNoStatic s x = (k : ℕ) → static_of s k ≡ Some x → ⊥

abbrev pub InNoField : State → Id → Id → Type 0
InNoField s x y = (i : ℕ) → field_of (object_by_id s x) i ≡ Some y → ⊥

-- what makes an object an anchor: the least static, where there is none the least slot, and else the queue
pub data IsAnchorName (s : State) (x : Id) : Anchor → Type 0 where
  by_static : {k : ℕ} → static_of s k ≡ Some x → ((j : ℕ) → j < k → static_of s j ≡ Some x → ⊥)
      → IsAnchorName s x (anchor.Static k)
  by_handle : {slot : Slot} {kind : Kind} → InNoStatic s x → HoldsIn s slot.0 kind x
      → ((j : ℕ) (k : Kind) → j < slot.0 → HoldsIn s j k x → ⊥) → IsAnchorName s x (anchor.Handle slot kind)
  by_queue : InNoStatic s x → ((j : ℕ) (k : Kind) → HoldsIn s j k x → ⊥) → Contains s.queue x
      → IsAnchorName s x anchor.Queue

-- by what an object leads to another: the least field, and where there is none the least slot, of a handle
-- or of the weak table
pub data IsEdgeName (s : State) (x y : Id) : Edge → Type 0 where
  by_field : {i : ℕ} → field_of (object_by_id s x) i ≡ Some y
      → ((j : ℕ) → j < i → field_of (object_by_id s x) j ≡ Some y → ⊥) → IsEdgeName s x y (edge.Field i)
  by_dependent : {slot : Slot} → InNoField s x y → AttachesIn s slot.0 x y
      → ((j : ℕ) → j < slot.0 → AttachesIn s j x y → ⊥) → IsSome (get s.handles slot.0)
      → IsEdgeName s x y (edge.Dependent slot)
  by_entry : {slot : Slot} → InNoField s x y → AttachesIn s slot.0 x y
      → ((j : ℕ) → j < slot.0 → AttachesIn s j x y → ⊥) → IsSome (get s.weak slot.0)
      → IsEdgeName s x y (edge.Entry slot)

-- the line of an edge of a state
pub record IsEdgeLine (s : State) (x y : ℕ) (line : List ℕ) : Type 0 where
  pub name : Edge
  pub is_name : IsEdgeName s (named x) (named y) name
  pub is : line ≡ edge_line (named x) name (named y)

-- an identity that its caller gave to an object
pub record WasMade (s : State) (x : Id) : Type 0 where
  pub serial : 1 ≤ x.0 % 2 ^ 32
  pub made : x.0 % 2 ^ 32 ≤ last_serial s (x.0 / 2 ^ 32)

-- what is written of an object: of the shortest chains from an anchor to it the least by identities, first to
-- last; or that there is none, that the object is gone, or that it was never made
pub data IsPathText (s : State) (goal : Id) : List ℕ → Type 0 where
  chain : {first : ℕ} {rest lines : List ℕ} {name : Anchor}
      → IsLeastChain (LeadsBy s) (BeginsAt s) goal.0 first rest → IsAnchorName s (named first) name
      → AreLines (IsEdgeLine s) first rest lines
      → IsPathText s goal
      (path_line goal (codes "edges " ++ decimal (length rest)) ++ anchor_line name (named first) ++ lines)
  unrooted : IsSome (get s.objects goal.0) → HasNoChain (LeadsBy s) (BeginsAt s) goal.0
      → IsPathText s goal (path_line goal (codes "unrooted"))
  gone : get s.objects goal.0 ≡ None → WasMade s goal → IsPathText s goal (path_line goal (codes "gone"))
  unknown : (WasMade s goal → ⊥) → IsPathText s goal (path_line goal (codes "unknown"))

-- the text of a list of objects
pub data ArePathTexts (s : State) : List Id → List ℕ → Type 0 where
  none : ArePathTexts s [] []
  more : {x : Id} {xs : List Id} {one rest : List ℕ} → IsPathText s x one → ArePathTexts s xs rest
      → ArePathTexts s (x ∷ xs) (one ++ rest)

abbrev pub WritesPaths : State → List Id → List ℕ → List ℕ → Type 0
WritesPaths s xs old new = (made : List ℕ) × (new ≡ old ++ made) × ArePathTexts s xs made
