-- Why an object lives: which anchor a shortest chain of edges to it begins at. Only the name `gcroot` is that
-- of the debugger's command; the anchors, the shortest chain and the choice among anchors are this project's
-- own.
use Rattle.std.specs.Prelude.{◌≡◌, ℕ, ◌≤◌, suc, ◌⊎◌, Option, Some, List, Contains}
use Rattle.hd_model.specs.Data.{Id, Reply}
use Rattle.hd_model.specs.declared.data.Reply.TheVariants as reply
use Rattle.hd_model.specs.State.{State}
use Rattle.hd_model.specs.Leads.{Leads}
use Rattle.hd_model.specs.Scene.{Scene, scene_of}
use Rattle.hd_model.specs.Reach.{IsEdge, IsHeld}

-- a chain of exactly k edges of E leads from x to y
pub data LeadsIn {N : Type 0} (E : N → N → Type 0) : ℕ → N → N → Type 0 where
  start : {x : N} → LeadsIn E 0 x x
  step : {k : ℕ} {x y z : N} → LeadsIn E k x y → E y z → LeadsIn E (suc k) x z

-- a shortest chain from an anchor to an object: it begins at `from`, the least by rank of those that such a
-- chain can begin at, and has this many edges
pub record IsShortest {N : Type 0} (E : N → N → Type 0) (Anchor : N → Type 0) (rank : N → ℕ) (goal from : N)
    (edges : ℕ) : Type 0 where
  pub anchor : Anchor from
  pub chain : LeadsIn E edges from goal
  pub shortest : (other : N) (k : ℕ) → Anchor other → LeadsIn E k other goal → edges ≤ k
  pub least : (other : N) → Anchor other → LeadsIn E edges other goal → rank from ≤ rank other

-- no chain leads from an anchor to an object
abbrev pub IsUnrooted : {N : Type 0} → (N → N → Type 0) → (N → Type 0) → N → Type 0
IsUnrooted {N} E Anchor goal = (from : N) → Anchor from → Leads E from goal → ⊥

-- an anchor of a scene with these statics: what a static references, what is queued for finalization, and
-- what a handle holds. What registers reference is none, and nor are objects of older generations.
pub data IsAnchor {N : Type 0} (statics : List (Option N)) (s : Scene N) (x : N) : Type 0 where
  in_static : Contains statics (Some x) → IsAnchor statics s x
  in_queue : Contains s.queue x → IsAnchor statics s x
  by_handle : IsHeld s.handle x → IsAnchor statics s x

-- the edges and the anchors of a state
abbrev pub EdgeOf : State → Id → Id → Type 0
EdgeOf s = IsEdge (scene_of s).object (scene_of s).handle

abbrev pub AnchorOf : State → Id → Type 0
AnchorOf s = IsAnchor s.statics (scene_of s)

-- a reply that states a shortest chain to an object by the anchor that it begins at and its number of edges
pub record ReturnsChain (s : State) (goal : Id) (r : Reply) : Type 0 where
  pub from : Id
  pub edges : ℕ
  pub shortest : IsShortest (EdgeOf s) (AnchorOf s) (λ (x : Id). x.0) goal from edges
  pub reply_is : r ≡ reply.Chain from edges

-- the reply to `gcroot` on an object
abbrev pub ReturnsRoot : State → Id → Reply → Type 0
ReturnsRoot s goal r =
    ReturnsChain s goal r ⊎ (IsUnrooted (EdgeOf s) (AnchorOf s) goal × (r ≡ reply.Unrooted))
