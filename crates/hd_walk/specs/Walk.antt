-- What a walk does with the nodes that it finds.
use Rattle.std.specs.Prelude.{◌≡◌, ℕ, ◌+◌, ◌==◌, Bool, true, false, List, length, slice_get, Option, Some, None, Contains, AllPairs, MatchOption}
use Rattle.hd_walk.specs.declared.trail.Found.{Found}
use Rattle.hd_walk.specs.Trail.{with_all}

-- all with a property, which are nodes, in an order
pub record AreTargets (Node Target : ℕ → Type 0) (Order : ℕ → ℕ → Type 0) (ys : List ℕ) : Type 0 where
  pub nodes : (y : ℕ) → Contains ys y → Node y
  pub only : (y : ℕ) → Contains ys y → Target y
  pub all : (y : ℕ) → Target y → Contains ys y
  pub ordered : AllPairs Order ys

-- each found node is one of the graph
abbrev pub AreNodes : (ℕ → Type 0) → List Found → Type 0
AreNodes Node found = (i : ℕ) (x : Found) → slice_get found i ≡ Some x → Node x.at

-- a node is visited at a turn: its targets are found, if they were not before
pub record Visits (Node Target : ℕ → Type 0) (Order : ℕ → ℕ → Type 0) (turn : ℕ) (old new : List Found)
    : Type 0 where
  pub targets : List ℕ
  pub are : AreTargets Node Target Order targets
  pub found : new ≡ with_all old targets (Some turn)

abbrev pub is_goal : Option ℕ → ℕ → Bool
is_goal None x = false
is_goal (Some goal) x = goal == x

-- the found nodes of some turns in a row are visited, and none of them is the goal
pub data HasWalked (Node : ℕ → Type 0) (Edge Order : ℕ → ℕ → Type 0) (goal : Option ℕ) (old : List Found)
    (first : ℕ) : List Found → ℕ → Type 0 where
  none : HasWalked Node Edge Order goal old first old first
  more : {found new : List Found} {turn : ℕ} (x : Found)
      → HasWalked Node Edge Order goal old first found turn → slice_get found turn ≡ Some x
      → is_goal goal x.at ≡ false → Visits Node (Edge x.at) Order turn found new
      → HasWalked Node Edge Order goal old first new (turn + 1)

-- the goal is found at a turn
pub record IsAtGoal (goal : Option ℕ) (found : List Found) (turn last : ℕ) : Type 0 where
  pub one : Found
  pub is_one : slice_get found last ≡ Some one
  pub at_goal : is_goal goal one.at ≡ true
  pub turn_is : last ≡ turn

-- and then no more are visited: the goal is the next one, or none is left
pub record HasEnded (Node : ℕ → Type 0) (Edge Order : ℕ → ℕ → Type 0) (goal : Option ℕ) (old : List Found)
    (first : ℕ) (new : List Found) (end : Option ℕ) : Type 0 where
  pub turn : ℕ
  pub walked : HasWalked Node Edge Order goal old first new turn
  pub ends : MatchOption end (turn ≡ length new) (IsAtGoal goal new turn)
