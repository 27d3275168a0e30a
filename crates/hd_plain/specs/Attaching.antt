-- What is attached to each object, as the machine lists it.
use Rattle.std.specs.Prelude.{ℕ, List, [], option_map, unwrap_or, Contains}
use Rattle.std.specs.FinMap.{get}
use Rattle.hd_model.specs.declared.data.Id.{Id}
use Rattle.hd_model.specs.State.{State}
use Rattle.hd_model.specs.Reach.{IsAttached}
use Rattle.hd_model.specs.Scene.{scene_of}
use Rattle.hd_plain.specs.declared.marks.Attached.{Attached}

-- the secondaries that are listed by a target
abbrev pub secondaries : Attached → ℕ → List ℕ
secondaries a x = unwrap_or (option_map (λ list. list.items) (get a.lists x)) []

-- what is listed is exactly what the rows of a state attach
pub record ListsAttached (s : State) (a : Attached) : Type 0 where
  pub listed : (x y : Id) → Contains (secondaries a x.0) y.0 → IsAttached (scene_of s).handle x y
  pub all : (x y : Id) → IsAttached (scene_of s).handle x y → Contains (secondaries a x.0) y.0
