-- The edges of a state between the numbers of identities.
use Rattle.std.specs.Prelude.{ℕ, IsSome}
use Rattle.std.specs.FinMap.{get}
use Rattle.hd_model.specs.Anchors.{EdgeOf}
use Rattle.hd_model.specs.State.{State}
use Rattle.hd_model.specs.WellFormed.{IsWellFormed}
use Rattle.hd_plain.specs.Attaching.{ListsAttached}
use Rattle.hd_plain.specs.Collecting.{id_of}
use Rattle.hd_plain.specs.MachineViews.{MachineView}
use Rattle.hd_plain.specs.declared.marks.Attached.{Attached}

abbrev pub leads_in : State → ℕ → ℕ → Type 0
leads_in s x y = EdgeOf s (id_of x) (id_of y)

-- a number is that of an object, of a well formed state whose attached objects are listed
pub record IsNode (j : MachineView) (a : Attached) (x : ℕ) : Type 0 where
  pub object : IsSome (get j.state.objects x)
  pub formed : IsWellFormed j.numbers j.state
  pub listed : ListsAttached j.state a

-- any order of targets will do
abbrev pub in_any_order : ℕ → ℕ → Type 0
in_any_order x y = Unit {0}
