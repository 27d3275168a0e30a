-- What is seen of a state that a run may reach, and what the rows of that state do.
use Rattle.std.specs.Prelude.{◌≡◌, ℕ, List, Some}
use Rattle.hd_model.specs.declared.data.Id.{Id}
use Rattle.hd_model.specs.declared.data.Kind.{Kind}
use Rattle.hd_model.specs.Heap.{Heap}
use Rattle.hd_model.specs.Role.{holds, attaches, role}
use Rattle.hd_model.specs.State.{Numbers, State, Handle, row_of, secondary_of}
use Rattle.hd_model.specs.Table.{Table}
use Rattle.hd_model.specs.WellFormed.{IsWellFormed}
use Rattle.hd_seen.specs.Seen.{Picture, picture}

-- a picture is that of a state which a run may reach
pub record IsPictureOf (p : Picture) (s : State) : Type 0 where
  pub numbers : Numbers
  pub ages : List ℕ
  pub heap : Heap
  pub table : Table
  pub well_formed : IsWellFormed numbers s
  pub shows : p ≡ picture numbers s ages heap table

-- a handle in a slot holds an object, and the row of a slot attaches an object to another
pub record HoldsIn (s : State) (slot : ℕ) (kind : Kind) (x : Id) : Type 0 where
  pub handle : Handle Id
  pub is_stored : row_of s slot ≡ Some handle
  pub kind_is : handle.kind ≡ kind
  pub holds_it : role handle ≡ holds
  pub target : handle.target ≡ Some x

pub record AttachesIn (s : State) (slot : ℕ) (x y : Id) : Type 0 where
  pub handle : Handle Id
  pub is_stored : row_of s slot ≡ Some handle
  pub attaches_it : role handle ≡ attaches
  pub target : handle.target ≡ Some x
  pub secondary : secondary_of handle.extra ≡ Some y
