-- What a pass over the handles of a kind costs, and what it leaves of the table as it was.
use Rattle.std.specs.Prelude.{◌≡◌, ℕ, ◌*◌, List, length, sum_by}
use Rattle.hd_model.specs.Data.{Kind}
use Rattle.hd_model.specs.declared.limits.TheConstants.{CLUMPS}
use Rattle.hd_model.specs.Ages.{visits, HasSoundAges}
use Rattle.hd_model.specs.Heap.{Basis, objects_of}
use Rattle.hd_model.specs.Names.{NamesObjects}
use Rattle.hd_model.specs.Table.{Table, chain_of, row_at}

-- the number of clumps that a collection of generation n visits in the chain of a kind
abbrev pub visits_of : Table → List ℕ → ℕ → Kind → ℕ
visits_of t ages n k = visits ages n (chain_of t k)

-- that of a list of kinds
abbrev pub visits_over : Table → List ℕ → ℕ → List Kind → ℕ
visits_over t ages n ks = sum_by (visits_of t ages n) ks

-- what a pass of a collection of generation n asks: each reference of a row is to an object, and there is an
-- age for each clump
pub record MayVisit (g : Basis) (t : Table) (ages : List ℕ) (n : ℕ) : Type 0 where
  pub generation : g.condemned ≡ n
  pub names : NamesObjects (objects_of g) (row_at t)
  pub covers : length ages ≡ CLUMPS * t.blocks

-- and that the ages rule out no clump that has to be visited
pub record MayVisitDue (g : Basis) (t : Table) (ages : List ℕ) (n : ℕ) : Type 0 where
  pub visit : MayVisit g t ages n
  pub sound : HasSoundAges (objects_of g) (row_at t) ages

-- only rows differ
pub record IsSameTable (old new : Table) : Type 0 where
  pub chains : new.chains ≡ old.chains
  pub uses : new.uses ≡ old.uses
  pub blocks : new.blocks ≡ old.blocks
