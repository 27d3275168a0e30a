-- What the commands see of a machine: its parts, whatever its objects are referenced by.
use Rattle.std.specs.Prelude.{ℕ, ◌<◌, List, Option, option_map, unwrap_or, IsSome, IfSome}
use Rattle.std.specs.FinMap.{get}
use Rattle.hd_model.specs.declared.data.Id.{Id}
use Rattle.hd_model.specs.declared.limits.TheConstants.{REGISTERS}
use Rattle.hd_model.specs.State.{Numbers, State, Object, object_by_id, register_of}
use Rattle.hd_model.specs.WellFormed.{Names}

-- the numbers of a run, the state, the ages of the clumps (none in a machine without ages), the identity that
-- a name is read as, if it is the name of an object, and what else the machine promises to keep
pub record Seen (N R : Type 0) : Type 0 where
  pub numbers : Numbers
  pub state : State
  pub ages : List ℕ
  pub names : N → Option Id
  pub rest : R

-- the identity of a name, and of a name or null
abbrev pub name_in : {N R : Type 0} → Seen N R → N → Id
name_in p a = unwrap_or (p.names a) (record { 0 = 0 })

abbrev pub named_in : {N R : Type 0} → Seen N R → Option N → Option Id
named_in p o = option_map (name_in p) o

-- the name of an object, or null
abbrev pub IsNamed : {N R : Type 0} → Seen N R → Option N → Type 0
IsNamed p o = IfSome o (λ a. IsSome (p.names a))

-- a name is that of an object, which is there
abbrev pub IsThere : {N R : Type 0} → Seen N R → N → Type 0
IsThere p a = IsSome (p.names a) × IsSome (get p.state.objects (name_in p a).0)

-- the object of a name
abbrev pub object_named : {N R : Type 0} → Seen N R → N → Object Id
object_named p a = object_by_id p.state (name_in p a)

-- a caller of the run, and a register that it has
abbrev pub MayUse : {N R : Type 0} → Seen N R → ℕ → ℕ → Type 0
MayUse p caller d = (caller < p.numbers.callers) × (d < REGISTERS)

-- the same with another register, static or board index
abbrev pub MayUseBoth : {N R : Type 0} → Seen N R → ℕ → ℕ → ℕ → Type 0
MayUseBoth p caller d s = (caller < p.numbers.callers) × (d < REGISTERS) × (s < REGISTERS)

-- a register of a caller references an object that is there, or null
abbrev pub HasObject : {N R : Type 0} → Seen N R → ℕ → ℕ → Type 0
HasObject p caller o = Names p.state (register_of p.state caller o)
