-- What contracts see of the machine.
use Rattle.std.specs.Prelude.{◌≡◌, [], Some, refl}
use Rattle.std.specs.Coded.{Coded, code_by, coded×}
use Rattle.hd_model.specs.declared.data.Id.{Id}
use Rattle.hd_model.specs.State.{Numbers, State}
use Rattle.hd_commands.specs.Seen.{Seen}
use Rattle.hd_model.specs.Code.{numbers_code, state_code}

-- the numbers of a run, and the state that it came to
pub record MachineView : Type 0 where
  pub numbers : Numbers
  pub state : State

-- what commands see of the plain machine: it has no ages, and an identity is the name of its object
abbrev pub seen_by : MachineView → Seen Id (Unit {0})
seen_by j = record { numbers = j.numbers; state = j.state; ages = []; names = λ x. Some x; rest = tt }

-- the state becomes another, and the numbers stay
abbrev pub Becomes : MachineView → State → MachineView → Type 0
Becomes old after new = new ≡ record old { state = after }

abbrev pub machine_view_code : Coded MachineView
machine_view_code = code_by (Numbers × State) (coded× numbers_code state_code) (λ j. (j.numbers, j.state))
    (λ p. record { numbers = p.0; state = p.1 }) (λ _. refl)
