-- Handles over any names as programs have them, in the words of the machine.
use Rattle.hd_model.specs.State as model
use Rattle.hd_model.specs.Role.{Role, holds, short, long, attaches}
use Rattle.hd_model.specs.declared.handle.Extra.{Extra}
use Rattle.hd_model.specs.declared.handle.Extra.TheVariants.{Nothing, Strength, Secondary, Count}
use Rattle.hd_model.specs.declared.handle.Handle.{Handle}
use Rattle.hd_model.specs.declared.handle.Role.{Role as RoleName}
use Rattle.hd_model.specs.declared.handle.Role.TheVariants as played

abbrev pub extra_of : {N : Type 0} → Extra N → model.Extra N
extra_of Nothing = model.nothing
extra_of (Strength given) = model.strength given
extra_of (Secondary o) = model.secondary o
extra_of (Count c) = model.count c

abbrev pub handle_of : {N : Type 0} → Handle N → model.Handle N
handle_of h = record { kind = h.kind; target = h.target; extra = extra_of h.extra }

abbrev pub role_as : RoleName → Role
role_as played.Holds = holds
role_as played.Short = short
role_as played.Long = long
role_as played.Attaches = attaches
