-- What an export comes to, by its status.
use Rattle.std.specs.Prelude.{◌≡◌, ℕ, ◌+◌, ◌<◌, ◌≤◌, Option, Some, None}
use Rattle.hd_model.specs.{declared.command.Cmd.Cmd, declared.data.Id.Id, declared.data.Kind.Kind, declared.data.Make.Make, declared.data.Reply.Reply, declared.data.Strength.Strength, Command.load_reply, Kinds.kind_number}
use Rattle.hd_host.specs.declared.fault.Fault.{Fault}
use Rattle.hd_host.specs.Calls.{FailsBy, FailsOf, HasReplied, RepliesOf}
use Rattle.hd_host.specs.View.{HostView, IsAsItWas}
use Rattle.hd_ends.specs.{Ends.EndView, Ends.TookTurn, Ends.busied, Ends.first_of, Ends.with_last, Opened.contexts_of}
use Rattle.hd_ends.specs.declared.end.End.{End}
use Rattle.hd_ends.specs.declared.end.End.TheVariants.{Own, Shared}
use Rattle.hdt_c.specs.{Arguments.IsMake, Arguments.number_of, Arguments.strength_number, Status.status_of}
use Rattle.hdt_c.specs.declared.status.TheConstants.{OK, CLOSED, ARGUMENT, BUSY}

-- From an open host to one after it, with a status. Fails says with which faults the call fails, Does what it comes
-- to where it is done, with which status, and Kept that no out parameter is written.
pub data Runs (Fails : HostView → Fault → Type 0) (Does : HostView → HostView → ℕ → Type 0) (Kept : Type 0)
    : HostView → HostView → ℕ → Type 0 where
  fails : (v w : HostView) (f : Fault) → Fails v f → IsAsItWas v w → Kept
      → Runs Fails Does Kept v w (status_of f)
  does : (v w : HostView) (status : ℕ) → Does v w status → Runs Fails Does Kept v w status

-- What an export comes to, at an end of a host of its own and at one of a shared host. Right says, of how
-- many contexts the end has, that the arguments are in range. Fails and Does are said by which context of
-- the host each of the end's is: the same where the host is its own. An end of a shared host may be busy,
-- once all looks that a call makes were in vain, with nothing done; or it has its turn, and the call runs
-- in the host that the last turn of all left.
module _ (Right : ℕ → Type 0) (Fails : (ℕ → ℕ) → HostView → Fault → Type 0)
    (Does : (ℕ → ℕ) → HostView → HostView → ℕ → Type 0) (Kept : Type 0) where
  pub data Comes : Option End → Option End → ℕ → Type 0 where
    closed : Kept → Comes None None CLOSED
    is_wrong : (e : End) → (Right (contexts_of e) → ⊥) → Kept → Comes (Some e) (Some e) ARGUMENT
    runs : (v w : HostView) (status : ℕ) → Right v.machine.numbers.callers
        → Runs (Fails (λ c. c)) (Does (λ c. c)) Kept v w status → Comes (Some (Own v)) (Some (Own w)) status
    busy : (e : EndView) → Right e.each → Kept → Comes (Some (Shared e)) (Some (Shared (busied e))) BUSY
    turned : (old new : EndView) (found leaves : HostView) (status : ℕ) → Right old.each
        → TookTurn old new found leaves
        → Runs (Fails (λ c. first_of old + c)) (Does (λ c. first_of old + c)) Kept (with_last found old.last) leaves
        status
        → Comes (Some (Shared old)) (Some (Shared new)) status

-- a call that has no out parameter, that cannot fail, or that takes no argument which may be out of range
abbrev pub KeepsNothing : Type 0
KeepsNothing = Unit {0}

abbrev pub NeverFails : HostView → Fault → Type 0
NeverFails v f = ⊥

abbrev pub AlwaysRight : ℕ → Type 0
AlwaysRight contexts = Unit {0}

-- a local or a static, and a context of so many with a local, and with two
abbrev pub IsLocal : ℕ → Type 0
IsLocal d = d < 16

abbrev pub HasLocal : ℕ → ℕ → ℕ → Type 0
HasLocal c d contexts = (c < contexts) × IsLocal d

abbrev pub HasLocals : ℕ → ℕ → ℕ → ℕ → Type 0
HasLocals c d e contexts = (c < contexts) × IsLocal d × IsLocal e

-- the arguments of a new object and of a new handle, a strength, and a kind
abbrev pub IsObject : ℕ → ℕ → ℕ → ℕ → ℕ → Type 0
IsObject c dst fields flags contexts = HasLocal c dst contexts × (fields ≤ 61) × (flags < 2)

abbrev pub IsNewHandle : ℕ → ℕ → ℕ → ℕ → ℕ → Type 0
IsNewHandle c kind target extra contexts =
    HasLocal c target contexts × ((made : Make) × IsMake made kind extra)

abbrev pub IsStrength : ℕ → Type 0
IsStrength number = (given : Strength) × (strength_number given ≡ number)

abbrev pub IsKind : ℕ → Type 0
IsKind number = (of : Kind) × (kind_number of ≡ number)

-- a command of a context fails, and one on a handle does
abbrev pub FailsIn : ℕ → Cmd → HostView → Fault → Type 0
FailsIn c command v f = FailsBy v c None command f

abbrev pub FailsAt : ℕ → ℕ → Cmd → HostView → Fault → Type 0
FailsAt c handle command v f = FailsOf v c (record { 0 = handle }) command f

-- a command of a context is done with a reply, and one on a handle is
abbrev pub Replies : ℕ → Cmd → Reply → HostView → HostView → ℕ → Type 0
Replies c command reply v w status = HasReplied v c None command reply w × (status ≡ OK)

abbrev pub RepliesAt : ℕ → ℕ → Cmd → Reply → HostView → HostView → ℕ → Type 0
RepliesAt c handle command reply v w status =
    RepliesOf v c (record { 0 = handle }) command reply w × (status ≡ OK)

-- a command of a context replies with something, of which some number is written and some status returned
abbrev pub Returns : {T : Type 0} → ℕ → Cmd → (T → Reply) → (T → ℕ → Type 0) → HostView → HostView → ℕ → Type 0
Returns {T} c command reply written v w status =
    (x : T) × HasReplied v c None command (reply x) w × written x status

-- it replies with what was loaded, of which the number is written, and one on a handle does
abbrev pub Loads : ℕ → Cmd → ℕ → HostView → HostView → ℕ → Type 0
Loads c command id = Returns c command load_reply (λ o status. (id ≡ number_of o) × (status ≡ OK))

abbrev pub LoadsAt : ℕ → ℕ → Cmd → ℕ → HostView → HostView → ℕ → Type 0
LoadsAt c handle command id v w status =
    (o : Option Id) × RepliesOf v c (record { 0 = handle }) command (load_reply o) w × (id ≡ number_of o)
    × (status ≡ OK)
