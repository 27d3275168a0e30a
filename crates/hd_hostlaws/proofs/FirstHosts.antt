-- A host that calls have left since it was opened is sound, so that what is referenced there is there.
use Rattle.hd_model.proofs.Basics.{List, Names, Numbers, ap, length, length-replicate, replicate, subst, ℕ, ◌*◌, ◌+◌, ◌∙◌, ◌≡◌}
use Rattle.hd_model.specs.declared.limits.TheConstants.{ROWS}
use Rattle.hd_store.proofs.SoundCalls.{sound-at-first}
use Rattle.hd_host.specs.Turns.{IsSoundHost}
use Rattle.hd_host.specs.View.{HostView}
use Rattle.hd_host.proofs.SoundTurns.{turns_keep_sound}
use Rattle.hd_hostlaws.specs.Calls.{Call, Calls, first, none}
use Rattle.hd_hostlaws.specs.Laws.{IsFirst, IsReached, ReferencedIsThere}
use Rattle.hd_hostlaws.proofs.CallCases.{each_call_is_a_turn}

first_sound : (v : HostView) → IsFirst v → IsSoundHost v
first_sound v is = record {
  machine = sound-at-first v.machine is.limits is.state;
  stamps = ap length is.stamps ∙ length-replicate (ROWS * (v.machine.numbers.blocks + 1)) 0;
}

pub calls_sound : {u w : HostView} {calls : List Call} → IsSoundHost u → Calls u calls w → IsSoundHost w
calls_sound sound none = sound
calls_sound {u = u} sound (first {v = v} {call = call} did rest) =
    calls_sound (turns_keep_sound u.machine.numbers.callers 0 u v sound (each_call_is_a_turn call u v did))
    rest

pub reached_sound : (v : HostView) → IsReached v → IsSoundHost v
reached_sound v reached = calls_sound (first_sound reached.opened reached.first) reached.came

pub referenced_is_there : ReferencedIsThere
referenced_is_there v reached =
    let names = (reached_sound v reached).machine.well_formed.names in record {
      locals = λ context d id is. subst (Names v.machine.state) is (names.registers context d);
      statics = λ k id is. subst (Names v.machine.state) is (names.statics k);
      targets = λ handle slot held id of there is.
          subst (Names v.machine.state) is (names.targets slot.0 held there);
    }
