-- A closed one owns nothing, and an open one a host, which may go to another thread.
use mir.Raw.{raw}
use base.Shift.{Keyless}
use denote.Memory.{lone}
use denote.RawPtr.{Ptr}
use denote.Struct.Struct.{exits_of}
use denote.Struct.Owning.{shape, fields, to}
use denote.Param.Send.{IsSend, AllSend, owning_send, struct_send, sendable}
use Rattle.std.specs.Prelude.{Option, Some, None}
use Rattle.std.specs.declared.alloc.Global.{Global}
use Rattle.std.proofs.Crossing as heap
use Rattle.std_alloc.proofs.SendSync.{quiet, lies}
use Rattle.std.proofs.alloc.Global.TheSendSync as handle
use Rattle.hd_ends.specs.declared.end.End.{End}
use Rattle.hd_ends.specs.contracts.end.End as host
use Rattle.hd_ends.proofs.end.End.TheSendSync as host_sends
use Rattle.hd_held.specs.Held.{owned_at}
use Rattle.hd_held.specs.contracts.held.Held.{the_row, the_type}

owned_keyless : (a : Global) (p : Ptr) (x : Option End) → Keyless (owned_at a p x)
owned_keyless a p None = tt
owned_keyless a p (Some x) = (lies host.the_row host_sends.the_send p x, heap.frees.frees a (raw (lone host.the_row.mir)) p)

all : AllSend (fields the_type)
all = (search sendable, (handle.the_field_send, tt))

pub send : IsSend the_row
send =
    owning_send the_type all (λ d. owned_keyless d.alloc d.at d.value)
    (λ k. quiet (to the_type) (exits_of k (fields the_type)) ((struct_send (shape the_type) all).leaving k))
