-- What an end that C holds owns.
use Rattle.std.specs.Prelude.{Option, Some, None}
use base.Fml.{Fml, feq}
use denote.RawPtr.{Ptr, null_ptr}
use Rattle.std.specs.declared.alloc.Global.{Global}
use Rattle.std.specs.contracts.impls.GlobalAllocator.TheImpl.{ghosts}
use Rattle.std_alloc.specs.Box.Ownership.{box_owns}
use Rattle.hd_ends.specs.declared.end.End.{End}
use Rattle.hd_ends.specs.contracts.end.End.{the_row}

-- nothing, where it is closed; else the box of the end
abbrev pub owned_at : Global → Ptr → Option End → Fml
owned_at a p None = feq Ptr p null_ptr
owned_at a p (Some e) = box_owns (ghosts.dealloc_token a) the_row p e
