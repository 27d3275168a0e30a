-- What each command touches, and what stays.
use Rattle.std.specs.Prelude.{◌≡◌, false, None}
use Rattle.hd_model.specs.Data.{Cmd}
use Rattle.hd_model.specs.Rows.{Touched, row_of}
use Rattle.hd_model.specs.State.{State}

-- what a command touches
abbrev pub touched_by : Cmd → Touched
touched_by c = (row_of c).touches

-- what is not touched stays
pub record Untouched (by : Touched) (old new : State) : Type 0 where
  pub objects : by.objects ≡ false → new.objects ≡ old.objects
  pub handles : by.handles ≡ false → new.handles ≡ old.handles
  pub weak : by.weak ≡ false → new.weak ≡ old.weak
  pub registers : by.register ≡ None → new.registers ≡ old.registers
  pub handle_registers : by.handle_register ≡ None → new.handle_registers ≡ old.handle_registers
  pub statics : by.static ≡ None → new.statics ≡ old.statics
  pub board : by.board ≡ None → new.board ≡ old.board
  pub queue : by.queue ≡ false → new.queue ≡ old.queue
  pub pinned : by.pinned ≡ false → new.pinned ≡ old.pinned
  pub blocks : by.blocks ≡ false → new.blocks ≡ old.blocks
  pub serials : by.serials ≡ false → new.serials ≡ old.serials
