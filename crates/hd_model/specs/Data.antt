-- The types of the plain data, passed on from one place. Declares nothing.
pub use Rattle.hd_model.specs.declared.data.Id.{Id}
pub use Rattle.hd_model.specs.declared.data.Addr.{Addr}
pub use Rattle.hd_model.specs.declared.data.Slot.{Slot}
pub use Rattle.hd_model.specs.declared.data.RootId.{RootId}
pub use Rattle.hd_model.specs.declared.data.Kind.{Kind}
pub use Rattle.hd_model.specs.declared.data.Strength.{Strength}
pub use Rattle.hd_model.specs.declared.data.Make.{Make}
pub use Rattle.hd_model.specs.declared.data.Grown.{Grown}
pub use Rattle.hd_model.specs.declared.data.Report.{Report}
pub use Rattle.hd_model.specs.declared.data.Refusal.{Refusal}
pub use Rattle.hd_model.specs.declared.data.Reply.{Reply}
pub use Rattle.hd_model.specs.declared.data.Entry.{Entry}
pub use Rattle.hd_model.specs.declared.command.Cmd.{Cmd}
pub use Rattle.hd_model.specs.declared.class.Class.{Class}
pub use Rattle.hd_model.specs.declared.operand.Operand.{Operand}
