use Rattle.std.proofs.Common.{refl, sym}
use Rattle.hd_store.specs.Replies.{root_reply}
use Rattle.hd_host.proofs.{GrownParts.wide_out, OutOfMemory.null_root, OutOfMemory.root_ran_out, ReplyForms.not_rooted, ReplyForms.roots, SameHost.unchanged, GrownCalls.tried}
use Rattle.hd_host.proofs.host.Host.root_of.Goals as goal

pub returns-in_default-clause-does : goal.returns-in_default-clause-does
returns-in_default-clause-does c = (
  null_root c.args.self.now c.args.context c.args.object c.requires.context c.requires.local
      (sym c.in_default.ensures),
  unchanged c.args.self.now,
)

pub returns-in-Ok-clause-does : goal.returns-in-Ok-clause-does
returns-in-Ok-clause-does c =
    tried c.self.invariant c.self.view_is c.requires.context refl refl root_reply c.in-Ok.came c.in-Ok.ensures
    not_rooted roots _ _ c.settle.ensures

pub returns-in-Err-clause-does : goal.returns-in-Err-clause-does
returns-in-Err-clause-does c = (
  root_ran_out (wide_out c.self.inside.limit c.in-Err.ensures) c.self.view_is (sym c.in-Some.ensures),
  unchanged c.args.self.now,
)
