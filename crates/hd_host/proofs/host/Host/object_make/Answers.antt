use Rattle.std.proofs.Common.{None, arith, subst}
use Rattle.hd_model.specs.declared.command.Cmd.TheVariants as cmd
use Rattle.hd_host.specs.Calls.{FailsBy}
use Rattle.hd_host.proofs.{GrownCalls.callers_by, GrownCalls.host_without, GrownParts.wide_out, OutOfMemory.new_ran_out, OutOfMemory.out_as_it_was, SameHost.unchanged}
use Rattle.hd_host.proofs.GrownWide.{host_makes, makes_numbers, makes_tried}
use Rattle.hd_host.proofs.host.Host.object_make.Goals as goal

pub no_serial_left-requires-clause-fields : goal.no_serial_left-requires-clause-fields
no_serial_left-requires-clause-fields c = omega (arith, c.count_of.ensures, c.requires.few)

pub returns-then-has_made_all-clause-does : goal.returns-then-has_made_all-clause-does
returns-then-has_made_all-clause-does c = (
  subst (λ n. FailsBy c.args.self.now c.args.context None (cmd.New c.args.dst n c.args.fin) c.no_serial_left.result)
      c.count_of.ensures (c.no_serial_left.ensures c.args.dst c.args.fin),
  unchanged c.args.self.now,
)

pub make_object-requires-clause-sources : goal.make_object-requires-clause-sources
make_object-requires-clause-sources c = c.requires.sources

pub invariant_of-self : goal.invariant_of-self
invariant_of-self c =
    host_makes c.self.invariant c.self.view_is c.requires.context c.make_object.new.self c.args.dst c.args.value
    c.args.fin c.args.src.now c.contents-sound.ensures.sound c.in-Ok.came c.in-Ok.ensures

pub returns-in-Ok-clause-does : goal.returns-in-Ok-clause-does
returns-in-Ok-clause-does c =
    makes_tried c.self.invariant c.self.view_is c.requires.context c.make_object.new.self c.args.dst c.args.value
    c.args.fin c.args.src.now c.contents-sound.ensures.sound c.in-Ok.came c.in-Ok.ensures _ _ c.settle.ensures

pub returns-in-Ok-clause-contexts : goal.returns-in-Ok-clause-contexts
returns-in-Ok-clause-contexts c =
    callers_by c.self.invariant c.self.view_is (makes_numbers c.self.invariant c.self.view_is c.requires.context
    c.make_object.new.self c.args.dst c.args.value c.args.fin c.args.src.now c.contents-sound.ensures.sound
    c.in-Ok.came c.in-Ok.ensures)

pub invariant_of-self-in-Err : goal.invariant_of-self-in-Err
invariant_of-self-in-Err c =
    host_without c.in-Err.ensures c.self.invariant

pub returns-in-Err-clause-does : goal.returns-in-Err-clause-does
returns-in-Err-clause-does c =
    let out = wide_out c.self.inside.limit c.in-Err.ensures in (
      new_ran_out out c.self.view_is (c.has_made_all.ensures.more c.if-has_made_all.false),
      out_as_it_was out c.self.view_is,
    )
