use Rattle.std.proofs.Common.{None, Some, arith, subst, sym}
use Rattle.hd_model.specs.declared.data.Grown.TheVariants.{Zero}
use Rattle.hd_model.specs.declared.data.Refusal.TheVariants as refusal
use Rattle.hd_model.specs.declared.data.Reply.TheVariants as reply
use Rattle.hd_view.specs.Accepted.{IsFullOf}
use Rattle.hd_view.proofs.AcceptedSets.{full_none, full_some}
use Rattle.hd_view.proofs.accepted.full_entry.Goals as goal

pub returns-then-needed-blocks-clause-full : goal.returns-then-needed-blocks-clause-full
returns-then-needed-blocks-clause-full c =
    full_none c.args.before.now c.args.kind c.args.caller c.args.cmd
    (omega (
      arith,
      c.if-needed-blocks.true,
      c.given-given.ensures.value,
      c.needed_blocks.ensures.value,
      c.blocks-2.ensures.value,
    ))

pub returns-clause-full : goal.returns-clause-full
returns-clause-full c =
    subst (λ g. IsFullOf c.args.before.now c.args.kind c.args.caller c.args.cmd (Some (record {
      caller = c.args.caller;
      cmd = c.args.cmd;
      slot = None;
      grown = Zero;
      reply = reply.Refused (refusal.TableFull g);
    }))) (sym c.given-given.ensures.value)
    (full_some c.args.before.now c.args.kind c.args.caller c.args.cmd
    (omega (
      arith,
      c.if-needed-blocks.false,
      c.given-given.ensures.value,
      c.needed_blocks.ensures.value,
      c.blocks-2.ensures.value,
    )))
