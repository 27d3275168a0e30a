use Rattle.std.proofs.Common.{ap, subst, sym, ◌∙◌}
use Rattle.hd_store.specs.{Growth.with_blocks, Spare.GivesBackPair, Spare.IsSpare}
use Rattle.hd_host.specs.{Changes.change_back, View.HostView}
use Rattle.hd_host.proofs.{GrownCalls.shown, GrownWide.added, GrownWide.host_pair, GrownWide.wide_pair}
use Rattle.hd_host.proofs.host.Host.give_back.Goals as goal

pub give_back_pair-data-requires-clause-spare : goal.give_back_pair-data-requires-clause-spare
give_back_pair-data-requires-clause-spare c =
    subst (λ (v : HostView). IsSpare v.machine.state c.args.kind c.args.block) (sym c.self.view_is)
    c.requires.spare

pub remove_block-requires : goal.remove_block-requires
remove_block-requires c =
    added c.self.invariant
    (subst (λ (v : HostView). IsSpare v.machine.state c.args.kind c.args.block) (sym c.self.view_is)
    c.requires.spare) c.give_back_pair-data.ensures

pub invariant_of-self : goal.invariant_of-self
invariant_of-self c =
    host_pair c.self.invariant
    (subst (λ (v : HostView). IsSpare v.machine.state c.args.kind c.args.block) (sym c.self.view_is)
    c.requires.spare) c.give_back_pair-data.ensures c.contents-sound.ensures.sound c.remove_block.new.self
    c.remove_block.ensures

pub returns-clause-gives : goal.returns-clause-gives
returns-clause-gives c =
    subst (λ (v : HostView). GivesBackPair v.machine c.args.block c.give_back_pair-data.result
    (with_blocks c.self.inside.limit c.give_back_pair-data.new.self)) c.self.view_is
    (wide_pair c.self.invariant
    (subst (λ (v : HostView). IsSpare v.machine.state c.args.kind c.args.block) (sym c.self.view_is)
    c.requires.spare) c.give_back_pair-data.ensures)

pub returns-clause-after : goal.returns-clause-after
returns-clause-after c =
    ap (shown c.self.inside.limit c.give_back_pair-data.new.self c.self.inside.stamps) c.put.ensures
    ∙ ap (λ (v : HostView). record v {
      machine = with_blocks c.self.inside.limit c.give_back_pair-data.new.self;
      last = change_back c.args.block c.give_back_pair-data.result;
    }) c.self.view_is
