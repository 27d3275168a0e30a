use Rattle.std.proofs.Common.{ap, inl, inr, refl, subst}
use Rattle.hd_model.specs.State.{Numbers}
use Rattle.hd_store.specs.{Spare.HasNoSpare, Spare.IsLeastSpare, Store.Machine}
use Rattle.hd_host.specs.View.{HostView}
use Rattle.hd_host.proofs.PairTrimmed.{trims_pair}
use Rattle.hd_host.proofs.host.Host.trim_pair.Goals as goal

pub give_back-requires-clause-spare : goal.give_back-requires-clause-spare
give_back-requires-clause-spare c =
    (subst (λ (v : HostView). IsLeastSpare v.machine.state c.args.kind c.in-Some.block) c.self.view_is
    c.in-Some.ensures.least).spare

pub returns-in-Some-clause-does : goal.returns-in-Some-clause-does
returns-in-Some-clause-does c = inl (
  refl,
  trims_pair _ _ (subst (λ (v : HostView). IsLeastSpare v.machine.state c.args.kind c.in-Some.block) c.self.view_is
      c.in-Some.ensures.least) c.give_back.ensures.gives c.give_back.ensures.after,
)

pub returns-in-Some-clause-contexts : goal.returns-in-Some-clause-contexts
returns-in-Some-clause-contexts c = ap (λ (m : Machine). m.numbers.callers) c.give_back.ensures.gives.after

pub returns-in-None-clause-does : goal.returns-in-None-clause-does
returns-in-None-clause-does c = inr (
  refl,
  record {
    none = subst (λ (v : HostView). HasNoSpare v.machine.state c.args.kind) c.self.view_is c.in-None.ensures.none;
    same = c.keep_blocks.ensures.same;
    last = c.keep_blocks.ensures.last;
  },
)

pub returns-in-None-clause-contexts : goal.returns-in-None-clause-contexts
returns-in-None-clause-contexts c = ap (λ (n : Numbers). n.callers) c.keep_blocks.ensures.same.numbers
