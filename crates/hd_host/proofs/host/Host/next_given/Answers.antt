use Rattle.std.proofs.Common.{IfSome, None, Option, Some, ap, arith, subst, ℕ, ◌∙◌, ◌≤◌}
use Rattle.hd_model.specs.State.{State}
use Rattle.std.specs.Prelude.{MatchOption}
use Rattle.hd_model.specs.declared.limits.TheConstants.{HOST_BLOCKS}
use Rattle.hd_seg.specs.Given.{HasNoneGiven, IsNextGiven}
use Rattle.hd_store.specs.Store.{Machine}
use Rattle.hd_host.specs.View.{HostView}
use Rattle.hd_host.proofs.TrimRows.{HasNoFirst}
use Rattle.hd_host.proofs.host.Host.next_given.Goals as goal

within_more : {few many : ℕ} (o : Option ℕ) → few ≤ many → IfSome o (λ block. block ≤ few)
    → IfSome o (λ block. block ≤ many)
within_more None le is = tt
within_more (Some block) le is = omega (arith, is, le)

pub returns-clause-next : goal.returns-clause-next
returns-clause-next c =
    subst (λ (s : State). MatchOption c.next_given.result (HasNoneGiven s.blocks c.args.from)
    (IsNextGiven s.blocks c.args.from))
    (ap (λ (m : Machine). m.state) c.contents.ensures.value ∙ ap (λ (v : HostView). v.machine.state) c.self.view_is)
    c.next_given.ensures.next

pub returns-clause-within : goal.returns-clause-within
returns-clause-within c =
    subst (λ (v : HostView). IfSome c.next_given.result (λ block. block ≤ v.machine.numbers.blocks)) c.self.view_is
    (within_more c.next_given.result (omega (
      arith,
      c.self.invariant.sized.few,
      ap (λ (m : Machine). m.numbers.blocks) c.contents.ensures.value,
    )) c.next_given.ensures.within)

pub returns-clause-few : goal.returns-clause-few
returns-clause-few c =
    subst (λ (v : HostView). v.machine.numbers.blocks ≤ HOST_BLOCKS) c.self.view_is c.self.invariant.host.limits.blocks.1

pub returns-clause-first : goal.returns-clause-first
returns-clause-first c =
    subst HasNoFirst c.self.view_is (λ block there. (c.self.invariant.host.tied.well_formed.handles.blocks block there).0)
