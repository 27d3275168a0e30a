use Rattle.std.proofs.Common.{arith, subst, sym}
use Rattle.std.specs.Prelude.{IsTrue, ◌↔◌}
use Rattle.hd_model.specs.PinnedAddresses.{IsFreeAddress}
use Rattle.hd_model.specs.UserLaws.{HasPinnedApart}
use Rattle.hd_model.specs.WellFormed.{IsWellFormed}
use Rattle.hd_plain.specs.MachineViews.{MachineView}
use Rattle.hd_plain.specs.Parts.{numbers_in, state_in}
use Rattle.hd_plain.proofs.AddressRanges.{are_apart, free_is}
use Rattle.hd_plain.proofs.machine.Machine.is_free_address.Goals as goal

pub is_free-requires-clause-apart : goal.is_free-requires-clause-apart
is_free-requires-clause-apart c =
    are_apart (numbers_in c.self.inside) (state_in c.self.inside)
    (subst (λ (j : MachineView). IsWellFormed j.numbers j.state) (sym c.self.view_is) c.requires.formed)
    (subst (λ (j : MachineView). HasPinnedApart j.state) (sym c.self.view_is) c.requires.pinned)

pub returns : goal.returns
returns c =
    subst (λ (j : MachineView). IsTrue c.is_free.result ↔ IsFreeAddress j.state c.args.id c.args.address)
    c.self.view_is (free_is (numbers_in c.self.inside) (state_in c.self.inside)
    (subst (λ (j : MachineView). IsWellFormed j.numbers j.state) (sym c.self.view_is) c.requires.formed)
    c.args.id c.args.address _ c.is_free.result c.ranges.address.fits c.is_free.ensures
    (omega (arith, c.size_of-size.ensures)))
