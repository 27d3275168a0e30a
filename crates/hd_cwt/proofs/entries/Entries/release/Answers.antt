use Rattle.hd_cwt.proofs.Basics.{ap, arith, is_some, ◌∙◌}
use Rattle.hd_cwt.proofs.EntryCalls.{held_low, release_entries, released, room_low}
use Rattle.std.specs.FinSet.{remove}
use Rattle.hd_cwt.proofs.entries.Entries.release.Goals as goal

pub index_mut-requires : goal.index_mut-requires
index_mut-requires c =
    omega (
      arith,
      c.self.inside.held.ok.0,
      held_low c.self.invariant c.self.view_is c.args.idle
          (ap is_some c.requires),
    )

pub remove-requires : goal.remove-requires
remove-requires c =
    let low = room_low c.self.invariant c.self.view_is c.args.idle
    (held_low c.self.invariant c.self.view_is c.args.idle (ap is_some c.requires)) in
    omega (arith, low)

pub invariant_of-self : goal.invariant_of-self
invariant_of-self c =
    release_entries c.self.invariant c.self.view_is c.args.idle c.requires
    (c.remove.ensures
    ∙ ap (λ s. record c.self.inside.idle { members = remove c.self.inside.idle.members s }) (omega arith))

pub returns : goal.returns
returns c = released c.self.invariant c.self.view_is c.args.idle c.requires
