use Rattle.hd_tiers.proofs.Basics.{arith, difference, length, numbers_of, ◌<◌}
use Rattle.hd_tiers.proofs.MaskMembers.{cleared, room_is, written}
use Rattle.hd_tiers.proofs.masks.Masks.remove_block.Goals as goal

pub returns : goal.returns
returns c =
    let masks = c.self.inside.masks.items in
    let within : c.args.block < length masks = omega (arith, room_is masks c.args.self.now c.self.view_is) in
    written masks c.args.self.now c.self.view_is c.args.block _ (λ s. difference s (numbers_of c.args.block))
    (cleared masks c.args.block _ within (omega arith))
