use Rattle.std.proofs.lemmas.Nat.Bits.{shr_and_one}
use Rattle.hd_tiers.proofs.Basics.{BITS, ap, refl, sym, ◌%◌, ◌/◌, ◌==◌, ◌∙◌}
use Rattle.hd_tiers.proofs.MaskMembers.{bit_of}
use Rattle.hd_tiers.proofs.masks.MasksNumbers.contains.Goals as goal

pub returns : goal.returns
returns c =
    ap (λ b. b == 1) (shr_and_one c.mask_of.result (c.args.i % BITS))
    ∙ sym (bit_of c.self.inside.masks.items c.args.self.now c.self.view_is (c.args.i / BITS) c.mask_of.result
    c.args.i c.mask_of.ensures refl)
