use Rattle.hd_tiers.proofs.Basics.{ap, arith, get_or, get_or_default_zero, is_some, length, ◌<◌, ◌^◌, ◌∙◌, ◌≡◌}
use Rattle.hd_tiers.proofs.MaskGaps.{all_more, gap_after, gap_of}
use Rattle.hd_tiers.proofs.masks.Masks.gap_beyond.Goals as goal

pub returns-in-Some : goal.returns-in-Some
returns-in-Some c =
    let masks = c.self.inside.masks.items in
    let at = c.loop-at.at in
    let mask = c.index.result.now in
    let within : at < length masks = omega (arith, c.blocks_of-at-end.ensures) in
    let fits : mask < 2 ^ 64 = omega arith in
    let read : mask ≡ get_or masks at 0 = c.index.ensures ∙ get_or_default_zero masks at mask within in
    gap_of masks c.args.self.now c.self.view_is at mask read fits c.in-Some.ensures.within c.in-Some.ensures.set
    c.in-Some.ensures.least c.args.block (omega arith) c.loop-at.invariant

pub loop-at-preserved : goal.loop-at-preserved
loop-at-preserved c =
    let masks = c.self.inside.masks.items in
    let at = c.loop-at.at in
    let mask = c.index.result.now in
    let within : at < length masks = omega (arith, c.blocks_of-at-end.ensures) in
    let fits : mask < 2 ^ 64 = omega arith in
    let read : mask ≡ get_or masks at 0 = c.index.ensures ∙ get_or_default_zero masks at mask within in
    all_more masks c.args.self.now c.self.view_is at mask read fits c.args.block c.loop-at.invariant
    (c.lowest.ensures.none.0 (ap is_some c.in_default.is))

pub returns : goal.returns
returns c =
    gap_after c.self.inside.masks.items c.args.self.now c.self.view_is c.args.block c.loop-at.at _ c.requires
    (omega (arith, c.blocks_of-at-end.ensures)) c.loop-at.invariant
    (omega (arith, c.blocks_of.ensures))
