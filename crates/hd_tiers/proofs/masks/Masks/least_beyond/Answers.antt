use Rattle.hd_tiers.proofs.Basics.{BITS, ap, arith, get_or, get_or_default_zero, is_some, length, ◌*◌, ◌<◌, ◌∙◌, ◌≡◌}
use Rattle.hd_tiers.proofs.MaskMembers.{least_from, none_from, none_more}
use Rattle.hd_tiers.proofs.masks.Masks.least_beyond.Goals as goal

pub returns-in-Some-clause-found : goal.returns-in-Some-clause-found
returns-in-Some-clause-found c =
    let masks = c.self.inside.masks.items in
    let at = c.loop-at.at in
    let mask = c.index.result.now in
    let within : at < length masks = omega (arith, c.blocks_of-at-end.ensures) in
    let read : mask ≡ get_or masks at 0 = c.index.ensures ∙ get_or_default_zero masks at mask within in
    least_from masks c.args.self.now c.self.view_is _ _ read c.in-Some.ensures.within c.in-Some.ensures.set
    c.in-Some.ensures.least c.args.block (omega arith) c.loop-at.invariant

pub loop-at-preserved : goal.loop-at-preserved
loop-at-preserved c =
    let masks = c.self.inside.masks.items in
    let at = c.loop-at.at in
    let mask = c.index.result.now in
    let within : at < length masks = omega (arith, c.blocks_of-at-end.ensures) in
    let read : mask ≡ get_or masks at 0 = c.index.ensures ∙ get_or_default_zero masks at mask within in
    none_more masks c.args.self.now c.self.view_is _ _ read c.args.block c.loop-at.invariant
    (c.lowest.ensures.none.0 (ap is_some c.in_default.is))

pub returns-clause-none : goal.returns-clause-none
returns-clause-none c =
    none_from c.self.inside.masks.items c.args.self.now c.self.view_is (BITS * c.args.block) c.loop-at.at
    (omega (arith, c.blocks_of-at-end.ensures)) c.loop-at.invariant
