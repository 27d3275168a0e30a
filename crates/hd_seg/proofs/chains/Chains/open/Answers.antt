use Rattle.hd_seg.proofs.Basics.{sym}
use Rattle.hd_seg.proofs.ChainRings.{lists_are, made, rings-none}
use Rattle.hd_seg.proofs.chains.Chains.open.Goals as goal

pub invariant_of-result : goal.invariant_of-result
invariant_of-result c = made (rings-none c.requires c.in_ok-next.ensures c.in_ok-previous.ensures)

pub returns : goal.returns
returns c =
    let is = sym (lists_are (rings-none c.requires c.in_ok-next.ensures c.in_ok-previous.ensures)) in
    λ i. record { lists = is i; room = c.args.room }
