use Rattle.hd_seg.proofs.Basics.{IsLeastFrom, arith, subst}
use Rattle.hd_seg.proofs.UnusedBlocks.{found_is, is_found}
use Rattle.hd_seg.proofs.unused.take_from.Goals as goal

pub unwrap-least-requires : goal.unwrap-least-requires
unwrap-least-requires c = is_found c.requires.some c.least_from.result c.least_from.ensures.none

pub remove-requires : goal.remove-requires
remove-requires c =
    let found = found_is c.unwrap-least.result c.unwrap-least.ensures c.least_from.ensures.found in
    let low = c.requires.within c.unwrap-least.result found.member in
    omega (arith, low)

pub returns-clause-least : goal.returns-clause-least
returns-clause-least c =
    subst (λ from. IsLeastFrom c.args.numbers.now.members from c.unwrap-least.result) (omega arith)
    (found_is c.unwrap-least.result c.unwrap-least.ensures c.least_from.ensures.found)
