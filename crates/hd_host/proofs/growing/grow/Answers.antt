use Rattle.hd_host.proofs.GrownTable.{all_more, both_more, pool_more, pool_same}
use Rattle.hd_host.proofs.growing.grow.Goals as goal

pub returns-in_err-reserve-clause-grown : goal.returns-in_err-reserve-clause-grown
returns-in_err-reserve-clause-grown c =
    pool_same c.requires.sized c.args.blocks c.requires.few c.in_err-reserve.ensures

pub returns-in_err-reserve-2-clause-grown : goal.returns-in_err-reserve-2-clause-grown
returns-in_err-reserve-2-clause-grown c =
    pool_more c.requires.sized c.args.blocks c.requires.few c.in_ok-reserve.ensures c.in_err-reserve-2.ensures

pub returns-in_err-reserve_blocks-clause-grown : goal.returns-in_err-reserve_blocks-clause-grown
returns-in_err-reserve_blocks-clause-grown c =
    both_more c.requires.sized c.args.blocks c.requires.few c.in_ok-reserve.ensures c.in_ok-reserve-2.ensures
    c.in_err-reserve_blocks.ensures

pub returns-clause-grown : goal.returns-clause-grown
returns-clause-grown c =
    all_more c.requires.sized c.args.blocks c.requires.few c.in_ok-reserve.ensures c.in_ok-reserve-2.ensures
    c.contents-sound.ensures.sound c.in_ok-reserve_blocks.ensures
