use Rattle.hd_heap.proofs.Basics.{arith, ◌<◌}
use Rattle.hd_heap.proofs.RegionCopy.{pair_high, pair_low, put_between}
use Rattle.hd_heap.proofs.heap.copy_between.Goals as goal

pub put_run-requires : goal.put_run-requires
put_run-requires g c =
    let split = c.split_at_mut-low in
    let p = pair_high split.result.0.now split.result.1.now split.ensures.value split.ensures.front_len
    c.if-source-target.true c.index-low-source.is c.index-high-0.is in
    let may = c.requires.may_copy _ _ p.source p.target in
    record { area = may.0; run = may.1; laid = c.requires.laid }

pub returns-then-source-target : goal.returns-then-source-target
returns-then-source-target g c =
    let split = c.split_at_mut-low in
    let p = pair_high split.result.0.now split.result.1.now split.ensures.value split.ensures.front_len
    c.if-source-target.true c.index-low-source.is c.index-high-0.is in
    let put = c.put_run.ensures in
    record { run = put.run; put = put_between p put.put put.laid_out put.cells }

pub put_run-requires-else-source-target : goal.put_run-requires-else-source-target
put_run-requires-else-source-target g c =
    let split = c.split_at_mut-low-else-source-target in
    let below : c.args.target < c.args.source = omega (arith, c.if-source-target.false, c.requires.apart) in
    let p = pair_low split.result.0.now split.result.1.now split.ensures.value split.ensures.front_len below
    c.index-low-target.is c.index-high-0-else-source-target.is in
    let may = c.requires.may_copy _ _ p.source p.target in
    record { area = may.0; run = may.1; laid = c.requires.laid }

pub returns-else-source-target : goal.returns-else-source-target
returns-else-source-target g c =
    let split = c.split_at_mut-low-else-source-target in
    let below : c.args.target < c.args.source = omega (arith, c.if-source-target.false, c.requires.apart) in
    let p = pair_low split.result.0.now split.result.1.now split.ensures.value split.ensures.front_len below
    c.index-low-target.is c.index-high-0-else-source-target.is in
    let put = c.put_run-else-source-target.ensures in
    record { run = put.run; put = put_between p put.put put.laid_out put.cells }
