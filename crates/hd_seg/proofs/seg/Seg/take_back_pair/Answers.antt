use Rattle.hd_seg.proofs.BlockChange.{back_both, data_use, has_data, no_data, still_handles, view_both}
use Rattle.hd_seg.proofs.seg.Seg.take_back_pair.Goals as goal

pub remove_data-data-requires-clause-some : goal.remove_data-data-requires-clause-some
remove_data-data-requires-clause-some c =
    has_data c.self.invariant c.self.view_is c.args.block c.requires.pair c.requires.vacant

pub remove_data-data-requires-clause-used : goal.remove_data-data-requires-clause-used
remove_data-data-requires-clause-used c d has = c.self.invariant.paired.used c.args.block d has

pub remove-requires-clause-handles : goal.remove-requires-clause-handles
remove-requires-clause-handles c =
    still_handles c.self.invariant c.self.view_is c.args.block c.requires.pair c.requires.vacant
    c.remove_data-data.result c.remove_data-data.ensures.was c.remove_data-data.ensures.after

pub remove-requires-clause-plain : goal.remove-requires-clause-plain
remove-requires-clause-plain c =
    no_data c.self.invariant c.self.view_is c.args.block c.requires.pair c.requires.vacant
    c.remove_data-data.result c.remove_data-data.ensures.was c.remove_data-data.ensures.after

pub invariant_of-self : goal.invariant_of-self
invariant_of-self c =
    back_both c.self.invariant c.self.view_is c.args.block c.requires.pair c.requires.vacant
    c.remove_data-data.result c.remove_data-data.ensures.was c.remove_data-data.ensures.after
    c.remove.ensures.after c.remove.ensures.table

pub returns-clause-extra : goal.returns-clause-extra
returns-clause-extra c =
    data_use c.self.invariant c.self.view_is c.args.block c.requires.pair c.requires.vacant
    c.remove_data-data.result c.remove_data-data.ensures.was

pub returns-clause-after : goal.returns-clause-after
returns-clause-after c =
    view_both c.self.invariant c.self.view_is c.args.block c.requires.pair c.requires.vacant
    c.remove_data-data.result c.remove_data-data.ensures.was c.remove_data-data.ensures.after
    c.remove.ensures.after
