use Rattle.hd_mark.proofs.Basics.{ap, arith, index_of, sym}
use Rattle.std.proofs.lemmas.List.{get_or_past}
use Rattle.hd_mark.proofs.indexes.Indexes.index.Goals as goal

pub returns-then-region-len : goal.returns-then-region-len
returns-then-region-len c =
    ap index_of (sym (get_or_past c.args.self.now.indexes.items c.args.region 0
    (omega (arith, c.if-region-len.true, c.len.ensures))))
