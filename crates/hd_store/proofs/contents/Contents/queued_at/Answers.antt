use Rattle.hd_store.proofs.StoreWords.{parts}
use Rattle.hd_store.proofs.QueueIndexes.{queued-is, queued-known}
use Rattle.hd_store.proofs.contents.Contents.queued_at.Goals as goal

pub returns-clause-value : goal.returns-clause-value
returns-clause-value c = queued-is (parts c.self.inside) c.args.self.now c.self.view_is c.args.i c.requires
    c.at.result c.at.ensures

pub returns-clause-known : goal.returns-clause-known
returns-clause-known c = queued-known (parts c.self.inside) c.args.self.now c.self.view_is c.args.i c.requires
    c.at.result c.at.ensures c.self.invariant
