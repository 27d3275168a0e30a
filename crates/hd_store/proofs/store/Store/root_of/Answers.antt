use Rattle.hd_store.specs.Replies.{root_reply}
use Rattle.hd_store.proofs.ValueCalls.{root-called}
use Rattle.hd_store.proofs.store.Store.root_of.Goals as goal

pub returns : goal.returns
returns c =
    root-called root_reply c.self.invariant c.self.view_is c.requires.caller c.requires.register
    c.objects-before.ensures.heap
    c.return_root.result c.return_root.ensures
