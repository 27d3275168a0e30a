use Rattle.hd_store.proofs.StoreWords.{parts}
use Rattle.hd_store.proofs.PinnedAddress.{has-address}
use Rattle.hd_store.proofs.contents.Contents.address.Goals as goal

pub returns-clause-address : goal.returns-clause-address
returns-clause-address c = has-address (parts c.self.inside) c.args.self.now c.self.view_is c.self.invariant
    c.count-objects.ensures.sound c.args.at c.requires
