use Rattle.hd_store.proofs.StoreWords.{Machine, ap}
use Rattle.hd_store.proofs.StateSizes.{size_of_state, whole_of_state}
use Rattle.hd_store.proofs.contents.Contents.sizes.Goals as goal

pub returns : goal.returns
returns c =
    let h = c.self.inside.heap in
    let identities = c.self.invariant.identities in
    let now = c.args.self.now in
    let objects = ap (λ (m : Machine). m.state.objects) c.self.view_is in
    let heap = ap (λ (m : Machine). m.heap) c.self.view_is in
    record {
      youngest = size_of_state h identities now 0 objects heap c.sizes.ensures.youngest;
      middle = size_of_state h identities now 1 objects heap c.sizes.ensures.middle;
      oldest = size_of_state h identities now 2 objects heap c.sizes.ensures.oldest;
      whole = whole_of_state h identities now objects heap c.sizes.ensures.whole;
    }
