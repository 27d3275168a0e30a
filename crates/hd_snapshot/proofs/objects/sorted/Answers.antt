use Rattle.hd_snapshot.proofs.Listings.{listed_by}
use Rattle.hd_snapshot.proofs.objects.sorted.Goals as goal

pub returns : goal.returns
returns c =
    listed_by c.args.heap.now c.in_ok-located.located.items c.sort.new.located.items c.in_ok-located.ensures
    c.sort.ensures.permutation c.sort.ensures.rising
