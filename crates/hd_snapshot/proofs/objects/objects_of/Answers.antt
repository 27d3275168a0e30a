use Rattle.std.proofs.Common.{IfOk, List, ap, map, subst, ◌∙◌, ◌≡◌}
use Rattle.hd_seen.specs.Seen.{ObjectSeen, object_shown}
use Rattle.hd_snapshot.proofs.Listings.{listing-shown}
use Rattle.hd_snapshot.specs.declared.objects.Located.{Located}
use Rattle.hd_snapshot.specs.Inside.{shown_at}
use Rattle.hd_snapshot.proofs.objects.objects_of.Goals as goal

pub returns : goal.returns
returns c =
    let h = c.args.heap.now in
    subst (λ (xs : List ObjectSeen). IfOk c.all_seen.result (λ seen. map object_shown seen.items ≡ xs))
    (ap (map (λ (o : Located). shown_at h o.at)) c.deref.ensures.value
    ∙ listing-shown h c.requires.identities c.in_ok-located.located.items c.in_ok-located.ensures)
    c.all_seen.ensures
