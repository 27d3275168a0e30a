use Rattle.hd_heap.proofs.Basics.{Addr, IfSome, Option, has_object, subst, sym, true, ◌∙◌, ◌≡◌}
use Rattle.hd_heap.proofs.{RegionReads.opened, RegionChanges.address_stored}
use Rattle.hd_heap.proofs.heap.Heap.stored.Goals as goal

pub returns-in-Some : goal.returns-in-Some
returns-in-Some c =
    address_stored (opened c.self.inside c.self.view_is c.self.invariant) c.in-Some.at
    (subst (λ (o : Option Addr). IfSome o (λ y. has_object c.args.self.now y ≡ true)) c.in-Some.is c.requires)
    ∙ sym c.in-Some.is
