use Rattle.hd_heap.proofs.Basics.{IsFirstIn, IsHeaderFrom, None, ObjectHeader, Option, Some, WalkOf, arith, subst, sym}
use Rattle.hd_heap.proofs.CondemnedWalk.{first_header, header_end, no_header, walk_next}
use Rattle.hd_heap.proofs.condemned.RegionObjects.next.Goals as goal

pub overflow_add-self : goal.overflow_add-self
overflow_add-self c =
    let is = c.in_ok-header.ensures in
    omega (arith, header_end c.self.invariant c.in_ok-header.header is.0.1 is.1)

pub overflow_add-self-2 : goal.overflow_add-self-2
overflow_add-self-2 c =
    let is = c.in_ok-header.ensures in
    omega (arith, header_end c.self.invariant c.in_ok-header.header is.0.1 is.1)

pub invariant_of-self : goal.invariant_of-self
invariant_of-self c =
    walk_next c.self.invariant c.in_ok-header.header c.address_in.result c.address_in.ensures
    c.in_ok-header.ensures.0 c.in_ok-header.ensures.1 _ (omega arith)

pub returns-in_err-header-clause-next : goal.returns-in_err-header-clause-next
returns-in_err-header-clause-next c =
    subst (λ (r : Option ObjectHeader). IsFirstIn c.args.self.now.heap c.args.self.now.region
    c.args.self.now.end r) (sym c.from_residual.ensures)
    (subst (λ (w : WalkOf). IsFirstIn w.heap w.region w.end None) c.self.view_is
    (no_header c.self.invariant
    (subst (IsHeaderFrom c.self.inside.objects.now c.self.inside.end) c.in_err-header.was
    c.object_from.ensures)))

pub returns-clause-next : goal.returns-clause-next
returns-clause-next c =
    let o : ObjectHeader = record {
      at = c.address_in.result;
      fields = c.in_ok-header.header.fields;
      registered = c.in_ok-header.header.registered;
    } in
    subst (λ (w : WalkOf). IsFirstIn w.heap w.region w.end (Some o)) c.self.view_is
    (first_header c.self.invariant c.in_ok-header.header c.address_in.result c.address_in.ensures
    c.in_ok-header.ensures.0 c.in_ok-header.ensures.1)
