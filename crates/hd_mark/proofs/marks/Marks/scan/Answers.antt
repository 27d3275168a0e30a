use Rattle.hd_mark.proofs.Basics.{Addr, Basis, Contains, IsField, List, MarksOf, None, Option, Some, ap, arith, is_object, member_at, objects_of, subst, sym, take, true, ◌∙◌, ◌≡◌}
use Rattle.hd_mark.proofs.MarkPush.{scanned_basis}
use Rattle.hd_mark.proofs.marks.Marks.scan.Goals as goal

pub push-requires : goal.push-requires
push-requires c =
    let fields : List (Option Addr) = c.fields_of-fields.result in
    let named = subst (λ (fs : List (Option Addr)). Contains fs (Some c.in-Some.y)) c.fields_of-fields.ensures
    (member_at fields c.loop-i.i None (Some c.in-Some.y)
    (omega (arith, c.loop-i-test.true, c.number-i-end.ensures.count)) (sym c.in-Some.ensures)) in
    let field = subst (λ (m : MarksOf). IsField (objects_of m.basis) c.args.at c.in-Some.y) c.self.view_is
    named in
    subst (λ (b : Basis). is_object (objects_of b) c.in-Some.y ≡ true)
    (sym (ap (λ (m : MarksOf). m.basis) c.loop-i.invariant ∙ scanned_basis (take c.loop-i.i fields)
    c.args.self.now)) (c.requires.fields c.args.at c.in-Some.y field)
