use Rattle.hd_plan.proofs.Basics.{AllocCursors, IsFirstIn, IsFirstObject, IsLaying, None, IsMoveOf, REGION, ap, arith, length, refl, spot_in, subst, sym, ℕ, ◌*◌, ◌+◌, ◌∙◌, ◌≡◌, ◌<◌}
use Rattle.hd_heap.specs.Walks.{WalkOf, end_in}
use Rattle.hd_heap.proofs.NextObjects.{end_within, none_left}
use Rattle.hd_plan.specs.{Inside.CanPutAt, Inside.with_cursor_at, declared.cursors.AllocCursor.AllocCursor}
use Rattle.hd_plan.proofs.{KeptMoves.raised_most, LayStep.laying_passed, LayStep.laying_past, LayStep.may_put}
use Rattle.hd_plan.proofs.RegionLay.{cursor_again, laid_none, laying_on, laying_upto, move_fits, same_cursor, these_on, with_again}
use Rattle.hd_plan.proofs.lay.lay_objects.Given.{Over}
use Rattle.hd_plan.proofs.lay.lay_objects.Goals.{After-lay_object-laid, After-put, In-Some}
use Rattle.hd_plan.proofs.lay.lay_objects.Goals as goal

pub returns-then-not-may_keep-clause-laying : goal.returns-then-not-may_keep-clause-laying
returns-then-not-may_keep-clause-laying g c =
    laying_passed c.requires.sound c.requires.so_far c.args.region refl
    (c.may_keep.ensures c.if-not-may_keep.true)

pub returns-then-not-may_keep-clause-these : goal.returns-then-not-may_keep-clause-these
returns-then-not-may_keep-clause-these g c =
    laid_none c.args.moves.now.items c.args.region c.args.k c.args.forwards.now.cells.items
    (λ j low. (c.requires.so_far.to.condemned j low).1)

pub loop-object-init : goal.loop-object-init
loop-object-init g c =
    let start = ap {B = ℕ} (λ (w : WalkOf). w.end) c.objects_of-objects.ensures in
    record {
      walk = c.objects_of-objects.ensures
          ∙ ap (λ n. record { heap = c.args.heap.now; region = c.args.region; end = n }) (sym start);
      within = omega (arith, start);
      laying = subst (λ (s : AllocCursors). IsLaying c.args.heap.now (g.M.Marker.basis c.args.marker.now).condemned
          (g.M.Marker.promoted c.args.marker.now) (g.M.Marker.pinned c.args.marker.now)
          c.args.moves.now.items s (c.args.region * REGION + c.objects_of-objects.result.end))
          (sym (ap (λ (x : AllocCursor). with_cursor_at c.args.cursors.now c.args.generation x
          c.args.cursors.now.opened) c.cursor-cursor.ensures ∙ same_cursor c.args.cursors.now c.args.generation))
          (subst (λ (bound : ℕ). IsLaying c.args.heap.now (g.M.Marker.basis c.args.marker.now).condemned
          (g.M.Marker.promoted c.args.marker.now) (g.M.Marker.pinned c.args.marker.now)
          c.args.moves.now.items c.args.cursors.now bound) (omega (arith, start)) c.requires.so_far);
      these = laid_none c.args.moves.now.items c.args.region c.args.k c.args.forwards.now.cells.items
          (λ j low. (c.requires.so_far.to.condemned j low).1);
      firsts = refl;
      capacity = refl;
    }

pub lay_object-laid-requires-clause-can_put : goal.lay_object-laid-requires-clause-can_put
lay_object-laid-requires-clause-can_put g c =
    subst (λ (x : AllocCursor). CanPutAt c.args.heap.now x c.loop-object.opened)
    (cursor_again c.args.cursors.now c.args.generation c.loop-object.cursor c.loop-object.opened)
    (may_put c.requires.sound c.loop-object.invariant.laying c.args.generation c.requires.free
    (rw c.requires.generation (raised_most _ _ c.requires.condemned.young)))

-- the object, where it ends, and its move
first : (g : Over) (c : In-Some g)
    → IsFirstObject c.args.heap.now c.args.region c.loop-object.objects.end c.in-Some.object
first g c = subst (λ (w : WalkOf). IsFirstObject w.heap w.region c.loop-object.objects.end c.in-Some.object)
    c.loop-object.invariant.walk c.in-Some.ensures.next

ended : (g : Over) (c : In-Some g) → c.next.new.self ≡ record {
  heap = c.args.heap.now;
  region = c.args.region;
  end = end_in c.args.region c.in-Some.object;
}
ended g c = c.in-Some.ensures.after
    ∙ ap (λ (w : WalkOf). record w { end = end_in w.region c.in-Some.object }) c.loop-object.invariant.walk

move : (g : Over) (c : After-lay_object-laid g) → let s = with_cursor_at c.args.cursors.now c.args.generation
    c.loop-object.cursor c.loop-object.opened in
    IsMoveOf c.args.heap.now (g.M.Marker.basis c.args.marker.now).condemned
    (g.M.Marker.promoted c.args.marker.now c.lay_object-laid.result.from)
    (g.M.Marker.pinned c.args.marker.now c.lay_object-laid.result.from) s
    (with_cursor_at c.args.cursors.now c.args.generation c.lay_object-laid.new.cursor c.lay_object-laid.new.opened)
    c.lay_object-laid.result
move g c =
    let s = with_cursor_at c.args.cursors.now c.args.generation c.loop-object.cursor c.loop-object.opened in
    subst (λ (t : AllocCursors). IsMoveOf c.args.heap.now (g.M.Marker.basis c.args.marker.now).condemned
    (g.M.Marker.promoted c.args.marker.now c.lay_object-laid.result.from)
    (g.M.Marker.pinned c.args.marker.now c.lay_object-laid.result.from) s t c.lay_object-laid.result)
    (with_again c.args.cursors.now c.args.generation c.loop-object.cursor c.lay_object-laid.new.cursor
    c.loop-object.opened c.lay_object-laid.new.opened)
    (c.lay_object-laid.ensures.laid s
    (cursor_again c.args.cursors.now c.args.generation c.loop-object.cursor c.loop-object.opened) refl)

pub push_reserved-requires : goal.push_reserved-requires
push_reserved-requires g c =
    let b = (goal.at.push_reserved-requires g c).After-lay_object-laid in
    let a = (goal.at.push_reserved-requires g c).In-Some in
    let laid = laying_upto c.requires.sound c.requires.condemned c.loop-object.invariant.laying (first g a)
    c.lay_object-laid.ensures.from (move g b) in
    let fit = move_fits c.loop-object.moves.items c.lay_object-laid.result laid c.requires.room in
    omega (arith, fit, c.loop-object.moves.ok.0, c.loop-object.invariant.capacity)

pub loop-object-preserved : goal.loop-object-preserved
loop-object-preserved g c =
    let a = (goal.at.loop-object-preserved g c).In-Some in
    let b = (goal.at.loop-object-preserved g c).After-lay_object-laid in
    let h = c.args.heap.now in
    let n = (g.M.Marker.basis c.args.marker.now).condemned in
    let m = c.lay_object-laid.result in
    let inv = c.loop-object.invariant in
    let end = ap {B = ℕ} (λ (w : WalkOf). w.end) (ended g a) in
    let from = c.lay_object-laid.ensures.from in
    let spot : spot_in c.args.k m.from < length c.loop-object.forwards.cells.items =
    omega (arith, inv.these.long, c.requires.table) in
    record {
      walk = ended g a ∙ ap (λ e. record { heap = h; region = c.args.region; end = e }) (sym end);
      within = omega (arith, end, end_within h n c.requires.sound c.requires.condemned.young (first g a));
      laying = rw c.push_reserved.ensures.items (laying_on c.requires.sound c.requires.condemned inv.laying
          (first g a) from (move g b) _ end);
      these = rw (c.push_reserved.ensures.items, c.put.ensures.cells, c.stays-pinned.ensures) (these_on
          c.requires.sound c.requires.condemned inv.laying (first g a) from (move g b) inv.these spot);
      firsts = c.put.ensures.firsts ∙ inv.firsts;
      capacity = c.push_reserved.ensures.capacity ∙ inv.capacity;
    }

pub returns-clause-laying : goal.returns-clause-laying
returns-clause-laying g c =
    let h = c.args.heap.now in
    let n = (g.M.Marker.basis c.args.marker.now).condemned in
    let none = subst (λ (w : WalkOf). IsFirstIn w.heap w.region c.loop-object.objects.end None)
    c.loop-object.invariant.walk c.in_default.ensures.next in
    rw c.set.ensures (laying_past c.requires.sound c.loop-object.invariant.laying _
    (omega (arith, c.loop-object.invariant.within))
    (none_left h n c.args.region c.loop-object.objects.end none))
