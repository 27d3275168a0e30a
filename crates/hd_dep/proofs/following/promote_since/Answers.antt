use Rattle.hd_dep.proofs.Basics.{Addr, AreObjects, Basis, Bool, Grows, IsPromotionLog, IsYoungField, List, Waits, arith, get_or_from_slice_get, length, objects_of, refl, subst, sym, ◌<◌, ◌∙◌}
use Rattle.hd_dep.proofs.SecondaryFollow.{follow_start, follow_on, follow_end, fewer_to_follow}
use Rattle.hd_dep.proofs.following.promote_since.Goals as goal

pub loop-next-init : goal.loop-next-init
loop-next-init g c =
    let b : Basis = g.M.Marker.basis c.args.marker.now in
    record {
      settled = c.requires.settled;
      basis = refl;
      pinned = refl;
      following = follow_start (objects_of b) b.condemned c.args.start c.args.rows.now
          (g.M.PromotionLog.log c.args.marker.now) (g.M.Marker.promoted c.args.marker.now) c.requires.start;
    }

pub promote_for-requires-clause-objects : goal.promote_for-requires-clause-objects
promote_for-requires-clause-objects g c =
    subst (λ (b : Basis). AreObjects (objects_of b) c.args.rows.now)
    (sym c.loop-next.invariant.basis) c.requires.objects

pub loop-next-smaller : goal.loop-next-smaller
loop-next-smaller g c =
    let b : Basis = g.M.Marker.basis c.args.marker.now in
    let p : Addr → Bool = g.M.Marker.promoted c.loop-next.marker in
    let log : List Addr = g.M.PromotionLog.log c.loop-next.marker in
    fewer_to_follow b.heap b.condemned p log c.loop-next.next
    (subst (λ (a : Basis). IsPromotionLog (objects_of a) a.condemned p log) c.loop-next.invariant.basis
    (g.met.M.PromotionLog.logs c.loop-next.marker c.loop-next.invariant.settled))
    (omega (arith, c.loop-next-test.true, c.logged.ensures))

pub loop-next-preserved : goal.loop-next-preserved
loop-next-preserved g c =
    let b : Basis = g.M.Marker.basis c.args.marker.now in
    let rows = c.args.rows.now in
    let p : Addr → Bool = g.M.Marker.promoted c.loop-next.marker in
    let q : Addr → Bool = g.M.Marker.promoted c.promote_for.new.marker in
    let log : List Addr = g.M.PromotionLog.log c.loop-next.marker in
    let x : Addr = c.logged_at.result in
    let lt : c.loop-next.next < length log = omega (arith, c.loop-next-test.true, c.logged.ensures) in
    let is = g.met.M.PromotionLog.logs c.loop-next.marker c.loop-next.invariant.settled in
    record {
      settled = c.promote_for.ensures.settled;
      basis = c.promote_for.ensures.basis ∙ c.loop-next.invariant.basis;
      pinned = c.promote_for.ensures.pinned ∙ c.loop-next.invariant.pinned;
      following = follow_on (objects_of b) b.condemned c.args.start rows
          (g.M.PromotionLog.log c.args.marker.now) (g.M.Marker.promoted c.args.marker.now)
          c.loop-next.next log (g.M.PromotionLog.log c.promote_for.new.marker) p q x
          c.loop-next.invariant.following lt c.logged_at.ensures
          (is.each x (
            c.loop-next.next,
            lt,
            get_or_from_slice_get log c.loop-next.next x x c.logged_at.ensures,
          )).1
          (subst (λ (a : Basis). Grows (IsYoungField (objects_of a) a.condemned) (Waits rows x) p q)
          c.loop-next.invariant.basis c.promote_for.ensures.grows)
          c.promote_for.ensures.log;
    }

pub returns-clause-followed : goal.returns-clause-followed
returns-clause-followed g c =
    let b : Basis = g.M.Marker.basis c.args.marker.now in
    follow_end (objects_of b) b.condemned c.args.start c.args.rows.now
    (g.M.PromotionLog.log c.args.marker.now) (g.M.Marker.promoted c.args.marker.now) c.loop-next.next
    (g.M.PromotionLog.log c.loop-next.marker) (g.M.Marker.promoted c.loop-next.marker)
    c.loop-next.invariant.following (omega (arith, c.loop-next-test.false, c.logged.ensures))
