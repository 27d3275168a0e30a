use Rattle.hd_dep.proofs.Basics.{Addr, AreObjects, Basis, Bool, IsEdge, IsPromotionLog, IsSettled, IsWaitingEdge, List, Spreads, Table, arith, length, objects_of, row_at, subst, sym, ◌∙◌, ◌≡◌}
use Rattle.hd_dep.proofs.{RescanPasses.rescan_closure, SecondarySpread.spreads_none, DueHandles.none_visited}
use Rattle.hd_dep.proofs.SecondaryFollow.{both_spread, followed_at_last, gathered_sorted, queued_objects, kept_on}
use Rattle.hd_dep.proofs.following.follow.Goals as goal

pub returns-then-is_bare-clause-closure : goal.returns-then-is_bare-clause-closure
returns-then-is_bare-clause-closure g c =
    let b : Basis = g.M.Marker.basis c.args.marker.now in
    let t : Table = c.args.seg.now in
    let p : Addr → Bool = g.M.Marker.promoted c.args.marker.now in
    let settled : IsSettled (objects_of b) c.args.n p =
    subst (λ n. IsSettled (objects_of b) n p) c.requires.due.visit.generation
    (g.met.M.Marker.settles c.args.marker.now c.requires.settled) in
    rescan_closure (objects_of b) c.args.n (row_at t) c.args.ages.now p p settled settled c.requires.fields
    c.requires.due.sound (spreads_none (IsEdge (objects_of b) (row_at t)) p)
    (none_visited t c.args.ages.now c.args.n _ c.live-live.ensures.table
    (let none = c.is_bare.ensures c.if-is_bare.true in let fits = c.requires.room in omega arith))

pub promote_since-requires-clause-objects : goal.promote_since-requires-clause-objects
promote_since-requires-clause-objects g c =
    let b : Basis = g.M.Marker.basis c.args.marker.now in
    let t : Table = c.args.seg.now in
    subst (λ (a : Basis). AreObjects (objects_of a) c.deref.result.now) (sym c.collect_waiting.ensures.basis)
    (queued_objects (objects_of b) c.args.n t c.args.ages.now (g.M.Marker.promoted c.args.marker.now)
    (g.M.Marker.promoted c.collect_waiting.new.marker) c.deref.result.now
    (gathered_sorted t c.args.ages.now c.args.n _ _ _ _ c.sort.ensures.permutation c.deref.ensures.value
    c.collect_waiting.ensures.gathered)
    c.requires.due.visit.names)

pub returns-clause-closure : goal.returns-clause-closure
returns-clause-closure g c =
    let b : Basis = g.M.Marker.basis c.args.marker.now in
    let t : Table = c.args.seg.now in
    let rows = c.deref.result.now in
    let gathered = gathered_sorted t c.args.ages.now c.args.n _ _ _ _ c.sort.ensures.permutation
    c.deref.ensures.value c.collect_waiting.ensures.gathered in
    let p0 : Addr → Bool = g.M.Marker.promoted c.args.marker.now in
    let p1 : Addr → Bool = g.M.Marker.promoted c.collect_waiting.new.marker in
    let p2 : Addr → Bool = g.M.Marker.promoted c.promote_since.new.marker in
    let log0 : List Addr = g.M.PromotionLog.log c.args.marker.now in
    let log2 : List Addr = g.M.PromotionLog.log c.promote_since.new.marker in
    let basis = c.promote_since.ensures.basis ∙ c.collect_waiting.ensures.basis in
    let first : IsSettled (objects_of b) c.args.n p0 =
    subst (λ n. IsSettled (objects_of b) n p0) c.requires.due.visit.generation
    (g.met.M.Marker.settles c.args.marker.now c.requires.settled) in
    let last : IsSettled (objects_of b) c.args.n p2 =
    subst (λ n. IsSettled (objects_of b) n p2) c.requires.due.visit.generation
    (subst (λ (a : Basis). IsSettled (objects_of a) a.condemned p2) basis
    (g.met.M.Marker.settles c.promote_since.new.marker c.promote_since.ensures.settled)) in
    let log_first : IsPromotionLog (objects_of b) c.args.n p0 log0 =
    subst (λ n. IsPromotionLog (objects_of b) n p0 log0) c.requires.due.visit.generation
    (g.met.M.PromotionLog.logs c.args.marker.now c.requires.settled) in
    let log_last : IsPromotionLog (objects_of b) c.args.n p2 log2 =
    subst (λ n. IsPromotionLog (objects_of b) n p2 log2) c.requires.due.visit.generation
    (subst (λ (a : Basis). IsPromotionLog (objects_of a) a.condemned p2 log2) basis
    (g.met.M.PromotionLog.logs c.promote_since.new.marker c.promote_since.ensures.settled)) in
    let second : Spreads (IsWaitingEdge (objects_of b) c.args.n rows) p1 p2 =
    subst (λ n. Spreads (IsWaitingEdge (objects_of b) n rows) p1 p2) c.requires.due.visit.generation
    (subst (λ (a : Basis). Spreads (IsWaitingEdge (objects_of a) a.condemned rows) p1 p2)
    c.collect_waiting.ensures.basis c.promote_since.ensures.spreads) in
    let start : c.logged-start.result ≡ length log0 = c.logged-start.ensures in
    rescan_closure (objects_of b) c.args.n (row_at t) c.args.ages.now p0 p2 first last
    c.requires.fields c.requires.due.sound
    (both_spread (objects_of b) c.args.n t c.args.ages.now p0 p1 rows gathered
    c.requires.due.visit.names p2 c.collect_waiting.ensures.spreads second)
    (followed_at_last (objects_of b) c.args.n t c.args.ages.now p0 p1 rows gathered
    c.requires.due.visit.names p2 log0 log2 first log_first log_last
    (kept_on log2 c.collect_waiting.ensures.log c.promote_since.ensures.log) second.keeps
    (λ k x y low. c.promote_since.ensures.followed k x y (omega (arith, start, low))))
