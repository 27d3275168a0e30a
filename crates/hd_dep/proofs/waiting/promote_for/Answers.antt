use Rattle.hd_dep.proofs.Basics.{Addr, Basis, Bool, Grows, IsYoungField, arith, get_or_from_slice_get, is_object, length, objects_of, refl, slice_get_within, subst, sym, take_all, true, waiting_row, ◌-◌, ◌∙◌, ◌≡◌}
use Rattle.hd_dep.proofs.SecondaryFollow.{kept_on}
use Rattle.hd_dep.proofs.WaitingLists.{passing_start, passing_on, passed}
use Rattle.hd_dep.proofs.waiting.promote_for.Goals as goal

pub loop-secondary-init : goal.loop-secondary-init
loop-secondary-init g c =
    let b : Basis = g.M.Marker.basis c.args.marker.now in
    record {
      settled = c.requires.settled;
      basis = refl;
      pinned = refl;
      log = take_all (length (g.M.PromotionLog.log c.args.marker.now))
          (g.M.PromotionLog.log c.args.marker.now) (omega arith);
      passing = passing_start (IsYoungField (objects_of b) b.condemned) c.args.rows.now c.args.target
          (g.M.Marker.promoted c.args.marker.now) c.end_of-at.result c.end_of-at.ensures.within
          c.end_of-at.ensures.low c.end_of-at.ensures.high;
    }

pub promote_logged-requires-clause-object : goal.promote_logged-requires-clause-object
promote_logged-requires-clause-object g c =
    let k = c.loop-secondary.at - 1 in
    let row = waiting_row c.args.target c.in-Some.secondary in
    let is = c.in-Some.ensures.some.1 in
    subst (λ (b : Basis). is_object (objects_of b) c.in-Some.secondary ≡ true)
    (sym c.loop-secondary.invariant.basis)
    (c.requires.objects c.args.target c.in-Some.secondary (
      k,
      slice_get_within c.args.rows.now k row is,
      get_or_from_slice_get c.args.rows.now k row row is,
    ))

pub loop-secondary-preserved : goal.loop-secondary-preserved
loop-secondary-preserved g c =
    let b : Basis = g.M.Marker.basis c.args.marker.now in
    let q : Addr → Bool = g.M.Marker.promoted c.loop-secondary.marker in
    let r : Addr → Bool = g.M.Marker.promoted c.promote_logged.new.self in
    record {
      settled = c.promote_logged.ensures.settled;
      basis = c.promote_logged.ensures.basis ∙ c.loop-secondary.invariant.basis;
      pinned = c.promote_logged.ensures.pinned ∙ c.loop-secondary.invariant.pinned;
      log = kept_on _ c.loop-secondary.invariant.log c.promote_logged.ensures.log;
      passing = passing_on (IsYoungField (objects_of b) b.condemned) c.args.rows.now c.args.target
          (g.M.Marker.promoted c.args.marker.now) c.loop-secondary.at c.in-Some.secondary q r
          c.in-Some.ensures.some.0 c.in-Some.ensures.some.1 c.loop-secondary.invariant.passing
          (subst (λ (a : Basis). Grows (IsYoungField (objects_of a) a.condemned)
          (λ z. z ≡ c.in-Some.secondary) q r)
          c.loop-secondary.invariant.basis c.promote_logged.ensures.grows);
    }

pub returns-clause-grows : goal.returns-clause-grows
returns-clause-grows g c =
    let b : Basis = g.M.Marker.basis c.args.marker.now in
    passed (IsYoungField (objects_of b) b.condemned) c.args.rows.now c.args.target
    (g.M.Marker.promoted c.args.marker.now) c.requires.rising c.loop-secondary.at
    (g.M.Marker.promoted c.loop-secondary.marker) c.in_default.ensures.none c.loop-secondary.invariant.passing
