use Rattle.hd_dep.proofs.Basics.{Addr, Basis, Bool, IsEdge, IsSettled, MayVisit, Spreads, arith, cond, objects_of, refl, row_at, subst, sym, true, true≢false, visits_of, ℕ, ◌+◌, ◌<◌, ◌∙◌, ◌≡◌}
use Rattle.std.proofs.lemmas.Grind.{common_steps}
use Rattle.hd_dep.proofs.SecondarySpread.{spreads_none, spreads_on}
use Rattle.hd_dep.proofs.RescanPasses.{HasPassed, none_passed, passed_more, passes_fall, rescan_steps, rescan_closure, gained_or_same, followed_after, left_in}
use Rattle.hd_model.specs.declared.data.Kind.TheVariants as kind
use Rattle.hd_dep.proofs.rescanning.rescan.Goals as goal

pub loop-more-init : goal.loop-more-init
loop-more-init g c =
    let b : Basis = g.M.Marker.basis c.args.marker.now in
    let p : Addr → Bool = g.M.Marker.promoted c.args.marker.now in
    record {
      settled = c.requires.settled;
      basis = refl;
      pinned = refl;
      spreads = spreads_none (IsEdge (objects_of b) (row_at c.args.seg.now)) p;
      passed = none_passed b.heap (visits_of c.args.seg.now c.args.ages.now c.args.n kind.Dependent) p
          c.args.steps.now;
      followed = λ e. absurd (true≢false e);
    }

pub spread-more-requires-clause-visit : goal.spread-more-requires-clause-visit
spread-more-requires-clause-visit g c =
    subst (λ (b : Basis). MayVisit b c.args.seg.now c.args.ages.now c.args.n)
    (sym c.loop-more.invariant.basis) c.requires.due.visit

pub loop-more-preserved : goal.loop-more-preserved
loop-more-preserved g c =
    let b : Basis = g.M.Marker.basis c.args.marker.now in
    let p0 : Addr → Bool = g.M.Marker.promoted c.args.marker.now in
    let p : Addr → Bool = g.M.Marker.promoted c.loop-more.marker in
    let q : Addr → Bool = g.M.Marker.promoted c.spread-more.new.marker in
    let visits : ℕ = visits_of c.args.seg.now c.args.ages.now c.args.n kind.Dependent in
    let basis : g.M.Marker.basis c.spread-more.new.marker ≡ b =
    c.spread-more.ensures.basis ∙ c.loop-more.invariant.basis in
    let settled : IsSettled (objects_of b) b.condemned q =
    subst (λ (a : Basis). IsSettled (objects_of a) a.condemned q) basis
    (g.met.M.Marker.settles c.spread-more.new.marker c.spread-more.ensures.settled) in
    let spreads : Spreads (IsEdge (objects_of b) (row_at c.args.seg.now)) p q =
    subst (λ (a : Basis). Spreads (IsEdge (objects_of a) (row_at c.args.seg.now)) p q)
    c.loop-more.invariant.basis c.spread-more.ensures.spreads in
    let passed : HasPassed b.heap visits p0 p c.args.steps.now c.loop-more.steps true =
    subst (λ (m : Bool). HasPassed b.heap visits p0 p c.args.steps.now c.loop-more.steps m)
    c.loop-more-test.true c.loop-more.invariant.passed in
    record {
      settled = c.spread-more.ensures.settled;
      basis = basis;
      pinned = c.spread-more.ensures.pinned ∙ c.loop-more.invariant.pinned;
      spreads = spreads_on (IsEdge (objects_of b) (row_at c.args.seg.now)) p0 p q
          c.loop-more.invariant.spreads spreads;
      passed = passed_more b.heap visits p0 p q c.args.steps.now c.loop-more.steps c.spread-more.new.steps
          c.spread-more.result
          (passes_fall b.heap b.condemned p q settled spreads.keeps c.spread-more.result
          (gained_or_same (row_at c.args.seg.now) c.args.ages.now c.args.n p q c.spread-more.result
          c.spread-more.ensures.more))
          passed c.spread-more.ensures.steps;
      followed = λ last. followed_after (row_at c.args.seg.now) c.args.ages.now c.args.n p q
          c.spread-more.result c.spread-more.ensures.more (grind (arith, common_steps));
    }

pub loop-more-smaller : goal.loop-more-smaller
loop-more-smaller g c =
    let b : Basis = g.M.Marker.basis c.args.marker.now in
    let p : Addr → Bool = g.M.Marker.promoted c.loop-more.marker in
    let q : Addr → Bool = g.M.Marker.promoted c.spread-more.new.marker in
    let settled : IsSettled (objects_of b) b.condemned q =
    subst (λ (a : Basis). IsSettled (objects_of a) a.condemned q)
    (c.spread-more.ensures.basis ∙ c.loop-more.invariant.basis)
    (g.met.M.Marker.settles c.spread-more.new.marker c.spread-more.ensures.settled) in
    subst (λ (m : Bool). left_in b.heap q + cond c.spread-more.result 1 0 < left_in b.heap p + cond m 1 0)
    (sym c.loop-more-test.true)
    (passes_fall b.heap b.condemned p q settled c.spread-more.ensures.spreads.keeps c.spread-more.result
    (gained_or_same (row_at c.args.seg.now) c.args.ages.now c.args.n p q c.spread-more.result
    c.spread-more.ensures.more))

pub returns-clause-closure : goal.returns-clause-closure
returns-clause-closure g c =
    let b : Basis = g.M.Marker.basis c.args.marker.now in
    let p0 : Addr → Bool = g.M.Marker.promoted c.args.marker.now in
    let p : Addr → Bool = g.M.Marker.promoted c.loop-more.marker in
    let first : IsSettled (objects_of b) c.args.n p0 =
    subst (λ n. IsSettled (objects_of b) n p0) c.requires.due.visit.generation
    (g.met.M.Marker.settles c.args.marker.now c.requires.settled) in
    let last : IsSettled (objects_of b) c.args.n p =
    subst (λ n. IsSettled (objects_of b) n p) c.requires.due.visit.generation
    (subst (λ (a : Basis). IsSettled (objects_of a) a.condemned p) c.loop-more.invariant.basis
    (g.met.M.Marker.settles c.loop-more.marker c.loop-more.invariant.settled)) in
    rescan_closure (objects_of b) c.args.n (row_at c.args.seg.now) c.args.ages.now p0 p first last
    c.requires.fields c.requires.due.sound c.loop-more.invariant.spreads
    (c.loop-more.invariant.followed c.loop-more-test.false)

pub returns-clause-steps : goal.returns-clause-steps
returns-clause-steps g c =
    let b : Basis = g.M.Marker.basis c.args.marker.now in
    let p0 : Addr → Bool = g.M.Marker.promoted c.args.marker.now in
    let p : Addr → Bool = g.M.Marker.promoted c.loop-more.marker in
    let visits : ℕ = visits_of c.args.seg.now c.args.ages.now c.args.n kind.Dependent in
    rescan_steps b.heap b.condemned visits p0 p c.args.steps.now c.loop-more.steps
    (subst (λ (a : Basis). IsSettled (objects_of a) a.condemned p) c.loop-more.invariant.basis
    (g.met.M.Marker.settles c.loop-more.marker c.loop-more.invariant.settled))
    (subst (λ (m : Bool). HasPassed b.heap visits p0 p c.args.steps.now c.loop-more.steps m)
    c.loop-more-test.false
    c.loop-more.invariant.passed)
