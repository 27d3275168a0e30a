use Rattle.hd_store.proofs.StoreWords.{Addr, Collected, CollectedSteps, Err, HasCollected, Inside, IsStored, List, Machine, MatchResult, Ok, Option, Parts, Result, WeakTable, ap, drop, length, machine_of, parts, refl, state_of, subst, sym, take, true≢false, ◌++◌, ◌∙◌, ◌≡◌}
use Rattle.std.specs.Result.{IsErr}
use Rattle.hd_gc.specs.Ready.{Parts as Lent, parts as lent_parts}
use Rattle.hd_store.proofs.ChainVisits.{steps-collected}
use Rattle.hd_store.proofs.StoreCollect.{IsSwept, IsUncollected, left_parts, lent_of, lent, as_long, stored-left, has-collected, stored-out, machine-out, unswept}
use Rattle.hd_store.proofs.contents.Contents.collect.Given.{Over}
use Rattle.hd_store.proofs.contents.Contents.collect.Goals as goal

on_err : {A E : Type 0} (r : Result A E) (P : A → Type 0) (Q : Type 0) → IsErr r → Q
    → MatchResult r P (λ _. Q)
on_err (Ok a) P Q is q = absurd (true≢false (sym is))
on_err (Err e) P Q is q = q

-- the roots that were lent come back whole
abbrev whole : Inside → List (Option Addr) → List (Option Addr)
whole i roots = take i.roots.len (roots ++ drop (length roots) i.roots.items)

back : (i : Inside) (l : Lent) (w : WeakTable) (P : Parts → Type 0)
    → length l.roots ≡ length i.roots.items → P (left_parts (parts i) l w)
    → P (left_parts (parts i) (record l { roots = whole i l.roots }) w)
back i l w P long is = subst (λ roots. P (left_parts (parts i) (record l { roots = roots }) w))
    (sym (lent l.roots i.roots.items i.roots.len i.roots.ok.0 long)) is

-- memory ran out
out : (g : Over) (c : goal.After-from_residual g)
    → IsUncollected (parts c.self.inside) (lent_parts c.collect.new.heap c.collect.new.seg c.collect.new.ages
    c.collect.new.fin c.collect.new.roots) c.args.steps.now c.collect.new.steps
out g c =
    subst (λ roots. IsUncollected (record (parts c.self.inside) { roots = roots }) (lent_parts
    c.collect.new.heap c.collect.new.seg c.collect.new.ages c.collect.new.fin c.collect.new.roots)
    c.args.steps.now c.collect.new.steps) c.deref_mut.ensures.value c.in_err-report.ensures.collected

pub invariant_of-self : goal.invariant_of-self
invariant_of-self g c =
    let l = lent_parts c.collect.new.heap c.collect.new.seg c.collect.new.ages c.collect.new.fin
    c.collect.new.roots in
    back c.self.inside l c.self.inside.weak IsStored (ap length (out g c).4)
    (stored-out (parts c.self.inside) l c.args.steps.now c.collect.new.steps (out g c) c.self.invariant)

pub returns-in_err-report : goal.returns-in_err-report
returns-in_err-report g c =
    let l = lent_parts c.collect.new.heap c.collect.new.seg c.collect.new.ages c.collect.new.fin
    c.collect.new.roots in
    on_err c.from_residual.result _ _ c.from_residual.ensures.0 (
      back c.self.inside l c.self.inside.weak (λ f. machine_of f ≡ c.args.self.now) (ap length (out g c).4)
          (machine-out (parts c.self.inside) l c.args.steps.now c.collect.new.steps (out g c)
          ∙ c.self.view_is),
      (out g c).5,
    )

-- or not
pub sweep_lost-requires : goal.sweep_lost-requires
sweep_lost-requires g c =
    let f = parts c.self.inside in
    let l = lent_parts c.collect.new.heap c.collect.new.seg c.collect.new.ages c.collect.new.fin
    c.collect.new.roots in
    unswept c.self.inside.weak c.self.invariant
    (subst
    (λ roots. Collected (lent_of (record f { roots = roots })) l c.args.n c.in_ok-report.report
    c.args.steps.now c.collect.new.steps) c.deref_mut.ensures.value c.in_ok-report.ensures.collected)

swept : (g : Over) (c : goal.After-sweep_lost g)
    → IsSwept (parts c.self.inside) (lent_parts c.collect.new.heap c.collect.new.seg c.collect.new.ages
    c.collect.new.fin c.collect.new.roots) c.sweep_lost.new.weak c.args.n c.in_ok-report.report
    c.args.steps.now c.collect.new.steps
swept g c = record {
  stored = c.self.invariant;
  done = subst
      (λ roots. Collected (lent_of (record (parts c.self.inside) { roots = roots })) (lent_parts
      c.collect.new.heap c.collect.new.seg c.collect.new.ages c.collect.new.fin c.collect.new.roots) c.args.n
      c.in_ok-report.report c.args.steps.now c.collect.new.steps) c.deref_mut.ensures.value
      c.in_ok-report.ensures.collected;
  blocks = c.sweep_lost.ensures.blocks;
  buckets = c.sweep_lost.ensures.buckets;
  each = c.sweep_lost.ensures.each;
}

pub invariant_of-self-2 : goal.invariant_of-self-2
invariant_of-self-2 g c =
    let l = lent_parts c.collect.new.heap c.collect.new.seg c.collect.new.ages c.collect.new.fin
    c.collect.new.roots in
    back c.self.inside l c.sweep_lost.new.weak IsStored (as_long (swept g c)) (stored-left (swept g c))

pub returns : goal.returns
returns g c =
    let l = lent_parts c.collect.new.heap c.collect.new.seg c.collect.new.ages c.collect.new.fin
    c.collect.new.roots in (
      back c.self.inside l c.sweep_lost.new.weak
          (λ f. HasCollected c.args.self.now (machine_of f) c.args.n c.in_ok-report.report)
          (as_long (swept g c)) (has-collected (swept g c) c.args.self.now c.self.view_is),
      subst (λ (m : Machine). CollectedSteps m.state m.ages c.args.n c.args.steps.now c.collect.new.steps)
          c.self.view_is
          (steps-collected (state_of (parts c.self.inside)) c.self.inside.table refl c.live-live.ensures.table
          c.self.inside.ages c.args.n c.args.steps.now c.collect.new.steps (swept g c).done.steps),
    )
