use Rattle.std.proofs.Common.{None, Option, ap, arith, get_or, length, replicate, sym, ◌<◌, ◌∙◌, ◌≡◌}
use borrow.Author.Count.{below_more}
use Rattle.std.proofs.Math.Seq.{map-set_same}
use Rattle.std.proofs.lemmas.List.{get_or-map, length-map}
use Rattle.hd_ends.specs.declared.end.End.{End}
use Rattle.hdt_c.specs.Outs.{values_of}
use Rattle.hd_held.specs.declared.held.Held.{Held}
use Rattle.hd_ends.proofs.EndLists.{closed_is, none_open, open_at}
use Rattle.hdt_c.proofs.SharedOpenings.{same_count}
use Rattle.hdt_c.proofs.on_ends.any_open.Goals as goal

pub returns-then-is_open-clause-same : goal.returns-then-is_open-clause-same
returns-then-is_open-clause-same c =
    map-set_same (λ (h : Held). h.value) c.loop-i.ends c.loop-i.i c.is_open.new.held c.index-ends-i.result
    c.is_open.ensures.same
    ∙ c.loop-i.invariant.same

pub returns-then-is_open-clause-some : goal.returns-then-is_open-clause-some
returns-then-is_open-clause-some c =
    let same = same_count c.loop-i.ends c.args.ends.now c.loop-i.invariant.same in
    let count = length-map c.args.ends.now (λ (h : Held). h.value) in
    let low : c.loop-i.i < length c.loop-i.ends = omega (arith, same, c.loop-i-test.true) in
    let v = (get_or c.loop-i.ends c.loop-i.i c.index-ends-i.result).value in
    open_at (values_of c.args.ends.now) c.loop-i.i v (omega (arith, same, count, low))
    (sym (get_or-map (λ (h : Held). h.value) c.loop-i.ends c.loop-i.i c.index-ends-i.result v low)
    ∙ ap (λ vs. get_or vs c.loop-i.i v) c.loop-i.invariant.same)
    (sym c.is_open.ensures.value ∙ c.if-is_open.true)

pub loop-i-preserved : goal.loop-i-preserved
loop-i-preserved c =
    let value = λ (h : Held). h.value in
    let same = map-set_same value c.loop-i.ends c.loop-i.i c.is_open.new.held c.index-ends-i.result
    c.is_open.ensures.same in
    let is = closed_is (get_or c.loop-i.ends c.loop-i.i c.index-ends-i.result).value
    (sym c.is_open.ensures.value ∙ c.if-is_open.false) in
    let low : c.loop-i.i < length c.loop-i.ends =
    omega (arith, c.loop-i-test.true, same_count c.loop-i.ends c.args.ends.now c.loop-i.invariant.same) in
    record {
      same = same ∙ c.loop-i.invariant.same;
      none = λ k d below. ap (λ vs. get_or vs k d) same
          ∙ below_more (λ k. (d : Option End) → get_or (values_of c.loop-i.ends) k d ≡ None) c.loop-i.i
          (λ k below d. c.loop-i.invariant.none k d below)
          (λ d. get_or-map value c.loop-i.ends c.loop-i.i c.index-ends-i.result d low ∙ is) k below d;
    }

pub returns-clause-none : goal.returns-clause-none
returns-clause-none c =
    let same = same_count c.loop-i.ends c.args.ends.now c.loop-i.invariant.same in
    let count = length-map c.args.ends.now (λ (h : Held). h.value) in
    none_open (values_of c.args.ends.now) (λ k d low. ap (λ vs. get_or vs k d) (sym c.loop-i.invariant.same)
    ∙ c.loop-i.invariant.none k d (omega (arith, low, same, count, c.loop-i-test.false)))
    ∙ ap (λ n. replicate n None) count
