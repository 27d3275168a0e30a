use Rattle.std.proofs.Common.{◌≡◌, ◌≤◌, sym, ◌∙◌, subst, arith}
use Rattle.std.proofs.lemmas.Bool.{leb-true}
use Rattle.hd_model.specs.Ages.{age_of}
use Rattle.hd_model.specs.Heap.{object_at}
use Rattle.hd_model.specs.Scene.{generation_at}
use Rattle.hd_rows.proofs.Handles.{vacant, plain_null, plain_at, clump_is}
use Rattle.hd_rows.proofs.checks.is_plain.Goals as goal

pub returns-in_default : goal.returns-in_default
returns-in_default c = λ yes0.
    vacant c.args.heap.now c.args.seg.now c.args.ages.now c.args.slot c.row.result c.row.ensures.value
    c.in_default.is

pub returns-in_default-target : goal.returns-in_default-target
returns-in_default-target c = λ yes0.
    plain_null c.args.heap.now c.args.seg.now c.args.ages.now c.args.slot c.row.result c.row.ensures.value
    c.in-Some.row c.in-Some.is (c.is_single.ensures c.if-not-is_single.false) c.in_default-target.is

pub returns : goal.returns
returns c = λ low.
    let ages = c.args.ages.now in
    let young : c.age.result ≤ c.generation.result = leb-true c.age.result c.generation.result low in
    plain_at c.args.heap.now c.args.seg.now ages c.args.slot c.row.result c.row.ensures.value
    c.in-Some.row c.in-Some.is (c.is_single.ensures c.if-not-is_single.false) c.in-Some-target.at
    c.in-Some-target.is (c.is_object_at.ensures c.if-not-is_object_at.false)
    (subst (λ k. k ≤ generation_at (object_at c.args.heap.now) c.in-Some-target.at)
    (c.age.ensures.value ∙ clump_is ages c.args.slot)
    (subst (λ k. c.age.result ≤ k) c.generation.ensures.value young))
