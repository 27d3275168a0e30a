use Rattle.std.proofs.Common.{List, Option, [], ap, cond, lt-ltb, map, nat_lt, subst, sym, true, ◌++◌, ◌<◌, ◌∙◌, ◌≡◌}
use Rattle.std.proofs.lemmas.Result.{IfOk-weaker}
use Rattle.hd_model.specs.State.{Object}
use Rattle.hd_model.specs.declared.data.Id.{Id}
use Rattle.hd_plain.specs.Attaching.{secondaries}
use Rattle.hd_plain.specs.Inside.{with_targets, young, young_at}
use Rattle.hd_plain.proofs.MarkedSets.{targets_then}
use Rattle.hd_plain.proofs.collecting.mark_from.Goals as goal

pub returns : goal.returns
returns c =
    let n = c.args.sight.now.n in
    let o = c.args.entry.now.1.now in
    let objects = c.args.sight.now.objects.now in
    let marks = c.args.marks.now in
    let fields = map (young n objects) o.fields in
    let others = map (young_at n objects) (secondaries c.args.attached.now c.args.entry.now.0) in
    let older : nat_lt n o.generation ≡ true =
    lt-ltb n o.generation
    (subst (λ (z : Object Id). n < z.generation) c.object.view_is c.if-object-sight.false) in
    IfOk-weaker c.mark_secondaries.result _ _
    (λ _ is. is
    ∙ ap (λ m. with_targets m others)
    (c.in_ok-mark_young.ensures
    ∙ ap (λ (xs : List (Option Id)). with_targets marks (map (young n objects) xs))
    (c.deref.ensures.value ∙ ap (λ (z : Object Id). z.fields) c.object.view_is))
    ∙ targets_then marks fields others
    ∙ ap (λ b. with_targets marks (cond b (fields ++ others) [])) (sym older))
    c.mark_secondaries.ensures
