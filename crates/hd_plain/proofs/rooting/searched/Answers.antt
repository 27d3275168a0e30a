use Rattle.std.proofs.Common.{AllPairs, List, ap, arith, subst, sym, ℕ, ◌<◌, ◌^◌, ◌∙◌}
use Rattle.std.specs.List.{Contains}
use Rattle.std.proofs.lemmas.Option.{IfSome_then}
use Rattle.hd_model.specs.State.{total_size}
use Rattle.hd_model.specs.declared.data.Id.{Id}
use Rattle.hd_plain.specs.MachineViews.{MachineView}
use Rattle.hd_plain.proofs.AnchorGains.{anchors_listed, keys_ascend}
use Rattle.hd_maps.proofs.SeenMaps.{keys_length}
use Rattle.hd_plain.proofs.WholeCollection.{few_objects}
use Rattle.hd_plain.proofs.rooting.searched.Goals as goal

pub chain_to-requires-clause-rising : goal.chain_to-requires-clause-rising
chain_to-requires-clause-rising c =
    subst (λ (xs : List ℕ). AllPairs (λ x y. x < y) xs)
    (sym (c.deref.ensures.value ∙ c.in_ok-anchors.ensures)) (keys_ascend _)

pub chain_to-requires-clause-all : goal.chain_to-requires-clause-all
chain_to-requires-clause-all c = λ (x : Id).
    let s = c.args.machine.now.state in
    let is = c.deref.ensures.value ∙ c.in_ok-anchors.ensures in
    let each = anchors_listed s _ _ c.open-marks.ensures c.in_ok-attached.ensures.gains x in (
      λ k. each.0 (subst (λ (xs : List ℕ). Contains xs x.0) is k),
      λ a. subst (λ (xs : List ℕ). Contains xs x.0) (sym is) (each.1 a),
    )

pub returns-in-Ok-clause-few : goal.returns-in-Ok-clause-few
returns-in-Ok-clause-few c =
    let s = c.args.machine.now.state in
    let small : total_size s < 2 ^ 32 =
    omega (arith, c.used-used.ensures, ap (λ (j : MachineView). total_size j.state) c.machine.view_is) in
    let objects = few_objects s small in
    let same = keys_length s.objects in
    IfSome_then c.in-Ok.found c.in-Ok.ensures.few (λ o low. omega (arith, low, objects, same))
