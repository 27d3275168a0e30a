use Rattle.std.proofs.Common.{Contains, None, [], ap, arith, length, map, subst, sym, ◌++◌, ◌<◌, ◌∙◌, ◌∷◌, ◌≤◌}
use Rattle.std.proofs.lemmas.List.{map_more, take_all}
use Rattle.std.proofs.lemmas.List.Elements.{Contains-get_or}
use Rattle.std.specs.Option.{option_map}
use Rattle.hd_model.specs.Heap.{id_at, object_at}
use Rattle.hd_model.specs.Scene.{fields_at}
use Rattle.hd_snapshot.proofs.objects.fields_of.Goals as goal

pub named-requires : goal.named-requires
named-requires c =
    let fields = fields_at (object_at c.args.heap.now) c.args.at in
    let within : c.loop-i.i < length fields = omega arith in
    λ y is. c.requires.whole c.args.at y
    (subst (Contains fields) (sym c.load.ensures ∙ is) (Contains-get_or fields c.loop-i.i None within))

pub loop-i-preserved : goal.loop-i-preserved
loop-i-preserved c =
    let fields = fields_at (object_at c.args.heap.now) c.args.at in
    let within : c.loop-i.i < length fields = omega arith in
    let name = option_map (id_at c.args.heap.now) in
    c.in_ok-push.ensures.items
    ∙ (λ j. c.loop-i.invariant j ++ (c.named.ensures ∙ ap name c.load.ensures) j ∷ [])
    ∙ sym (map_more name fields c.loop-i.i None within)

pub returns : goal.returns
returns c =
    let fields = fields_at (object_at c.args.heap.now) c.args.at in
    let all : length fields ≤ c.loop-i.i = omega arith in
    c.loop-i.invariant ∙ ap (map (option_map (id_at c.args.heap.now))) (take_all c.loop-i.i fields all)
