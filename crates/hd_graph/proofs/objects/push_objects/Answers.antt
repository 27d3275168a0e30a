use Rattle.std.proofs.Common.{nat_eq, sym}
use Rattle.std.specs.HashSet.{contains}
use Rattle.std.proofs.lemmas.List.{append-nil}
use Rattle.hd_graph.specs.Inside.{tested_text}
use Rattle.hd_walk.specs.Trail.{is_found}
use Rattle.hd_graph.proofs.TextRows.{list_all, list_next}
use Rattle.hd_graph.proofs.objects.push_objects.Goals as goal

pub loop-object-init : goal.loop-object-init
loop-object-init c = sym (append-nil c.args.text.now.items)

pub loop-object-preserved : goal.loop-object-preserved
loop-object-preserved c =
    list_next (tested_text c.args.clusters (contains nat_eq c.args.pinned.now) (is_found c.args.kept.now))
    c.args.objects.now c.loop-object.object-index _ c.loop-object-test.true c.args.text.now.items
    c.loop-object.text.items c.push_looked.new.text.items _ c.object-item.is c.loop-object.invariant
    c.in_ok-push_looked.ensures

pub returns : goal.returns
returns c =
    list_all (tested_text c.args.clusters (contains nat_eq c.args.pinned.now) (is_found c.args.kept.now))
    c.args.objects.now c.loop-object.object-index c.loop-object-test.false c.args.text.now.items
    c.loop-object.text.items c.loop-object.invariant
