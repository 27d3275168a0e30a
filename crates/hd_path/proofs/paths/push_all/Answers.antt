use Rattle.std.proofs.Common.{List, subst, take}
use Rattle.std.proofs.lemmas.List.{take_all, take_more}
use Rattle.hd_model.specs.declared.data.Id.{Id}
use Rattle.hd_path.specs.Paths.{WritesPaths}
use Rattle.hd_path.proofs.ChainLines.{paths_more, paths_none}
use Rattle.hd_path.proofs.paths.push_all.Goals as goal

pub loop-id-init : goal.loop-id-init
loop-id-init c = record { writes = λ s is. paths_none s c.args.text.now.items }

pub loop-id-preserved : goal.loop-id-preserved
loop-id-preserved c = record {
  writes = λ s is.
      paths_more s (take c.loop-id.id-index c.args.ids.now) c.args.text.now.items c.loop-id.text.items
      c.push_path.new.text.items _ _ (take_more c.args.ids.now c.loop-id.id-index _ c.loop-id-test.true)
      (c.loop-id.invariant.writes s is) (c.in_ok-push_path.ensures s is);
}

pub returns : goal.returns
returns c = λ s is.
    subst (λ (l : List Id). WritesPaths s l c.args.text.now.items c.loop-id.text.items)
    (take_all c.loop-id.id-index c.args.ids.now c.loop-id-test.false) (c.loop-id.invariant.writes s is)
