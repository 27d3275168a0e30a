use Rattle.std.proofs.Common.{ap, subst, ◌∙◌}
use Rattle.hd_heap.specs.Sound.{IsSound}
use Rattle.hd_model.specs.Table.{IsTable}
use Rattle.hd_store.specs.Store.{Machine}
use Rattle.hd_view.proofs.ShownClaims.{sound_without}
use Rattle.hd_view.proofs.script.keep.Goals as goal

pub returns-clause-heap : goal.returns-clause-heap
returns-clause-heap c =
    subst IsSound
    (c.heap.ensures.value ∙ ap (λ (m : Machine). m.heap) c.contents-contents.ensures.value ∙ c.store.ensures.heap)
    (sound_without c.heap.result.now c.count-count.ensures.sound)

pub returns-clause-table : goal.returns-clause-table
returns-clause-table c =
    subst IsTable
    (c.table.ensures ∙ ap (λ (m : Machine). m.table) c.contents-contents.ensures.value ∙ c.store.ensures.table)
    c.given-given.ensures.table
