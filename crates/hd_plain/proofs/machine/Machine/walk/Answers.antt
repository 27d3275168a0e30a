use Rattle.std.proofs.Common.{ap, arith, length, ◌<◌, ◌^◌, ◌∙◌, is_some, ◌≤◌}
use Rattle.std.specs.FinMap.{keys}
use Rattle.hd_model.proofs.MapBuild.{in_keys}
use Rattle.hd_model.proofs.PropertyCounts.{fewer}
use Rattle.hd_model.specs.State.{total_size}
use Rattle.hd_plain.specs.Inside.{young_ids}
use Rattle.hd_plain.specs.MachineViews.{MachineView}
use Rattle.hd_plain.proofs.WholeCollection.{few_entries, few_objects}
use Rattle.hd_plain.proofs.YoungObjects.{rising_apart, young_lists}
use Rattle.hd_plain.proofs.machine.Machine.walk.Goals as goal

pub returns : goal.returns
returns c =
    let j = c.args.self.now in
    let ids = c.in_ok-ids.ids.items in
    let small : total_size j.state < 2 ^ 32 =
    omega (arith, c.used-used.ensures, ap (λ (j : MachineView). total_size j.state) c.self.view_is) in
    let ids_are = c.in_ok-ids.ensures ∙ ap (λ (j : MachineView). young_ids c.args.n j.state.objects) c.self.view_is in
    let entries_are = c.in_ok-entries.ensures ∙ ap (λ (j : MachineView). keys j.state.weak) c.self.view_is in
    let young = young_lists c.args.n j.state.objects ids ids_are in
    let less : length ids ≤ length (keys j.state.objects) =
    fewer ids (keys j.state.objects) (rising_apart _ young.rising)
    (λ k h. in_keys j.state.objects k (ap is_some (young.each k h).1.0)) in
    record {
      ids = ids_are;
      slots = c.in_ok-slots.ensures.each ∙ ap (λ (j : MachineView). keys j.state.handles) c.self.view_is;
      entries = entries_are;
      few_ids = let few = few_objects j.state small in omega (arith, few, less);
      few_slots = c.in_ok-slots.ensures.few;
      few_entries = let few = few_entries j.numbers j.state c.requires in
          let same = ap length entries_are in
          omega (arith, few, same, c.blocks-blocks.ensures, ap (λ (j : MachineView). j.numbers.blocks) c.self.view_is);
    }
