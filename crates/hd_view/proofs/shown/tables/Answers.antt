use Rattle.std.proofs.Common.{ap, ◌∙◌, ◌≡◌}
use Rattle.std.proofs.lemmas.Result.{IfOk-weaker}
use Rattle.hd_seen.specs.Seen.{view_seen}
use Rattle.hd_show.proofs.GenerationSums.{generations_add_up}
use Rattle.hd_show.proofs.ObjectSums.{objects_are_counted_once}
use Rattle.hd_show.specs.Heaps.{regions_of}
use Rattle.hd_show.specs.Show.{show_text}
use Rattle.hd_talk.specs.Machine.{picture_in}
use Rattle.hd_view.specs.Shown.{AreTables}
use Rattle.hd_view.proofs.shown.tables.Goals as goal

pub returns : goal.returns
returns c =
    let w = c.args.world.now in
    let parted = c.in_ok-seen.ensures.parted in
    IfOk-weaker c.show_text.result (λ text. text.items ≡ show_text (view_seen c.in_ok-seen.seen))
    (λ text. AreTables w text.items)
    (λ text is. record {
      is_text = is ∙ ap show_text c.in_ok-seen.ensures.seen;
      parted = parted;
      generations = generations_add_up (regions_of (picture_in w)) (picture_in w).regions parted.generations;
      objects = objects_are_counted_once (picture_in w) parted.regions;
    })
    c.show_text.ensures
