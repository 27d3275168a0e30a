use Rattle.std.proofs.Common.{sym, ◌++◌, ◌∙◌}
use Rattle.std.proofs.lemmas.List.{append-nil}
use Rattle.hd_model.specs.Text.{newline}
use Rattle.hd_show.specs.{Heaps.region_row, Heaps.regions_header, Inside.regions_by}
use Rattle.hd_show.proofs.Tables.{list_end}
use Rattle.hd_show.proofs.heaps.push_regions.Goals as goal

pub loop-region-init : goal.loop-region-init
loop-region-init c =
    c.in_ok-push.ensures
    ∙ sym (append-nil (c.args.text.now ++ (regions_header ++ newline)))

pub returns : goal.returns
returns c =
    list_end (region_row (regions_by c.args.sums.now)) c.args.regions.now c.loop-region.region-index
    c.loop-region-test.false c.args.text.now (regions_header ++ newline) c.loop-region.text
    c.loop-region.invariant newline c.push-2.new.self c.in_ok-push-2.ensures
