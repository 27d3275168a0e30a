use Rattle.std.proofs.Common.{None, sym, ◌+◌, ◌++◌, ◌∙◌}
use Rattle.std.specs.Prelude.{flat_map}
use Rattle.std.specs.List.{range_with_len}
use Rattle.std.proofs.lemmas.List.{append-nil}
use Rattle.hd_model.specs.Text.{newline}
use Rattle.hd_model.specs.declared.limits.TheConstants.{OLDEST}
use Rattle.hd_show.specs.{Heaps.at_generation, Heaps.generation_row, Heaps.generations_header, Inside.regions_by}
use Rattle.hd_show.proofs.Cells.{joined}
use Rattle.hd_show.proofs.Tables.{list_end, range_next}
use Rattle.hd_show.proofs.heaps.push_generations.Goals as goal

pub loop-generation-init : goal.loop-generation-init
loop-generation-init c =
    c.in_ok-push.ensures
    ∙ sym (append-nil (c.args.text.now ++ (generations_header ++ newline)))

pub loop-generation-preserved : goal.loop-generation-preserved
loop-generation-preserved c =
    range_next (at_generation (regions_by c.args.sums.now) c.args.regions.now) (OLDEST + 1)
    c.loop-generation.generation c.loop-generation-test.true
    (c.args.text.now ++ (generations_header ++ newline)) c.loop-generation.text c.push_generation.new.text
    c.loop-generation.invariant c.in_ok-push_generation.ensures

pub returns : goal.returns
returns c =
    let make = at_generation (regions_by c.args.sums.now) c.args.regions.now in
    let last = generation_row (regions_by c.args.sums.now) c.args.regions.now None in
    joined c.args.text.now
    ((generations_header ++ newline) ++ (flat_map make (range_with_len 0 (OLDEST + 1)) ++ last))
    newline c.push_generation-2.new.text c.push-2.new.self
    (list_end make (range_with_len 0 (OLDEST + 1)) c.loop-generation.generation
    c.loop-generation-test.false c.args.text.now (generations_header ++ newline) c.loop-generation.text
    c.loop-generation.invariant last c.push_generation-2.new.text c.in_ok-push_generation-2.ensures)
    c.in_ok-push-2.ensures
