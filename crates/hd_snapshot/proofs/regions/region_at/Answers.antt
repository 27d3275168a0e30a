use Rattle.std.proofs.Common.{Some, ap, is_some, option_map, sym, ◌∙◌}
use Rattle.hd_model.specs.Heap.{Region}
use Rattle.hd_seen.specs.Seen.{region_seen}
use Rattle.hd_snapshot.proofs.regions.region_at.Goals as goal

pub returns-in_err-info : goal.returns-in_err-info
returns-in_err-info c =
    c.from_residual.ensures
    ∙ ap (option_map (λ (r : Region). region_seen c.args.heap.now (c.args.number, r))) c.in_err-info.ensures

pub set_cards-requires : goal.set_cards-requires
set_cards-requires c = sym (ap is_some c.in_ok-info.ensures)

pub returns : goal.returns
returns c =
    ap Some (λ i. record {
      number = c.args.number;
      generation = c.in_ok-info.info.generation;
      pointer = c.in_ok-info.info.fill;
      cards = c.set_cards.ensures i;
    })
    ∙ ap (option_map (λ (r : Region). region_seen c.args.heap.now (c.args.number, r))) c.in_ok-info.ensures
