use Rattle.std.proofs.Common.{◌∙◌, ap}
use Rattle.hd_custody.specs.declared.view.View.{View}
use Rattle.hd_custody.specs.Counts.{without}
use Rattle.hd_custody.proofs.HeldOnBlock.{slot_goes}
use Rattle.use_crates.specs.declared.custody.one_block.OneBlock.{OneBlock}
use Rattle.use_crates.proofs.custody.callers.+hold.Goals as goal

pub returns-clause-held : goal.returns-clause-held
returns-clause-held t c =
    let slot = c.in-Some.slot.0 in
    let held = c.args.seat.now.view.held in
    ap (λ (v : View OneBlock). v.held) c.release.ensures.done.view
    ∙ ap (without slot)
    (c.hold-more.ensures.held ∙ ap (λ (v : View OneBlock). v.held) c.in-Some.ensures.done.view)
    ∙ slot_goes slot 3 held c.in-Some.ensures.fresh.2
