use Rattle.std.proofs.Common.{subst}
use Rattle.hd_path.specs.Paths.{WritesPaths}
use Rattle.hd_view.proofs.ShownClaims.{pictured, whole_chains}
use Rattle.hd_view.proofs.shown.chains.Goals as goal

pub returns : goal.returns
returns c =
    let w = c.args.world.now in
    let text = c.push_paths.new.text.items in
    whole_chains w.state c.args.ids.now text
    (subst (λ xs. WritesPaths w.state c.args.ids.now xs text) c.new-text.ensures.items
    (c.in_ok-push_paths.ensures w.state (pictured w c.requires c.in_ok-seen.ensures.seen)))
