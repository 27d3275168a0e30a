use Rattle.std.proofs.Common.{List, [], ap, subst, sym, ℕ, ◌∙◌, ◌∷◌}
use Rattle.hd_model.specs.declared.data.Id.{Id}
use Rattle.hd_model.specs.Run.{Run}
use Rattle.hd_path.specs.Paths.{ArePathTexts, WritesPaths}
use Rattle.hd_seen.specs.Seen.{view_seen}
use Rattle.hd_world.specs.World.{WorldView}
use Rattle.hd_talk.specs.Machine.{picture_in}
use Rattle.hd_talk.proofs.PicturedStates.{pictured}
use Rattle.hd_talk.proofs.answers.chain.Goals as goal

pub returns : goal.returns
returns c =
    let w : WorldView = c.args.machine.now in
    let ids : List Id = c.args.id ∷ [] in
    let text : List ℕ = c.push_paths.new.text.items in
    let run = subst (λ (v : WorldView). Run v.numbers v.journal v.state) c.world-world.ensures
    c.journal-journal.ensures.run in
    let shown = pictured w (view_seen c.in_ok-seen.seen)
    (c.in_ok-seen.ensures.seen ∙ ap picture_in c.world-world.ensures) run in
    let made = subst (λ (xs : List ℕ). WritesPaths w.state ids xs text) c.new-text.ensures.items
    (c.in_ok-push_paths.ensures w.state shown) in
    subst (ArePathTexts w.state ids) (sym made.1) made.2
