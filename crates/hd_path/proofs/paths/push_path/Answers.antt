use Rattle.std.proofs.Common.{List, ap, sym, ℕ, ◌++◌, ◌∙◌, ◌≡◌}
use Rattle.std.proofs.lemmas.Result.{IfOk-weaker}
use Rattle.hd_model.specs.State.{State}
use Rattle.hd_seen.specs.Seen.{view_seen}
use Rattle.hd_links.specs.Shown.{IsPictureOf}
use Rattle.hd_path.specs.Lines.{path_line}
use Rattle.hd_path.specs.Inside.{WritesPath}
use Rattle.hd_path.specs.Inside.{made_in, missing_word}
use Rattle.hd_path.proofs.StatePaths.{is_missing}
use Rattle.hd_path.proofs.paths.push_path.Goals as goal

pub returns-else-has : goal.returns-else-has
returns-else-has c =
    IfOk-weaker c.push_missing.result
    (λ _. c.push_missing.new.text.items
    ≡ c.args.text.now.items ++ path_line c.args.id (missing_word (made_in c.deref.result.now c.args.id)))
    (λ _. (s : State) → IsPictureOf (view_seen c.args.seen.now) s
    → WritesPath s c.args.id c.args.text.now.items c.push_missing.new.text.items)
    (λ _ w s p.
    is_missing c.args.seen.now c.args.search.now c.requires s p c.args.id
    (sym c.has.ensures ∙ c.if-has.false) c.args.text.now.items c.push_missing.new.text.items
    (w ∙ ap (λ (l : List ℕ). c.args.text.now.items
    ++ path_line c.args.id (missing_word (made_in l c.args.id))) c.deref.ensures.value))
    c.push_missing.ensures
