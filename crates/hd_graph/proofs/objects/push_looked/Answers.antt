use Rattle.std.proofs.Common.{List, subst, ℕ, ◌++◌, ◌≡◌}
use Rattle.std.specs.Prelude.{IfOk}
use Rattle.hd_seen.specs.Seen.{object_shown}
use Rattle.hd_graph.specs.Graph.{object_text}
use Rattle.hd_graph.proofs.objects.push_looked.Goals as goal

pub returns : goal.returns
returns c =
    subst
    (λ (t : List ℕ). IfOk c.push_object.result (λ _. c.push_object.new.text.items
    ≡ c.args.text.now.items ++ t))
    (λ i. object_text c.args.clusters (c.contains.ensures i) (c.has.ensures i)
    (object_shown c.args.object.now)) c.push_object.ensures
