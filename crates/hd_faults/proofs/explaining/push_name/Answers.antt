use Rattle.hd_script.proofs.Basics.{codes, ◌++◌}
use Rattle.hd_faults.proofs.TextParts.{after}
use Rattle.hd_faults.proofs.explaining.push_name.Goals as goal

pub returns : goal.returns
returns c =
    let name = c.args.name.now in
    let x = c.push.new.text.items in
    let y = c.push-2.new.text.items in
    let z = c.push-3.new.text.items in
    after c.args.text.now.items x (codes "; did you mean ") (name ++ codes "?") z c.in_ok-push.ensures
    (after x y name (codes "?") z c.in_ok-push-2.ensures c.in_ok-push-3.ensures)
