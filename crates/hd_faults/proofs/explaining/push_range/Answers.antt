use Rattle.hd_script.proofs.Basics.{codes, ◌++◌}
use Rattle.std.specs.Prelude.{decimal}
use Rattle.hd_faults.proofs.TextParts.{after}
use Rattle.hd_faults.proofs.explaining.push_range.Goals as goal

pub returns : goal.returns
returns c =
    let most = decimal c.args.most in
    let x = c.push.new.text.items in
    let y = c.push_number.new.text.items in
    let z = c.push-2.new.text.items in
    after c.args.text.now.items x (codes "no number from 0 to ") (most ++ codes " ") z c.in_ok-push.ensures
    (after x y most (codes " ") z c.in_ok-push_number.ensures c.in_ok-push-2.ensures)
