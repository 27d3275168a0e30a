use Rattle.hd_script.proofs.Basics.{codes, ◌++◌}
use Rattle.std.specs.Prelude.{decimal}
use Rattle.hd_faults.proofs.TextParts.{after}
use Rattle.hd_faults.proofs.explaining.push_position.Goals as goal

pub returns : goal.returns
returns c =
    let number = decimal c.args.number in
    let column = decimal c.args.column in
    let t = c.args.text.now.items in
    let x = c.push.new.text.items in
    let y = c.push_number.new.text.items in
    let z = c.push-2.new.text.items in
    let u = c.push_number-2.new.text.items in
    let v = c.push-3.new.text.items in
    let first = codes "line " ++ number in
    let second = first ++ codes ", column " in
    let third = second ++ column in
    after t u third (codes ": ") v
    (after t z second column u
    (after t y first (codes ", column ") z (after t x (codes "line ") number y c.in_ok-push.ensures
    c.in_ok-push_number.ensures) c.in_ok-push-2.ensures) c.in_ok-push_number-2.ensures) c.in_ok-push-3.ensures
