use Rattle.std.proofs.Common.{List, ◌++◌, ℕ}
use Rattle.std.specs.Prelude.{codes, flat_map}
use Rattle.std.specs.List.{enumerate_from}
use Rattle.hd_model.specs.Text.{newline}
use Rattle.hd_show.specs.Registers.{caller_objects, caller_slots}
use Rattle.hd_show.proofs.Cells.{joined, joined_last}
use Rattle.hd_show.proofs.registers.push_registers.Goals as goal

pub returns : goal.returns
returns c =
    let header : List ℕ = codes "CALLER  REGISTER  HAS" ++ newline in
    let objects : List ℕ = flat_map caller_objects (enumerate_from 0 c.args.objects.now) in
    let slots : List ℕ = flat_map caller_slots (enumerate_from 0 c.args.slots.now) in
    joined_last c.push-2.result c.args.text.now ((header ++ objects) ++ slots) newline
    c.push_slots.new.text c.push-2.new.self
    (joined c.args.text.now (header ++ objects) slots c.push_objects.new.text c.push_slots.new.text
    (joined c.args.text.now header objects c.push.new.self c.push_objects.new.text c.in_ok-push.ensures
    c.in_ok-push_objects.ensures)
    c.in_ok-push_slots.ensures)
    c.push-2.ensures
