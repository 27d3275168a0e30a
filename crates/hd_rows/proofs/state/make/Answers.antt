use Rattle.hd_model.specs.declared.data.Id.{Id}
use Rattle.hd_heap.specs.Calls.{new_object}
use Rattle.std.proofs.Common.{false}
use Rattle.hd_rows.proofs.Made.{full_made}
use Rattle.hd_rows.proofs.state.make.Goals as goal

pub returns : goal.returns
returns g c = record {
  full =
      full_made c.args.heap.now c.new_object.new.self c.in-Ok.at
      (new_object (record { 0 = c.args.id }) c.args.fields false) c.in-Ok.ensures.made c.requires.full;
}
