use Rattle.hd_plain.proofs.OwnNames.{is_read, if_within, if_stored}
use Rattle.hd_plain.proofs.parts.MachineParts.TheImpl.Goals as goal

pub handle-tells : goal.handle-tells
handle-tells c = record {
  value = is_read c.args.self.now c.args.slot c.result c.ensures;
  may = if_stored c.args.self.now c.requires c.args.slot c.result c.ensures;
  within = if_within c.args.self.now c.requires c.args.slot c.result c.ensures;
}
