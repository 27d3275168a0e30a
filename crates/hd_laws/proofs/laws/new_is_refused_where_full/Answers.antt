use Rattle.hd_laws.proofs.HeapLimit.{new_is_refused_where_full}
use Rattle.hd_laws.proofs.laws.new_is_refused_where_full.Goals as goal

pub returns : goal.returns
returns c = new_is_refused_where_full
