use Rattle.hd_laws.proofs.HeapLimit.{heap_is_within_its_limit}
use Rattle.hd_laws.proofs.laws.heap_is_within_its_limit.Goals as goal

pub returns : goal.returns
returns c = heap_is_within_its_limit
