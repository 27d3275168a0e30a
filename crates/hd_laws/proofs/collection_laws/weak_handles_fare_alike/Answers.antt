use Rattle.hd_laws.proofs.WeakPair.{weak_handles_fare_alike}
use Rattle.hd_laws.proofs.collection_laws.weak_handles_fare_alike.Goals as goal

pub returns : goal.returns
returns c = weak_handles_fare_alike
