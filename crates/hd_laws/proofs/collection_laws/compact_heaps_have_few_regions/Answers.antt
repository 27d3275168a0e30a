use Rattle.hd_laws.proofs.WorkedChoices.{compact_heaps_have_few_regions}
use Rattle.hd_laws.proofs.collection_laws.compact_heaps_have_few_regions.Goals as goal

pub returns : goal.returns
returns c = compact_heaps_have_few_regions
