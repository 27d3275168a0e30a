use Rattle.hd_links.proofs.SeenStates as states
use Rattle.hd_graph.proofs.laws.pictures_rise.Goals as goal

pub returns : goal.returns
returns c = states.pictures_rise
