use Rattle.hd_graph.proofs.StateMarks as marks
use Rattle.hd_graph.proofs.laws.grey_is_removed.Goals as goal

pub returns : goal.returns
returns c = marks.grey_is_removed
