use Rattle.std.proofs.Common.{◌+◌, ◌*◌}
use Rattle.hd_pairs.proofs.+churn_all+fn-churn_all-join+arg2.Given as goal

abbrev pub decreases-join+arg2 : goal.decreases-join+arg2
decreases-join+arg2 g l = 2 * l.more

abbrev pub decreases-churn_all : goal.decreases-churn_all
decreases-churn_all g l = 2 * l.more + 1
