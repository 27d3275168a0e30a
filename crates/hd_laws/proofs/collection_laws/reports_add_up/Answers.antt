use Rattle.hd_model.proofs.Reports.{report_says}
use Rattle.hd_laws.proofs.collection_laws.reports_add_up.Goals as goal

pub returns : goal.returns
returns c = report_says
