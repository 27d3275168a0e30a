use Rattle.std.proofs.Common.{sym, ◌∙◌}
use Rattle.hd_host.proofs.TrimRows.{paired_block, plain_block}
use Rattle.hd_host.proofs.host.Host.trim_block.Goals as goal

pub returns-then-paired-clause-does : goal.returns-then-paired-clause-does
returns-then-paired-clause-does c =
    paired_block (sym c.paired.ensures ∙ c.if-paired.true) c.trim_pair.ensures.does

pub returns-else-paired-clause-does : goal.returns-else-paired-clause-does
returns-else-paired-clause-does c =
    plain_block (sym c.paired.ensures ∙ c.if-paired.false) c.trim.ensures.does
