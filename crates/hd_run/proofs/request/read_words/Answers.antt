use Rattle.hd_run.proofs.WordOutcome.{numbers, value, fault}
use Rattle.hd_run.proofs.request.read_words.Goals as goal

pub request_or_fault-requires : goal.request_or_fault-requires
request_or_fault-requires c =
    numbers c.in-Ok.command c.in-Ok.ensures c.args.words.now c.try_get_matches_from.result
    c.try_get_matches_from.ensures.parsed

pub returns-clause-value : goal.returns-clause-value
returns-clause-value c =
    value c.in-Ok.command c.in-Ok.ensures c.args.words.now c.try_get_matches_from.result
    c.request_or_fault.result c.try_get_matches_from.ensures.kinds c.try_get_matches_from.ensures.matches
    (c.request_or_fault.ensures.matches, c.request_or_fault.ensures.error)

pub returns-clause-fault : goal.returns-clause-fault
returns-clause-fault c =
    fault c.in-Ok.command c.in-Ok.ensures c.args.words.now c.try_get_matches_from.result
    c.request_or_fault.result c.try_get_matches_from.ensures.kinds c.try_get_matches_from.ensures.matches
    (c.request_or_fault.ensures.matches, c.request_or_fault.ensures.error)
