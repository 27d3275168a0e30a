use Rattle.hd_run.proofs.Basics.{ExplainsUnsignedError, HasUnsignedDigitsIfOk, Option, ParsesUnsigned, Text, ap, found_of, number_in, one_text, one_text-rows, option_map_or, ◌∙◌}
use Rattle.hd_run.proofs.MatchRequests.{number_read}
use Rattle.hd_run.proofs.request.number_of.Goals as goal

pub returns : goal.returns
returns c =
    let found = found_of c.args.matches.now in
    let name = c.args.name.now in
    let default = c.args.default in
    c.unwrap_or.ensures
    ∙ number_read (λ bs r. ParsesUnsigned 32 10 bs r × ExplainsUnsignedError 10 bs r × HasUnsignedDigitsIfOk
    bs r)
    (one_text found name) c.get_one.result default (λ t x g. g.0) c.requires c.get_one.ensures.none
    c.get_one.ensures.value
    ∙ ap (λ (o : Option Text). option_map_or number_in o default) (one_text-rows found name)
