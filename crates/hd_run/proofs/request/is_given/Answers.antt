use Rattle.hd_run.proofs.Basics.{None, Some, codes, found_of, rules, ◌∙◌, ◌≡◌}
use Rattle.std.specs.Str.{bytes_eq}
use Rattle.hd_run.proofs.MatchRequests.{given_read}
use Rattle.hd_run.proofs.request.is_given.Goals as goal

pub returns-in-Some : goal.returns-in-Some
returns-in-Some c =
    let same : c.eq.result ≡ bytes_eq c.in-Some.text.now (codes "true") = search rules in
    same
    ∙ given_read (found_of c.args.matches.now) c.args.name.now (Some c.in-Some.text.now) (search rules)

pub returns-in-None : goal.returns-in-None
returns-in-None c = given_read (found_of c.args.matches.now) c.args.name.now None (search rules)
