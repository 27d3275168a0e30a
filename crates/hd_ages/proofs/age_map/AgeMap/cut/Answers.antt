use Rattle.hd_ages.proofs.Basics.{CLUMPS, ages_of, ap, take, ◌*◌, ◌∙◌}
use Rattle.hd_ages.proofs.BlockCount.{ages_of-take, map_cut}
use Rattle.hd_ages.proofs.age_map.AgeMap.cut.Goals as goal

pub invariant_of-self : goal.invariant_of-self
invariant_of-self c =
    map_cut c.args.blocks _ _ _ _ c.truncate.ensures.items c.self.invariant c.cut_from.ensures.kept
    c.cut_from.ensures.none c.cut_from-2.ensures.kept c.cut_from-2.ensures.none

pub returns : goal.returns
returns c =
    ap ages_of c.truncate.ensures.items ∙ ages_of-take c.args.blocks c.self.inside.words.items
    ∙ ap (take (CLUMPS * c.args.blocks)) c.self.view_is
