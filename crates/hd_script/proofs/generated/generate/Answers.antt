use Rattle.hd_script.proofs.Basics.{AreLists, subst, sym}
use Rattle.hd_script.proofs.LoadRounds.{are_lists}
use Rattle.hd_script.proofs.generated.generate.Goals as goal

pub from_lists-requires : goal.from_lists-requires
from_lists-requires c = let lists = c.in-Ok.ensures in
    subst AreLists (sym lists) (are_lists c.args.rounds c.requires.most)
