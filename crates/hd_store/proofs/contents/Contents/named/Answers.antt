use Rattle.hd_store.proofs.StoreWords.{IsNamed, Some, ap, named_in, subst, sym, ◌∙◌}
use Rattle.hd_store.proofs.contents.Contents.named.Goals as goal

pub id-requires : goal.id-requires
id-requires c = subst (IsNamed c.args.self.now.names) c.in-Some.is c.requires

pub returns-in-Some : goal.returns-in-Some
returns-in-Some c = ap Some c.id.ensures ∙ ap (named_in c.args.self.now.names) (sym c.in-Some.is)

pub returns-in-None : goal.returns-in-None
returns-in-None c = ap (named_in c.args.self.now.names) (sym c.in-None.is)
