use Rattle.hd_store.proofs.StoreWords.{Addr, Id, IsNamed, Machine, ap, name_in, rename_extra, subst, sym, ◌∙◌}
use Rattle.hd_model.specs.State.{Extra as ExtraIn, secondary, secondary_of}
use Rattle.hd_model.specs.{declared.handle.Extra.Extra, Handles.extra_of}
use Rattle.hd_store.proofs.contents.Contents.extra_info.Goals as goal

-- what an extra is by identity
abbrev named_extra : Machine → Extra Addr → ExtraIn Id
named_extra m e = rename_extra (name_in m.names) (extra_of e)

pub named-requires : goal.named-requires
named-requires c =
    subst (λ (e : Extra Addr). IsNamed c.args.self.now.names (secondary_of (extra_of e))) c.in-Secondary.is
    c.requires

pub returns-in-Nothing : goal.returns-in-Nothing
returns-in-Nothing c = ap (named_extra c.args.self.now) (sym c.in-Nothing.is)

pub returns-in-Strength : goal.returns-in-Strength
returns-in-Strength c = ap (named_extra c.args.self.now) (sym c.in-Strength.is)

pub returns-in-Secondary : goal.returns-in-Secondary
returns-in-Secondary c = ap secondary c.named.ensures ∙ ap (named_extra c.args.self.now) (sym c.in-Secondary.is)

pub returns-in-Count : goal.returns-in-Count
returns-in-Count c = ap (named_extra c.args.self.now) (sym c.in-Count.is)
