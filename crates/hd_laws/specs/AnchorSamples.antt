-- States in which the premises of the laws of `gcroot` hold, and those of the law of an entry whose key goes.
use Rattle.std.specs.Prelude.{◌≡◌, Some, None}
use Rattle.std.specs.FinMap.{get}
use Rattle.hd_model.specs.declared.data.Reply.TheVariants as reply
use Rattle.hd_model.specs.State.{State, with_static, with_weak}
use Rattle.hd_model.specs.WellFormed.{IsWellFormed}
use Rattle.hd_model.specs.InUse.{IsLedTo, IsResurrected}
use Rattle.hd_model.specs.Anchors.{EdgeOf, AnchorOf, ReturnsRoot}
use Rattle.hd_model.specs.AnchorLaws.{IsNoAnchor, DropsUnrooted}
use Rattle.hd_laws.specs.CollectionLaws.{HasCollection}
use Rattle.hd_laws.specs.CollectionSamples.{few, id_of, slot_of, busy, entry_of_one, entered}

-- the busy state with 3 in a static: a field of 3 references 4
abbrev pub rooted : State
rooted = with_static busy 0 (Some (id_of 3))

-- what the laws of `gcroot` ask for. In one state 3 is an anchor, and the root of 4 by one edge. In the other
-- a register alone keeps 1, the key of an entry: once it is dropped a collection takes 1 and its value, 5.
pub record RootPremisesAreMet : Type 0 where
  pub rooted_is : IsWellFormed few rooted
  pub anchor : AnchorOf rooted (id_of 3)
  pub edge : EdgeOf rooted (id_of 3) (id_of 4)
  pub root : ReturnsRoot rooted (id_of 4) (reply.Chain (id_of 3) 1)
  pub after_rooted : HasCollection 1 rooted
  pub drops : DropsUnrooted few 1 entered (id_of 1)
  pub no_other : IsLedTo drops.dropped.after (IsNoAnchor 1 drops.dropped.after) (id_of 1) → ⊥
  pub not_rescued : IsLedTo drops.dropped.after (IsResurrected 1 drops.dropped.after) (id_of 1) → ⊥
  pub entry : get drops.dropped.after.weak 193 ≡ Some (Some entry_of_one)
  pub taken_out : HasCollection 1 (with_weak drops.dropped.after (slot_of 193) None)
  pub key_goes : get drops.collected.after.objects 1 ≡ None
  pub value_goes : get drops.collected.after.objects 5 ≡ None
