-- Laws of collections and ages in the machine's own words. Each is the contract of a public function of this
-- crate.
use Rattle.std.specs.Prelude.{◌≡◌, ℕ, List, Option, Some, None}
use Rattle.std.specs.FinMap.{get}
use Rattle.hd_model.specs.{declared.data.Id.Id, declared.data.Report.Report}
use Rattle.hd_model.specs.State.{Numbers, Handle, State}
use Rattle.hd_model.specs.Role.{short, long, role}
use Rattle.hd_model.specs.Scene.{scene_of}
use Rattle.hd_model.specs.InUse.{IsRescued}
use Rattle.hd_laws.specs.DueClumps.{HidesNothing}
use Rattle.hd_model.specs.Collect.{CollectsState}
use Rattle.hd_model.specs.Ages.{HasSoundAges}
use Rattle.hd_model.specs.WellFormed.{IsWellFormed}
use Rattle.hd_model.specs.CollectionLaws.{Collected, HasTarget, ReportSays}

-- from a state, a collection leads to at most one state, with one report
abbrev pub OneCollection : Type 0
OneCollection =
    (n : ℕ) (s t u : State) (r q : Report) → CollectsState n s t r → CollectsState n s u q → (t ≡ u) × (r ≡ q)

abbrev pub ReportsAddUp : Type 0
ReportsAddUp = (m : Numbers) (n : ℕ) (s t : State) (r : Report) → Collected m n s t r → ReportSays n s t r

-- a weak short handle and a weak long one with one target
pub record IsWeakPair (s : State) (short_slot long_slot : ℕ) (x : Id) : Type 0 where
  pub weak_short : Handle Id
  pub weak_long : Handle Id
  pub short_is_stored : get s.handles short_slot ≡ Some weak_short
  pub long_is_stored : get s.handles long_slot ≡ Some weak_long
  pub short_role : role weak_short ≡ short
  pub long_role : role weak_long ≡ long
  pub short_target : weak_short.target ≡ Some x
  pub long_target : weak_long.target ≡ Some x

-- both have one target, or null
pub record FareAlike (t : State) (short_slot long_slot : ℕ) : Type 0 where
  pub target : Option Id
  pub by_short : HasTarget t short_slot target
  pub by_long : HasTarget t long_slot target

-- the short one is null, and the long one has the target
pub record FareApart (t : State) (short_slot long_slot : ℕ) (x : Id) : Type 0 where
  pub by_short : HasTarget t short_slot None
  pub by_long : HasTarget t long_slot (Some x)

-- over a collection that resurrects nothing, a short and a long handle keep the same
abbrev pub WeakHandlesFareAlike : Type 0
WeakHandlesFareAlike =
    (m : Numbers) (n : ℕ) (s t : State) (r : Report) (a b : ℕ) (x : Id) → Collected m n s t r
    → r.revived ≡ 0 → IsWeakPair s a b x → FareAlike t a b

-- what is kept for finalization alone stays the target of a long handle, and not of a short one
abbrev pub FinalizationPartsWeakHandles : Type 0
FinalizationPartsWeakHandles =
    (m : Numbers) (n : ℕ) (s t : State) (r : Report) (a b : ℕ) (x : Id) → Collected m n s t r
    → IsRescued n s x → IsWeakPair s a b x → FareApart t a b x

-- ages that are sound hide nothing: a collection of n that visits due clumps alone does what one of all does
abbrev pub AgesHideNothing : Type 0
AgesHideNothing =
    (m : Numbers) (n : ℕ) (s t : State) (r : Report) (ages : List ℕ) → Collected m n s t r
    → HasSoundAges (scene_of s).object (scene_of s).handle ages → HidesNothing ages n s t

-- a collection of n has a state after it and a report
pub record HasCollection (n : ℕ) (s : State) : Type 0 where
  pub after : State
  pub report : Report
  pub collects : CollectsState n s after report

-- no collection is stuck: one leads on from every well formed state, for each n
abbrev pub CollectionsExist : Type 0
CollectionsExist = (m : Numbers) (n : ℕ) (s : State) → IsWellFormed m s → HasCollection n s
