-- A journal leads to one state, and to one map of pinned addresses. Ages depend on no such address.
use Rattle.hd_model.proofs.Basics.{Aged, AgedRun, AgedStep, Chain, Class, Entry, FinMap, Id, List, Make, None, Numbers, Option, Slot, Some, State, aged_by, aged_by_class, ap, cond, is_refused, link, lowered_at, lowered_by_new, lowered_to, nat_cmp, option_map_or, refl, register_of, secondary_register, stay, subst, sym, with_pinned, ℕ, ◌∙◌, ◌≡◌}
use Rattle.hd_model.specs.Class.{class_of}
use Rattle.hd_model.proofs.OneState.{one_state_after}
use Rattle.hd_model.specs.declared.class.Class.TheVariants as class

-- where each entry leaves at most one state, a list of entries does
pub one_chain : {S : Type 0} {R : S → Entry → S → Type 0}
    → ((s : S) (e : Entry) (t u : S) → R s e t → R s e u → t ≡ u) → {s t u : S} {es : List Entry}
    → Chain R s es t → Chain R s es u → t ≡ u
one_chain one stay stay = refl
one_chain {R = R} one {u = u} (link {s = s} {t = a} {e = e} {es = es} step rest) (link {t = b} other others) =
    one_chain one rest (subst (λ x. Chain R x es u) (one s e b a other step) others)

-- from a state and ages, an entry leaves at most one state with ages
one_aged : (n : Numbers) (x : Aged) (e : Entry) (y z : Aged) → AgedStep n x e y → AgedStep n x e z → y ≡ z
one_aged n x e y z a b =
    let states : y.state ≡ z.state = one_state_after n x.state y.state z.state e a.step b.step in
    let ages : y.ages ≡ z.ages = a.ages ∙ sym b.ages in
    λ i. record { state = states i; ages = ages i }

-- a journal leads to one state, with one list of ages
pub one_aged_run : (n : Numbers) (journal : List Entry) (s t : State) (ages older : List ℕ)
    → AgedRun n journal s ages → AgedRun n journal t older → (s ≡ t) × (ages ≡ older)
one_aged_run n journal s t ages older a b =
    let same = one_chain (one_aged n) a b in (ap (λ (x : Aged). x.state) same, ap (λ (x : Aged). x.ages) same)

-- so there is one map of pinned addresses with which it leads to a state
pub one_pinned : (n : Numbers) (journal : List Entry) (s : State) (ages : List ℕ) (p q : FinMap nat_cmp ℕ)
    → AgedRun n journal (with_pinned s p) ages → AgedRun n journal (with_pinned s q) ages → p ≡ q
one_pinned n journal s ages p q a b =
    ap (λ (x : State). x.pinned) (one_aged_run n journal (with_pinned s p) (with_pinned s q) ages ages a b).0

module _ (s : State) (p : FinMap nat_cmp ℕ) (caller : ℕ) (slot : Option Slot) (ages : List ℕ) where
  lowered_placed : (at : Option Slot) (t : Option Id)
      → lowered_to (with_pinned s p) ages at t ≡ lowered_to s ages at t
  lowered_placed at None = refl
  lowered_placed at (Some x) = refl

  made_placed : (given : Make) (t : Option Id)
      → lowered_by_new (with_pinned s p) ages slot given t ≡ lowered_by_new s ages slot given t
  made_placed given t =
      ap (option_map_or (λ _. lowered_at ages slot 0) (secondary_register given)) (lowered_placed slot t)

  class_placed : (c : Class)
      → aged_by_class (with_pinned s p) caller slot ages c ≡ aged_by_class s caller slot ages c
  class_placed (class.MakesObject fields) = refl
  class_placed (class.TakesSlot given t) = made_placed given (register_of s caller t)
  class_placed (class.StoresTarget h t) = lowered_placed _ (register_of s caller t)
  class_placed (class.StoresSecondary h) = refl
  class_placed class.Frees = refl
  class_placed (class.GivesBack kind) = refl
  class_placed (class.Collects n) = refl
  class_placed (class.RepliesAddress h) = refl
  class_placed (class.AddsEntry k v) = refl
  class_placed (class.LooksUp k) = refl
  class_placed (class.Searches r) = refl
  class_placed class.Plain = refl

-- an entry leaves the same ages whatever the pinned addresses
pub ages_placed : (s : State) (p : FinMap nat_cmp ℕ) (e : Entry) (ages : List ℕ)
    → aged_by (with_pinned s p) e ages ≡ aged_by s e ages
ages_placed s p e ages =
    ap (cond (is_refused e.reply) ages) (class_placed s p e.caller e.slot ages (class_of e.cmd))
