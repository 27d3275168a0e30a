-- Two runs of the same lists, each of one caller after another, are one.
use Rattle.hd_model.proofs.Basics.{Adding, AddsEntry, AddsLeast, All, Back, Chain, Cmd, DoesCollect, Entry, FindsTableFull, GivesBack, GivesBackLeast, GivesLeast, Grown, Id, IsLeastFree, IsNonDecreasingBy, IsOutcome, IsWellFormed, Kind, List, Make, MakesHandle, MayGive, None, NoneAllFree, NoneFree, Numbers, Outcome, Slot, SoloRunsAreOne, SoloStep, SoloTextIsOne, Some, State, Step, TakesLeast, TakesWay, Way, Zero, [], adding_of, adds_entry, reply_with, replies_address, ap, cases_eq, collects, commands_of, cond, decided, eq-eqb, gives_back, in_idle, in_new, inl, inr, kind_of, le_antisymm, le_of_eq, le_trans, link, makes_handle, makes_object, ne_eqb, none-some, part_of, refl, stay, subst, suc, suc-le-suc, sym, text_of, way_of, way_of_adding, zero-le, ℕ, ⊎_elim, ◌∙◌, ◌∷◌, ◌≡◌, ◌≤◌, ◌⊎◌}
use Rattle.hd_model.specs.Command.{is_refused}
use Rattle.hd_model.proofs.{Collections.one_collection, StepWrites.same_slot, LeastGrowth.grown_or_full, LeastGrowth.same_growth, WellFormedSteps.step_keeps, WellFormedSteps.start_is_well_formed}
use Rattle.hd_model.proofs.OneState.{CommandOf, way_command, one_state_after}
use Rattle.hd_model.specs.declared.data.Kind.TheVariants as kind
use Rattle.hd_model.specs.declared.data.Reply.TheVariants as reply
use Rattle.hd_model.specs.declared.command.Cmd.TheVariants as cmd
use Rattle.hd_model.proofs.Basics.{Option, option_map_or}
use Rattle.hd_model.specs.Data.{Reply}
use Rattle.hd_model.specs.State.{register_of}
use Rattle.hd_model.specs.Command.{refuses}
use Rattle.hd_model.specs.Step.{replies_root}
use Rattle.hd_model.specs.Anchors.{ReturnsRoot}
use Rattle.hd_model.proofs.AnchorChains.{one_root}
use Rattle.hd_model.specs.declared.data.Refusal.TheVariants as refusal

-- what the state and the command decide of an entry in a run of one thread
abbrev Same : Entry → Entry → Type 0
Same e f = (e.slot ≡ f.slot) × (e.grown ≡ f.grown) × (e.reply ≡ f.reply)

outcomes_same : (e f : Entry) (r : Outcome) (t u : State) → IsOutcome e r t → IsOutcome f r u → Same e f
outcomes_same e f r t u a b = (a.slot ∙ sym b.slot, a.grown ∙ sym b.grown, a.reply ∙ sym b.reply)

same_least : (s : State) (wanted : Kind) (a b : Slot) → IsLeastFree s wanted a → IsLeastFree s wanted b
    → a ≡ b
same_least s wanted a b x y = same_slot a b (le_antisymm (x.least b y.free) (y.least a x.free))

-- two entries that take a slot of one kind, or find the table full
record TakesSlot (n : Numbers) (s : State) (wanted : Kind) (e : Entry) : Type 0 where
  pub slot : Slot
  pub given : e.slot ≡ Some slot
  pub may : MayGive n s wanted e.grown slot
  pub reply : e.reply ≡ reply.Done

made_takes : {n : Numbers} {s : State} {e : Entry} {t : State} {d : ℕ} {given : Make} {r : ℕ}
    → MakesHandle n s e t d given r → TakesSlot n s (kind_of given) e
made_takes m = record { slot = m.slot; given = m.given; may = m.may; reply = m.reply }

added_takes : {n : Numbers} {s : State} {e : Entry} {t : State} {v : ℕ} {key : Id}
    → AddsEntry n s e t v key → TakesSlot n s kind.Dependent e
added_takes a = record { slot = a.slot; given = a.given; may = a.may; reply = a.reply }

module _ (n : Numbers) (s : State) (w : IsWellFormed n s) (e f : Entry) (t u : State) (wanted : Kind) where
  abbrev Takes : Entry → State → Type 0
  Takes x y = TakesSlot n s wanted x ⊎ FindsTableFull n s x y wanted

  -- an entry that takes the least free slot of the kind
  abbrev TakesFree : Entry → Type 0
  TakesFree x = (slot : Slot) × IsLeastFree s wanted slot × (x.slot ≡ Some slot) × (x.grown ≡ Zero)

  free_is_done : (x : Entry) (y : State) → TakesFree x → Takes x y → x.reply ≡ reply.Done
  free_is_done x y takes (inl made) = made.reply
  free_is_done x y takes (inr full) = absurd (none-some takes.0 (sym full.refused.slot ∙ takes.2))

  made_same : NoneFree s wanted → Takes e t → Takes f u → Same e f
  made_same none (inl a) (inl b) =
      let (grown, slot) = same_growth n s wanted e.grown f.grown a.slot b.slot none a.may b.may in
      (a.given ∙ ap Some slot ∙ sym b.given, grown, a.reply ∙ sym b.reply)
  made_same none (inl a) (inr b) = absurd (grown_or_full n s wanted e.grown a.slot w none a.may b.few)
  made_same none (inr a) (inl b) = absurd (grown_or_full n s wanted f.grown b.slot w none b.may a.few)
  made_same none (inr a) (inr b) = outcomes_same e f _ t u a.refused b.refused

  taken_same : Takes e t → Takes f u → GivesLeast s e wanted → GivesLeast s f wanted → Same e f
  taken_same a b (inl x) (inl y) = (
    x.2 ∙ ap Some (same_least s wanted x.0 y.0 x.1 y.1) ∙ sym y.2,
    x.3 ∙ sym y.3,
    free_is_done e t x a ∙ sym (free_is_done f u y b),
  )
  taken_same a b (inl x) (inr none) = absurd (none x.0 x.1.free)
  taken_same a b (inr none) (inl y) = absurd (none y.0 y.1.free)
  taken_same a b (inr none) (inr _) = made_same none a b

-- two entries of a `trim` of one kind
module _ (s : State) (e f : Entry) (t u : State) (wanted : Kind) where
  abbrev Trims : Entry → State → Type 0
  Trims x y = GivesBack s x y wanted ⊎ IsOutcome x (reply_with (reply.Value 0) s) y

  back_or_zero : {g : Grown} {block : ℕ} → g ≡ Back block → g ≡ Zero → ⊥
  back_or_zero back zero_is = cc

  back_is : (x : Entry) (y : State) (block : ℕ) → x.grown ≡ Back block → Trims x y → (x.slot ≡ None)
      × (x.reply ≡ reply.Value 1)
  back_is x y block grown (inl back) = (back.slot, back.reply)
  back_is x y block grown (inr none) = absurd (back_or_zero grown none.grown)

  none_back : (x : Entry) (y : State) → NoneAllFree s wanted → Trims x y
      → IsOutcome x (reply_with (reply.Value 0) s) y
  none_back x y none (inl back) = absurd (none back.block back.free)
  none_back x y none (inr zero_is) = zero_is

  trimmed_same : Trims e t → Trims f u → GivesBackLeast s e wanted → GivesBackLeast s f wanted → Same e f
  trimmed_same a b (inl x) (inl y) =
      let same : x.0 ≡ y.0 = le_antisymm (x.1.least y.0 y.1.free) (y.1.least x.0 x.1.free) in
      let (slot, replied) = back_is e t x.0 x.2 a in
      let (slot', replied') = back_is f u y.0 y.2 b in
      (slot ∙ sym slot', x.2 ∙ ap Back same ∙ sym y.2, replied ∙ sym replied')
  trimmed_same a b (inl x) (inr none) = absurd (none x.0 x.1.free)
  trimmed_same a b (inr none) (inl y) = absurd (none y.0 y.1.free)
  trimmed_same a b (inr none) (inr _) = outcomes_same e f _ t u (none_back e t none a) (none_back f u none b)

collected_same : (s : State) (e f : Entry) (t u : State) (k : ℕ) → DoesCollect s e t k → DoesCollect s f u k
    → Same e f
collected_same s e f t u k a b = (
  a.slot ∙ sym b.slot,
  a.grown ∙ sym b.grown,
  a.reply ∙ ap reply.Report (one_collection k s t u a.report b.report a.collects b.collects).1 ∙ sym b.reply,
)

-- `gcroot` has one reply
roots_same : (s : State) (e f : Entry) (t u : State) (r : ℕ) (p q : Reply) (o : Option Id)
    → ((goal : Id) → o ≡ Some goal → ReturnsRoot s goal p)
    → ((goal : Id) → o ≡ Some goal → ReturnsRoot s goal q)
    → IsOutcome e (option_map_or (λ _. reply_with p s) o (refuses refusal.Null s)) t
    → IsOutcome f (option_map_or (λ _. reply_with q s) o (refuses refusal.Null s)) u → Same e f
roots_same s e f t u r p q None a b x y = outcomes_same e f _ t u x y
roots_same s e f t u r p q (Some goal) a b x y = (
  x.slot ∙ sym y.slot,
  x.grown ∙ sym y.grown,
  x.reply ∙ one_root s goal p q (a goal refl) (b goal refl) ∙ sym y.reply,
)

-- the entry with another slot, other blocks and another reply
abbrev with_rest : Entry → Entry → Entry
with_rest e f = record f { caller = e.caller; cmd = e.cmd }

-- a `cadd` that needs a slot takes it as an `hnew` does
adds_least : (s : State) (e : Entry) (caller v : ℕ) (key : Id) (a : Adding)
    → way_of_adding s caller v a ≡ adds_entry v key → AddsLeast s e a → GivesLeast s e kind.Dependent
adds_least s e caller v key (is_refused refusal) is least = absurd (let other = is in cc)
adds_least s e caller v key (in_idle slot other) is least = absurd (let other = is in cc)
adds_least s e caller v key (in_new other) is least = least

way_same : (n : Numbers) (s : State) (e f : Entry) (t u : State) (c : Cmd) (way : Way)
    → way_of s e.caller c ≡ way → CommandOf c way → IsWellFormed n s → ((h : ℕ) → c ≡ cmd.AddrOf h → ⊥)
    → TakesWay n s e t way
    → TakesWay n s (with_rest e f) u way → TakesLeast s e c → TakesLeast s (with_rest e f) c
    → Same e (with_rest e f)
way_same n s e f t u c (decided r) by is w other a b x y = outcomes_same e (with_rest e f) r t u a b
way_same n s e f t u c (makes_object d fields fin) by is w other a b x y =
    outcomes_same e (with_rest e f) _ t u a.1 b.1
way_same n s e f t u c (makes_handle d given r) by is w other a b x y =
    taken_same n s w e (with_rest e f) t u (kind_of given) (⊎_elim (λ m. inl (made_takes m)) inr a)
    (⊎_elim (λ m. inl (made_takes m)) inr b) (subst (TakesLeast s e) is x)
    (subst (TakesLeast s (with_rest e f)) is y)
way_same n s e f t u c (adds_entry v key) by is w other a b x y =
    let adding = adding_of s e.caller is.0 in
    let same : way_of_adding s e.caller v adding ≡ adds_entry v key = ap (way_of s e.caller) (sym is.1)
    ∙ by in
    taken_same n s w e (with_rest e f) t u kind.Dependent (⊎_elim (λ m. inl (added_takes m)) inr a)
    (⊎_elim (λ m. inl (added_takes m)) inr b)
    (adds_least s e e.caller v key adding same (subst (TakesLeast s e) is.1 x))
    (adds_least s (with_rest e f) e.caller v key adding same (subst (TakesLeast s (with_rest e f)) is.1 y))
way_same n s e f t u c (collects k) by is w other a b x y = collected_same s e (with_rest e f) t u k a b
way_same n s e f t u c (replies_address h) by is w other a b x y = absurd (other h is)
way_same n s e f t u c (replies_root r) by is w other a b x y =
    roots_same s e (with_rest e f) t u r a.found b.found (register_of s e.caller r) a.is_root b.is_root
    a.outcome
    b.outcome
way_same n s e f t u c (gives_back wanted) by is w other a b x y =
    trimmed_same s e (with_rest e f) t u wanted a b (subst (TakesLeast s e) is x)
    (subst (TakesLeast s (with_rest e f)) is y)

-- a state, a caller and a command make one entry
entry_same : (n : Numbers) (s : State) (e f : Entry) (t u : State) → IsWellFormed n s
    → ((h : ℕ) → e.cmd ≡ cmd.AddrOf h → ⊥) → SoloStep n s e t → SoloStep n s f u → e.caller ≡ f.caller
    → e.cmd ≡ f.cmd → e ≡ f
entry_same n s e f t u w other a b callers cmds =
    let turned : f ≡ with_rest e f = λ i. record f { caller = sym callers i; cmd = sym cmds i } in
    let b' : SoloStep n s (with_rest e f) u = subst (λ x. SoloStep n s x u) turned b in
    let same : Same e (with_rest e f) = way_same n s e f t u e.cmd (way_of s e.caller e.cmd) refl
    (way_command s e.caller e.cmd) w other a.step.does b'.step.does a.least b'.least in
    (λ i. record e { slot = same.0 i; grown = same.1 i; reply = same.2 i }) ∙ sym turned

-- the commands of a caller
abbrev list_of : List Entry → ℕ → List Cmd
list_of journal caller = commands_of (part_of journal caller)

list_here : (e : Entry) (es : List Entry) (c : ℕ) → e.caller ≡ c → list_of (e ∷ es) c ≡ e.cmd ∷ list_of es c
list_here e es c same = ap (λ b. commands_of (cond b (e ∷ part_of es c) (part_of es c)))
    (eq-eqb e.caller c same)

list_apart : (e : Entry) (es : List Entry) (c : ℕ) → (e.caller ≡ c → ⊥) → list_of (e ∷ es) c ≡ list_of es c
list_apart e es c other = ap (λ b. commands_of (cond b (e ∷ part_of es c) (part_of es c)))
    (ne_eqb e.caller c other)

abbrev Rising : List Entry → Type 0
Rising es = IsNonDecreasingBy (λ (e : Entry). e.caller) es

rising_tail : (e : Entry) (es : List Entry) → Rising (e ∷ es) → Rising es
rising_tail e es up = λ i j d le within. up (suc i) (suc j) d (suc-le-suc le) (suc-le-suc within)

-- the first caller is not above another that has an entry
first_least : (es : List Entry) (e : Entry) (c : ℕ) (x : Cmd) (xs : List Cmd) → Rising (e ∷ es)
    → list_of (e ∷ es) c ≡ x ∷ xs → e.caller ≤ c
first_least [] e c x xs up is = ⊎_elim (λ same. le_of_eq same)
    (λ other. absurd (let none = sym (list_apart e [] c other) ∙ is in cc)) (cases_eq e.caller c)
first_least (f ∷ es) e c x xs up is =
    ⊎_elim (λ same. le_of_eq same)
    (λ other. le_trans (up 0 1 e zero-le (suc-le-suc (suc-le-suc zero-le)))
    (first_least es f c x xs (rising_tail e (f ∷ es) up) (sym (list_apart e (f ∷ es) c other) ∙ is)))
    (cases_eq e.caller c)

-- the two lists are the same, and the others stay the same after their first entries
same_first : (e f : Entry) (es fs : List Entry) → e.caller ≡ f.caller
    → list_of (e ∷ es) e.caller ≡ list_of (f ∷ fs) e.caller → (e.cmd ≡ f.cmd)
    × (list_of es e.caller ≡ list_of fs e.caller)
same_first e f es fs callers same =
    let both : e.cmd ∷ list_of es e.caller ≡ f.cmd ∷ list_of fs e.caller = sym (list_here e es e.caller refl)
    ∙ same ∙ list_here f fs e.caller (sym callers) in
    (cc, cc)

same_rest : (e f : Entry) (es fs : List Entry) → e.caller ≡ f.caller
    → ((c : ℕ) → list_of (e ∷ es) c ≡ list_of (f ∷ fs) c) → (c : ℕ) → list_of es c ≡ list_of fs c
same_rest e f es fs callers same c =
    ⊎_elim (λ here. subst (λ k. list_of es k ≡ list_of fs k) here
    (same_first e f es fs callers (same e.caller)).1)
    (λ other. sym (list_apart e es c other) ∙ same c ∙ list_apart f fs c (λ here. other (callers ∙ here)))
    (cases_eq e.caller c)

not_empty : (e : Entry) (es : List Entry) → [] ≡ list_of (e ∷ es) e.caller → ⊥
not_empty e es none = let some = none ∙ list_here e es e.caller refl in cc

abbrev NoAddress : List Entry → Type 0
NoAddress es = All (λ (e : Entry). (h : ℕ) → e.cmd ≡ cmd.AddrOf h → ⊥) es

runs_same : (n : Numbers) {s t u : State} {j k : List Entry} → IsWellFormed n s → NoAddress j
    → Chain (SoloStep n) s j t → Chain (SoloStep n) s k u → Rising j → Rising k
    → ((c : ℕ) → list_of j c ≡ list_of k c) → (j ≡ k) × (t ≡ u)
runs_same n w none stay stay up up' same = (refl, refl)
runs_same n w none stay (link {e = f} {es = fs} step rest) up up' same =
    absurd (not_empty f fs (same f.caller))
runs_same n w none (link {e = e} {es = es} step rest) stay up up' same =
    absurd (not_empty e es (sym (same e.caller)))
runs_same n {s} {u = u} w none (link {t = a} {e = e} {es = es} step rest)
    (link {t = b} {e = f} {es = fs} step' rest') up up' same =
    let below : e.caller ≤ f.caller = first_least es e f.caller f.cmd (list_of fs f.caller) up
    (same f.caller ∙ list_here f fs f.caller refl) in
    let above : f.caller ≤ e.caller = first_least fs f e.caller e.cmd (list_of es e.caller) up'
    (sym (same e.caller) ∙ list_here e es e.caller refl) in
    let callers : e.caller ≡ f.caller = le_antisymm below above in
    let entries : e ≡ f = entry_same n s e f a b w (none 0 e (suc-le-suc zero-le)) step step' callers
    (same_first e f es fs callers (same e.caller)).0 in
    let states : a ≡ b = one_state_after n s a b e step.step
    (subst (λ x. Step n s x b) (sym entries) step'.step) in
    let others = runs_same n (step_keeps n s a e w step.step) (λ k d l. none (suc k) d (suc-le-suc l)) rest
    (subst (λ x. Chain (SoloStep n) x fs u) (sym states) rest') (rising_tail e es up)
    (rising_tail f fs up') (same_rest e f es fs callers same) in
    (λ i. entries i ∷ others.0 i, others.1)

pub solo_runs_are_one : SoloRunsAreOne
solo_runs_are_one n j k s t alike =
    runs_same n (start_is_well_formed n) alike.no_address alike.first.steps alike.second.steps
    alike.first.rising alike.second.rising alike.same_lists

pub solo_text_is_one : SoloTextIsOne
solo_text_is_one n j k s t alike =
    let (journals, states) = solo_runs_are_one n j k s t alike in
    λ i. text_of (journals i) (states i)
