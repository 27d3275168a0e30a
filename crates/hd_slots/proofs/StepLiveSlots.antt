-- What a step does to the slots that are live and to the uses of blocks, by what its command does to the free
-- slots.
use Rattle.hd_slots.proofs.Basics.{Adding, Adds, AddsEntry, Back, BlockUse, Bool, Change, Cmd, Dependent, Entry, FindsTableFull, Frees, GivesBack, Grown, GrowsOrIsFull, Handle, Id, IsLeastUnused, IsOutcome, IsWellFormed, Keeps, Kind, MakesHandle, MayGive, None, Numbers, One, Option, ROWS, Slot, Some, State, Step, StepOf, Takes, TakesSlot, TakesWay, Two, WeakEntry, Zero, adding_key, adding_of, ap, arith, asks_of, blocks_needed, cases_lt, change_in, change_of, cond, extra_data, false, free_handle, get, get_beside, get_inserted, get_left, get_removed, given_of, handle_at, handle_slot, handles_of, idle_slot, in_idle, in_new, inl, inr, is_live, is_paired, is_refused, is_some, kind_number, kind_of, kind_word, made_handle, nat_cmp, needs_new, no_room, option_map, or_right, refl, refuses, register_of, same_Some, slot_of_key, subst, sym, true, way_of_adding, with_entry, with_growth, with_handle, with_handle_register, write_cases, ℕ, ◌*◌, ◌+◌, ◌<◌, ◌||◌, ◌∙◌, ◌≡◌, ◌≢◌, ◌⊎◌}
use Rattle.hd_model.specs.{declared.data.Make.Make, declared.data.Refusal.Refusal, Touched.touched_by}
use Rattle.hd_model.proofs.Effects.{Effect, with_made_parts, collects, adds_entry, removes_entry, growth_is, effect}
use Rattle.hd_model.proofs.{KindTests.same_number, KindTests.few_kinds, Outcomes.option_cases, Outcomes.on_handle_cases, StepFrames.untouched_stays, WeakSlots.idle_found}
use Rattle.hd_model.proofs.StepWrites.{HandleChange, handle_stays, is_made, target_is_set, extra_is_set, is_freed, is_collected, handle_change}
use Rattle.std.specs.FinMap as map
use Rattle.hd_model.specs.declared.data.Refusal.TheVariants as refusal
use Rattle.hd_model.specs.declared.data.Reply.TheVariants as reply
use Rattle.hd_model.specs.declared.command.Cmd.TheVariants as cmd

-- a block whose kind word is that of a kind has handles of the kind
pub use_by_word : (u : Option BlockUse) (k : Kind) → kind_word u ≡ kind_number k + 1 → u ≡ Some (handles_of k)
use_by_word None k e = absurd (omega (arith, e))
use_by_word (Some (handles_of j)) k e =
    ap (λ x. Some (handles_of x)) (same_number j k (omega (arith, e)))
use_by_word (Some extra_data) k e = absurd (omega (arith, e, few_kinds k))

pub zero_is_not_one : reply.Value 0 ≡ reply.Value 1 → ⊥
zero_is_not_one e = let numbers : ◌≡◌ {A = ℕ} 0 1 = cc in absurd (omega (arith, numbers))

-- ---- what a command does to the free slots, in a state

pub Takes-injective : (j k : Kind) → Takes j ≡ Takes k → j ≡ k
Takes-injective j k e = cc

-- but for `cadd` the state has no part in it
pub in_state : (s : State) (caller : ℕ) (c : Cmd) (x : Change) → x ≢ Adds → change_of c ≡ x
    → change_in s caller c ≡ x
in_state s caller (cmd.CAdd k v) x apart is = absurd (apart (sym is))
in_state s caller c x apart is = is

-- and that of a `cadd` is by whether it needs a slot
add_cases : (P : Change → Type 0) (needs : Bool) → (needs ≡ true → P (Takes Dependent))
    → (needs ≡ false → P Adds) → P (cond needs (Takes Dependent) Adds)
add_cases P true new idle = new refl
add_cases P false new idle = idle refl

by_needs : (b : Bool) (kind : Kind) → cond b (Takes Dependent) Adds ≡ Takes kind
    → (b ≡ true) × (Dependent ≡ kind)
by_needs true kind e = (refl, Takes-injective Dependent kind e)
by_needs false kind e = cc

-- a change that leaves the free slots as they are
abbrev pub LeavesThem : Change → Type 0
LeavesThem (Takes kind) = ⊥
LeavesThem Adds = Unit {0}
LeavesThem Frees = ⊥
LeavesThem (GivesBack kind) = ⊥
LeavesThem Keeps = Unit {0}

-- what takes a slot asks for one of its kind, and what asks for one takes it
pub asks_for : (s : State) (caller : ℕ) (c : Cmd) (kind : Kind) → change_in s caller c ≡ Takes kind
    → asks_of s caller c ≡ handle_slot kind
asks_for s caller (cmd.HNew d make r) kind takes = ap handle_slot (Takes-injective (kind_of make) kind takes)
asks_for s caller (cmd.CAdd k v) kind takes =
    let is = by_needs (needs_new (adding_of s caller k)) kind takes in
    ap (λ b. cond b (handle_slot Dependent) no_room) is.0 ∙ ap handle_slot is.1
asks_for s caller c kind takes = cc

pub taken_for : (s : State) (caller : ℕ) (c : Cmd) (kind : Kind) → asks_of s caller c ≡ handle_slot kind
    → change_in s caller c ≡ Takes kind
taken_for s caller (cmd.HNew d make r) kind asks = let same : kind_of make ≡ kind = cc in ap Takes same
taken_for s caller (cmd.CAdd k v) kind asks = by (needs_new (adding_of s caller k)) asks
  where
    by : (b : Bool) → cond b (handle_slot Dependent) no_room ≡ handle_slot kind
        → cond b (Takes Dependent) Adds ≡ Takes kind
    by true e = let same : Dependent ≡ kind = cc in ap Takes same
    by false e = cc
taken_for s caller c kind asks = cc

-- a command that frees a slot is `hfree`, and one that gives a block back is `trim`
pub is_free : (s : State) (caller : ℕ) (c : Cmd) → change_in s caller c ≡ Frees → (h : ℕ) × (c ≡ cmd.HFree h)
is_free s caller (cmd.HFree h) frees = (h, refl)
is_free s caller (cmd.CAdd k v) frees =
    absurd (add_cases (λ x. x ≡ Frees → ⊥) (needs_new (adding_of s caller k)) (λ _ e. cc) (λ _ e. cc) frees)
is_free s caller c frees = cc

pub is_trim : (s : State) (caller : ℕ) (kind : Kind) (c : Cmd) → change_in s caller c ≡ GivesBack kind
    → c ≡ cmd.Trim kind
is_trim s caller kind (cmd.Trim j) gives = let same : j ≡ kind = cc in ap cmd.Trim same
is_trim s caller kind (cmd.CAdd k v) gives =
    absurd (add_cases (λ x. x ≡ GivesBack kind → ⊥) (needs_new (adding_of s caller k)) (λ _ e. cc)
    (λ _ e. cc) gives)
is_trim s caller kind c gives = cc

-- ---- whether a slot is live

mapped : {A B : Type 0} (f : A → B) (o : Option A) → is_some (option_map f o) ≡ is_some o
mapped f None = refl
mapped f (Some x) = refl

pub same_live : (s t : State) (x : ℕ) → is_some (get t.handles x) ≡ is_some (get s.handles x)
    → is_some (get t.weak x) ≡ is_some (get s.weak x) → is_live t x ≡ is_live s x
same_live s t x handles weak = λ i. handles i || weak i

pub neither : {A B : Type 0} (a : Option A) (b : Option B) → (is_some a || is_some b) ≡ false
    → (a ≡ None) × (b ≡ None)
neither None None e = (refl, refl)
neither None (Some c) e = cc
neither (Some h) b e = cc

module _ (n : Numbers) (s : State) (well : IsWellFormed n s) (e : Entry) (t : State)
    (step : Step n s e t) where
  -- ---- a command that leaves the slots as they are

  -- the same slots are live, and the blocks have the same uses
  pub record LeavesSlots : Type 0 where
    pub live : (x : ℕ) → is_live t x ≡ is_live s x
    pub blocks : t.blocks ≡ s.blocks

  unchanged : t ≡ s → LeavesSlots
  unchanged same = record {
    live = λ x. ap (λ (u : State). is_live u x) same;
    blocks = ap (λ (u : State). u.blocks) same;
  }

  live_stays : (slot : Slot) (c : Cmd) (o : Option (Handle Id)) → HandleChange s e slot c o → change_of c
      ≡ Keeps → is_some o ≡ is_some (get s.handles slot.0)
  live_stays slot c o handle_stays keeps = refl
  live_stays slot c o (is_made given replies free) keeps = cc
  live_stays slot c o (target_is_set handle finds replies) keeps = sym (ap is_some finds.live)
  live_stays slot c o (extra_is_set handle finds fits sets) keeps = sym (ap is_some finds.live)
  live_stays slot c o (is_freed handle finds replies) keeps = cc
  live_stays slot c o (is_collected reach kept handle live) keeps = sym (ap is_some live)

  weak_stays : (x : ℕ) (c : Cmd) (u : State) → Effect n s e c u → change_of c ≡ Keeps
      → is_some (get u.weak x) ≡ is_some (get s.weak x)
  weak_stays x c u (collects did) keeps = ap is_some (did.collects.weak x) ∙ mapped _ (get s.weak x)
  weak_stays x c u (adds_entry key slot f none may p q) keeps = cc
  weak_stays x c u (removes_entry key slot has f p) keeps =
      write_cases s.weak slot.0 (λ o. is_some o ≡ is_some (get s.weak x)) None x
      (λ same. sym (ap (λ y. is_some (get s.weak y)) same ∙ ap is_some has.held)) refl
  weak_stays x c u _ keeps = refl

  blocks_stay : (c : Cmd) → change_of c ≡ Keeps → (touched_by c).blocks ≡ false
  blocks_stay (cmd.HNew d make r) keeps = cc
  blocks_stay (cmd.Trim kind) keeps = cc
  blocks_stay (cmd.CAdd k v) keeps = cc
  blocks_stay c keeps = refl

  kept : change_of e.cmd ≡ Keeps → LeavesSlots
  kept keeps = record {
    live = λ x. (
        let does = effect n s e t step in
        same_live s t x
        (live_stays (record { 0 = x }) e.cmd (get t.handles x)
        (handle_change n s well e (record { 0 = x }) e.cmd t does) keeps)
        (weak_stays x e.cmd t does keeps));
    blocks = (untouched_stays n s t e step).blocks (blocks_stay e.cmd keeps);
  }

  -- so does a `cadd` that needs no slot
  abbrev Leaving : ℕ → Adding → Type 0
  Leaving v a =
      needs_new a ≡ false → TakesWay n s e t (way_of_adding s e.caller v a) → LeavesSlots × (e.grown ≡ Zero)

  needs_none : (k v : ℕ) → Leaving v (adding_of s e.caller k)
  needs_none k v =
      option_cases (Leaving v) (adding_key s) (register_of s e.caller k) _
      (λ _ _ o. (unchanged o.after, o.grown))
      (λ key _. option_cases (Leaving v) (λ _. is_refused refusal.Present) (slot_of_key s key) _
      (λ _. option_cases (Leaving v) (λ slot. in_idle slot key) (idle_slot s) (in_new key) (λ _ needs. cc)
      (λ slot idle _ o. (
        record {
          live = λ x. ap (λ (u : State). is_live u x) o.after
              ∙ same_live s (with_entry s s e.caller v slot key) x refl
              (write_cases s.weak slot.0 (λ c. is_some c ≡ is_some (get s.weak x)) _ x
              (λ same. sym (ap (λ y. is_some (get s.weak y)) same ∙ ap is_some (idle_found s slot idle)))
              refl);
          blocks = ap (λ (u : State). u.blocks) o.after;
        },
        o.grown,
      )))
      (λ _ _ _ o. (unchanged o.after, o.grown)))

  pub adds_none : (c : Cmd) → change_in s e.caller c ≡ Adds → StepOf n s e t c
      → LeavesSlots × (e.grown ≡ Zero)
  adds_none (cmd.CAdd k v) adds does =
      let needs = needs_new (adding_of s e.caller k) in
      needs_none k v (add_cases (λ x. x ≡ Adds → needs ≡ false) needs (λ _ e. cc) (λ no _. no) adds) does
  adds_none c adds does = cc

  pub leaves_slots : LeavesThem (change_in s e.caller e.cmd) → LeavesSlots
  leaves_slots = at e.cmd kept step.does
    where
      at : (c : Cmd) → (change_of c ≡ Keeps → LeavesSlots) → StepOf n s e t c
          → LeavesThem (change_in s e.caller c) → LeavesSlots
      at (cmd.HNew d make r) as_kept does leaves = absurd leaves
      at (cmd.HFree h) as_kept does leaves = absurd leaves
      at (cmd.Trim kind) as_kept does leaves = absurd leaves
      at (cmd.CAdd k v) as_kept does leaves =
          let needs = needs_new (adding_of s e.caller k) in
          (needs_none k v (add_cases (λ x. LeavesThem x → needs ≡ false) needs (λ _ bad. absurd bad)
          (λ no _. no) leaves) does).0
      at c as_kept does leaves = as_kept refl

  -- ---- a command that takes a slot

  -- a slot is live now, no other has changed, and the blocks are these
  pub record IsNowLive (x : ℕ) (blocks : map.FinMap nat_cmp BlockUse) : Type 0 where
    pub here : is_live t x ≡ true
    pub others : (y : ℕ) → y ≢ x → is_live t y ≡ is_live s y
    pub blocks_are : t.blocks ≡ blocks

  -- a slot of a kind that it may get was taken
  pub record TakesOne (kind : Kind) : Type 0 where
    pub slot : Slot
    pub given : e.slot ≡ Some slot
    pub may : MayGive n s kind e.grown slot
    pub done : e.reply ≡ reply.Done
    pub live : IsNowLive slot.0 (with_growth s kind e.grown).blocks

  with_handle_in : (slot : Slot) (handle : Handle Id) → t.handles ≡ map.insert s.handles slot.0 handle
      → t.weak ≡ s.weak → IsNowLive slot.0 t.blocks
  with_handle_in slot handle handles weak = record {
    here = ap (λ o. is_some o || is_some (get t.weak slot.0))
        (ap (λ m. get m slot.0) handles ∙ get_inserted s.handles slot.0 handle);
    others = λ y apart. same_live s t y
        (ap (λ m. is_some (get m y)) handles ∙ ap is_some (get_beside s.handles slot.0 handle y apart))
        (ap (λ m. is_some (get m y)) weak);
    blocks_are = refl;
  }

  with_entry_in : (slot : Slot) (content : Option (WeakEntry Id)) → t.handles ≡ s.handles
      → t.weak ≡ map.insert s.weak slot.0 content → IsNowLive slot.0 t.blocks
  with_entry_in slot content handles weak = record {
    here = or_right (is_some (get t.handles slot.0)) (is_some (get t.weak slot.0))
        (ap (λ m. is_some (get m slot.0)) weak ∙ ap is_some (get_inserted s.weak slot.0 content));
    others = λ y apart. same_live s t y (ap (λ m. is_some (get m y)) handles)
        (ap (λ m. is_some (get m y)) weak ∙ ap is_some (get_beside s.weak slot.0 content y apart));
    blocks_are = refl;
  }

  by_make : (d : ℕ) (make : Make) (r : ℕ) → MakesHandle n s e t d make r → TakesOne (kind_of make)
  by_make d make r m =
      let is : t ≡ with_made_parts s e.caller e.grown d make r m.slot =
      m.after ∙ ap (λ (x : State). with_handle_register
      (with_handle x m.slot (made_handle s e.caller make r)) e.caller d (Some m.slot))
      (growth_is s (kind_of make) e.grown) in
      record {
        slot = m.slot;
        given = m.given;
        may = m.may;
        done = m.reply;
        live = subst (IsNowLive m.slot.0) (ap (λ (x : State). x.blocks) is)
            (with_handle_in m.slot (made_handle s e.caller make r) (ap (λ (x : State). x.handles) is)
            (ap (λ (x : State). x.weak) is));
      }

  by_add : (v : ℕ) (key : Id) → AddsEntry n s e t v key → TakesOne Dependent
  by_add v key a =
      let is : t ≡ with_entry (record s { blocks = (with_growth s Dependent e.grown).blocks }) s e.caller v
      a.slot key =
      a.after ∙ ap (λ x. with_entry x s e.caller v a.slot key) (growth_is s Dependent e.grown) in
      record {
        slot = a.slot;
        given = a.given;
        may = a.may;
        done = a.reply;
        live = subst (IsNowLive a.slot.0) (ap (λ (x : State). x.blocks) is)
            (with_entry_in a.slot _ (ap (λ (x : State). x.handles) is) (ap (λ (x : State). x.weak) is));
      }

  abbrev pub TakesOrIsFull : Kind → Type 0
  TakesOrIsFull kind = TakesOne kind ⊎ FindsTableFull n s e t kind

  in_a_new_slot : (v : ℕ) (a : Adding) → needs_new a ≡ true → TakesWay n s e t (way_of_adding s e.caller v a)
      → TakesOrIsFull Dependent
  in_a_new_slot v (is_refused r) needs o = cc
  in_a_new_slot v (in_idle slot key) needs o = cc
  in_a_new_slot v (in_new key) needs (inl a) = inl (by_add v key a)
  in_a_new_slot v (in_new key) needs (inr full) = inr full

  pub takes_or_full : (kind : Kind) (c : Cmd) → change_in s e.caller c ≡ Takes kind → StepOf n s e t c
      → TakesOrIsFull kind
  takes_or_full kind (cmd.HNew d make r) takes (inl m) =
      subst TakesOrIsFull (Takes-injective (kind_of make) kind takes) (inl (by_make d make r m))
  takes_or_full kind (cmd.HNew d make r) takes (inr full) =
      subst TakesOrIsFull (Takes-injective (kind_of make) kind takes) (inr full)
  takes_or_full kind (cmd.CAdd k v) takes does =
      let is = by_needs (needs_new (adding_of s e.caller k)) kind takes in
      subst TakesOrIsFull is.1 (in_a_new_slot v (adding_of s e.caller k) is.0 does)
  takes_or_full kind c takes does = cc

  -- an offered slot was taken
  pub record TakesIt (slot : Slot) : Type 0 where
    pub is_stored : IsNowLive slot.0 s.blocks
    pub grown : e.grown ≡ Zero
    pub reply : e.reply ≡ reply.Done

  -- none was offered, and by this the table grew, or it was full
  abbrev pub GrowsBy : Kind → Grown → Type 0
  GrowsBy kind Zero =
      (t ≡ s) × (e.reply ≡ reply.Refused (refusal.TableFull (given_of s)))
      × (n.blocks < given_of s + blocks_needed kind)
  GrowsBy kind (One block) =
      (is_paired kind ≡ false) × IsLeastUnused n s 1 block
      × IsNowLive (block * ROWS) (map.insert s.blocks block (handles_of kind)) × (e.reply ≡ reply.Done)
  GrowsBy kind (Two block other) =
      (is_paired kind ≡ true) × IsLeastUnused n s 1 block × IsLeastUnused n s (block + 1) other
      × IsNowLive (block * ROWS) (map.insert (map.insert s.blocks block (handles_of kind)) other extra_data)
      × (e.reply ≡ reply.Done)
  GrowsBy kind (Back block) = ⊥

  module _ (kind : Kind) where
    pub takes_it : (slot : Slot) → TakesSlot e slot → TakesOrIsFull kind → TakesIt slot
    takes_it slot takes (inl m) = record {
      is_stored = subst (λ x. IsNowLive x s.blocks)
          (ap (λ (x : Slot). x.0) (same_Some m.slot slot (sym m.given ∙ takes.0)))
          (subst (λ g. IsNowLive m.slot.0 (with_growth s kind g).blocks) takes.1 m.live);
      grown = takes.1;
      reply = takes.2;
    }
    takes_it slot takes (inr full) = let clash = sym takes.2 ∙ full.refused.reply in cc

    by_growth : (slot : Slot) (grown : Grown) → grown ≢ Zero → MayGive n s kind grown slot
        → IsNowLive slot.0 (with_growth s kind grown).blocks → e.reply ≡ reply.Done → GrowsBy kind grown
    by_growth slot Zero apart may live done = absurd (apart refl)
    by_growth slot (One block) apart may live done = (
      may.0,
      may.1,
      subst (λ (x : Slot). IsNowLive x.0 (map.insert s.blocks block (handles_of kind))) may.2 live,
      done,
    )
    by_growth slot (Two block other) apart may live done = (
      may.0,
      may.1,
      may.2,
      subst (λ (x : Slot). IsNowLive x.0
          (map.insert (map.insert s.blocks block (handles_of kind)) other extra_data)) may.3 live,
      done,
    )
    by_growth slot (Back block) apart may live done = may

    pub grows_by : GrowsOrIsFull n s (blocks_needed kind) e → TakesOrIsFull kind → GrowsBy kind e.grown
    grows_by grows (inl m) = elim (cases_lt n.blocks (given_of s + blocks_needed kind)) [
      | inl few ↦ (let clash = sym m.done ∙ grows.full few in absurd (cc))
      | inr enough ↦ by_growth m.slot e.grown (grows.grows enough).1 m.may m.live m.done
    ]
    grows_by grows (inr full) =
        subst (GrowsBy kind) (sym full.refused.grown) (full.refused.after, full.refused.reply, full.few)

  -- ---- `hfree`

  -- a slot that had a handle is free now
  pub record IsFreed (slot : Slot) : Type 0 where
    pub handle : Handle Id
    pub was : handle_at s slot ≡ Some handle
    pub here : is_live t slot.0 ≡ false
    pub others : (y : ℕ) → y ≢ slot.0 → is_live t y ≡ is_live s y
    pub blocks : t.blocks ≡ s.blocks
    pub done : e.reply ≡ reply.Done

  -- the slot that was freed, if one was
  abbrev pub FreesAt : Option Slot → Type 0
  FreesAt None = LeavesSlots × (e.reply ≢ reply.Done)
  FreesAt (Some slot) = IsFreed slot

  not_weak : (x : ℕ) (handle : Handle Id) → get s.handles x ≡ Some handle
      → (o : Option (Option (WeakEntry Id))) → get s.weak x ≡ o → o ≡ None
  not_weak x handle live None is = refl
  not_weak x handle live (Some c) is = let clash = sym live ∙ well.weak.apart x (ap is_some is) in cc

  pub frees_at : (h : ℕ) → IsOutcome e (free_handle s e.caller h) t → FreesAt e.slot
  frees_at h o =
      on_handle_cases (λ r. IsOutcome e r t → FreesAt e.slot) s e.caller h _ (λ _. nothing) (λ _ _ _. nothing)
      (λ slot handle _ live o.
      let handles = ap (λ (x : State). x.handles) o.after in
      let weak = ap (λ (x : State). x.weak) o.after in
      subst FreesAt (sym o.slot) (record {
        handle = handle;
        was = live;
        here = λ i. is_some ((ap (λ m. get m slot.0) handles ∙ get_removed s.handles slot.0) i)
            || is_some ((ap (λ m. get m slot.0) weak
            ∙ not_weak slot.0 handle live (get s.weak slot.0) refl) i);
        others = λ y apart. same_live s t y
            (ap (λ m. is_some (get m y)) handles ∙ ap is_some (get_left s.handles slot.0 y apart))
            (ap (λ m. is_some (get m y)) weak);
        blocks = ap (λ (x : State). x.blocks) o.after;
        done = o.reply;
      })) o
    where
      nothing : {r : Refusal} → IsOutcome e (refuses r s) t → FreesAt e.slot
      nothing o = subst FreesAt (sym o.slot)
          (unchanged o.after, (λ says. (let clash = sym o.reply ∙ says in cc)))
