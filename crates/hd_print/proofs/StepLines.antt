-- Steps of one command from one state, whose full lines are the same, are of one entry.
use Rattle.hd_print.proofs.Basics.{Bool, Entry, List, None, Option, ROWS, Some, ap, append_assoc, arith, decimal, drop, false, get_or, refl, subst, sym, true, ℕ, ⊎_elim, ◌*◌, ◌++◌, ◌/◌, ◌<◌, ◌^◌, ◌∙◌, ◌∷◌, ◌≡◌}
use Rattle.std.specs.Prelude.{MatchOption, cond, is_some, option_and_then, if◌then◌else◌}
use Rattle.std.specs.Option.{option_map_or}
use Rattle.std.specs.FinMap.{get}
use Rattle.std.proofs.lemmas.List.{append_cancel_left}
use Rattle.hd_model.specs.declared.data.Id.{Id}
use Rattle.hd_model.specs.declared.data.Slot.{Slot}
use Rattle.hd_model.specs.declared.data.Grown.{Grown}
use Rattle.hd_model.specs.declared.data.Kind.{Kind}
use Rattle.hd_model.specs.declared.data.Make.{Make}
use Rattle.hd_model.specs.declared.data.Reply.{Reply}
use Rattle.hd_model.specs.declared.data.Grown.TheVariants.{Zero, One, Two, Back}
use Rattle.hd_model.specs.declared.data.Refusal.TheVariants as refusal
use Rattle.hd_model.specs.declared.data.Reply.TheVariants as reply
use Rattle.hd_model.specs.State.{Numbers, Handle, State, register_of, handle_register_of, handle_at, first_slot, IsFree, IsAllFree, with_address}
use Rattle.hd_model.specs.Role.{pins}
use Rattle.hd_model.specs.PinnedAddresses.{IsFreeAddress, MayReturn}
use Rattle.hd_model.specs.Anchors.{ReturnsRoot}
use Rattle.hd_model.specs.Command.{Outcome, reply_with, refuses, new_object, reply_address, reply_root}
use Rattle.hd_model.specs.Step.{IsOutcome, MayGive, RepliesAddress, DoesCollect, RepliesRoot, pinned_by, pinned_target, Way, decided, makes_object, makes_handle, collects, replies_address, gives_back, adds_entry, replies_root, way_of, TakesWay, Step}
use Rattle.hd_model.specs.Text.{reply_text}
use Rattle.hd_model.specs.FullText.{full_line}
use Rattle.hd_model.specs.WellFormed.{IsWellFormed}
use Rattle.hd_model.proofs.{Collections.one_collection, AnchorChains.one_root, WellFormedSteps.first_block}
use Rattle.hd_print.specs.EntryLines.{IsSmall, IsSmallSlot, IsSmallGrowth}
use Rattle.hd_print.proofs.LineEndings.{slot_end, slot_off, numeral_determines, ending_determines}

-- ---- what the line has after the number

abbrev from_reply : Reply → Entry → List ℕ
from_reply r e = reply_text r ++ slot_end e.slot e.grown

abbrev pub after_number : Entry → List ℕ
after_number e = from_reply e.reply e

pub line_parts : (e : Entry) (number : ℕ)
    → full_line e number ≡ decimal e.caller ++ (32 ∷ (decimal number ++ (32 ∷ after_number e)))
line_parts e number = simp append_assoc

-- of two entries with the same there
module _ (x y : Entry) (same : after_number x ≡ after_number y) where
  replied : (q r : Reply) → x.reply ≡ q → y.reply ≡ r → from_reply q x ≡ from_reply r y
  replied q r a b = ap (λ (z : Reply). from_reply z x) (sym a) ∙ same ∙ ap (λ (z : Reply). from_reply z y) b

  -- none is done where the other is refused as no blocks are left
  done_or_full : (given : ℕ) → x.reply ≡ reply.Done → y.reply ≡ reply.Refused (refusal.TableFull given) → ⊥
  done_or_full given a b =
      let heads = ap (λ (bytes : List ℕ). get_or bytes 0 0) (replied _ _ a b) in absurd (omega (arith, heads))

  -- values and addresses are the same
  values_determined : (m n : ℕ) → IsSmall m → IsSmall n → x.reply ≡ reply.Value m → y.reply ≡ reply.Value n
      → m ≡ n
  values_determined m n small_m small_n a b =
      (numeral_determines m n _ _ small_m small_n (slot_off x.slot x.grown) (slot_off y.slot y.grown)
      (ap (drop 6) (replied _ _ a b))).0

  addresses_determined : (p q : ℕ) → IsSmall p → IsSmall q → x.reply ≡ reply.Place p → y.reply ≡ reply.Place q
      → p ≡ q
  addresses_determined p q small_p small_q a b =
      (numeral_determines p q _ _ small_p small_q (slot_off x.slot x.grown) (slot_off y.slot y.grown)
      (ap (drop 5) (replied _ _ a b))).0

-- ---- what `addr` returns

-- an outcome by the address is that of a target, or depends on no address
data AddressCase (s : State) (target : Option Id) (f : ℕ → Outcome) : Type 0 where
  names : (id : Id) → target ≡ Some id → ((p : ℕ) → f p ≡ reply_with (reply.Place p) (with_address s id p))
      → AddressCase s target f
  alike : ((p q : ℕ) → f p ≡ f q) → AddressCase s target f

module _ (s : State) where
  abbrev on_target : Option Id → ℕ → Outcome
  on_target target p =
      option_map_or (λ id. reply_with (reply.Place p) (with_address s id p)) target (refuses refusal.Null s)

  abbrev on_pinned : Bool → Option Id → ℕ → Outcome
  on_pinned b target p = if b then on_target target p else refuses refusal.WrongKind s

  abbrev on_row : Option (Handle Id) → ℕ → Outcome
  on_row row p =
      option_map_or (λ (h : Handle Id). on_pinned (pins h) h.target p) row (refuses refusal.NotLive s)

  case_target : (target : Option Id) → AddressCase s target (on_target target)
  case_target None = alike (λ p q. refl)
  case_target (Some id) = names id refl (λ p. refl)

  case_pinned : (b : Bool) (target : Option Id) → AddressCase s (cond b target None) (on_pinned b target)
  case_pinned true target = case_target target
  case_pinned false target = alike (λ p q. refl)

  case_row : (row : Option (Handle Id)) → AddressCase s (pinned_by row) (on_row row)
  case_row None = alike (λ p q. refl)
  case_row (Some h) = case_pinned (pins h) h.target

  case_slot : (slot : Option Slot) → AddressCase s (option_and_then (λ x. pinned_by (handle_at s x)) slot)
      (λ p. option_map_or (λ x. on_row (handle_at s x) p) slot (refuses refusal.EmptyRegister s))
  case_slot None = alike (λ p q. refl)
  case_slot (Some slot) = case_row (handle_at s slot)

-- ---- one entry

record IsAlike (d e : Entry) : Type 0 where
  slot : d.slot ≡ e.slot
  grown : d.grown ≡ e.grown
  reply : d.reply ≡ e.reply

module _ (n : Numbers) (s : State) (d e : Entry) (t u : State) (w : IsWellFormed n s)
    (few : n.blocks < 2 ^ 32) (callers : d.caller ≡ e.caller) (same : after_number d ≡ after_number e) where
  by_outcomes : (q r : Outcome) → q ≡ r → IsOutcome d q t → IsOutcome e r u → IsAlike d e
  by_outcomes q r is a b = record {
    slot = a.slot ∙ ap (λ (o : Outcome). o.slot) is ∙ sym b.slot;
    grown = a.grown ∙ sym b.grown;
    reply = a.reply ∙ ap (λ (o : Outcome). o.reply) is ∙ sym b.reply;
  }

  -- with one reply, by what follows it
  by_ending : (r : Reply) → d.reply ≡ r → e.reply ≡ r → IsSmallSlot d.slot → IsSmallSlot e.slot
      → IsSmallGrowth d.grown → IsSmallGrowth e.grown → IsAlike d e
  by_ending r a b small_d small_e grown_d grown_e =
      let parts = ending_determines d.slot e.slot d.grown e.grown small_d small_e grown_d grown_e
      (append_cancel_left (reply_text r) _ _ (replied d e same r r a b)) in
      record { slot = parts.0; grown = parts.1; reply = a ∙ sym b }

  -- a block of the table and its slots are small
  low_block : (slot : Slot) (kind : Kind) → IsFree s kind slot → IsSmall slot.0
  low_block slot kind free =
      let block = (w.handles.blocks (slot.0 / ROWS) (ap is_some free.of_kind)).1 in omega arith

  slot_fits : (kind : Kind) (grown : Grown) (slot : Slot) → MayGive n s kind grown slot → IsSmall slot.0
  slot_fits kind Zero slot free = low_block slot kind free
  slot_fits kind (One block) slot may =
      let high = may.1.high in let first : slot.0 ≡ block * ROWS = ap (λ (x : Slot). x.0) may.2 in omega arith
  slot_fits kind (Two block other) slot may =
      let high = may.1.high in let first : slot.0 ≡ block * ROWS = ap (λ (x : Slot). x.0) may.3 in omega arith
  slot_fits kind (Back block) slot may = absurd may

  growth_fits : (kind : Kind) (grown : Grown) (slot : Slot) → MayGive n s kind grown slot
      → IsSmallGrowth grown
  growth_fits kind Zero slot may = tt
  growth_fits kind (One block) slot may = let high = may.1.high in omega arith
  growth_fits kind (Two block other) slot may =
      let high = may.1.high in let over = may.2.high in (omega arith, omega arith)
  growth_fits kind (Back block) slot may = absurd may

  -- slots that were given
  by_slots : (kind : Kind) (x y : Slot) → d.slot ≡ Some x → e.slot ≡ Some y → MayGive n s kind d.grown x
      → MayGive n s kind e.grown y → d.reply ≡ reply.Done → e.reply ≡ reply.Done → IsAlike d e
  by_slots kind x y is_x is_y may_x may_y a b =
      by_ending reply.Done a b (subst IsSmallSlot (sym is_x) (slot_fits kind d.grown x may_x))
      (subst IsSmallSlot (sym is_y) (slot_fits kind e.grown y may_y)) (growth_fits kind d.grown x may_x)
      (growth_fits kind e.grown y may_y)

  by_making : (r : ℕ) (make : Make) (target : ℕ) → TakesWay n s d t (makes_handle r make target)
      → TakesWay n s e u (makes_handle r make target) → IsAlike d e
  by_making r make target a b =
      ⊎_elim (λ x. ⊎_elim (λ y. by_slots _ x.slot y.slot x.given y.given x.may y.may x.reply y.reply)
      (λ y. absurd (done_or_full d e same _ x.reply y.refused.reply)) b)
      (λ x. ⊎_elim (λ y. absurd (done_or_full e d (sym same) _ y.reply x.refused.reply))
      (λ y. by_outcomes _ _ refl x.refused y.refused) b) a

  by_adding : (v : ℕ) (key : Id) → TakesWay n s d t (adds_entry v key) → TakesWay n s e u (adds_entry v key)
      → IsAlike d e
  by_adding v key a b =
      ⊎_elim (λ x. ⊎_elim (λ y. by_slots _ x.slot y.slot x.given y.given x.may y.may x.reply y.reply)
      (λ y. absurd (done_or_full d e same _ x.reply y.refused.reply)) b)
      (λ x. ⊎_elim (λ y. absurd (done_or_full e d (sym same) _ y.reply x.refused.reply))
      (λ y. by_outcomes _ _ refl x.refused y.refused) b) a

  block_fits : (kind : Kind) (block : ℕ) → IsAllFree s kind block → IsSmall block
  block_fits kind block all =
      let slot = low_block (first_slot block) kind (all (first_slot block) (first_block block)) in
      omega arith

  by_trim : (kind : Kind) → TakesWay n s d t (gives_back kind) → TakesWay n s e u (gives_back kind)
      → IsAlike d e
  by_trim kind a b =
      ⊎_elim (λ x. ⊎_elim (λ y. by_ending (reply.Value 1) x.reply y.reply
      (subst IsSmallSlot (sym x.slot) tt) (subst IsSmallSlot (sym y.slot) tt)
      (subst IsSmallGrowth (sym x.grown) (block_fits kind x.block x.free))
      (subst IsSmallGrowth (sym y.grown) (block_fits kind y.block y.free)))
      (λ y. let one : 1 ≡ 0 = values_determined d e same 1 0 (omega arith) (omega arith) x.reply y.reply in
      absurd (omega arith)) b)
      (λ x. ⊎_elim (λ y. let one : 1 ≡ 0 = values_determined e d (sym same) 1 0 (omega arith) (omega arith)
      y.reply
      x.reply in absurd (omega arith))
      (λ y. by_outcomes _ _ refl x y) b) a

  -- an address
  one_address : (o : Option ℕ) (id : Id) (p q : ℕ) → d.reply ≡ reply.Place p → e.reply ≡ reply.Place q
      → MatchOption o (IsFreeAddress s id p) (λ own. p ≡ own)
      → MatchOption o (IsFreeAddress s id q) (λ own. q ≡ own) → p ≡ q
  one_address None id p q a b f g =
      let low = f.small in let high = g.small in
      addresses_determined d e same p q (omega arith) (omega arith) a b
  one_address (Some own) id p q a b f g = f ∙ sym g

  by_index : (h : ℕ) → RepliesAddress s d t h → RepliesAddress s e u h → IsAlike d e
  by_index h a b = by (case_slot s (handle_register_of s d.caller h))
    where
      moved : reply_address s d.caller h b.address ≡ reply_address s e.caller h b.address
      moved = ap (λ c. reply_address s c h b.address) callers

      may : (id : Id) → pinned_target s d.caller h ≡ Some id → MayReturn s id b.address
      may = subst (λ c. (id : Id) → pinned_target s c h ≡ Some id → MayReturn s id b.address) (sym callers)
          b.may

      by : AddressCase s (pinned_target s d.caller h) (reply_address s d.caller h) → IsAlike d e
      by (alike f) = by_outcomes _ _ (f a.address b.address ∙ moved) a.outcome b.outcome
      by (names id target is_root) =
          let first : d.reply ≡ reply.Place a.address =
          a.outcome.reply ∙ ap (λ (o : Outcome). o.reply) (is_root a.address) in
          let second : e.reply ≡ reply.Place b.address =
          b.outcome.reply ∙ ap (λ (o : Outcome). o.reply) (sym moved ∙ is_root b.address) in
          let pinned : a.address ≡ b.address =
          one_address (get s.pinned id.0) id a.address b.address first second (a.may id target)
          (may id target) in
          by_outcomes _ _ (ap (reply_address s d.caller h) pinned ∙ moved) a.outcome b.outcome

  by_root : (r : ℕ) → RepliesRoot s d t r → RepliesRoot s e u r → IsAlike d e
  by_root r a b = by_outcomes _ _
      (by (register_of s d.caller r) a.is_root is_root ∙ ap (λ c. reply_root s c r b.found) callers)
      a.outcome b.outcome
    where
      is_root : (goal : Id) → register_of s d.caller r ≡ Some goal → ReturnsRoot s goal b.found
      is_root = subst (λ c. (goal : Id) → register_of s c r ≡ Some goal → ReturnsRoot s goal b.found)
          (sym callers)
          b.is_root

      by : (o : Option Id) → ((goal : Id) → o ≡ Some goal → ReturnsRoot s goal a.found)
          → ((goal : Id) → o ≡ Some goal → ReturnsRoot s goal b.found)
          → option_map_or (λ _. reply_with a.found s) o (refuses refusal.Null s)
          ≡ option_map_or (λ _. reply_with b.found s) o (refuses refusal.Null s)
      by None f g = refl
      by (Some goal) f g =
          ap (λ (z : Reply). reply_with z s) (one_root s goal a.found b.found (f goal refl) (g goal refl))

  by_collection : (k : ℕ) → DoesCollect s d t k → DoesCollect s e u k → IsAlike d e
  by_collection k a b = record {
    slot = a.slot ∙ sym b.slot;
    grown = a.grown ∙ sym b.grown;
    reply = a.reply
        ∙ ap reply.Report (one_collection k s t u a.report b.report a.collects b.collects).1 ∙ sym b.reply;
  }

  by_way : (way : Way) → TakesWay n s d t way → TakesWay n s e u way → IsAlike d e
  by_way (decided r) a b = by_outcomes r r refl a b
  by_way (makes_object r fields fin) a b =
      by_outcomes _ _ (ap (λ c. new_object n s c r fields fin) callers) a.1 b.1
  by_way (makes_handle r make target) a b = by_making r make target a b
  by_way (collects k) a b = by_collection k a b
  by_way (replies_address h) a b = by_index h a b
  by_way (gives_back kind) a b = by_trim kind a b
  by_way (adds_entry v key) a b = by_adding v key a b
  by_way (replies_root r) a b = by_root r a b

-- steps of one command of a caller from one state are of one entry, where their full lines are the same
pub one_entry : (n : Numbers) (s : State) (d e : Entry) (t u : State) (number : ℕ) → IsWellFormed n s
    → n.blocks < 2 ^ 32 → Step n s d t → Step n s e u → d.caller ≡ e.caller → d.cmd ≡ e.cmd
    → full_line d number ≡ full_line e number → d ≡ e
one_entry n s d e t u number w few a b callers cmds lines =
    let ways : way_of s e.caller e.cmd ≡ way_of s d.caller d.cmd =
    λ i. way_of s (sym callers i) (sym cmds i) in
    let whole : List ℕ → List ℕ = λ rest. decimal e.caller ++ (32 ∷ (decimal number ++ (32 ∷ rest))) in
    let moved : whole (after_number d) ≡ whole (after_number e) =
    ap (λ c. decimal c ++ (32 ∷ (decimal number ++ (32 ∷ after_number d)))) (sym callers)
    ∙ sym (line_parts d number) ∙ lines ∙ line_parts e number in
    let after_caller = ap (drop 1) (append_cancel_left (decimal e.caller) _ _ moved) in
    let same : after_number d ≡ after_number e =
    ap (drop 1) (append_cancel_left (decimal number) _ _ after_caller) in
    let is = by_way n s d e t u w few callers same (way_of s d.caller d.cmd) a.does
    (subst (TakesWay n s e u) ways b.does) in
    λ i. record {
      caller = callers i;
      cmd = cmds i;
      slot = is.slot i;
      grown = is.grown i;
      reply = is.reply i;
    }
