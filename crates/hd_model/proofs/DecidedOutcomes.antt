-- What holds of the outcome of each command that the state alone decides: one case for each command, in two
-- states that have the same parts but the pinned addresses.
use Rattle.hd_model.proofs.Basics.{Adding, Bool, Cmd, FinMap, Handle, Id, Kind, List, None, Option, Outcome, Reply, Slot, Some, State, Way, [], adding_key, adds_entry, collects, count_of, decided, gives_back, handle_at, handle_register_of, idle_slot, if◌then◌else◌, in_idle, in_new, is_kind, is_some, length, load_reply, makes_handle, makes_object, nat_cmp, nat_lt, object_by_id, on_field, on_handle, on_handle_of, on_object, option_map_or, refl, refuses, register_of, replies_address, reply_with, slot_of_key, subst, sym, take_first, true, false, way_of, way_of_adding, with_pinned, ℕ, ◌&&◌, ◌==◌, ◌∷◌, ◌≡◌}
use Rattle.hd_model.specs.Command.{add_entry, is_refused}
use Rattle.hd_model.specs.Step.{replies_root}
use Rattle.hd_model.specs.declared.command.Cmd.TheVariants as cmd
use Rattle.hd_model.specs.declared.data.Kind.TheVariants as kind
use Rattle.hd_model.specs.declared.data.Refusal.TheVariants as refusal
use Rattle.hd_model.specs.declared.data.Reply.TheVariants as reply

-- a reply that is no address, and not for a full table
abbrev pub IsDecided : Reply → Type 0
IsDecided (reply.Place p) = ⊥
IsDecided (reply.Refused (refusal.TableFull given)) = ⊥
IsDecided r = Unit {0}

loaded_decided : (o : Option Id) → IsDecided (load_reply o)
loaded_decided None = tt
loaded_decided (Some id) = tt

-- an outcome that frees a slot
abbrev pub freed : Slot → State → Outcome
freed slot t = record { reply = reply.Done; slot = Some slot; after = t }

-- two ways are one, or are decided and what is asked holds of their outcomes
abbrev pub SameWay : (Outcome → Outcome → Type 0) → Way → Way → Type 0
SameWay P (decided o) w = (q : Outcome) × ((w ≡ decided q) × P o q)
SameWay P (makes_object d fields fin) w = w ≡ makes_object d fields fin
SameWay P (makes_handle d make t) w = w ≡ makes_handle d make t
SameWay P (collects k) w = w ≡ collects k
SameWay P (replies_address h) w = w ≡ replies_address h
SameWay P (gives_back given) w = w ≡ gives_back given
SameWay P (adds_entry v key) w = w ≡ adds_entry v key
SameWay P (replies_root r) w = w ≡ replies_root r

-- what holds of each pair of outcomes holds of what is built alike from such pairs
module _ (P : Outcome → Outcome → Type 0) where
  pub option_both : {A : Type 0} (f g : A → Outcome) (d e : Outcome) (o : Option A)
      → ((a : A) → o ≡ Some a → P (f a) (g a)) → P d e → P (option_map_or f o d) (option_map_or g o e)
  option_both f g d e None each none = none
  option_both f g d e (Some a) each none = each a refl

  pub test_both : (x y v w : Outcome) (b : Bool) → P x y → P v w
      → P (if b then x else v) (if b then y else w)
  test_both x y v w true on off = on
  test_both x y v w false on off = off

  outcomes : (o q : Outcome) → P o q → SameWay P (decided o) (decided q)
  outcomes o q h = (q, (refl, h))

  module _ (p : FinMap nat_cmp ℕ) (s : State) (c : ℕ)
      (leaf : (r : Reply) (t : State) → IsDecided r → P (reply_with r (with_pinned t p)) (reply_with r t))
      (frees : (slot : Slot) (x : Handle Id) → handle_at s slot ≡ Some x → (t : State)
      → P (freed slot (with_pinned t p)) (freed slot t))
      (adds : (v : ℕ) (slot : Slot) (key : Id) → idle_slot s ≡ Some slot
      → P (add_entry (with_pinned s p) c v slot key) (add_entry s c v slot key))
    where
      abbrev at : State
      at = with_pinned s p

      object_both : (o : ℕ) (f g : Id → Outcome) → ((id : Id) → P (f id) (g id))
          → P (on_object at c o f) (on_object s c o g)
      object_both o f g each =
          option_both f g (refuses refusal.Null at) (refuses refusal.Null s) (register_of s c o)
          (λ id _. each id) (leaf _ _ tt)

      field_both : (o i : ℕ) (f g : Id → Outcome) → ((id : Id) → P (f id) (g id))
          → P (on_field at c o i f) (on_field s c o i g)
      field_both o i f g each =
          object_both o _ _ (λ id. test_both (f id) (g id) (refuses refusal.BadField at)
          (refuses refusal.BadField s) (nat_lt i (length (object_by_id s id).fields)) (each id) (leaf _ _ tt))

      handle_both : (h : ℕ) (f g : Slot → Handle Id → Outcome)
          → ((slot : Slot) (x : Handle Id) → handle_at s slot ≡ Some x → P (f slot x) (g slot x))
          → P (on_handle at c h f) (on_handle s c h g)
      handle_both h f g each =
          option_both _ _ (refuses refusal.EmptyRegister at) (refuses refusal.EmptyRegister s)
          (handle_register_of s c h)
          (λ slot _. option_both (f slot) (g slot) (refuses refusal.NotLive at) (refuses refusal.NotLive s)
          (handle_at s slot) (each slot) (leaf _ _ tt)) (leaf _ _ tt)

      kind_both : (h : ℕ) (k : Kind) (f g : Slot → Handle Id → Outcome)
          → ((slot : Slot) (x : Handle Id) → P (f slot x) (g slot x))
          → P (on_handle_of at c h k f) (on_handle_of s c h k g)
      kind_both h k f g each =
          handle_both h _ _ (λ slot x _. test_both (f slot x) (g slot x) (refuses refusal.WrongKind at)
          (refuses refusal.WrongKind s) (is_kind x.kind k) (each slot x) (leaf _ _ tt))

      first_both : (d : ℕ) (q : List Id) → P (take_first at c d q) (take_first s c d q)
      first_both d [] = leaf _ _ tt
      first_both d (x ∷ q) = leaf _ _ tt

      abbrev Alike : ℕ → Adding → Type 0
      Alike v a = SameWay P (way_of_adding at c v a) (way_of_adding s c v a)

      slot_both : (v : ℕ) (key : Id) (o : Option Slot)
          → ((slot : Slot) → o ≡ Some slot → idle_slot s ≡ Some slot)
          → Alike v (option_map_or (λ slot. in_idle slot key) o (in_new key))
      slot_both v key None is = refl
      slot_both v key (Some slot) is = outcomes _ _ (adds v slot key (is slot refl))

      key_both : (v : ℕ) (key : Id) (o : Option Slot)
          → Alike v (option_map_or (λ _. is_refused refusal.Present) o
          (option_map_or (λ slot. in_idle slot key) (idle_slot s) (in_new key)))
      key_both v key None = slot_both v key (idle_slot s) (λ slot is. is)
      key_both v key (Some slot) = outcomes _ _ (leaf _ _ tt)

      adding_both : (v : ℕ) (o : Option Id)
          → Alike v (option_map_or (adding_key s) o (is_refused refusal.Null))
      adding_both v None = outcomes _ _ (leaf _ _ tt)
      adding_both v (Some key) = key_both v key (slot_of_key s key)

      pub way_both : (command : Cmd) → SameWay P (way_of at c command) (way_of s c command)
      way_both (cmd.Set o i v) = outcomes _ _ (field_both o i _ _ (λ id. leaf _ _ tt))
      way_both (cmd.Get d o i) = outcomes _ _ (field_both o i _ _ (λ id. leaf _ _ (loaded_decided _)))
      way_both (cmd.Val o v) = outcomes _ _ (object_both o _ _ (λ id. leaf _ _ tt))
      way_both (cmd.Read o) = outcomes _ _ (object_both o _ _ (λ id. leaf _ _ tt))
      way_both (cmd.SGet d k) = outcomes _ _ (leaf _ _ (loaded_decided _))
      way_both (cmd.Gen o) = outcomes _ _ (object_both o _ _ (λ id. leaf _ _ tt))
      way_both (cmd.Suppress o) = outcomes _ _ (object_both o _ _ (λ id. leaf _ _ tt))
      way_both (cmd.Reregister o) = outcomes _ _ (object_both o _ _ (λ id. leaf _ _ tt))
      way_both (cmd.Final d) = outcomes _ _ (first_both d s.queue)
      way_both (cmd.HGet d h) = outcomes _ _ (handle_both h _ _ (λ slot x _. leaf _ _ (loaded_decided _)))
      way_both (cmd.HSet h v) = outcomes _ _ (handle_both h _ _ (λ slot x _. test_both _ _ _ _
          (is_kind x.kind kind.Dependent && is_some (register_of s c v)) (leaf _ _ tt) (leaf _ _ tt)))
      way_both (cmd.HSec h r) = outcomes _ _ (kind_both h kind.Dependent _ _ (λ slot x.
          option_both _ _ _ _ x.target (λ y _. leaf _ _ tt) (leaf _ _ tt)))
      way_both (cmd.HDep d h) =
          outcomes _ _ (kind_both h kind.Dependent _ _ (λ slot x. leaf _ _ (loaded_decided _)))
      way_both (cmd.HVar h given) = outcomes _ _ (kind_both h kind.Variable _ _ (λ slot x. leaf _ _ tt))
      way_both (cmd.HFree h) = outcomes _ _ (handle_both h _ _ (λ slot x live. frees slot x live _))
      way_both (cmd.HUp h) = outcomes _ _ (kind_both h kind.Counted _ _ (λ slot x. leaf _ _ tt))
      way_both (cmd.HDown h) = outcomes _ _ (kind_both h kind.Counted _ _ (λ slot x.
          test_both _ _ _ _ (count_of x.extra == 0) (leaf _ _ tt) (leaf _ _ tt)))
      way_both (cmd.CAdd k v) = adding_both v (register_of s c k)
      way_both (cmd.CFind d k) = outcomes _ _ (object_both k _ _ (λ key.
          option_both _ _ _ _ (slot_of_key s key) (λ slot _. leaf _ _ (loaded_decided _)) (leaf _ _ tt)))
      way_both (cmd.CRemove k) = outcomes _ _ (object_both k _ _ (λ key.
          option_both _ _ _ _ (slot_of_key s key) (λ slot _. leaf _ _ tt) (leaf _ _ tt)))
      way_both (cmd.New d fields fin) = refl
      way_both (cmd.Collect k) = refl
      way_both (cmd.HNew d make t) = refl
      way_both (cmd.AddrOf h) = refl
      way_both (cmd.Trim given) = refl
      way_both (cmd.GcRoot r) = refl
      way_both _ = outcomes _ _ (leaf _ _ tt)

-- ---- the same of one state

-- this holds of the outcome of a way that the state alone decides
abbrev pub DecidedHas : (Outcome → Type 0) → Way → Type 0
DecidedHas Q (decided o) = Q o
DecidedHas Q way = Unit {0}

one_way : (Q : Outcome → Type 0) (v w : Way) → SameWay (λ x y. Q y) v w → DecidedHas Q w
one_way Q (decided o) w same = subst (DecidedHas Q) (sym same.1.0) same.1.1
one_way Q v w same = subst (DecidedHas Q) (sym same) tt

pub decided_has : (Q : Outcome → Type 0) (s : State) (c : ℕ)
    → ((r : Reply) (t : State) → IsDecided r → Q (reply_with r t))
    → ((slot : Slot) (x : Handle Id) → handle_at s slot ≡ Some x → (t : State) → Q (freed slot t))
    → ((v : ℕ) (slot : Slot) (key : Id) → idle_slot s ≡ Some slot → Q (add_entry s c v slot key))
    → (command : Cmd) → DecidedHas Q (way_of s c command)
decided_has Q s c leaf frees adds command =
    one_way Q (way_of (with_pinned s s.pinned) c command) (way_of s c command)
    (way_both (λ x y. Q y) s.pinned s c leaf frees adds command)
