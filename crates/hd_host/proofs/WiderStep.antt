-- A step of the machine is one in a table of more blocks, where a table that it finds full is full there too.
use Rattle.std.proofs.Common.{arith, cond, inl, inr, refl, subst, ℕ, ◌≡◌, ◌≤◌}
use Rattle.hd_model.specs.{declared.command.Cmd.Cmd, declared.data.Entry.Entry, declared.data.Grown.Grown, declared.data.Id.Id, declared.data.Kind.Kind, declared.data.Make.Make, declared.data.Slot.Slot, Kinds.kind_of}
use Rattle.hd_model.specs.Command.{Adding, adding_of, in_idle, in_new, is_refused}
use Rattle.hd_model.specs.State.{Numbers, State, given_of}
use Rattle.hd_model.specs.Step.{AddsEntry, FindsTableFull, IsLeastUnused, MakesHandle, MayGive, Step, StepOf, TakesWay, Way, adds_entry, collects, decided, gives_back, makes_handle, makes_object, replies_address, replies_root, way_of_adding}
use Rattle.hd_model.specs.declared.command.Cmd.TheVariants as cmd
use Rattle.hd_model.specs.declared.data.Grown.TheVariants.{Back, One, Two, Zero}
use Rattle.hd_model.specs.declared.data.Kind.TheVariants as kind
use Rattle.hd_store.specs.Offers.{Asks, asks_of, handle_slot, needs_new, no_room}
use Rattle.hd_host.specs.Inside.{HasRoom}

-- numbers with so many blocks
abbrev pub wider : ℕ → Numbers → Numbers
wider blocks n = record n { blocks = blocks }

module _ (n : Numbers) (blocks : ℕ) (more : n.blocks ≤ blocks) (s : State) (e : Entry) (t : State) where
  least_wider : {from block : ℕ} → IsLeastUnused n s from block → IsLeastUnused (wider blocks n) s from block
  least_wider is = record { low = is.low; high = omega (arith, is.high, more); unused = is.unused; least = is.least }

  may_wider : (k : Kind) (grown : Grown) (slot : Slot) → MayGive n s k grown slot
      → MayGive (wider blocks n) s k grown slot
  may_wider k Zero slot may = may
  may_wider k (One block) slot may = (may.0, least_wider may.1, may.2)
  may_wider k (Two block other) slot may = (may.0, least_wider may.1, least_wider may.2, may.3)
  may_wider k (Back block) slot may = may

  module _ (asked : Asks) (room : HasRoom blocks (given_of s) asked e.reply) where
    full_wider : {k : Kind} → asked ≡ handle_slot k → FindsTableFull n s e t k
        → FindsTableFull (wider blocks n) s e t k
    full_wider {k} is full = record {
      few = (subst (λ a. HasRoom blocks (given_of s) a e.reply) is room) full.refused.reply;
      refused = full.refused;
    }

    made_wider : {d r : ℕ} {make : Make} → MakesHandle n s e t d make r → MakesHandle (wider blocks n) s e t d make r
    made_wider {make = make} made = record {
      slot = made.slot;
      given = made.given;
      may = may_wider (kind_of make) e.grown made.slot made.may;
      reply = made.reply;
      after = made.after;
    }

    added_wider : {v : ℕ} {key : Id} → AddsEntry n s e t v key → AddsEntry (wider blocks n) s e t v key
    added_wider added = record {
      slot = added.slot;
      given = added.given;
      may = may_wider kind.Dependent e.grown added.slot added.may;
      reply = added.reply;
      after = added.after;
    }

    -- what a way asks for
    abbrev Asked : Way → Type 0
    Asked (makes_handle d make r) = asked ≡ handle_slot (kind_of make)
    Asked (adds_entry v key) = asked ≡ handle_slot kind.Dependent
    Asked _ = Unit {0}

    way_wider : (w : Way) → Asked w → TakesWay n s e t w → TakesWay (wider blocks n) s e t w
    way_wider (decided outcome) is did = did
    way_wider (makes_object d fields fin) is did = did
    way_wider (makes_handle d make r) is (inl made) = inl (made_wider made)
    way_wider (makes_handle d make r) is (inr full) = inr (full_wider is full)
    way_wider (collects k) is did = did
    way_wider (replies_address h) is did = did
    way_wider (gives_back k) is did = did
    way_wider (adds_entry v key) is (inl added) = inl (added_wider added)
    way_wider (adds_entry v key) is (inr full) = inr (full_wider is full)
    way_wider (replies_root r) is did = did

  -- what a `cadd` asks for, by what it meets
  adding_wider : (v : ℕ) (a : Adding)
      → HasRoom blocks (given_of s) (cond (needs_new a) (handle_slot kind.Dependent) no_room) e.reply
      → TakesWay n s e t (way_of_adding s e.caller v a) → TakesWay (wider blocks n) s e t (way_of_adding s e.caller v a)
  adding_wider v (is_refused r) room did = did
  adding_wider v (in_idle slot key) room did = did
  adding_wider v (in_new key) room did = way_wider (handle_slot kind.Dependent) room (adds_entry v key) refl did

  step_of_wider : (c : Cmd) → HasRoom blocks (given_of s) (asks_of s e.caller c) e.reply → StepOf n s e t c
      → StepOf (wider blocks n) s e t c
  step_of_wider (cmd.HNew d make r) room did =
      way_wider (handle_slot (kind_of make)) room (makes_handle d make r) refl did
  step_of_wider (cmd.CAdd k v) room did = adding_wider v (adding_of s e.caller k) room did
  step_of_wider _ room did = did

  pub wide_step : HasRoom blocks (given_of s) (asks_of s e.caller e.cmd) e.reply → Step n s e t → Step (wider blocks n) s e t
  wide_step room step = record {
    caller = step.caller;
    valid = step.valid;
    does = step_of_wider e.cmd room step.does;
  }
