-- Every command has a step.
use Rattle.hd_model.specs.{declared.command.Cmd.Cmd, declared.data.Entry.Entry, declared.data.Grown.Grown, declared.data.Id.Id, declared.data.Kind.Kind, declared.data.Make.Make, declared.data.Grown.TheVariants.One, declared.data.Slot.Slot, declared.data.Grown.TheVariants.Two, declared.data.Grown.TheVariants.Zero}
use Rattle.hd_model.proofs.Basics.{BlockUse, Bool, Does, FinMap, Handle, IsFreeAddress, IsLeastUnused, IsOutcome, IsSome, IsValid, IsWellFormed, MatchOption, MayReturn, MayGive, None, Numbers, Option, Outcome, Some, State, StepOf, TakesWay, Way, adds_entry, reply_address, reply_with, replies_address, ap, arith, blocks_needed, cases_eq, cases_lt, collects, cond, decided, extra_data, false, first_slot, get, given_of, gives_back, handle_at, handle_register_of, inl, inr, insert, is_paired, is_some, kind_of, len, makes_handle, makes_object, nat_cmp, new_object, none-some, option_and_then, pinned_by, pinned_target, pins, refl, refuses, remove, same_Some, subst, suc, sym, true, use_of, way_of, with_entry, with_growth, with_made, zero, ℕ, ⊎_elim, ◌+◌, ◌<◌, ◌∙◌, ◌≡◌, ◌≤◌, ◌⊎◌}
use Rattle.hd_laws.proofs.Basics.{EveryCommandHasAStep, HasWay, PinsBy}
use Rattle.hd_model.proofs.{OneState.CommandOf, OneState.way_command}
use Rattle.hd_laws.proofs.{NextState.collections_exist}
use Rattle.hd_model.proofs.ReadAfterWrite.{get_beside, get_inserted, get_left, len_new, len_less}
use Rattle.hd_model.specs.declared.data.Kind.TheVariants as kind
use Rattle.hd_model.specs.declared.data.Refusal.TheVariants as refusal
use Rattle.hd_model.specs.declared.data.Reply.TheVariants as reply
use Rattle.hd_model.specs.declared.command.Cmd.TheVariants as cmd
use Rattle.hd_model.specs.{declared.data.Reply.Reply}
use Rattle.hd_model.specs.State.{register_of}
use Rattle.hd_model.specs.Anchors.{ReturnsRoot}
use Rattle.hd_model.specs.Command.{reply_root}
use Rattle.hd_model.specs.Step.{replies_root}
use Rattle.hd_model.proofs.AnchorSearch.{root_exists}
use Rattle.hd_model.proofs.WholeScenes.{whole_scene}

-- a map with each key from 1 to n has at least n
pub filled : {X : Type 0} (n : ℕ) (m : FinMap nat_cmp X) → ((q : ℕ) → 1 ≤ q → q ≤ n → IsSome (get m q))
    → n ≤ len m
filled zero m each = omega arith
filled (suc n) m each =
    let rest = filled n (remove m (suc n))
    (λ q low high. subst IsSome (sym (get_left m (suc n) q (λ same. omega arith))) (each q low
    (omega arith))) in
    let less = len_less m (suc n) (each (suc n) (omega arith) (omega arith)) in
    omega arith

-- the least unused block from a number on, or none up to the last
module _ (n : Numbers) (s : State) where
  abbrev AllUsed : ℕ → Type 0
  AllUsed from = (q : ℕ) → from ≤ q → q ≤ n.blocks → IsSome (use_of s q)

  find_unused : (fuel from : ℕ) → n.blocks < from + fuel → ((block : ℕ) × IsLeastUnused n s from block)
      ⊎ AllUsed from
  find_unused zero from past = inr (λ q low high. absurd (omega arith))
  find_unused (suc fuel) from past =
      ⊎_elim (λ over. inr (λ q low high. absurd (omega arith))) (λ within. by within (find_unused fuel
      (suc from) (omega arith)) (use_of s from) refl)
      (cases_lt n.blocks from)
    where
      by : from ≤ n.blocks → ((block : ℕ) × IsLeastUnused n s (suc from) block) ⊎ AllUsed (suc from)
          → (o : Option BlockUse) → use_of s from ≡ o
          → ((block : ℕ) × IsLeastUnused n s from block) ⊎ AllUsed from
      by within later None none = inl (
        from,
        record {
          low = omega arith;
          high = within;
          unused = none;
          least = λ other low high. absurd (omega arith);
        },
      )
      by within later (Some u) some =
          let here : IsSome (use_of s from) = ap is_some some in
          let at : (q : ℕ) → (q ≡ from) → IsSome (use_of s q) = λ q same. subst (λ k. IsSome (use_of s k))
          (sym same) here in
          ⊎_elim (λ found. inl (
            found.0,
            record {
              low = (let low = found.1.low in omega arith);
              high = found.1.high;
              unused = found.1.unused;
              least = λ other low high. ⊎_elim (λ same. at other same)
                  (λ ne. found.1.least other (omega arith) high) (cases_eq other from);
            },
          )) (λ all. inr (λ q low high. ⊎_elim (λ same. at q same) (λ ne. all q (omega arith) high)
          (cases_eq q from))) later

  -- where a block has no use, there is a least one
  one_unused : given_of s + 1 ≤ n.blocks → (block : ℕ) × IsLeastUnused n s 1 block
  one_unused room =
      ⊎_elim (λ found. found) (λ all. absurd (let most = filled n.blocks s.blocks
      (λ q low high. all q low high) in omega arith))
      (find_unused n.blocks 1 (omega arith))

  -- where two have none, there is a least one after it
  two_unused : given_of s + 2 ≤ n.blocks → (block : ℕ) → IsLeastUnused n s 1 block
      → (other : ℕ) × IsLeastUnused n s (block + 1) other
  two_unused room block first =
      ⊎_elim (λ found. found) (λ all. absurd (
      let more = len_new s.blocks block extra_data first.unused in
      let most = filled n.blocks (insert s.blocks block extra_data) (λ q low high.
      ⊎_elim (λ same. subst (λ k. IsSome (get (insert s.blocks block extra_data) k)) (sym same)
      (ap is_some (get_inserted s.blocks block extra_data)))
      (λ ne. subst IsSome (sym (get_beside s.blocks block extra_data q ne))
      (⊎_elim (λ before. first.least q low before) (λ after. all q (omega arith) high) (cases_lt q block)))
      (cases_eq q block)) in
      omega arith))
      (find_unused n.blocks (block + 1) (omega arith))

  -- a slot for a new handle, where the table has room
  can_give : (wanted : Kind) → given_of s + blocks_needed wanted ≤ n.blocks
      → (grown : Grown) × ((slot : Slot) × MayGive n s wanted grown slot)
  can_give wanted room = by (is_paired wanted) refl
    where
      by : (b : Bool) → is_paired wanted ≡ b
          → (grown : Grown) × ((slot : Slot) × MayGive n s wanted grown slot)
      by false alone =
          let needed : blocks_needed wanted ≡ 1 = ap (λ b. cond b 2 1) alone in
          let (block, first) = one_unused (omega arith) in
          (One block, (first_slot block, (alone, first, refl)))
      by true paired =
          let needed : blocks_needed wanted ≡ 2 = ap (λ b. cond b 2 1) paired in
          let (block, first) = one_unused (omega arith) in
          let (other, second) = two_unused (omega arith) block first in
          (Two block other, (first_slot block, (paired, first, second, refl)))

module _ (n : Numbers) (s : State) (w : IsWellFormed n s) (caller : ℕ) (known : caller < n.callers) where
  -- an outcome has its entry
  abbrev entry_of : Cmd → Outcome → Entry
  entry_of c o = record { caller = caller; cmd = c; slot = o.slot; grown = Zero; reply = o.reply }

  comes : (c : Cmd) (o : Outcome) → IsValid c
      → (IsOutcome (entry_of c o) o o.after → StepOf n s (entry_of c o) o.after c) → Does n s caller c
  comes c o valid does = record {
    entry = entry_of c o;
    after = o.after;
    caller_is = refl;
    command = refl;
    step = record {
      caller = known;
      valid = valid;
      does = does (record { reply = refl; slot = refl; grown = refl; after = refl });
    };
  }

  makes : (d : ℕ) (given : Make) (t : ℕ) → IsValid (cmd.HNew d given t) → Does n s caller (cmd.HNew d given t)
  makes d given t valid =
      ⊎_elim (λ few. comes (cmd.HNew d given t) (refuses (refusal.TableFull (given_of s)) s) valid
      (λ is. inr (record { few = few; refused = is })))
      (λ room. by (can_give n s (kind_of given) room))
      (cases_lt n.blocks (given_of s + blocks_needed (kind_of given)))
    where
      by : (grown : Grown) × ((slot : Slot) × MayGive n s (kind_of given) grown slot)
          → Does n s caller (cmd.HNew d given t)
      by x = record {
        entry = record {
          caller = caller;
          cmd = cmd.HNew d given t;
          slot = Some x.1.0;
          grown = x.0;
          reply = reply.Done;
        };
        after = with_made s caller x.0 d given t x.1.0;
        caller_is = refl;
        command = refl;
        step = record {
          caller = known;
          valid = valid;
          does = inl (record { slot = x.1.0; given = refl; may = x.1.1; reply = refl; after = refl });
        };
      }

  adds : (k v : ℕ) (key : Id) → way_of s caller (cmd.CAdd k v) ≡ adds_entry v key → IsValid (cmd.CAdd k v)
      → Does n s caller (cmd.CAdd k v)
  adds k v key is valid =
      ⊎_elim (λ few. comes (cmd.CAdd k v) (refuses (refusal.TableFull (given_of s)) s) valid
      (λ x. subst (TakesWay n s _ _) (sym is) (inr (record { few = few; refused = x }))))
      (λ room. by (can_give n s kind.Dependent room))
      (cases_lt n.blocks (given_of s + blocks_needed kind.Dependent))
    where
      by : (grown : Grown) × ((slot : Slot) × MayGive n s kind.Dependent grown slot)
          → Does n s caller (cmd.CAdd k v)
      by x = record {
        entry = record {
          caller = caller;
          cmd = cmd.CAdd k v;
          slot = Some x.1.0;
          grown = x.0;
          reply = reply.Done;
        };
        after = with_entry (with_growth s kind.Dependent x.0) s caller v x.1.0 key;
        caller_is = refl;
        command = refl;
        step = record {
          caller = known;
          valid = valid;
          does = subst (TakesWay n s _ _) (sym is)
              (inl (record { slot = x.1.0; given = refl; may = x.1.1; reply = refl; after = refl }));
        };
      }

  -- what a handle register's handle pins, and why
  pins_by : (h : ℕ) (id : Id) → pinned_target s caller h ≡ Some id → PinsBy s caller h id
  pins_by h id is = by (handle_register_of s caller h) refl is
    where
      of_handle : (slot : Slot) → handle_register_of s caller h ≡ Some slot → (o : Option (Handle Id))
          → handle_at s slot ≡ o → pinned_by o ≡ Some id → PinsBy s caller h id
      of_handle slot has None none pinned = absurd (none-some id pinned)
      of_handle slot has (Some handle) live pinned = tested (pins handle) refl pinned
        where
          tested : (b : Bool) → pins handle ≡ b → cond b handle.target None ≡ Some id → PinsBy s caller h id
          tested true on target = record {
            slot = slot;
            handle = handle;
            has = has;
            live = live;
            pins = on;
            target = target;
          }
          tested false off target = absurd (none-some id target)

      by : (o : Option Slot) → handle_register_of s caller h ≡ o
          → option_and_then (λ slot. pinned_by (handle_at s slot)) o ≡ Some id → PinsBy s caller h id
      by None none pinned = absurd (none-some id pinned)
      by (Some slot) has pinned = of_handle slot has (handle_at s slot) refl pinned

  -- an address that `addr` may return
  finds_address : (h : ℕ) → HasWay n s caller (cmd.AddrOf h)
      → (p : ℕ) × ((id : Id) → pinned_target s caller h ≡ Some id → MayReturn s id p)
  finds_address h way = by (pinned_target s caller h) refl
    where
      moved : (id : Id) → pinned_target s caller h ≡ Some id → (p : ℕ) → MayReturn s id p
          → (q : ℕ) × ((other : Id) → pinned_target s caller h ≡ Some other → MayReturn s other q)
      moved id some p may =
          (p, λ other is. subst (λ x. MayReturn s x p) (same_Some id other (sym some ∙ is)) may)

      of_object : (id : Id) → pinned_target s caller h ≡ Some id → (o : Option ℕ) → get s.pinned id.0 ≡ o
          → (q : ℕ) × ((other : Id) → pinned_target s caller h ≡ Some other → MayReturn s other q)
      of_object id some None none =
          let (p, free) = way.address h id refl (pins_by h id some) none in
          moved id some p (subst (λ o. MatchOption o (IsFreeAddress s id p) (λ own. p ≡ own)) (sym none) free)
      of_object id some (Some own) is =
          moved id some own (subst (λ o. MatchOption o (IsFreeAddress s id own) (λ x. own ≡ x)) (sym is) refl)

      by : (o : Option Id) → pinned_target s caller h ≡ o
          → (p : ℕ) × ((id : Id) → pinned_target s caller h ≡ Some id → MayReturn s id p)
      by None none = (0, λ id is. absurd (none-some id (sym none ∙ is)))
      by (Some id) some = of_object id some (get s.pinned id.0) refl

  -- a reply that `gcroot` may have
  finds_root : (o : Option Id)
      → (r : Reply) × ((goal : Id) → o ≡ Some goal → ReturnsRoot s goal r)
  finds_root None = (reply.Unrooted, λ goal is. absurd (none-some goal is))
  finds_root (Some goal) =
      let (r, is_root) = root_exists s (whole_scene n s w) goal in
      (r, λ other is. subst (λ x. ReturnsRoot s x r) (same_Some goal other is) is_root)

  by_way : (c : Cmd) (way : Way) → way_of s caller c ≡ way → CommandOf c way → IsValid c → HasWay n s caller c
      → Does n s caller c
  by_way c (decided r) is command valid has = comes c r valid (λ x. subst (TakesWay n s _ _) (sym is) x)
  by_way c (makes_object d fields fin) is command valid has =
      comes c (new_object n s caller d fields fin) valid
      (λ x. subst (TakesWay n s _ _) (sym is) (has.serial d fields fin command, x))
  by_way c (makes_handle d given t) is command valid has =
      subst (Does n s caller) (sym command) (makes d given t (subst IsValid command valid))
  by_way c (adds_entry v key) is command valid has =
      subst (Does n s caller) (sym command.1)
      (adds command.0 v key (ap (way_of s caller) (sym command.1) ∙ is) (subst IsValid command.1 valid))
  by_way c (collects k) is command valid has =
      let next = collections_exist n k s w in
      record {
        entry = record {
          caller = caller;
          cmd = c;
          slot = None;
          grown = Zero;
          reply = reply.Report next.report;
        };
        after = next.after;
        caller_is = refl;
        command = refl;
        step = record {
          caller = known;
          valid = valid;
          does = subst (TakesWay n s _ _) (sym is) (record {
            report = next.report;
            reply = refl;
            slot = refl;
            grown = refl;
            collects = next.collects;
          });
        };
      }
  by_way c (replies_address h) is command valid has =
      let (p, may) = finds_address h (subst (HasWay n s caller) command has) in
      comes c (reply_address s caller h p) valid
      (λ x. subst (TakesWay n s _ _) (sym is) (record { address = p; may = may; outcome = x }))
  by_way c (replies_root r) is command valid has =
      let (found, is_root) = finds_root (register_of s caller r) in
      comes c (reply_root s caller r found) valid
      (λ x. subst (TakesWay n s _ _) (sym is) (record { found = found; is_root = is_root; outcome = x }))
  by_way c (gives_back wanted) is command valid has =
      comes c (reply_with (reply.Value 0) s) valid (λ x. subst (TakesWay n s _ _) (sym is) (inr x))

pub every_command_has_a_step : EveryCommandHasAStep
every_command_has_a_step n s caller c w known valid has =
    by_way n s w caller known c (way_of s caller c) refl (way_command s caller c) valid has
