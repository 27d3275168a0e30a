-- What a command does depends on no pinned address, but for `addr` and `collect`.
use Rattle.hd_model.proofs.Basics.{AddsEntry, Back, Cmd, Entry, FinMap, FindsTableFull, GivesBack, Grown, Id, IsFree, IsLeastUnused, IsOutcome, Kind, Make, MakesHandle, MayGive, Numbers, One, Outcome, Reply, Slot, State, Step, TakesWay, Two, Way, Zero, adds_entry, ap, collects, decided, false, gives_back, inl, inr, kind_of, makes_handle, makes_object, nat_cmp, nat_lt, refl, register_of, replies_address, subst, sym, total_size, touched_by, true, true≢false, way_of, with_entry, with_growth, with_made, with_pinned, ℕ, ⊎_elim, ◌+◌, ◌∙◌, ◌≡◌}
use Rattle.hd_model.proofs.DecidedOutcomes.{SameWay, option_both, test_both, way_both}
use Rattle.hd_model.proofs.OneState.{CommandOf, way_command}
use Rattle.hd_model.specs.declared.command.Cmd.TheVariants as cmd
use Rattle.hd_model.specs.Anchors.{ReturnsRoot}
use Rattle.hd_model.specs.Step.{replies_root}
use Rattle.hd_model.specs.declared.data.Kind.TheVariants as kind

module _ (p : FinMap nat_cmp ℕ) where
  -- an outcome with these pinned addresses in its state
  abbrev placed : Outcome → Outcome
  placed o = record { reply = o.reply; slot = o.slot; after = with_pinned o.after p }

  module _ (n : Numbers) (s : State) (e : Entry) (t : State) where
    abbrev before : State
    before = with_pinned s p

    abbrev after : State
    after = with_pinned t p

    outcome_placed : (o q : Outcome) → o ≡ placed q → IsOutcome e q t → IsOutcome e o after
    outcome_placed o q equal is = record {
      reply = is.reply ∙ ap (λ (x : Outcome). x.reply) (sym equal);
      slot = is.slot ∙ ap (λ (x : Outcome). x.slot) (sym equal);
      grown = is.grown;
      after = ap (λ x. with_pinned x p) is.after ∙ ap (λ (x : Outcome). x.after) (sym equal);
    }

    least_placed : (from block : ℕ) → IsLeastUnused n s from block → IsLeastUnused n before from block
    least_placed from block is = record { low = is.low; high = is.high; unused = is.unused; least = is.least }

    free_placed : (k : Kind) (slot : Slot) → IsFree s k slot → IsFree before k slot
    free_placed k slot free =
        record { no_handle = free.no_handle; not_weak = free.not_weak; of_kind = free.of_kind }

    give_placed : (k : Kind) (g : Grown) (slot : Slot) → MayGive n s k g slot → MayGive n before k g slot
    give_placed k Zero slot may = free_placed k slot may
    give_placed k (One b) slot may = (may.0, least_placed 1 b may.1, may.2)
    give_placed k (Two b o) slot may = (may.0, least_placed 1 b may.1, least_placed (b + 1) o may.2, may.3)
    give_placed k (Back b) slot may = may

    made_placed : (g : Grown) (d : ℕ) (given : Make) (r : ℕ) (slot : Slot)
        → with_pinned (with_made s e.caller g d given r slot) p ≡ with_made before e.caller g d given r slot
    made_placed Zero d given r slot = refl
    made_placed (One b) d given r slot = refl
    made_placed (Two b o) d given r slot = refl
    made_placed (Back b) d given r slot = refl

    entry_placed : (g : Grown) (v : ℕ) (slot : Slot) (key : Id)
        → with_pinned (with_entry (with_growth s kind.Dependent g) s e.caller v slot key) p
        ≡ with_entry (with_growth before kind.Dependent g) before e.caller v slot key
    entry_placed Zero v slot key = refl
    entry_placed (One b) v slot key = refl
    entry_placed (Two b o) v slot key = refl
    entry_placed (Back b) v slot key = refl

    -- where an object is pinned, and at which address, no chain depends on
    root_placed : (goal : Id) (r : Reply) → ReturnsRoot s goal r → ReturnsRoot before goal r
    root_placed goal r (inl c) =
        inl (record { from = c.from; edges = c.edges; shortest = c.shortest; reply_is = c.reply_is })
    root_placed goal r (inr none) = inr none

    -- the command touches a pinned address
    touches : (c d : Cmd) → c ≡ d → (touched_by d).pinned ≡ true → (touched_by c).pinned ≡ false → ⊥
    touches c d is does none = true≢false (sym (ap (λ x. (touched_by x).pinned) is ∙ does) ∙ none)

    abbrev Same : Outcome → Outcome → Type 0
    Same x y = x ≡ placed y

    way_placed : (c : Cmd) (v w : Way) → SameWay Same v w → CommandOf c w → (touched_by c).pinned ≡ false
        → TakesWay n s e t w → TakesWay n before e after v
    way_placed c (decided o) w same of none way =
        outcome_placed o same.0 same.1.1 (subst (TakesWay n s e t) same.1.0 way)
    way_placed c (makes_object d f fin) w same of none way =
        let is = subst (TakesWay n s e t) same way in (
          is.0,
          outcome_placed _ _ (test_both Same _ _ _ _ (nat_lt n.heap (total_size s + (f + 3))) refl refl) is.1,
        )
    way_placed c (makes_handle d given r) w same of none way = ⊎_elim
        (λ (x : MakesHandle n s e t d given r). inl (record {
          slot = x.slot;
          given = x.given;
          may = give_placed (kind_of given) e.grown x.slot x.may;
          reply = x.reply;
          after = ap (λ u. with_pinned u p) x.after ∙ made_placed e.grown d given r x.slot;
        }))
        (λ (x : FindsTableFull n s e t (kind_of given)). inr (record {
          few = x.few;
          refused = outcome_placed _ _ refl x.refused;
        })) (subst (TakesWay n s e t) same way)
    way_placed c (collects k) w same of none way =
        absurd (touches c (cmd.Collect k) (subst (CommandOf c) same of) refl none)
    way_placed c (replies_address h) w same of none way =
        absurd (touches c (cmd.AddrOf h) (subst (CommandOf c) same of) refl none)
    way_placed c (gives_back k) w same of none way = ⊎_elim
        (λ (x : GivesBack s e t k). inl (record {
          block = x.block;
          free = λ slot here. free_placed k slot (x.free slot here);
          reply = x.reply;
          slot = x.slot;
          grown = x.grown;
          after = ap (λ u. with_pinned u p) x.after;
        }))
        (λ x. inr (outcome_placed _ _ refl x)) (subst (TakesWay n s e t) same way)
    way_placed c (adds_entry v key) w same of none way = ⊎_elim
        (λ (x : AddsEntry n s e t v key). inl (record {
          slot = x.slot;
          given = x.given;
          may = give_placed kind.Dependent e.grown x.slot x.may;
          reply = x.reply;
          after = ap (λ u. with_pinned u p) x.after ∙ entry_placed e.grown v x.slot key;
        }))
        (λ (x : FindsTableFull n s e t kind.Dependent). inr (record {
          few = x.few;
          refused = outcome_placed _ _ refl x.refused;
        })) (subst (TakesWay n s e t) same way)
    way_placed c (replies_root r) w same of none way =
        let is = subst (TakesWay n s e t) same way in record {
          found = is.found;
          is_root = λ goal f. root_placed goal is.found (is.is_root goal f);
          outcome = outcome_placed _ _
              (option_both Same _ _ _ _ (register_of s e.caller r) (λ goal _. refl) refl) is.outcome;
        }

    -- a step of a command that touches no pinned address is one with any such addresses
    pub step_placed : (touched_by e.cmd).pinned ≡ false → Step n s e t → Step n before e after
    step_placed h step = record {
      caller = step.caller;
      valid = step.valid;
      does = way_placed e.cmd (way_of before e.caller e.cmd) (way_of s e.caller e.cmd)
          (way_both Same p s e.caller (λ r u _. refl) (λ slot x _ u. refl) (λ v slot key _. refl) e.cmd)
          (way_command s e.caller e.cmd) h step.does;
    }
