-- How many blocks a host gives back.
use Rattle.std.proofs.Common.{Bool, List, None, Some, [], ◌∷◌, is_some, ◌<◌, ap, arith, drop, false, get_or, inl, inr, length, refl, subst, sym, true, ℕ, ◌+◌, ◌∙◌, ◌≡◌, ◌≤◌}
use Rattle.std.proofs.lemmas.List.{drop_all, drop_more}
use Rattle.std.specs.Prelude.{IsSome}
use Rattle.hd_model.proofs.ReadAfterWrite.{len_less}
use Rattle.hd_model.specs.{declared.command.Cmd.Cmd, declared.data.Entry.Entry, declared.data.Kind.Kind, declared.data.Kind.TheVariants.Short, Kinds.all_kinds, Kinds.is_paired, PinnedAddresses.with_pinned, Step.StepOf}
use Rattle.hd_model.specs.State.{Numbers, State, block_of, first_slot, given_of, handles_of, use_of}
use Rattle.hd_model.specs.declared.command.Cmd.TheVariants as cmd
use Rattle.hd_model.specs.declared.data.Reply.TheVariants as reply
use Rattle.hd_seg.specs.Given.{HasNoneGiven, IsNextGiven}
use Rattle.hd_store.proofs.SpareBlocks.{least_of, none_at_all, none_below, none_to}
use Rattle.hd_store.specs.{Spare.GivesBackPair, Spare.HasNoSpare, Spare.IsSpare, Store.Machine}
use Rattle.hd_host.specs.Changes.{change_back}
use Rattle.hd_host.specs.Calls.{Trims}
use Rattle.hd_host.specs.Steps.{pointed}
use Rattle.hd_host.specs.Turns.{TrimsBlock, TrimsBy, TrimsRow, next_kind, no_kinds, one_more}
use Rattle.hd_host.specs.View.{HostView, state_in}
use Rattle.hd_host.proofs.PairTrimmed.{none_lower, pair_fewer, trims_pair}
use Rattle.hd_host.proofs.{SoundTurns.stepped_goes, TrimTurns.row_on}

value_same : {a b : ℕ} → reply.Value a ≡ reply.Value b → a ≡ b
value_same {a = a} {b = b} is = let same = is in cc

-- the command gives back one, or none
step_fewer : (n : Numbers) (s : State) (e : Entry) (t : State) (kind : Kind) (given : ℕ)
    → e.reply ≡ reply.Value given → StepOf n s e t (cmd.Trim kind) → given_of t + given ≡ given_of s
step_fewer n s e t kind given is (inl gives) =
    let one : given ≡ 1 = value_same (sym is ∙ gives.reply) in
    let first = gives.free (first_slot gives.block) (omega arith) in
    let at : block_of (first_slot gives.block) ≡ gives.block = omega arith in
    let used = ap is_some (subst (λ b. use_of s b ≡ Some (handles_of kind)) at first.of_kind) in
    omega (arith, one, ap given_of gives.after, len_less s.blocks gives.block used)
step_fewer n s e t kind given is (inr none) =
    let zero : given ≡ 0 = value_same (sym is ∙ none.reply) in
    omega (arith, zero, ap given_of none.after)

plain_fewer : {u w : HostView} {kind : Kind} {given : ℕ} → Trims u kind given w
    → given_of w.machine.state + given ≡ given_of u.machine.state
plain_fewer {u} {w} {kind} {given} did =
    let stepped = did.replied.done.stepped in
    let goes = stepped_goes stepped in
    ap (λ (m : Machine). given_of m.state + given) stepped.new_is
    ∙ step_fewer u.machine.numbers (state_in (pointed u.machine 0 None)) did.replied.entry
    (with_pinned stepped.after.state goes.pinned) kind given did.replied.reply
    (subst (λ (c : Cmd). StepOf u.machine.numbers (state_in (pointed u.machine 0 None)) did.replied.entry
    (with_pinned stepped.after.state goes.pinned) c) stepped.command_is.1 goes.step.does)

by_fewer : (paired : Bool) (u w : HostView) (kind : Kind) (given : ℕ) → TrimsBy paired u kind given w
    → given_of w.machine.state + given ≡ given_of u.machine.state
by_fewer true u w kind given (inl did) =
    let pair = did.1 in
    let fewer = pair_fewer u.machine.state pair.block pair.extra pair.extra_is kind pair.least.spare.of_kind in
    omega (arith, did.0, fewer, ap given_of pair.left.state)
by_fewer true u w kind given (inr none) = omega (arith, none.0, ap given_of none.1.same.state)
by_fewer false u w kind given did = plain_fewer did

pub block_fewer : (u w : HostView) (kind : Kind) (given : ℕ) → TrimsBlock u kind given w
    → given_of w.machine.state + given ≡ given_of u.machine.state
block_fewer u w kind given did = by_fewer (is_paired kind) u w kind given did

-- of a kind without extra data it is the command
pub plain_block : {u w : HostView} {kind : Kind} {given : ℕ} → is_paired kind ≡ false → Trims u kind given w
    → TrimsBlock u kind given w
plain_block {u} {w} {kind} {given} single did =
    subst (λ paired. TrimsBy paired u kind given w) (sym single) did

pub paired_block : {u w : HostView} {kind : Kind} {given : ℕ} → is_paired kind ≡ true → TrimsBy true u kind given w
    → TrimsBlock u kind given w
paired_block {u} {w} {kind} {given} paired did = subst (λ b. TrimsBy b u kind given w) (sym paired) did

pub row_fewer : {u w : HostView} {kinds : List Kind} → TrimsRow kinds u w
    → given_of w.machine.state ≤ given_of u.machine.state
row_fewer no_kinds = omega arith
row_fewer {u} {w} (one_more {v = v} {kind = kind} given some did rest) =
    let here = block_fewer u v kind given did in let later = row_fewer rest in omega (arith, here, later)
row_fewer {u} {w} (next_kind {v = v} {kind = kind} did rest) =
    let here = block_fewer u v kind 0 did in let later = row_fewer rest in omega (arith, here, later)

-- ---- the blocks of a kind, one after another

-- what is given back from here on goes on what was, and no block so far is spare
pub record IsTrimming (kind : Kind) (old now : HostView) (so_far : ℕ) : Type 0 where
  pub row : (w : HostView) → TrimsRow (kind ∷ []) now w → TrimsRow (kind ∷ []) old w
  pub lower : (block : ℕ) → 1 ≤ block → block ≤ so_far → IsSpare now.machine.state kind block → ⊥
  pub numbers : now.machine.numbers ≡ old.machine.numbers

pub trimming_first : (kind : Kind) (v : HostView) → IsTrimming kind v v 0
trimming_first kind v = record {
  row = λ w rest. rest;
  lower = λ block one none spare. absurd (omega arith);
  numbers = refl;
}

-- block 0 has no use
abbrev pub HasNoFirst : HostView → Type 0
HasNoFirst v = (block : ℕ) → IsSome (use_of v.machine.state block) → 1 ≤ block

module _ {kind : Kind} {old now : HostView} {so_far : ℕ} (was : IsTrimming kind old now so_far)
    (first : HasNoFirst now) where
  lower : (block : ℕ) → block ≤ so_far → IsSpare now.machine.state kind block → ⊥
  lower block low spare = was.lower block (first block (ap is_some spare.of_kind)) low spare

  -- no block with a use is left
  pub trimming_end : HasNoneGiven now.machine.state.blocks (so_far + 1) → HasNoSpare now.machine.state kind
  trimming_end = none_at_all so_far lower

  module _ {next : ℕ} (given : IsNextGiven now.machine.state.blocks (so_far + 1) next) where
    -- the next one is not spare
    pub trimming_past : (IsSpare now.machine.state kind next → ⊥) → IsTrimming kind old now next
    trimming_past other = record {
      row = was.row;
      lower = λ block one. none_to so_far lower given other block;
      numbers = was.numbers;
    }

    -- the next one is spare, and is given back
    pub trimming_on : is_paired kind ≡ true → IsSpare now.machine.state kind next → (extra : ℕ) (w : HostView)
        → GivesBackPair now.machine next extra w.machine
        → w ≡ record now { machine = w.machine; last = change_back next extra } → IsTrimming kind old w next
    trimming_on paired spare extra w gives after =
        let least = least_of so_far lower given spare in
        record {
          row = λ x rest. was.row x (one_more 2 (omega arith)
              (paired_block paired (inl (refl, trims_pair now w least gives after))) rest);
          lower = λ block one. none_lower now w least gives after (none_below so_far lower given) block;
          numbers = ap (λ (m : Machine). m.numbers) gives.after ∙ was.numbers;
        }

-- ---- the kinds, one after another

-- what is given back from here on, of the kinds from one on, goes on what was
abbrev pub GoesOn : HostView → HostView → ℕ → Type 0
GoesOn old now n = (w : HostView) → TrimsRow (drop n all_kinds) now w → TrimsRow all_kinds old w

pub kind_done : {old now next : HostView} (n : ℕ) → GoesOn old now n → n < length all_kinds
    → TrimsRow (get_or all_kinds n Short ∷ []) now next → GoesOn old next (n + 1)
kind_done {now = now} n was low did w rest = was w
    (subst (λ kinds. TrimsRow kinds now w) (sym (drop_more all_kinds n Short low)) (row_on did rest))

pub kinds_done : {old now : HostView} (n : ℕ) → GoesOn old now n → length all_kinds ≤ n
    → TrimsRow all_kinds old now
kinds_done {now = now} n was all =
    was now (subst (λ kinds. TrimsRow kinds now now) (sym (drop_all n all_kinds all)) no_kinds)
