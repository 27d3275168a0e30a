-- What an end of a shared host knows before, in and after its turn.
use Rattle.std.proofs.Common.{◌≡◌, ℕ, List, [], ◌∷◌, ◌+◌, ◌*◌, ◌<◌, ◌≤◌, ◌∙◌, None, Option, Some, ap, arith, refl, subst, sym}
use Rattle.std.specs.Prelude.{IfSome}
use Rattle.hd_model.specs.State.{Numbers}
use Rattle.hd_turns.specs.Views.{AreTurns, GoesOn, Known, TakesTurn, gave_back as gate_given, missed, with_value}
use Rattle.hd_turns.specs.Views.{MayLeave as MayLeaveGate}
use Rattle.hd_turns.specs.declared.gate.TheConstants.{LOOKS}
use Rattle.hd_turns.specs.declared.rule.View.{View}
use Rattle.hd_turns.proofs.Histories.{kept_by_others}
use Rattle.hd_host.specs.declared.change.Change.{Change}
use Rattle.hd_host.specs.Turns.{HostTurn}
use Rattle.hd_host.specs.View.{HostView}
use Rattle.hd_host.proofs.SoundTurns.{turn_numbers}
use Rattle.hd_ends.specs.Ends.{EndView, Leaves, MayLeave, SharerView, Takes, TookTurn, gave_end, with_last}
use Rattle.hd_ends.specs.Views.{IsNewEnd, IsSharer, SharedTurn, SharedView, end_of, host_of, hosts_of, sharer_of, with_shared}
use Rattle.hd_ends.proofs.HostHistories.{hosts_go_on, turns_of_hosts}

abbrev host_or : HostView → List (ℕ × HostView) → HostView
host_or v [] = v
host_or v (entry ∷ past) = entry.1

abbrev some_or : HostView → Option HostView → HostView
some_or v None = v
some_or v (Some u) = u

abbrev shared_or : SharedView → Option SharedView → SharedView
shared_or b None = b
shared_or b (Some s) = s

-- the host that an end has, as it is behind the gate
pub same_host : (o : Option SharedView) {b : SharedView} {h leaves : HostView} → o ≡ Some b → h ≡ b.host
    → host_of o ≡ Some leaves → h ≡ leaves
same_host o {h = h} held same has = same ∙ ap (some_or h) (ap host_of (sym held) ∙ has)

module _ {k : Known SharedView} {first each : ℕ} (inv : IsSharer k first each) where
  -- what it finds is of the same host, with the same contexts
  found_keeps : (by : ℕ) (value : SharedView) (past : List (ℕ × SharedView))
      → GoesOn k.view.number ((by, value) ∷ past) k.view.seen → AreTurns SharedTurn by value past
      → (value.each ≡ each) × (value.host.machine.numbers ≡ inv.left.host.machine.numbers)
  found_keeps by value past goes turns =
      kept_by_others SharedTurn
      (λ s. (s.each ≡ each) × (s.host.machine.numbers ≡ inv.left.host.machine.numbers)) k.view.number inv.by
      inv.left inv.past
      (λ by was now other turn kept. (turn.0 ∙ kept.0, turn_numbers turn.1.1 ∙ kept.1))
      by value past (subst (GoesOn k.view.number ((by, value) ∷ past)) inv.seen goes) turns (inv.each_is, refl)

  module _ {number : ℕ} {t : Known SharedView} (took : TakesTurn SharedTurn LOOKS number k t) where
    keeps : (took.found.each ≡ each) × (took.found.host.machine.numbers ≡ inv.left.host.machine.numbers)
    keeps = let enters = took.enters in found_keeps enters.by took.found enters.past enters.goes_on enters.turns

    contexts_left : first + each ≤ took.found.host.machine.numbers.callers
    contexts_left = subst (λ (n : Numbers). first + each ≤ n.callers) (sym keeps.1) inv.contexts

    found_is : {b : SharedView} → t.value ≡ Some b → b ≡ took.found
    found_is {b} is = ap (shared_or b) (sym is ∙ took.value_is)

    entered : (host : HostView) → IsSharer (with_value t (with_shared took.found host)) first each
    entered host = let enters = took.enters in record {
      first_is = inv.first_is ∙ ap (λ (v : View SharedView). v.number * each) (sym enters.new_is);
      fits = inv.fits;
      by = enters.by;
      left = took.found;
      past = enters.past;
      seen = ap (λ (v : View SharedView). v.seen) enters.new_is;
      each_is = keeps.0;
      contexts = contexts_left;
      same_each = keeps.0;
    }

    -- an end that has its turn is one still, with whatever host
    pub sharer_enters : {b : SharedView} → t.value ≡ Some b → (host : HostView)
        → IsSharer (with_value t (with_shared b host)) first each
    sharer_enters is host =
        subst (λ (s : SharedView). IsSharer (with_value t (with_shared s host)) first each) (sym (found_is is))
        (entered host)

    taken : (last : Change) → Takes (sharer_of k each last)
        (sharer_of (with_value t (with_shared took.found (with_last took.found.host last))) each last)
    taken last = let enters = took.enters in record {
      by = enters.by;
      found = took.found.host;
      past = hosts_of enters.past;
      goes_on = hosts_go_on enters.goes_on;
      turns = turns_of_hosts each enters.by took.found enters.past keeps.0 enters.turns;
      contexts = subst (λ n. n + each ≤ took.found.host.machine.numbers.callers) inv.first_is contexts_left;
      times = enters.times;
      few = enters.few;
      new_is = λ i. record {
        end = record {
          table = took.table_is i;
          number = (enters.new_is i).number;
          each = each;
          seen = hosts_of (enters.new_is i).seen;
          last = last;
          misses = (enters.new_is i).misses;
        };
        has_gate = (enters.new_is i).has_gate;
        host = Some (with_last took.found.host last);
      };
    }

    pub takes : {b : SharedView} {host : HostView} {last : Change} → t.value ≡ Some b → host ≡ with_last b.host last
        → Takes (sharer_of k each last) (sharer_of (with_value t (with_shared b host)) each last)
    takes {b} {host} {last} is recalled =
        subst (λ h. Takes (sharer_of k each last) (sharer_of (with_value t (with_shared b h)) each last))
        (sym recalled)
        (subst (λ (s : SharedView). Takes (sharer_of k each last)
        (sharer_of (with_value t (with_shared s (with_last s.host last))) each last)) (sym (found_is is)) (taken last))

  -- and so it is with another host
  pub sharer_lent : {s : SharedView} → k.value ≡ Some s → (host : HostView)
      → IsSharer (with_value k (with_shared s host)) first each
  sharer_lent held host = record {
    first_is = inv.first_is;
    fits = inv.fits;
    by = inv.by;
    left = inv.left;
    past = inv.past;
    seen = inv.seen;
    each_is = inv.each_is;
    contexts = inv.contexts;
    same_each = subst (λ (o : Option SharedView). IfSome o (λ s. s.each ≡ each)) held inv.same_each;
  }

  -- the host that it has, with how many contexts each end has
  pub left_behind : {b : SharedView} {h leaves : HostView} → k.value ≡ Some b → h ≡ leaves
      → with_shared b h ≡ record { each = each; host = leaves }
  left_behind held is =
      let same = subst (λ (o : Option SharedView). IfSome o (λ s. s.each ≡ each)) held inv.same_each in
      λ i. record { each = same i; host = is i }

  module _ {last : Change} {host : HostView} (may : MayLeave (end_of k each last) host) where
    was_found : may.found ≡ inv.left.host
    was_found = ap (host_or host) (sym may.seen ∙ ap hosts_of inv.seen)

    turn : HostTurn each k.view.number (with_last inv.left.host last) host
    turn = subst (λ v. HostTurn each k.view.number (with_last v last) host) was_found may.turn

    -- it may give the gate back
    pub may_leave_gate : MayLeaveGate SharedTurn (record { each = each; host = host }) k.view
    may_leave_gate = record {
      by = inv.by;
      was = inv.left;
      past = inv.past;
      seen = inv.seen;
      turns = (
        sym inv.each_is,
        (last, subst (λ n. HostTurn n k.view.number (with_last inv.left.host last) host) (sym inv.each_is) turn),
      );
    }

    pub sharer_leaves : IsSharer (record {
      table = k.table;
      view = gate_given (record { each = each; host = host }) k.view;
      value = None;
    }) first each
    sharer_leaves = record {
      first_is = inv.first_is;
      fits = inv.fits;
      by = k.view.number;
      left = record { each = each; host = host };
      past = k.view.seen;
      seen = refl;
      each_is = refl;
      contexts = subst (λ (n : Numbers). first + each ≤ n.callers) (sym (turn_numbers turn)) inv.contexts;
      same_each = tt;
    }

-- a busy end missed all its looks, and knows what it knew
pub sharer_misses : {k t : Known SharedView} {first each : ℕ} → IsSharer k first each
    → t ≡ record k { view = missed LOOKS k.view } → IsSharer t first each
sharer_misses {first = first} {each = each} inv is = subst (λ s. IsSharer s first each) (sym is) (record {
  first_is = inv.first_is;
  fits = inv.fits;
  by = inv.by;
  left = inv.left;
  past = inv.past;
  seen = inv.seen;
  each_is = inv.each_is;
  contexts = inv.contexts;
  same_each = inv.same_each;
})

-- the end of a gate to which nothing was done
pub sharer_opens : {k : Known SharedView} {each first : ℕ} → IsNewEnd k each → first ≡ k.view.number * each
    → IsSharer k first each
sharer_opens {each = each} {first = first} new is =
    let number = ap (λ (s : Known SharedView). s.view.number) new.is in
    let first_is : first ≡ new.number * each = is ∙ ap (λ n. n * each) number in record {
      first_is = is;
      fits = omega (arith, first_is, new.contexts, new.few);
      by = 0;
      left = record { each = each; host = new.host };
      past = [];
      seen = ap (λ (s : Known SharedView). s.view.seen) new.is;
      each_is = refl;
      contexts = omega (arith, first_is, new.contexts);
      same_each = subst (λ (s : Known SharedView). IfSome s.value (λ x. x.each ≡ each)) (sym new.is) tt;
    }

-- ---- a turn of an end

module _ {s t : SharerView} (takes : Takes s t) where
  -- the host that it has is what it found, but for `last`
  pub has_found : {v : HostView} → t.host ≡ Some v → v ≡ with_last takes.found s.end.last
  has_found {v} is = ap (some_or v) (sym is ∙ ap (λ (x : SharerView). x.host) takes.new_is)

  module _ {leaves : HostView} (turn : HostTurn s.end.each s.end.number (with_last takes.found s.end.last) leaves) where
    pub may_leave : MayLeave t.end leaves
    may_leave = record {
      by = takes.by;
      found = takes.found;
      past = takes.past;
      seen = ap (λ (x : SharerView). x.end.seen) takes.new_is;
      turn = subst (λ (x : SharerView). HostTurn x.end.each x.end.number (with_last takes.found x.end.last) leaves)
          (sym takes.new_is) turn;
    }

  -- so a turn that was left is one
  pub took_turn : {u r : SharerView} {leaves : HostView} → u.end ≡ t.end → Leaves u r leaves
      → TookTurn s.end r.end takes.found leaves
  took_turn {u} {leaves = leaves} as_taken left =
      let may : MayLeave t.end leaves = subst (λ (e : EndView). MayLeave e leaves) as_taken left.may in
      let same : may.found ≡ takes.found =
      ap (host_or leaves) (sym may.seen ∙ ap (λ (x : SharerView). x.end.seen) takes.new_is) in
      record {
        by = takes.by;
        past = takes.past;
        goes_on = takes.goes_on;
        turns = takes.turns;
        times = takes.times;
        few = takes.few;
        turn = subst (λ (x : SharerView). HostTurn x.end.each x.end.number (with_last takes.found x.end.last) leaves)
            takes.new_is
            (subst (λ v. HostTurn t.end.each t.end.number (with_last v t.end.last) leaves) same may.turn);
        new_is = ap (λ (x : SharerView). x.end) left.new_is
            ∙ ap (λ (e : EndView). gave_end leaves e) (as_taken ∙ ap (λ (x : SharerView). x.end) takes.new_is);
      }
