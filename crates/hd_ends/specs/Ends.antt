-- What contracts see of an end of a host: of a host of its own, or of one that ends share.
use Rattle.std.specs.Prelude.{◌≡◌, ℕ, zero, suc, ◌+◌, ◌*◌, ◌<◌, ◌≤◌, Bool, true, false, List, [], ◌∷◌, ◌++◌, length, refl, Option, Some, None}
use Rattle.std.specs.Coded.{Coded, code_by, coded×, coded_bool, coded_list, coded_option, coded_ℕ}
use Rattle.atomic_table.specs.Seated.{TableId, table_id_coded}
use Rattle.hd_turns.specs.Views.{AreTurns, GoesOn}
use Rattle.hd_turns.specs.declared.gate.TheConstants.{LOOKS}
use Rattle.hd_host.specs.declared.change.Change.{Change}
use Rattle.hd_host.specs.contracts.change.Change as change_contract
use Rattle.hd_host.specs.Turns.{HostTurn, LocalsStay}
use Rattle.hd_host.specs.View.{HostView, host_view_code}

-- ---- what an end knows

-- an end of a shared host: of which one, its number, how many contexts each end has, the history of all
-- turns as at its own last one, the last turn first: whose it was, and what it left; what its own last call
-- that was done did to slots and blocks; and how often it looked at the gate in vain. The first of the
-- history is the host as it was opened, which counts as number 0's.
pub record EndView : Type 0 where
  pub table : TableId
  pub number : ℕ
  pub each : ℕ
  pub seen : List (ℕ × HostView)
  pub last : Change
  pub misses : ℕ

abbrev pub end_view_code : Coded EndView
end_view_code =
    code_by (TableId × (ℕ × (ℕ × (List (ℕ × HostView) × (Change × ℕ)))))
    (coded× table_id_coded (coded× coded_ℕ (coded× coded_ℕ
    (coded× (coded_list (coded× coded_ℕ host_view_code)) (coded× change_contract.the_row.coded coded_ℕ)))))
    (λ e. (e.table, (e.number, (e.each, (e.seen, (e.last, e.misses))))))
    (λ p. record {
      table = p.0;
      number = p.1.0;
      each = p.1.1.0;
      seen = p.1.1.1.0;
      last = p.1.1.1.1.0;
      misses = p.1.1.1.1.1;
    })
    (λ _. refl)

-- which of the host's contexts is the first of its own
abbrev pub first_of : EndView → ℕ
first_of e = e.number * e.each

abbrev pub before_last : List (ℕ × HostView) → ℕ
before_last [] = 0
before_last (entry ∷ past) = length past

-- the number of an end's last turn: how many there were before it, with the opening. Before the first it is 0.
abbrev pub turn_of : EndView → ℕ
turn_of e = before_last e.seen

-- it looked so many times in vain: another end had its turn, or came first, or no turn is left
abbrev pub missed : ℕ → EndView → EndView
missed times e = record e { misses = e.misses + times }

-- its call was busy: so it was at each of as many looks as a call makes
abbrev pub busied : EndView → EndView
busied = missed LOOKS

-- ---- turns

-- a host in which the last call was another
abbrev pub with_last : HostView → Change → HostView
with_last v last = record v { last = last }

-- a turn of the end with a number: one of the host, in which the last call was the end's own
abbrev pub EndTurn : ℕ → ℕ → HostView → HostView → Type 0
EndTurn each number u w = (last : Change) × HostTurn each number (with_last u last) w

-- An end had its turn: it found the host `found`, which the last turn of all had left, and left `leaves`. The
-- history goes on from what the end had seen, by turns of other ends; each is a turn from what the one before
-- left, and so is this one. Before it the end missed some looks, but not all that a call makes.
pub record TookTurn (old new : EndView) (found leaves : HostView) : Type 0 where
  pub by : ℕ
  pub past : List (ℕ × HostView)
  pub goes_on : GoesOn old.number ((by, found) ∷ past) old.seen
  pub turns : AreTurns (EndTurn old.each) by found past
  pub turn : HostTurn old.each old.number (with_last found old.last) leaves
  pub times : ℕ
  pub few : times < LOOKS
  pub new_is :
      new ≡ record (missed times old) {
        seen = (old.number, leaves) ∷ (by, found) ∷ past;
        last = leaves.last;
      }

-- What the locals of an end's contexts reference in the host that it finds is what they referenced in what its last
-- turn left, whatever other ends did in between, also where they collected.
abbrev pub EndsKeepLocals : Type 0
EndsKeepLocals =
    (old new : EndView) (found leaves : HostView) (by : ℕ) (left : HostView) (rest : List (ℕ × HostView))
    → old.seen ≡ (by, left) ∷ rest → TookTurn old new found leaves
    → LocalsStay old.each old.number left found

-- ---- an end while it has its turn

-- an end, whether it has the gate, and the host while it has. Then the first of its history is the host that it took.
pub record SharerView : Type 0 where
  pub end : EndView
  pub has_gate : Bool
  pub host : Option HostView

abbrev pub sharer_view_code : Coded SharerView
sharer_view_code =
    code_by (EndView × (Bool × Option HostView))
    (coded× end_view_code (coded× coded_bool (coded_option host_view_code)))
    (λ s. (s.end, (s.has_gate, s.host)))
    (λ p. record { end = p.0; has_gate = p.1.0; host = p.1.1 })
    (λ _. refl)

-- an end took its turn, after some misses: the host is what it found but for `last`
pub record Takes (old new : SharerView) : Type 0 where
  pub by : ℕ
  pub found : HostView
  pub past : List (ℕ × HostView)
  pub goes_on : GoesOn old.end.number ((by, found) ∷ past) old.end.seen
  pub turns : AreTurns (EndTurn old.end.each) by found past
  pub contexts : first_of old.end + old.end.each ≤ found.machine.numbers.callers
  pub times : ℕ
  pub few : times < LOOKS
  pub new_is : new ≡ record {
    end = record (missed times old.end) { seen = (by, found) ∷ past };
    has_gate = true;
    host = Some (with_last found old.end.last);
  }

-- the host is another
abbrev pub with_host : SharerView → HostView → SharerView
with_host s host = record s { host = Some host }

-- a host is left by a turn of an end from what it took
pub record MayLeave (e : EndView) (leaves : HostView) : Type 0 where
  pub by : ℕ
  pub found : HostView
  pub past : List (ℕ × HostView)
  pub seen : e.seen ≡ (by, found) ∷ past
  pub turn : HostTurn e.each e.number (with_last found e.last) leaves

-- it gave the gate back with a host
abbrev pub gave_end : HostView → EndView → EndView
gave_end v e = record e { seen = (e.number, v) ∷ e.seen; last = v.last }

abbrev pub gave_back : HostView → SharerView → SharerView
gave_back v s = record { end = gave_end v s.end; has_gate = false; host = None }

-- an end left its turn with a host
pub record Leaves (old new : SharerView) (leaves : HostView) : Type 0 where
  pub had : old.host ≡ Some leaves
  pub may : MayLeave old.end leaves
  pub new_is : new ≡ gave_back leaves old

-- ---- how ends are opened

-- the end with a number of a host to which nothing was done
abbrev pub new_end : TableId → ℕ → HostView → ℕ → EndView
new_end table each v number =
    record { table = table; number = number; each = each; seen = (0, v) ∷ []; last = v.last; misses = 0 }

-- so many ends, by their numbers from 0
abbrev pub ends_up : TableId → ℕ → HostView → ℕ → List EndView
ends_up table each v zero = []
ends_up table each v (suc number) = ends_up table each v number ++ new_end table each v number ∷ []
