-- What is behind the gate of a shared host, and what is always so of an end.
use Rattle.std.specs.Prelude.{◌≡◌, ℕ, ◌+◌, ◌*◌, ◌<◌, ◌≤◌, ◌^◌, false, List, [], ◌∷◌, refl, Option, Some, None, IfSome}
use Rattle.std.specs.Coded.{Coded, code_by, coded×, coded_ℕ}
use Rattle.atomic_table.specs.Seated.{TableId}
use Rattle.hd_turns.specs.Views.{Known, starting}
use Rattle.hd_host.specs.declared.change.Change.{Change}
use Rattle.hd_host.specs.View.{HostView, host_view_code}
use Rattle.hd_ends.specs.Ends.{EndTurn, EndView, SharerView}

-- what ends take in turn: a host, and how many contexts each of them has
pub record SharedView : Type 0 where
  pub each : ℕ
  pub host : HostView

abbrev pub shared_view_code : Coded SharedView
shared_view_code =
    code_by (ℕ × HostView) (coded× coded_ℕ host_view_code)
    (λ s. (s.each, s.host))
    (λ p. record { each = p.0; host = p.1 })
    (λ _. refl)

-- the host is another
abbrev pub with_shared : SharedView → HostView → SharedView
with_shared s host = record s { host = host }

-- a turn leaves the number of contexts, and is a turn of the host
abbrev pub SharedTurn : ℕ → SharedView → SharedView → Type 0
SharedTurn number u w = (w.each ≡ u.each) × EndTurn u.each number u.host w.host

-- the hosts of a history
abbrev pub hosts_of : List (ℕ × SharedView) → List (ℕ × HostView)
hosts_of [] = []
hosts_of (entry ∷ past) = (entry.0, entry.1.host) ∷ hosts_of past

-- an end of a gate as an end of a host
abbrev pub end_of : Known SharedView → ℕ → Change → EndView
end_of k each last = record {
  table = k.table;
  number = k.view.number;
  each = each;
  seen = hosts_of k.view.seen;
  last = last;
  misses = k.view.misses;
}

abbrev pub host_of : Option SharedView → Option HostView
host_of None = None
host_of (Some s) = Some s.host

abbrev pub sharer_of : Known SharedView → ℕ → Change → SharerView
sharer_of k each last =
    record { end = end_of k each last; has_gate = k.view.has_gate; host = host_of k.value }

-- what is always so of an end: it has seen the opening at least, and its contexts are some of the host's
pub record IsSharer (k : Known SharedView) (first each : ℕ) : Type 0 where
  pub first_is : first ≡ k.view.number * each
  pub fits : first + each < 2 ^ 32
  pub by : ℕ
  pub left : SharedView
  pub past : List (ℕ × SharedView)
  pub seen : k.view.seen ≡ (by, left) ∷ past
  pub each_is : left.each ≡ each
  pub contexts : first + each ≤ left.host.machine.numbers.callers
  pub same_each : IfSome k.value (λ s. s.each ≡ each)

-- an end of a gate to which nothing was done
pub record IsNewEnd (k : Known SharedView) (each : ℕ) : Type 0 where
  pub table : TableId
  pub host : HostView
  pub number : ℕ
  pub is : k ≡ record { table = table; view = starting (record { each = each; host = host }) number false; value = None }
  pub contexts : number * each + each ≤ host.machine.numbers.callers
  pub few : host.machine.numbers.callers < 2 ^ 32
