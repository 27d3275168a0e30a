-- The ways in which an export comes to its status.
use Rattle.std.proofs.Common.{None, Option, Some, ap, arith, refl, subst, sym, ℕ, ◌*◌, ◌+◌, ◌<◌, ◌∙◌, ◌≡◌}
use Rattle.std.specs.Prelude.{Err, MatchResult, Ok, Result}
use Rattle.hd_host.specs.declared.fault.Fault.{Fault}
use Rattle.hd_host.specs.Turns.{HostTurn, IsContextOf, IsOwnContext}
use Rattle.hd_host.specs.View.{HostView, IsAsItWas}
use Rattle.hd_host.proofs.CallTurns.{turn_as_it_was}
use Rattle.hd_ends.specs.Ends.{EndView, Leaves, MayLeave, SharerView, Takes, busied, first_of, with_host}
use Rattle.hd_ends.specs.Opened.{contexts_of}
use Rattle.hd_ends.specs.declared.end.End.{End}
use Rattle.hd_ends.specs.declared.end.End.TheVariants.{Own, Shared}
use Rattle.hd_ends.proofs.SharerTurns.{has_found, may_leave, took_turn}
use Rattle.hdt_c.specs.Exports.{Comes, busy, closed, is_wrong, runs, turned, Runs, fails, does}
use Rattle.hdt_c.specs.Outs.{IsOpened, Opens, Refuses, TellsLast, is_open, last_out, opens, refuses, shut_last, tells}
use Rattle.hdt_c.specs.Status.{status_of}
use Rattle.hdt_c.specs.declared.parts.{Change.Change, Limits.Limits}
use Rattle.hdt_c.specs.declared.status.TheConstants.{ARGUMENT, BUSY, CLOSED, IS_OPEN, OK}

-- ---- calls on a host

module _ {Fails : HostView → Fault → Type 0} {Does : HostView → HostView → ℕ → Type 0} {Kept : Type 0} where
  pub failed : {v w : HostView} {s : ℕ} (f : Fault) → Fails v f × IsAsItWas v w → Kept → s ≡ status_of f
      → Runs Fails Does Kept v w s
  failed {v} {w} f why kept is =
      subst (λ n. Runs Fails Does Kept v w n) (sym is) (fails v w f why.0 why.1 kept)

  -- a call with nothing to return, by the status of its result
  pub by_status : {X D : Type 0} {v w : HostView} {s : ℕ} → Kept → (D → s ≡ OK → Does v w s)
      → (r : Result X Fault) → MatchResult r (λ _. s ≡ OK) (λ fault. s ≡ status_of fault)
      → MatchResult r (λ _. D) (λ fault. Fails v fault × IsAsItWas v w) → Runs Fails Does Kept v w s
  by_status {v = v} {w = w} {s = s} kept made (Ok x) is done = does v w s (made done is)
  by_status kept made (Err f) is why = failed f why kept is

  -- the same, where the fault is said in other words
  pub by_fault : {X D : Type 0} {F : Fault → Type 0} {v w : HostView} {s : ℕ} → Kept
      → (D → s ≡ OK → Does v w s) → ((f : Fault) → F f → Fails v f) → (r : Result X Fault)
      → MatchResult r (λ _. s ≡ OK) (λ fault. s ≡ status_of fault)
      → MatchResult r (λ _. D) (λ fault. F fault × IsAsItWas v w) → Runs Fails Does Kept v w s
  by_fault {v = v} {w = w} {s = s} kept made why (Ok x) is done = does v w s (made done is)
  by_fault kept made why (Err f) is fault = failed f (why f fault.0, fault.1) kept is

  -- a call is a turn of an end, if it is one where it is done
  pub turn_by : {each number : ℕ} {v w : HostView} {s : ℕ} → (Does v w s → HostTurn each number v w)
      → Runs Fails Does Kept v w s → HostTurn each number v w
  turn_by {each} {number} made (fails v w f why same kept) = turn_as_it_was each number same
  turn_by made (does v w s did) = made did

-- ---- exports

-- the end that was taken out was one of a shared host
was_shared : {o : Option End} {e x : End} {u d : EndView} → Some e ≡ o → x ≡ e → x ≡ Shared d → u ≡ d
    → o ≡ Some (Shared u)
was_shared some at is view = sym some ∙ ap Some (sym at ∙ is) ∙ ap (λ (x : EndView). Some (Shared x)) (sym view)

-- what an end left is the host that it had
abbrev host_or : HostView → Option HostView → HostView
host_or v None = v
host_or v (Some u) = u

left_by : (t : SharerView) {r : SharerView} {leaves : HostView}
    → (left : HostView) × Leaves (with_host t leaves) r left → Leaves (with_host t leaves) r leaves
left_by t {r} {leaves} left =
    subst (λ h. Leaves (with_host t leaves) r h) (sym (ap (host_or leaves) left.1.had)) left.1

module _ {Right : ℕ → Type 0} {Fails : (ℕ → ℕ) → HostView → Fault → Type 0}
    {Does : (ℕ → ℕ) → HostView → HostView → ℕ → Type 0} {Kept : Type 0} where
  pub shut : {o n : Option End} {s : ℕ} → Kept → o ≡ None → n ≡ None → s ≡ CLOSED
      → Comes Right Fails Does Kept o n s
  shut {o} {n} {s} kept none now is =
      subst (λ x. Comes Right Fails Does Kept x n s) (sym none)
      (subst (λ x. Comes Right Fails Does Kept None x s) (sym now)
      (subst (λ x. Comes Right Fails Does Kept None None x) (sym is) (closed kept)))

  pub wrong : {o n : Option End} {e : End} → o ≡ Some e → n ≡ Some e → (Right (contexts_of e) → ⊥) → Kept
      → Comes Right Fails Does Kept o n ARGUMENT
  wrong {o} {n} {e} was now not kept =
      subst (λ x. Comes Right Fails Does Kept x n ARGUMENT) (sym was)
      (subst (λ x. Comes Right Fails Does Kept (Some e) x ARGUMENT) (sym now) (is_wrong e not kept))

  -- Each takes that an end was taken out, which it is, and what was put back.
  pub wrong_own : {o n : Option End} {e x : End} {v : HostView} {count : ℕ} → Some e ≡ o → x ≡ e → x ≡ Own v
      → n ≡ Some (Own v) → count ≡ v.machine.numbers.callers → (Right count → ⊥) → Kept
      → Comes Right Fails Does Kept o n ARGUMENT
  wrong_own {v = v} some at is now count not kept = wrong (sym some ∙ ap Some (sym at ∙ is)) now
      (λ right. not (subst Right (sym count) right)) kept

  pub wrong_shared : {o n : Option End} {e x : End} {u d : EndView} {count : ℕ} → Some e ≡ o → x ≡ e → x ≡ Shared d
      → u ≡ d → n ≡ Some (Shared d) → count ≡ u.each → (Right count → ⊥) → Kept
      → Comes Right Fails Does Kept o n ARGUMENT
  wrong_shared some at is view now count not kept = wrong (sym some ∙ ap Some (sym at ∙ is)) now
      (λ right. not (subst Right (sym (count ∙ ap (λ (x : EndView). x.each) view)) right)) kept

  pub ran_own : {o n : Option End} {e x : End} {v w : HostView} {count s : ℕ} → Some e ≡ o → x ≡ e → x ≡ Own v
      → n ≡ Some (Own w) → count ≡ v.machine.numbers.callers → Right count
      → Runs (Fails (λ c. c)) (Does (λ c. c)) Kept v w s → Comes Right Fails Does Kept o n s
  ran_own {o} {n} {v = v} {w = w} {s = s} some at is now count right did =
      subst (λ x. Comes Right Fails Does Kept x n s) (ap Some (sym is ∙ at) ∙ some)
      (subst (λ x. Comes Right Fails Does Kept (Some (Own v)) x s) (sym now)
      (runs v w s (subst Right count right) did))

  pub was_busy : {o n : Option End} {e x : End} {u t : SharerView} {d : EndView} {count : ℕ} → Some e ≡ o → x ≡ e
      → x ≡ Shared d → u.end ≡ d → t ≡ record u { end = busied u.end } → n ≡ Some (Shared t.end)
      → count ≡ u.end.each → Right count → Kept → Comes Right Fails Does Kept o n BUSY
  was_busy {o} {n} {u = u} some at is view looked now count right kept =
      subst (λ x. Comes Right Fails Does Kept x n BUSY) (sym (was_shared some at is view))
      (subst (λ x. Comes Right Fails Does Kept (Some (Shared u.end)) x BUSY)
      (sym (now ∙ ap (λ (x : SharerView). Some (Shared x.end)) looked))
      (busy u.end (subst Right count right) kept))

  -- it ran at the end's turn, in the host that it has
  pub ran_shared : {o n : Option End} {e x : End} {u t r : SharerView} {d : EndView} {v leaves : HostView}
      {count first s : ℕ} → Some e ≡ o → x ≡ e → x ≡ Shared d → u.end ≡ d → n ≡ Some (Shared r.end)
      → count ≡ u.end.each → Right count → first ≡ first_of u.end → Takes u t
      → ((left : HostView) × Leaves (with_host t leaves) r left) → t.host ≡ Some v
      → Runs (Fails (λ c. first + c)) (Does (λ c. first + c)) Kept v leaves s
      → Comes Right Fails Does Kept o n s
  ran_shared {o} {n} {u = u} {t = t} {r = r} {v = v} {leaves = leaves} {s = s} some at is view now count right first
      takes left has did =
      let gone : Leaves (with_host t leaves) r leaves = left_by t left in
      subst (λ x. Comes Right Fails Does Kept x n s) (sym (was_shared some at is view))
      (subst (λ x. Comes Right Fails Does Kept (Some (Shared u.end)) x s) (sym now)
      (turned u.end r.end takes.found leaves s (subst Right count right) (took_turn takes refl gone)
      (subst (λ h. Runs (Fails (λ c. first_of u.end + c)) (Does (λ c. first_of u.end + c)) Kept h leaves s)
      (has_found takes has)
      (subst (λ f. Runs (Fails (λ c. f + c)) (Does (λ c. f + c)) Kept v leaves s) first did))))

  -- the end went to another function
  pub went_on : {m o n : Option End} {s : ℕ} → m ≡ o → Comes Right Fails Does Kept m n s
      → Comes Right Fails Does Kept o n s
  went_on {n = n} {s = s} same did = subst (λ x. Comes Right Fails Does Kept x n s) same did

-- a turn of an end may be left
pub leaves_by : {u t : SharerView} {v leaves : HostView} → Takes u t → t.host ≡ Some v
    → HostTurn u.end.each u.end.number v leaves
    → (left : HostView) × (Some leaves ≡ Some left) × MayLeave t.end left
leaves_by {u} {leaves = leaves} takes has turn = (
  leaves,
  refl,
  may_leave takes (subst (λ h. HostTurn u.end.each u.end.number h leaves) (has_found takes has) turn),
)

-- a context of an end, in the host
pub own_context : (each number : ℕ) {first c count : ℕ} → first ≡ number * each → count ≡ each → c < count
    → IsContextOf each number (first + c)
own_context each number is count low = (omega (arith, is), omega (arith, is, count, low))

-- which the host that it has has
pub own_context_in : {u t : SharerView} {v : HostView} {first c count : ℕ} → Takes u t → t.host ≡ Some v
    → first ≡ first_of u.end → count ≡ u.end.each → c < count
    → IsOwnContext u.end.each u.end.number v (first + c)
own_context_in {v = v} takes has is count low =
    let known : v.machine.numbers.callers ≡ takes.found.machine.numbers.callers =
    ap (λ (h : HostView). h.machine.numbers.callers) (has_found takes has) in
    (own_context _ _ is count low, omega (arith, is, count, low, takes.contexts, known))

module _ {limits : Limits} {o n : Option End} where
  pub already : {e : End} → o ≡ Some e → n ≡ Some e → Opens limits o n IS_OPEN
  already {e} was now =
      subst (λ x. Opens limits x n IS_OPEN) (sym was)
      (subst (λ x. Opens limits (Some e) x IS_OPEN) (sym now) (is_open e))

  pub refused : {s : ℕ} → o ≡ None → n ≡ None → Refuses limits s → Opens limits o n s
  refused {s} was now why =
      subst (λ x. Opens limits x n s) (sym was)
      (subst (λ x. Opens limits None x s) (sym now) (refuses s why))

  pub opened : {v : HostView} → o ≡ None → n ≡ Some (Own v) → IsOpened limits v → Opens limits o n OK
  opened {v} was now is =
      subst (λ x. Opens limits x n OK) (sym was)
      (subst (λ x. Opens limits None x OK) (sym now) (opens v is))

module _ {out out' : Change} {o n : Option End} where
  pub untold : o ≡ None → n ≡ None → out' ≡ out → TellsLast out out' o n CLOSED
  untold was now same =
      subst (λ x. TellsLast out out' x n CLOSED) (sym was)
      (subst (λ x. TellsLast out out' None x CLOSED) (sym now) (shut_last same))

  pub told : {e : End} → Some e ≡ o → n ≡ Some e → out' ≡ last_out e → TellsLast out out' o n OK
  told {e} was now is =
      subst (λ x. TellsLast out out' x n OK) was
      (subst (λ x. TellsLast out out' (Some e) x OK) (sym now) (tells e is))
