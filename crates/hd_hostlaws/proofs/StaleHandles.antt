-- A call on a handle returns that it is stale exactly where it is.
use Rattle.std.proofs.Common.{None, Option, Some, refl, subst, sym, ℕ, ◌≡◌}
use Rattle.std.proofs.lemmas.Option.{none-some, same_Some}
use Rattle.std.specs.Prelude.{Err, Ok, Result, option_map, ◌↔◌}
use Rattle.hd_model.specs.{declared.command.Cmd.Cmd, declared.data.Reply.Reply, declared.data.Slot.Slot}
use Rattle.hd_model.specs.{Command.load_reply, Handles.handle_of as handle_seen, State.handle_at}
use Rattle.hd_model.specs.declared.command.Cmd.TheVariants as cmd
use Rattle.hd_model.specs.declared.data.Reply.TheVariants as reply
use Rattle.hd_host.specs.declared.fault.Fault.{Fault}
use Rattle.hd_host.specs.declared.fault.Fault.TheVariants as fault
use Rattle.hd_host.specs.declared.handle.Handle.{Handle}
use Rattle.hd_host.specs.Calls.{FailsOf, TriesOf}
use Rattle.hd_host.specs.Handles.{IsOf, IsStale}
use Rattle.hd_host.specs.View.{HostView, IsAsItWas}
use Rattle.hd_host.proofs.SameHost.{unchanged}
use Rattle.hd_hostlaws.specs.Calls.{DoesOn, HandleCall, Looks, address, count_down, count_up, fault_in, free, get, info, kind, load, loaded_reply, returned, secondary_get, secondary_set, set, strength_set, target_id}
use Rattle.hd_hostlaws.specs.Laws.{StaleIsExact}

module _ (u w : HostView) (handle : Handle) where
  abbrev Exact : Option Fault → Type 0
  Exact o = ((o ≡ Some fault.Stale) ↔ IsStale u handle) × (IsStale u handle → IsAsItWas u w)

  -- it was done with the slot of a live handle
  done : (slot : Slot) → IsOf u handle slot → Exact None
  done slot of = (
    ((λ is. absurd (none-some fault.Stale is)), (λ gone. absurd (gone slot of))),
    λ gone. absurd (gone slot of),
  )

  -- it failed with another fault, and so with the slot of a live handle
  other : (f : Fault) (slot : Slot) → IsOf u handle slot → (f ≡ fault.Stale → ⊥) → Exact (Some f)
  other f slot of apart = (
    ((λ is. absurd (apart (same_Some f fault.Stale is))), (λ gone. absurd (gone slot of))),
    λ gone. absurd (gone slot of),
  )

  stale : IsStale u handle → IsAsItWas u w → Exact (Some fault.Stale)
  stale is as_it_was = (((λ _. is), (λ _. refl)), λ _. as_it_was)

  failed : (context : ℕ) (command : Cmd) (f : Fault) → FailsOf u context handle command f → IsAsItWas u w
      → Exact (Some f)
  failed context command fault.Stale fails as_it_was = stale fails as_it_was
  failed context command fault.WrongKind fails as_it_was = other _ fails.0 fails.1 (λ is. cc)
  failed context command fault.CountZero fails as_it_was = other _ fails.0 fails.1 (λ is. cc)
  failed context command fault.Null fails as_it_was = other _ fails.0 fails.1 (λ is. cc)
  failed context command fault.NoField fails as_it_was = other _ fails.0 fails.1 (λ is. cc)
  failed context command fault.Present fails as_it_was = other _ fails.0 fails.1 (λ is. cc)
  failed context command (fault.HeapFull used size) fails as_it_was = other _ fails.0 fails.1 (λ is. cc)
  failed context command (fault.TableFull given) fails as_it_was = other _ fails.0 fails.1 (λ is. cc)
  failed context command fault.Exhausted fails as_it_was = other _ fails.0 fails.1 (λ is. cc)
  failed context command fault.Memory fails as_it_was = other _ fails.0 fails.1 (λ is. cc)

  tried : {T : Type 0} (context : ℕ) (command : Cmd) (reply_of : T → Reply) (result : Result T Fault)
      → TriesOf u context handle command reply_of w result → Exact (fault_in result)
  tried context command reply_of (Ok x) did = done did.slot did.handle_is
  tried context command reply_of (Err f) did = failed context command f did.0 did.1

  looked : {T : Type 0} (is : Slot → T → Type 0) (result : Result T Fault) → Looks u handle is w result
      → Exact (fault_in result)
  looked is (Ok x) did = done did.1.0 did.1.1
  looked is (Err f) did =
      subst (λ g. Exact (Some g)) (sym did.1.0)
      (stale did.1.1 (subst (IsAsItWas u) (sym did.0) (unchanged u)))

  exact : (call : HandleCall) → DoesOn handle call u w → Exact (returned call)
  exact (free (Ok x)) did = done did.slot did.handle_is
  exact (free (Err f)) did = failed 0 (cmd.HFree 0) f did.0 did.1
  exact (get context dst result) did = tried context (cmd.HGet dst 0) load_reply result did
  exact (set context src result) did = tried context (cmd.HSet 0 src) (λ _. reply.Done) result did
  exact (secondary_get context dst result) did = tried context (cmd.HDep dst 0) load_reply result did
  exact (secondary_set context src result) did = tried context (cmd.HSec 0 src) (λ _. reply.Done) result did
  exact (strength_set strength result) did = tried 0 (cmd.HVar 0 strength) (λ _. reply.Done) result did
  exact (count_up result) did = tried 0 (cmd.HUp 0) reply.Value result did
  exact (count_down result) did = tried 0 (cmd.HDown 0) reply.Value result did
  exact (address result) did = tried 0 (cmd.AddrOf 0) reply.Place result did
  exact (load context dst result) did = tried context (cmd.HGet dst 0) loaded_reply result did.0
  exact (target_id result) did =
      looked (λ slot target. option_map (λ h. h.target) (handle_at u.machine.state slot) ≡ Some target)
      result did
  exact (info result) did =
      looked (λ slot seen. handle_at u.machine.state slot ≡ Some (handle_seen seen)) result did
  exact (kind result) did =
      looked (λ slot of. option_map (λ h. h.kind) (handle_at u.machine.state slot) ≡ Some of) result did

pub stale_is_exact : StaleIsExact
stale_is_exact handle call u w did = exact u w handle call did
