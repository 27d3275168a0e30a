-- A call that returns a fault leaves the host as it was.
use Rattle.std.proofs.Common.{Some, subst, sym, ◌≡◌}
use Rattle.std.proofs.lemmas.Option.{none-some}
use Rattle.std.specs.Prelude.{Err, MatchResult, Ok, Result}
use Rattle.hd_host.specs.declared.fault.Fault.{Fault}
use Rattle.hd_host.specs.declared.handle.Handle.{Handle}
use Rattle.hd_host.specs.View.{HostView, IsAsItWas}
use Rattle.hd_host.proofs.SameHost.{unchanged}
use Rattle.hd_hostlaws.specs.Calls.{DoesOn, DoesPlainly, HandleCall, PlainCall, address, collect, count_down, count_up, fault_in, field_get, field_load, field_set, final_next, free, generation, get, handle_new, info, kind, load, local_clear, local_copy, local_pass, locals_clear, object_make, object_new, observes, on_handle, plain, recall, reregister, returned, returned_plainly, root_of, secondary_get, secondary_set, set, static_get, static_set, strength_set, suppress, table_add, table_find, table_remove, table_set, target_id, trim, trim_all, trim_block, value_get, value_set}
use Rattle.hd_hostlaws.specs.Laws.{FaultsChangeNothing}

module _ {u w : HostView} (f : Fault) where
  kept : {T : Type 0} (P : T → Type 0) (Q : Fault → Type 0) (result : Result T Fault)
      → MatchResult result P (λ g. Q g × IsAsItWas u w) → fault_in result ≡ Some f → IsAsItWas u w
  kept P Q (Ok x) did is = absurd (none-some f is)
  kept P Q (Err g) did is = did.1

  same : w ≡ u → IsAsItWas u w
  same is = subst (IsAsItWas u) (sym is) (unchanged u)

  on_one : (handle : Handle) (call : HandleCall) → DoesOn handle call u w → returned call ≡ Some f
      → IsAsItWas u w
  on_one handle (free result) did is = kept _ _ result did is
  on_one handle (get context dst result) did is = kept _ _ result did is
  on_one handle (set context src result) did is = kept _ _ result did is
  on_one handle (secondary_get context dst result) did is = kept _ _ result did is
  on_one handle (secondary_set context src result) did is = kept _ _ result did is
  on_one handle (strength_set strength result) did is = kept _ _ result did is
  on_one handle (count_up result) did is = kept _ _ result did is
  on_one handle (count_down result) did is = kept _ _ result did is
  on_one handle (address result) did is = kept _ _ result did is
  on_one handle (load context dst result) did is = kept _ _ result did.0 is
  on_one handle (target_id result) did is = same did.0
  on_one handle (info result) did is = same did.0
  on_one handle (kind result) did is = same did.0

  plain_one : (call : PlainCall) → DoesPlainly call u w → returned_plainly call ≡ Some f → IsAsItWas u w
  plain_one (object_new context dst fields fin result) did is = kept _ _ result did is
  plain_one (field_get context dst object i result) did is = kept _ _ result did is
  plain_one (field_set context object i src result) did is = kept _ _ result did is
  plain_one (value_get context object result) did is = kept _ _ result did is
  plain_one (value_set context object value result) did is = kept _ _ result did is
  plain_one (generation context object result) did is = kept _ _ result did is
  plain_one (suppress context object result) did is = kept _ _ result did is
  plain_one (reregister context object result) did is = kept _ _ result did is
  plain_one (local_copy context dst src) did is = absurd (none-some f is)
  plain_one (local_clear context dst) did is = absurd (none-some f is)
  plain_one (static_set context k src) did is = absurd (none-some f is)
  plain_one (static_get context dst k result) did is = absurd (none-some f is)
  plain_one (handle_new context make target result) did is = kept _ _ result did is
  plain_one (table_add context key value result) did is = kept _ _ result did is
  plain_one (table_find context dst key result) did is = kept _ _ result did is
  plain_one (table_remove context key result) did is = kept _ _ result did is
  plain_one (collect n result) did is = kept _ _ result did is
  plain_one (final_next context dst result) did is = absurd (none-some f is)
  plain_one (trim of given) did is = absurd (none-some f is)
  plain_one (trim_block of given) did is = absurd (none-some f is)
  plain_one (trim_all given) did is = absurd (none-some f is)
  plain_one (root_of context object result) did is = kept _ _ result did is
  plain_one (recall last) did is = absurd (none-some f is)
  plain_one (field_load context dst object i result) did is = kept _ _ result did.0 is
  plain_one (object_make context dst value fin src result) did is = kept _ _ result did.1 is
  plain_one (table_set context key value result) did is = kept _ _ result did is
  plain_one (local_pass to dst from src result) did is = absurd (none-some f is)
  plain_one (locals_clear context first count) did is = absurd (none-some f is)
  plain_one observes did is = absurd (none-some f is)

pub faults_change_nothing : FaultsChangeNothing
faults_change_nothing (on_handle handle call) u w f did is = on_one f handle call did is
faults_change_nothing (plain call) u w f did is = plain_one f call did is
