-- What is read by the names of the plain machine, which are identities.
use Rattle.std.proofs.Common.{IfSome, IsSome, None, Option, Some, [], ap, arith, refl, subst, sym, true, ℕ, option_map, ◌/◌, ◌∙◌, ◌≡◌, ◌≤◌}
use Rattle.std.specs.Prelude.{OnSome}
use Rattle.std.proofs.lemmas.Bool.{false≢true}
use Rattle.hd_model.specs.declared.data.{Id.Id, Kind.Kind, Slot.Slot}
use Rattle.hd_model.specs.declared.data.Kind.TheVariants as kind
use Rattle.hd_model.specs.declared.limits.TheConstants.{ROWS}
use Rattle.hd_model.specs.State.{BlockUse, Extra, Handle, nothing, strength, secondary, count, handle_at, object_by_id, rename_extra, rename_handle, secondary_of}
use Rattle.hd_model.specs.{Ages.age_of, Table.fits, WellFormed.FitsKind, WellFormed.HasHandles}
use Rattle.hd_commands.specs.Seen.{named_in, name_in}
use Rattle.hd_commands.specs.Handles.{IsWithin, MayBeStored, handle_named}
use Rattle.hd_model.specs.Handles.{extra_of, handle_of}
use Rattle.hd_maps.specs.TableViews.{Row}
use Rattle.hd_plain.specs.MachineViews.{MachineView, seen_by}

pub named_self : (j : MachineView) (o : Option Id) → named_in (seen_by j) o ≡ o
named_self j None = refl
named_self j (Some x) = refl

same_extra : (j : MachineView) (e : Extra Id) → rename_extra (name_in (seen_by j)) e ≡ e
same_extra j nothing = refl
same_extra j (strength given) = refl
same_extra j (secondary o) = λ i. secondary (named_self j o i)
same_extra j (count c) = refl

pub same_handle : (j : MachineView) (h : Handle Id) → rename_handle (name_in (seen_by j)) h ≡ h
same_handle j h =
    λ i. record { kind = h.kind; target = named_self j h.target i; extra = same_extra j h.extra i }

-- an extra of a kind is one that it fits
fits_by : (k : Kind) (e : Extra Id) → FitsKind k e → fits k e ≡ true
fits_by kind.Short nothing f = refl
fits_by kind.Long nothing f = refl
fits_by kind.Strong nothing f = refl
fits_by kind.Pinned nothing f = refl
fits_by kind.Variable nothing f = absurd (false≢true (sym f))
fits_by kind.Counted nothing f = absurd (false≢true (sym f))
fits_by kind.Dependent nothing f = absurd (false≢true (sym f))
fits_by k (strength given) f = let e : Extra Id = strength given in ap (λ q. fits q e) f
fits_by k (secondary o) f = let e : Extra Id = secondary o in ap (λ q. fits q e) f
fits_by k (count c) f = let e : Extra Id = count c in ap (λ q. fits q e) f

each_some : (o : Option Id) {P : Id → Type 0} → ((x : Id) → P x) → IfSome o P
each_some None all = tt
each_some (Some x) all = all x

some_use : (o : Option BlockUse) (u : BlockUse) → o ≡ Some u → IsSome o
some_use o u is = subst IsSome (sym is) refl

-- a live handle of a well formed table may be stored again, and its slot is one of the table's
module _ (j : MachineView) (handles : HasHandles j.numbers j.state) (slot : Slot) (h : Row)
    (is : handle_at j.state slot ≡ Some (handle_of h)) where
  pub may_be_stored : MayBeStored (seen_by j) slot (handle_of h)
  may_be_stored = record {
    fits = fits_by h.kind (extra_of h.extra) (handles.extras slot.0 (handle_of h) is);
    target = each_some h.target (λ _. refl);
    secondary = each_some (secondary_of (extra_of h.extra)) (λ _. refl);
    paired = handles.dependents slot.0 (handle_of h) is;
    target_age = each_some h.target (λ x. young (object_by_id j.state x).generation);
    secondary_age = each_some (secondary_of (extra_of h.extra)) (λ x. young (object_by_id j.state x).generation);
  }
    where
      young : (g : ℕ) → age_of [] slot.0 ≤ g
      young g = omega arith

  pub is_within : IsWithin (seen_by j) slot
  is_within = handles.blocks (slot.0 / ROWS)
      (some_use _ _ (handles.kinds slot.0 (handle_of h) is))

-- the same of what is read in a slot
module _ (j : MachineView) (handles : HasHandles j.numbers j.state) (slot : Slot) where
  pub if_stored : (o : Option Row) → option_map handle_of o ≡ handle_at j.state slot
      → IfSome o (λ h. MayBeStored (seen_by j) slot (handle_of h))
  if_stored None is = tt
  if_stored (Some h) is = may_be_stored j handles slot h (sym is)

  pub if_within : (o : Option Row) → option_map handle_of o ≡ handle_at j.state slot
      → OnSome o (IsWithin (seen_by j) slot)
  if_within None is = tt
  if_within (Some h) is = is_within j handles slot h (sym is)

pub is_read : (j : MachineView) (slot : Slot) (o : Option Row) → option_map handle_of o
    ≡ handle_at j.state slot → handle_at j.state slot ≡ option_map (handle_named (seen_by j)) o
is_read j slot None is = sym is
is_read j slot (Some h) is = sym is ∙ ap Some (sym (same_handle j (handle_of h)))
