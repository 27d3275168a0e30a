-- What the locals of a context reference, shown one by one.
use Rattle.std.proofs.Common.{List, None, Option, [], add-one, ap, arith, get_or, length, map, set, subst, sym, ℕ, ◌+◌, ◌<◌, ◌∙◌, ◌≡◌}
use Rattle.hd_model.specs.{declared.data.Id.Id, declared.limits.TheConstants.REGISTERS, State.register_of}
use Rattle.hd_pool.specs.Pool.{FreeSlots}
use Rattle.hd_store.specs.Store.{Machine}
use Rattle.hd_store.proofs.FilledObjects.{filled, filled-all, filled-first, filled-length, filled-next}
use Rattle.hd_host.specs.{declared.change.Change.Change, Inside.IsHost, View.HostView, Wide.id_number}
use Rattle.hd_host.proofs.CallHost.{known_in, view_of}

abbrev pub locals_of : HostView → ℕ → List (Option Id)
locals_of v context = get_or v.machine.state.registers context []

pub locals-long : {m : Machine} {p : FreeSlots} {stamps : List ℕ} {last : Change} {v : HostView} → IsHost m p stamps
    → view_of m stamps last ≡ v → (context : ℕ) → context < v.machine.numbers.callers
    → length (locals_of v context) ≡ REGISTERS
locals-long host view context known =
    subst (λ (x : HostView). length (locals_of x context) ≡ REGISTERS) view
    (host.tied.well_formed.shape.each_registers context (known_in view known))

module _ (v : HostView) (context : ℕ) (old : List ℕ) where
  -- the first i are shown
  abbrev pub shown : ℕ → List ℕ
  shown i = filled id_number i (locals_of v context) old

  pub shows-none : old ≡ shown 0
  shows-none = sym (filled-first id_number (locals_of v context) old)

  module _ (long : length (locals_of v context) ≡ REGISTERS) (i : ℕ) {out : List ℕ} (so_far : out ≡ shown i) where
    pub shows-next : (x : ℕ) → i < REGISTERS → x ≡ id_number (register_of v.machine.state context i)
        → set out i x ≡ shown (i + 1)
    shows-next x low is =
        (λ j. set (so_far j) i (is j))
        ∙ filled-next id_number None i (locals_of v context) old (omega (arith, long, low))
        ∙ ap shown (sym (add-one i))

    pub shows-as-long : length out ≡ length old
    shows-as-long = ap length so_far ∙ filled-length id_number i (locals_of v context) old

    pub shows-all : length old ≡ REGISTERS → i ≡ REGISTERS → out ≡ map id_number (locals_of v context)
    shows-all room all =
        so_far ∙ ap shown (all ∙ sym long)
        ∙ filled-all id_number (locals_of v context) old (long ∙ sym room)
