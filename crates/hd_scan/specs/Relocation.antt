-- The references in the rows of one kind after objects have moved.
use Rattle.std.specs.Prelude.{◌≡◌, ℕ, ◌&&◌, Bool, true, cond, List, Some, option_map}
use Rattle.hd_model.specs.{declared.data.Addr.Addr, declared.data.Kind.Kind, Kinds.is_kind, Ages.is_due, Table.Table, Table.row_at}
use Rattle.hd_model.specs.State.{Handle, secondary_of, rename_extra}

-- a handle whose target and secondary have their forwarding addresses, where it is one of those to be written
abbrev pub relocated : {N : Type 0} → Bool → (N → N) → Handle N → Handle N
relocated here forwarding h = record {
  kind = h.kind;
  target = cond here (option_map forwarding h.target) h.target;
  extra = cond here (rename_extra forwarding h.extra) h.extra;
}

-- the rows of one kind in visited slots have their forwarding addresses
abbrev pub Relocates : (Addr → Addr) → List ℕ → ℕ → Kind → Table → Table → Type 0
Relocates forwarding ages n kind old new = (slot : ℕ) → row_at new slot
    ≡ option_map (λ h. relocated (is_kind kind h.kind && is_due ages n slot) forwarding h) (row_at old slot)

-- all rows of the kind have them
abbrev pub RelocatesAll : (Addr → Addr) → Kind → Table → Table → Type 0
RelocatesAll forwarding kind old new = (slot : ℕ) → row_at new slot
    ≡ option_map (λ h. relocated (is_kind kind h.kind) forwarding h) (row_at old slot)

-- what a handle references is kept
pub record KeepsNames {N : Type 0} (kept : N → Bool) (h : Handle N) : Type 0 where
  pub target : (x : N) → h.target ≡ Some x → kept x ≡ true
  pub secondary : (x : N) → secondary_of h.extra ≡ Some x → kept x ≡ true

-- what a row of the kind in a visited slot references is kept
abbrev pub CanRelocate : (Addr → Bool) → List ℕ → ℕ → Kind → Table → Type 0
CanRelocate kept ages n kind t = (slot : ℕ) (h : Handle Addr) → row_at t slot ≡ Some h
    → (is_kind kind h.kind && is_due ages n slot) ≡ true → KeepsNames kept h
