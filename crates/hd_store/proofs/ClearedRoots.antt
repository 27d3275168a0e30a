-- Registers of a caller that are cleared among the roots.
use Rattle.std.proofs.Common.{add-one}
use Rattle.std.proofs.lemmas.List.{length-set, take_at}
use Rattle.hd_store.proofs.StoreWords.{Addr, IsStored, List, Machine, None, Option, Parts, ap, arith, drop, length, machine_of, refl, set, subst, suc, sym, take, zero, ℕ, ◌*◌, ◌++◌, ◌+◌, ◌<◌, ◌∙◌, ◌≡◌, ◌≤◌}
use Rattle.hd_store.proofs.{ClearedRegisters.clears-none, ClearedRegisters.clears-suc, RootAccess.machine-register, RootAccess.stored-root, RootAccess.with_root}
use Rattle.hd_store.specs.Hosted.{nulled, with_cleared}
use Rattle.hd_model.specs.declared.limits.TheConstants.{REGISTERS}

abbrev Roots : Type 0
Roots = List (Option Addr)

pub nulled-none : (at : ℕ) (roots : Roots) → nulled at 0 roots ≡ roots
unfolding nulled
nulled-none at roots = refl

nulled-suc : (at n : ℕ) (roots : Roots) → set (nulled at n roots) (at + n) None ≡ nulled at (suc n) roots
unfolding nulled
nulled-suc at n roots = refl

pub nulled-next : (at n : ℕ) (roots : Roots) → set (nulled at n roots) (at + n) None ≡ nulled at (n + 1) roots
nulled-next at n roots = nulled-suc at n roots ∙ ap (λ k. nulled at k roots) (sym (add-one n))

length-nulled : (at n : ℕ) (roots : Roots) → length (nulled at n roots) ≡ length roots
unfolding nulled
length-nulled at zero roots = refl
length-nulled at (suc n) roots = length-set (nulled at n roots) (at + n) None ∙ length-nulled at n roots

-- the roots of a vector that were lent for it
pub roots_back : {roots given after : Roots} (ys : Roots) (at k : ℕ) {n : ℕ} → after ≡ nulled at k given
    → given ≡ roots → n ≡ length roots → take n (after ++ drop (length after) ys) ≡ nulled at k roots
roots_back {roots} {given} {after} ys at k {n} written lent size =
    let is : after ≡ nulled at k roots = written ∙ ap (nulled at k) lent in
    take_at after (drop (length after) ys) n (ap length is ∙ length-nulled at k roots ∙ sym size) ∙ is

abbrev with_nulled : Parts → (at n : ℕ) → Parts
with_nulled f at n = record f { roots = nulled at n f.roots }

module _ (f : Parts) (m : Machine) (view : machine_of f ≡ m) (stored : IsStored f) (c first : ℕ)
    (known : c < m.numbers.callers) where
  abbrev at : ℕ
  at = REGISTERS * c + first

  abbrev left : ℕ → Machine
  left n = record m { state = with_cleared m.state c first n }

  next : (n : ℕ) → record f { roots = set (nulled at n f.roots) (REGISTERS * c + (first + n)) None }
      ≡ with_nulled f at (suc n)
  next n =
      let same : REGISTERS * c + (first + n) ≡ at + n = omega arith in
      ap (λ i. with_root (with_nulled f at n) i None) same
      ∙ ap (λ xs. record f { roots = xs }) (nulled-suc at n f.roots)

  pub nulls : (n : ℕ) → first + n ≤ REGISTERS
      → IsStored (with_nulled f at n) × (machine_of (with_nulled f at n) ≡ left n)
  nulls zero low = (
    subst (λ (xs : Roots). IsStored (record f { roots = xs })) (sym (nulled-none at f.roots)) stored,
    ap (λ (xs : Roots). machine_of (record f { roots = xs })) (nulled-none at f.roots) ∙ view
        ∙ (λ j. record m { state = sym (clears-none m.state c first) j }),
  )
  nulls (suc n) low =
      let so_far = nulls n (omega (arith, low)) in (
        subst IsStored (next n)
            (stored-root (with_nulled f at n) (left n) so_far.1 so_far.0 (REGISTERS * c + (first + n)) None tt),
        ap machine_of (sym (next n))
            ∙ machine-register (with_nulled f at n) (left n) so_far.1 so_far.0 c (first + n) None known
            (omega (arith, low))
            ∙ (λ j. record m { state = clears-suc m.state c first n j }),
      )
