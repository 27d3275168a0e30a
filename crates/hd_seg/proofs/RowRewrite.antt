-- A row that is written, once or twice.
use Rattle.hd_seg.proofs.Basics.{Addr, Bool, Handle, IsSome, Kind, None, Option, Some, Table, ap, contains_key, extra_from, extra_of, false, false≢true, fits, get, get_beside, is_count, is_nothing, is_paired, is_secondary, is_some, is_strength, live_at, option_map, refl, row_at, row_of, secondary, sym, true, unwrap_or, with_row, ℕ, ◌∙◌, ◌≡◌}
use Rattle.hd_model.specs.declared.handle.Extra.TheVariants.{Nothing}
use Rattle.hd_seg.specs.Rewriting.{Rewrites}
use Rattle.hd_seg.proofs.FunctionMaps.{get-insert_same}
use Rattle.hd_model.specs.declared.data.Kind.TheVariants as kind
use Rattle.hd_model.specs.State as state

-- the extra of a row, as the program has it and back
pub extra_again : (e : state.Extra Addr) → extra_of (extra_from e) ≡ e
extra_again state.nothing = refl
extra_again (state.strength s) = refl
extra_again (state.secondary o) = refl
extra_again (state.count c) = refl

-- the test of an extra, by whether the kind has extra data
by_fit : {N : Type 0} (P : Bool → (state.Extra N → Bool) → Type 0) → P false is_nothing → P true is_strength
    → P true is_count → P true is_secondary → (k : Kind) → P (is_paired k) (fits k)
by_fit P a b c d kind.Short = a
by_fit P a b c d kind.Long = a
by_fit P a b c d kind.Strong = a
by_fit P a b c d kind.Pinned = a
by_fit P a b c d kind.Variable = b
by_fit P a b c d kind.Counted = c
by_fit P a b c d kind.Dependent = d

nothing_from : {N : Type 0} (e : state.Extra N) → is_nothing e ≡ true → e ≡ state.nothing
nothing_from state.nothing is = refl
nothing_from (state.strength s) is = absurd (false≢true is)
nothing_from (state.secondary o) is = absurd (false≢true is)
nothing_from (state.count n) is = absurd (false≢true is)

-- a kind without extra data has nothing
pub single_nothing : {N : Type 0} (k : Kind) (e : state.Extra N) → is_paired k ≡ false → fits k e ≡ true
    → e ≡ state.nothing
single_nothing k e =
    by_fit (λ paired test. paired ≡ false → test e ≡ true → e ≡ state.nothing) (λ _ is. nothing_from e is)
    (λ no _. absurd (false≢true (sym no))) (λ no _. absurd (false≢true (sym no)))
    (λ no _. absurd (false≢true (sym no))) k

-- and nothing fits it
pub nothing_fits : (k : Kind) → is_paired k ≡ false → fits {N = Addr} k state.nothing ≡ true
nothing_fits k =
    by_fit (λ paired test. paired ≡ false → test state.nothing ≡ true) (λ _. refl)
    (λ no. absurd (false≢true (sym no))) (λ no. absurd (false≢true (sym no)))
    (λ no. absurd (false≢true (sym no))) k

-- where one secondary fits, any does
pub fits_secondary : (k : Kind) (e : state.Extra Addr) (x y : Option Addr) → e ≡ secondary x → fits k e ≡ true
    → fits k (secondary y) ≡ true
fits_secondary k e x y is fitting =
    by_fit (λ paired test. test (secondary y) ≡ test (secondary x)) refl refl refl refl k
    ∙ ap (fits k) (sym is) ∙ fitting

-- a kind without extra data has no extra
no_extra : (e : state.Extra Addr) → is_nothing e ≡ true → extra_from e ≡ Nothing
no_extra state.nothing h = refl
no_extra (state.strength s) h = cc
no_extra (state.secondary o) h = cc
no_extra (state.count c) h = cc

pub plain_extra : (k : Kind) (e : state.Extra Addr) → is_paired k ≡ false → fits k e ≡ true
    → extra_from e ≡ Nothing
plain_extra k e =
    by_fit (λ paired test. paired ≡ false → test e ≡ true → extra_from e ≡ Nothing) (λ is h. no_extra e h)
    (λ is h. cc) (λ is h. cc) (λ is h. cc) k

module _ (t : Table) (slot : ℕ) where
  some_live : (o : Option (Handle Addr)) → IsSome o
      → o ≡ Some (unwrap_or o (record { kind = kind.Short; target = None; extra = state.nothing }))
  some_live None live = absurd (false≢true live)
  some_live (Some h) live = refl

  -- the row of a live slot
  pub live_row : IsSome (get t.rows slot) → row_at t slot ≡ Some (live_at t slot)
  live_row live = some_live (get t.rows slot) live

  -- what is read of a slot that is live, and of one that is not
  pub some_read : IsSome (get t.rows slot) → Some (row_of (live_at t slot)) ≡ option_map row_of (get t.rows slot)
  some_read live = sym (ap (option_map row_of) (live_row live))

  pub none_read : contains_key t.rows slot ≡ false → None ≡ option_map row_of (get t.rows slot)
  none_read = at (get t.rows slot)
    where
      at : (o : Option (Handle Addr)) → is_some o ≡ false → None ≡ option_map row_of o
      at None is = refl
      at (Some h) is = absurd (false≢true (sym is))

  -- a row that is written
  pub put_row : (h g : Handle Addr) (new : Table) → new ≡ with_row t slot g → g ≡ h → Rewrites slot h t new
  put_row h g new is same = record {
    at = ap (λ (u : Table). get u.rows slot) is ∙ get-insert_same t.rows slot g slot refl
        ∙ ap (λ q. Some q) same;
    others = λ other ne. ap (λ (u : Table). get u.rows other) is ∙ get_beside t.rows slot g other ne;
    table = record {
      chains = ap (λ (u : Table). u.chains) is;
      uses = ap (λ (u : Table). u.uses) is;
      blocks = ap (λ (u : Table). u.blocks) is;
    };
  }

  -- and a row that is written again
  pub again : (mid new : Table) (g h : Handle Addr) → Rewrites slot g t mid → Rewrites slot h mid new
      → Rewrites slot h t new
  again mid new g h r q = record {
    at = q.at;
    others = λ other ne. q.others other ne ∙ r.others other ne;
    table = record {
      chains = q.table.chains ∙ r.table.chains;
      uses = q.table.uses ∙ r.table.uses;
      blocks = q.table.blocks ∙ r.table.blocks;
    };
  }

  pub live_after : (mid : Table) (g : Handle Addr) → Rewrites slot g t mid → live_at mid slot ≡ g
  live_after mid g r =
      ap (λ o. unwrap_or o (record { kind = kind.Short; target = None; extra = state.nothing })) r.at
