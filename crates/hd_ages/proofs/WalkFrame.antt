-- A walk goes on as before where rows got other contents, but the same slots are live.
use Rattle.hd_ages.proofs.Basics.{Addr, CLUMP, DueRows, Handle, IfSome, IsOn, IsSameTable, IsSome, List, ROWS, Rewrites, Some, Table, [], ap, arith, blocks_to_come, cases_eq, contains_key, due_clumps, filter_agree, get, handles_of, is_some, map, range_with_len, refl, set_bits, slots_of, subst, sym, ℕ, ⊎_elim, ◌*◌, ◌++◌, ◌+◌, ◌∙◌, ◌∷◌, ◌≡◌}
use Rattle.hd_ages.specs.Walk.{slots_in, clumps_to_come, slots_to_come}

-- the same slots of two tables are live
abbrev pub HasSameLive : (old new : Table) → Type 0
HasSameLive old new = (slot : ℕ) → contains_key new.rows slot ≡ contains_key old.rows slot

pub rewrites_live : (old new : Table) (slot : ℕ) (h : Handle Addr) → IsSome (get old.rows slot)
    → Rewrites slot h old new → HasSameLive old new
rewrites_live old new slot h live r = λ other.
    ⊎_elim (λ e. ap (λ s. contains_key new.rows s) e ∙ ap is_some r.at ∙ sym live
    ∙ ap (λ s. contains_key old.rows s) (sym e))
    (λ ne. ap is_some (r.others other ne)) (cases_eq other slot)

module _ (old new : Table) (same : IsSameTable old new) (ages : List ℕ) where
  pub clumps_same : (w : DueRows) → clumps_to_come new ages w ≡ clumps_to_come old ages w
  unfolding clumps_to_come
  clumps_same w = λ i. due_clumps ages w.n (blocks_to_come (record new { chains = same.chains i }) w)

  pub on_same : (w : DueRows) → IsOn old w → IsOn new w
  on_same w on = record {
    first = omega (arith, on.first, same.blocks);
    next = subst (λ uses. IfSome w.next (λ b. get uses b ≡ Some (handles_of w.kind))) (sym same.uses) on.next;
    few = omega (arith, on.few, same.blocks);
  }

  module _ (live : HasSameLive old new) where
    in_same : (c : ℕ) → slots_in new c ≡ slots_in old c
    unfolding slots_in
    in_same c = filter_agree (λ slot. contains_key new.rows slot) (λ slot. contains_key old.rows slot) live
        (range_with_len (CLUMP * c + ROWS) CLUMP)

    of_same : (cs : List ℕ) → slots_of new cs ≡ slots_of old cs
    of_same [] = refl
    of_same (c ∷ cs) = λ i. in_same c i ++ of_same cs i

    pub slots_same : (w : DueRows) → slots_to_come new ages w ≡ slots_to_come old ages w
    unfolding slots_to_come
    slots_same w = ap (λ xs. map (λ row. w.first + row) (set_bits w.rows) ++ xs)
        (of_same (clumps_to_come new ages w) ∙ ap (slots_of old) (clumps_same w))
