-- The relocations of one kind after another update every row in a visited slot.
use Rattle.hd_gc.proofs.Basics.{Addr, Bool, Handle, IsSameTable, Kind, List, NamesKept, None, Option, Some, Table, and_parts, ap, arith, cond, false, is_due, is_kind, kind_number, mapped_value, nat_lt, option_map, refl, rename_handle, row_at, same_table_on, subst, sym, true, true≢false, ℕ, ◌&&◌, ◌+◌, ◌==◌, ◌||◌, ◌∙◌, ◌≡◌}
use Rattle.std.proofs.lemmas.Bool.Decides.{nat_tests}
use Rattle.hd_scan.specs.Relocation.{relocated, Relocates, CanRelocate, KeepsNames}

-- a number j beside k, which is i
module _ {i k : ℕ} (j : ℕ) (number : k ≡ i) where
  not_below : (k == j) ≡ true → nat_lt j i ≡ false
  not_below e = grind (arith, nat_tests)

  apart : nat_lt j i ≡ true → (k == j) ≡ false
  apart low = grind (arith, nat_tests)

  below_more : nat_lt j (i + 1) ≡ (nat_lt j i || (k == j))
  below_more = grind (arith, nat_tests)

module _ (forwarding : Addr → Addr) (ages : List ℕ) (n : ℕ) where
  -- a handle after the kinds whose number is below i
  abbrev pub renamed_below : ℕ → ℕ → Handle Addr → Handle Addr
  renamed_below i slot h =
      cond (nat_lt (kind_number h.kind) i && is_due ages n slot) (rename_handle forwarding h) h

  pub record IsRelocating (i : ℕ) (old now : Table) : Type 0 where
    pub rows : (slot : ℕ) → row_at now slot ≡ option_map (renamed_below i slot) (row_at old slot)
    pub table : IsSameTable old now

  -- of three tests of numbers
  one_more : (a b c due : Bool) (h : Handle Addr) → (a ≡ true → b ≡ false) → c ≡ (a || b)
      → relocated (b && due) forwarding (cond (a && due) (rename_handle forwarding h) h)
      ≡ cond (c && due) (rename_handle forwarding h) h
  one_more a b c due h apart e =
      by a b due apart ∙ ap (λ v. cond (v && due) (rename_handle forwarding h) h) (sym e)
    where
      by : (a b due : Bool) → (a ≡ true → b ≡ false)
          → relocated (b && due) forwarding (cond (a && due) (rename_handle forwarding h) h)
          ≡ cond ((a || b) && due) (rename_handle forwarding h) h
      by true true due apart = absurd (true≢false (apart refl))
      by true false due apart = refl
      by false true true apart = refl
      by false true false apart = refl
      by false false due apart = refl

  kind_kept : (b : Bool) (h : Handle Addr) → (cond b (rename_handle forwarding h) h).kind ≡ h.kind
  kind_kept true h = refl
  kind_kept false h = refl

  -- a kind with the number i
  module _ {i : ℕ} {old now : Table} (done : IsRelocating i old now) (k : Kind)
      (number : kind_number k ≡ i) where
    pub can_relocate : (kept : Addr → Bool) → NamesKept kept (row_at old) → CanRelocate kept ages n k now
    can_relocate kept w slot h is_stored visited =
        let (g, both) =
        mapped_value (renamed_below i slot) (row_at old slot) h (sym (done.rows slot) ∙ is_stored) in
        let kind_is : h.kind ≡ g.kind = ap (λ (q : Handle Addr). q.kind) (sym both.1) ∙ kind_kept _ g in
        let still : g ≡ h =
        sym (ap (λ b. cond (b && is_due ages n slot) (rename_handle forwarding g) g)
        (not_below (kind_number g.kind) number (ap (is_kind k) (sym kind_is) ∙ (and_parts _ _ visited).0)))
        ∙ both.1 in
        subst (KeepsNames kept) still (record {
          target = λ x e. w.targets slot g x both.0 e;
          secondary = λ x e. w.secondaries slot g x both.0 e;
        })

    pub moved_more : {next : Table} → Relocates forwarding ages n k now next → IsSameTable now next
        → IsRelocating (i + 1) old next
    moved_more {next} moves same = record {
      rows = λ slot.
          moves slot ∙ ap (option_map (λ h. relocated (is_kind k h.kind && is_due ages n slot) forwarding h))
          (done.rows slot) ∙ by slot (row_at old slot);
      table = same_table_on old now next done.table same;
    }
      where
        by : (slot : ℕ) (o : Option (Handle Addr))
            → option_map (λ h. relocated (is_kind k h.kind && is_due ages n slot) forwarding h)
            (option_map (renamed_below i slot) o) ≡ option_map (renamed_below (i + 1) slot) o
        by slot None = refl
        by slot (Some h) =
            let below : Bool = nat_lt (kind_number h.kind) i in
            ap (λ q. Some q)
            (ap (λ (q : Kind). relocated (is_kind k q && is_due ages n slot) forwarding
            (renamed_below i slot h)) (kind_kept (below && is_due ages n slot) h)
            ∙ one_more below (is_kind k h.kind) (nat_lt (kind_number h.kind) (i + 1)) (is_due ages n slot) h
            (apart (kind_number h.kind) number) (below_more (kind_number h.kind) number))
