-- A walk that is under way, and the rows that it has visited.
use Rattle.hd_ages.proofs.Basics.{Addr, AllPairs, HOST_BLOCKS, Contains, DueRows, Ends, Gives, Handle, IsOn, IsSameTable, IsSome, IsTable, Kind, List, None, Option, ROWS, Rewrites, Slot, Some, Table, ap, arith, cases_eq, chain_of, clumps_to_come, due_clumps, due_slots, first_in, get, is_some, later_in, length, live_at, member_cases, member_same, not_in_none, option_map, pairs_first, pairs_rest, refl, row_at, slots_to_come, subst, sym, true, visits_of, ℕ, ⊎_elim, ◌+◌, ◌<◌, ◌∙◌, ◌∷◌, ◌≡◌, ◌≢◌, ◌≤◌, ◌*◌}
use Rattle.hd_ages.proofs.WalkSlots.{IsDueRow}
use Rattle.std.proofs.lemmas.Option.{same_Some}
use Rattle.hd_model.specs.{Scene.Objects, Scene.is_object, Names.NamesObjects}
use Rattle.hd_seg.proofs.RowRewrite.{live_row}
use Rattle.hd_ages.proofs.WalkSlots.{due_slots_list, due_slots_few}
use Rattle.hd_ages.proofs.WalkFrame.{rewrites_live, clumps_same, slots_same, on_same}

-- a walk over the rows of a kind began with table t, and goes on with another: what is left to visit is as it
-- was, and each clump that it visited was a step
pub record IsUnderway (t : Table) (ages : List ℕ) (n : ℕ) (k : Kind) (now : Table) (w : DueRows)
    (count : ℕ × ℕ) : Type 0 where
  pub on : IsOn now w
  pub table : IsSameTable t now
  pub apart : AllPairs (λ x y. x ≢ y) (slots_to_come now ages w)
  pub each : (slot : ℕ) → Contains (slots_to_come now ages w) slot → IsDueRow t ages n k slot
  pub kept : (slot : ℕ) → Contains (slots_to_come now ages w) slot → row_at now slot ≡ row_at t slot
  pub steps_are : count.1 + length (clumps_to_come now ages w) ≡ count.0 + visits_of t ages n k

-- every due row is still to be visited
abbrev pub HasAllToCome : Table → List ℕ → ℕ → Kind → DueRows → Type 0
HasAllToCome t ages n k w = (slot : ℕ) → IsDueRow t ages n k slot → Contains (slots_to_come t ages w) slot

module _ (t : Table) (ages : List ℕ) (n : ℕ) (k : Kind) where
  module _ (is : IsTable t) (w : DueRows) (slots : slots_to_come t ages w ≡ due_slots t ages n k) where
    pub begins : (before : ℕ) → IsOn t w → clumps_to_come t ages w ≡ due_clumps ages n (chain_of t k)
        → IsUnderway t ages n k t w (before, before)
    begins before on clumps =
        let list = due_slots_list t is ages n k in
        record {
          on = on;
          table = record { chains = refl; uses = refl; blocks = refl };
          apart = subst (AllPairs (λ x y. x ≢ y)) (sym slots) list.apart;
          each = λ slot h. list.each slot (member_same _ _ slots slot h);
          kept = λ slot h. refl;
          steps_are = ap (λ cs. before + length cs) clumps;
        }

    pub all_to_come : HasAllToCome t ages n k w
    all_to_come slot r = member_same _ _ (sym slots) slot ((due_slots_list t is ages n k).all slot r)

    pub few_to_come : length (slots_to_come t ages w) ≤ HOST_BLOCKS * ROWS
    few_to_come =
        subst (λ xs. length xs ≤ HOST_BLOCKS * ROWS) (sym slots) (due_slots_few t is ages n k)

module _ {t : Table} {ages : List ℕ} {n : ℕ} {k : Kind} where
  module _ {now : Table} {old new : DueRows} {before steps : ℕ}
      (u : IsUnderway t ages n k now old (before, steps)) where
    -- the walk reaches a row
    module _ {slot : Slot} (g : Gives now ages old new slot) where
      pub row_due : IsDueRow t ages n k slot.0
      row_due = u.each slot.0 (member_same _ _ (sym g.slots) slot.0 (first_in slot.0 _))

      pub row_kept : row_at now slot.0 ≡ row_at t slot.0
      row_kept = u.kept slot.0 (member_same _ _ (sym g.slots) slot.0 (first_in slot.0 _))

      pub row_here : row_at now slot.0 ≡ Some row_due.handle
      row_here = row_kept ∙ row_due.is_stored

      pub row_live : IsSome (get now.rows slot.0)
      row_live = ap is_some row_here

      pub row_same : live_at now slot.0 ≡ row_due.handle
      row_same = same_Some (live_at now slot.0) row_due.handle (sym (live_row now slot.0 row_live) ∙ row_here)

      pub row_of_kind : (live_at now slot.0).kind ≡ k
      row_of_kind = ap (λ (h : Handle Addr). h.kind) row_same ∙ row_due.of_kind

      -- what it references is an object
      pub row_target : (o : Objects Addr) → NamesObjects o (row_at t) → (x : Addr)
          → (live_at now slot.0).target ≡ Some x → is_object o x ≡ true
      row_target o names x e =
          names.targets slot.0 row_due.handle x row_due.is_stored
          (ap (λ (h : Handle Addr). h.target) (sym row_same) ∙ e)

      pub fewer_left : length (slots_to_come now ages new) < length (slots_to_come now ages old)
      fewer_left = let e = ap length g.slots in omega arith

      pub row_past : Contains (slots_to_come now ages new) slot.0 → ⊥
      row_past h = pairs_first (λ x y. x ≢ y) slot.0 (slots_to_come now ages new)
          (subst (AllPairs (λ x y. x ≢ y)) g.slots u.apart) slot.0 h refl

      pub past_else : (other : ℕ) → other ≢ slot.0 → (Contains (slots_to_come now ages new) other → ⊥)
          → Contains (slots_to_come now ages old) other → ⊥
      past_else other ne past h =
          ⊎_elim (λ e. ne (sym e)) past
          (member_cases slot.0 (slots_to_come now ages new) other (member_same _ _ g.slots other h))

      pub goes_on : {after : ℕ} → IsOn now new
          → after + length (clumps_to_come now ages new) ≡ steps + length (clumps_to_come now ages old)
          → IsUnderway t ages n k now new (before, after)
      goes_on on counted =
          let inside : (s : ℕ) → Contains (slots_to_come now ages new) s
          → Contains (slots_to_come now ages old) s =
          λ s h. member_same _ _ (sym g.slots) s (later_in slot.0 (slots_to_come now ages new) s h) in
          record {
            on = on;
            table = u.table;
            apart = pairs_rest (λ x y. x ≢ y) slot.0 (slots_to_come now ages new)
                (subst (AllPairs (λ x y. x ≢ y)) g.slots u.apart);
            each = λ s h. u.each s (inside s h);
            kept = λ s h. u.kept s (inside s h);
            steps_are = counted ∙ u.steps_are;
          }

    -- the walk is at its end
    module _ (e : Ends now ages old new) where
      pub all_past : (slot : ℕ) → Contains (slots_to_come now ages old) slot → ⊥
      all_past slot h = not_in_none slot (member_same _ _ e.slots slot h)

      pub steps_at_end : {after : ℕ}
          → after + length (clumps_to_come now ages new) ≡ steps + length (clumps_to_come now ages old)
          → after ≡ before + visits_of t ages n k
      steps_at_end counted = omega (arith, counted, u.steps_are, ap length e.clumps)

  -- a visited row gets other contents
  module _ {now new : Table} {w : DueRows} {slot before steps : ℕ} {h : Handle Addr}
      (u : IsUnderway t ages n k now w (before, steps)) (live : IsSome (get now.rows slot))
      (r : Rewrites slot h now new) where
    pub to_come_same : slots_to_come new ages w ≡ slots_to_come now ages w
    to_come_same = slots_same now new r.table ages (rewrites_live now new slot h live r) w

    pub rewritten : (Contains (slots_to_come now ages w) slot → ⊥)
        → IsUnderway t ages n k new w (before, steps)
    rewritten past = record {
      on = on_same now new r.table ages w u.on;
      table = record {
        chains = r.table.chains ∙ u.table.chains;
        uses = r.table.uses ∙ u.table.uses;
        blocks = r.table.blocks ∙ u.table.blocks;
      };
      apart = subst (AllPairs (λ x y. x ≢ y)) (sym to_come_same) u.apart;
      each = λ s h. u.each s (member_same _ _ to_come_same s h);
      kept = λ s h. let inside = member_same _ _ to_come_same s h in
          r.others s (λ e. past (subst (Contains (slots_to_come now ages w)) e inside)) ∙ u.kept s inside;
      steps_are = ap (λ cs. steps + length cs) (clumps_same now new r.table ages w) ∙ u.steps_are;
    }

-- the rows of a table as f leaves them in the slots that a walk has visited, and as they were in the others
pub record IsUpdated (f : ℕ → Handle Addr → Handle Addr) (left : List ℕ) (old new : Table) : Type 0 where
  pub kept : (slot : ℕ) → Contains left slot → row_at new slot ≡ row_at old slot
  pub made : (slot : ℕ) → (Contains left slot → ⊥) → row_at new slot ≡ option_map (f slot) (row_at old slot)

module _ (f : ℕ → Handle Addr → Handle Addr) where
  -- at first, where f leaves every row as it is that the walk will not visit
  pub updated_start : (left : List ℕ) (t : Table)
      → ((slot : ℕ) (h : Handle Addr) → (Contains left slot → ⊥) → row_at t slot ≡ Some h → f slot h ≡ h)
      → IsUpdated f left t t
  updated_start left t same = record {
    kept = λ slot h. refl;
    made = λ slot past. by slot past (row_at t slot) refl;
  }
    where
      by : (slot : ℕ) → (Contains left slot → ⊥) → (o : Option (Handle Addr)) → row_at t slot ≡ o
          → o ≡ option_map (f slot) o
      by slot past None e = refl
      by slot past (Some h) e = ap (λ g. Some g) (sym (same slot h past e))

  -- the first row left to visit becomes what f makes of it
  pub updated_more : (left rest : List ℕ) (old mid new : Table) (slot : ℕ) (h : Handle Addr)
      → left ≡ slot ∷ rest → (Contains rest slot → ⊥) → IsUpdated f left old mid → row_at old slot ≡ Some h
      → Rewrites slot (f slot h) mid new → IsUpdated f rest old new
  updated_more left rest old mid new slot h is past u is_stored r = record {
    kept = λ other inside. r.others other (λ e. past (subst (Contains rest) e inside))
        ∙ u.kept other (member_same _ _ (sym is) other (later_in slot rest other inside));
    made = λ other gone. ⊎_elim
        (λ e. subst (λ s. row_at new s ≡ option_map (f s) (row_at old s)) (sym e)
        (r.at ∙ sym (ap (option_map (f slot)) is_stored)))
        (λ ne. r.others other ne
        ∙ u.made other (λ inside. ⊎_elim (λ e. ne (sym e)) gone
        (member_cases slot rest other (member_same _ _ is other inside))))
        (cases_eq other slot);
  }

  pub updated_end : (old new : Table) (left : List ℕ) → ((slot : ℕ) → Contains left slot → ⊥)
      → IsUpdated f left old new → (slot : ℕ) → row_at new slot ≡ option_map (f slot) (row_at old slot)
  updated_end old new left none u slot = u.made slot (none slot)
