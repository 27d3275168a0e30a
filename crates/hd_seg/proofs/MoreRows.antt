-- Vectors with room for more rows: none is live, and those that are stay.
use Rattle.hd_seg.proofs.Basics.{Addr, Extra, IsSeg, IsTable, List, None, Option, ROWS, Some, Table, Uses, Vectors, ap, arith, bit_at, extra_at, extra_index, get, get_or, inr, length, len, live_bit, mapped, replicate, row_by, row_in, subst, sym, table_in, ℕ, ◌%◌, ◌*◌, ◌++◌, ◌+◌, ◌-◌, ◌/◌, ◌∙◌, ◌≡◌, ◌≤◌, refl}
use Rattle.std.specs.Prelude.{max, MatchResult, Result, Ok, Err}
use Rattle.hd_model.specs.declared.handle.Extra.TheVariants.{Nothing}
use Rattle.hd_seg.proofs.FunctionMaps.{get-mapped_out, mapped-same}
use Rattle.hd_seg.proofs.MoreBlocks.{long_enough, longer_same, wider}
use Rattle.hd_seg.proofs.RowVectors.{row_is}

-- a list with more values, which are the default
pub record IsLonger {A : Type 0} (d : A) (xs ys : List A) : Type 0 where
  pub long : length xs ≤ length ys
  pub same : (i : ℕ) → get_or ys i d ≡ get_or xs i d

pub longer_by : {A : Type 0} {ys : List A} (xs : List A) (n : ℕ) (d : A)
    → ys ≡ xs ++ replicate (n - length xs) d → IsLonger d xs ys
longer_by xs n d is = record {
  long = omega (arith, long_enough xs n d is);
  same = λ i. ap (λ zs. get_or zs i d) is ∙ longer_same xs (n - length xs) i d;
}

pub longer_none : {A : Type 0} {ys : List A} (xs : List A) (d : A) → ys ≡ xs → IsLonger d xs ys
longer_none xs d is = record { long = omega (arith, ap length is); same = λ i. ap (λ zs. get_or zs i d) is }

extra_same : {xs ys : List (Extra Addr)} → IsLonger Nothing xs ys → (o : Option ℕ)
    → extra_at ys o ≡ extra_at xs o
extra_same longer None = refl
extra_same longer (Some q) = longer.same q

module _ {u : Uses} {v : Vectors} {live : ℕ} (inv : IsSeg u v live) where
  module _ (w : Vectors) (targets : IsLonger None v.targets w.targets)
      (extras : IsLonger Nothing v.extras w.extras) (masks : IsLonger 0 v.masks w.masks) where
    bit_same : (q : ℕ) → live_bit w.masks q ≡ live_bit v.masks q
    bit_same q = ap (λ m. bit_at m (q % ROWS)) (masks.same (q / ROWS))

    row_same : (q : ℕ) → row_in u w q ≡ row_in u v q
    row_same q = λ i. row_by (get u.table.uses (q / ROWS)) (bit_same q i) (targets.same q i)
        (extra_same extras (extra_index u q) i)

    rows_same : mapped ROWS (ROWS * u.table.blocks) (row_in u w)
        ≡ mapped ROWS (ROWS * u.table.blocks) (row_in u v)
    rows_same = mapped-same ROWS (ROWS * u.table.blocks) (row_in u v) (row_in u w) (λ q low high. row_same q)

    pub seg-longer : IsSeg u w live
    seg-longer = record {
      table = inv.table;
      targets = omega (arith, inv.targets, targets.long);
      extras = omega (arith, inv.extras, extras.long);
      masks = omega (arith, inv.masks, masks.long);
      counted = inv.counted ∙ sym (ap len rows_same);
      placed = λ q none. bit_same q ∙ inv.placed q none;
      fitting = λ q h is. inv.fitting q h (sym (row_same q) ∙ is);
      paired = inv.paired;
    }

    pub view-longer : {t : Table} → table_in u v ≡ t → table_in u w ≡ t
    view-longer is = (λ i. record u.table { rows = rows_same i }) ∙ is

  -- more blocks of the same uses
  module _ (blocks : ℕ) where
    abbrev most : ℕ
    most = max u.table.blocks blocks

    abbrev more : Uses
    more = record u { table = record u.table { blocks = most } }

    rows_more : mapped ROWS (ROWS * most) (row_in more v) ≡ mapped ROWS (ROWS * u.table.blocks) (row_in u v)
    rows_more =
        wider ROWS (ROWS * u.table.blocks) (ROWS * most) (row_in u v) (row_in more v) (omega arith)
        (λ q. refl)
        (λ q past. sym (row_is inv q)
        ∙ get-mapped_out ROWS (ROWS * u.table.blocks) (row_in u v) q (inr past))

    seg-more : IsTable more.table → ROWS * (blocks + 1) ≤ length v.targets
        → ROWS * (blocks + 1) ≤ length v.extras → blocks + 1 ≤ length v.masks → IsSeg more v live
    seg-more table targets extras masks = record {
      table = table;
      targets = omega (arith, inv.targets, targets);
      extras = omega (arith, inv.extras, extras);
      masks = omega (arith, inv.masks, masks);
      counted = inv.counted ∙ sym (ap len rows_more);
      placed = inv.placed;
      fitting = inv.fitting;
      paired = record {
        paired = inv.paired.paired;
        used = inv.paired.used;
        within = λ b d is. omega (arith, inv.paired.within b d is);
        apart = inv.paired.apart;
      };
    }

    pub seg-reserved : {T E : Type 0} {new : Uses} (r : Result T E)
        → MatchResult r (λ _. new ≡ record u {
          table =
              record u.table { blocks = max u.table.blocks blocks };
        }) (λ _. new ≡ u)
        → IsTable new.table → ROWS * (blocks + 1) ≤ length v.targets
        → ROWS * (blocks + 1) ≤ length v.extras → blocks + 1 ≤ length v.masks → IsSeg new v live
    seg-reserved (Ok _) is table targets extras masks =
        subst (λ (x : Uses). IsSeg x v live) (sym is)
        (seg-more (subst (λ (x : Uses). IsTable x.table) is table) targets extras masks)
    seg-reserved (Err _) same table targets extras masks =
        subst (λ (x : Uses). IsSeg x v live) (sym same) inv

    pub view-reserved : {T E : Type 0} (new : Uses) {t : Table} (r : Result T E)
        → MatchResult r (λ _. new ≡ record u {
          table =
              record u.table { blocks = max u.table.blocks blocks };
        }) (λ _. new ≡ u)
        → table_in u v ≡ t
        → MatchResult r (λ _. table_in new v ≡ record t { blocks = max t.blocks blocks })
        (λ _. table_in new v ≡ t)
    view-reserved new (Ok _) is seen =
        ap (λ (x : Uses). table_in x v) is
        ∙ (λ i. let s : Table =
        record u.table { rows = rows_more i; blocks = max u.table.blocks blocks } in s)
        ∙ ap (λ (s : Table). record s { blocks = max s.blocks blocks }) seen
    view-reserved new (Err _) same seen = ap (λ (x : Uses). table_in x v) same ∙ seen
