-- A host whose table, pool and entries get more blocks, one after another.
use Rattle.std.proofs.Common.{Err, List, Ok, Result, ap, arith, inl, length, refl, replicate, subst, sym, ℕ, ◌*◌, ◌+◌, ◌++◌, ◌-◌, ◌<◌, ◌∙◌, ◌≡◌, ◌≤◌, ◌⊎◌}
use Rattle.std.proofs.lemmas.List.{length-append, length-replicate}
use Rattle.std.specs.Prelude.{IfOk, MatchResult, max}
use Rattle.hd_model.specs.declared.limits.TheConstants.{CLUMPS, OLDEST, ROWS}
use Rattle.hd_pool.specs.Pool.{FreeSlots}
use Rattle.hd_store.specs.{Calls.IsSound, Growth.with_blocks, Store.Machine}
use Rattle.hd_host.specs.declared.stamps.TheConstants.{FREE}
use Rattle.hd_host.specs.{Handles.padded, Inside.HasGrown, Inside.IsSized, Inside.with_room}
use Rattle.hd_host.proofs.GrownParts.{grown_none}
use Rattle.hd_host.proofs.PaddedEntries.{filled_up}

module _ {limit : ℕ} {m : Machine} {p : FreeSlots} {entries : List ℕ} (sized : IsSized limit m p.blocks entries)
    (blocks : ℕ) (few : blocks ≤ limit) where
  -- nothing grew
  pub pool_same : {q : FreeSlots} → q ≡ p → HasGrown limit m p entries m q entries
  pool_same same = subst (λ (x : FreeSlots). HasGrown limit m p entries m x entries) (sym same) (grown_none sized)

  module _ {q : FreeSlots} (wider : q ≡ record p { blocks = max p.blocks blocks }) where
    wide_pool : max p.blocks blocks ≤ q.blocks
    wide_pool = omega (arith, ap (λ (x : FreeSlots). x.blocks) wider)

    -- the pool alone
    pub pool_more : {others : List ℕ} → others ≡ entries → HasGrown limit m p entries m q others
    pool_more same = subst (λ xs. HasGrown limit m p entries m q xs) (sym same) (record {
      sized = record {
        sound = sized.sound;
        ages = sized.ages;
        few = sized.few;
        most = sized.most;
        pool = omega (arith, sized.pool, wide_pool);
        stamps = sized.stamps;
        within = sized.within;
      };
      store = refl;
      pool = ap (with_room limit) wider;
      stamps = refl;
    })

    module _ {others : List ℕ}
        (longer : others ≡ entries ++ replicate (ROWS * (blocks + 1) - length entries) FREE) where
      long : length others ≡ length entries + (ROWS * (blocks + 1) - length entries)
      long =
          ap length longer ∙ length-append entries (replicate (ROWS * (blocks + 1) - length entries) FREE)
          ∙ ap (λ n. length entries + n) (length-replicate (ROWS * (blocks + 1) - length entries) FREE)

      same_stamps : padded limit others ≡ padded limit entries
      same_stamps =
          ap (padded limit) longer
          ∙ filled_up entries (ROWS * (blocks + 1)) (ROWS * (limit + 1)) FREE (omega (arith, few)) sized.within

      -- the pool and the entries
      pub both_more : {k : Machine} → k ≡ m → HasGrown limit m p entries k q others
      both_more same = subst (λ (x : Machine). HasGrown limit m p entries x q others) (sym same) (record {
        sized = record {
          sound = sized.sound;
          ages = sized.ages;
          few = sized.few;
          most = sized.most;
          pool = omega (arith, sized.pool, wide_pool);
          stamps = omega (arith, long, sized.stamps);
          within = omega (arith, long, sized.within, few);
        };
        store = refl;
        pool = ap (with_room limit) wider;
        stamps = same_stamps;
      })

      -- and the table
      module _ {k : Machine} (sound : IsSound k) (larger : k ≡ with_blocks (max m.numbers.blocks blocks) m) where
        same_blocks : k.numbers.blocks ≡ max m.numbers.blocks blocks
        same_blocks = ap (λ (x : Machine). x.numbers.blocks) larger

        many_ages : length k.ages ≡ CLUMPS * k.numbers.blocks
        many_ages =
            let count = CLUMPS * max m.numbers.blocks blocks - length m.ages in
            let total : length (m.ages ++ replicate count OLDEST) ≡ length m.ages + count =
            length-append m.ages (replicate count OLDEST)
            ∙ ap (λ n. length m.ages + n) (length-replicate count OLDEST) in
            omega (arith, ap (λ (x : Machine). length x.ages) larger, total, same_blocks, sized.ages)

        same_store : with_blocks limit k ≡ with_blocks limit m
        same_store =
            let ages = filled_up m.ages (CLUMPS * max m.numbers.blocks blocks) (CLUMPS * limit) OLDEST
            (omega (arith, sized.few, few)) (omega (arith, sized.ages, sized.few)) in
            ap (with_blocks limit) larger ∙ (λ i. record (with_blocks limit m) { ages = ages i })

        pub all_more : HasGrown limit m p entries k q others
        all_more = record {
          sized = record {
            sound = sound;
            ages = many_ages;
            few = omega (arith, same_blocks, sized.few, few);
            most = sized.most;
            pool = omega (arith, same_blocks, sized.pool, wide_pool);
            stamps = omega (arith, same_blocks, long, sized.stamps);
            within = omega (arith, long, sized.within, few);
          };
          store = same_store;
          pool = ap (with_room limit) wider;
          stamps = same_stamps;
        }

        pub has_more : blocks ≤ k.numbers.blocks
        has_more = omega (arith, same_blocks)

-- what was asked for suffices, or memory ran out before the limit
pub room_by : {T E : Type 0} (r : Result T E) (has : ℕ) {wanted more limit : ℕ} → IfOk r (λ _. more ≤ has)
    → wanted ≤ more → wanted ≤ limit
    → MatchResult r (λ _. (wanted ≤ has) ⊎ (limit < wanted)) (λ _. wanted ≤ limit)
room_by (Ok _) has is low fits = inl (omega (arith, is, low))
room_by (Err _) has is low fits = fits
