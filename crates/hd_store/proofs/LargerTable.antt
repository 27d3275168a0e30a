-- A table of more blocks, and a weak table that has its blocks and buckets.
use Rattle.hd_store.proofs.StoreWords.{Addr, Err, Handle, IsStored, IsTable, IsWellFormed, List, Machine, MatchResult, Ok, Parts, Result, Some, WeakTable, age_of, ap, arith, callers_of, clump_of, get, is_some, length, length-append, length-replicate, max, replicate, subst, sym, take, ℕ, ◌*◌, ◌++◌, ◌-◌, ◌/◌, ◌<◌, ◌∙◌, ◌≡◌, ◌≤◌, Table, FinMap, Id, Option, nat_cmp}
use Rattle.std.proofs.lemmas.List.{get_or_append_left, take-append-le, take_all}
use Rattle.hd_model.specs.declared.limits.TheConstants.{CLUMPS, HOST_BLOCKS, OLDEST, ROWS}
use Rattle.hd_store.specs.{Calls.IsSound, Growth.with_blocks, Inside.HasWeakRoom}

module _ {f : Parts} (stored : IsStored f) (most : ℕ) where
  -- the ages that come go again
  pub ages_back : (before : ℕ) (came : List ℕ) → length f.ages ≡ CLUMPS * before
      → take (CLUMPS * before) (f.ages ++ came) ≡ f.ages
  ages_back before came long =
      take-append-le (CLUMPS * before) f.ages came (omega (arith, long))
      ∙ take_all (CLUMPS * before) f.ages (omega (arith, long))

  -- the most of what is asked for and of what there is, by the ages
  module _ (asked before : ℕ) (is : most ≡ max asked before) (long : length f.ages ≡ CLUMPS * before) where
    pub up : f.table.blocks ≤ most
    up = omega (arith, is, long, stored.clumps)

    pub most_is : most ≡ max f.table.blocks asked
    most_is = omega (arith, is, long, stored.clumps)

    pub table_is : {t : Table} → t ≡ record f.table { blocks = max f.table.blocks most }
        → t ≡ record f.table { blocks = most }
    table_is same =
        let number : max f.table.blocks most ≡ most = omega (arith, up) in
        same ∙ ap (λ n. record f.table { blocks = n }) number

  module _ (up : f.table.blocks ≤ most) (few : most ≤ HOST_BLOCKS) (w : WeakTable)
      (same : w.held ≡ f.weak.held) (weak_room : HasWeakRoom most (callers_of f) w) where
    abbrev came : List ℕ
    came = replicate (CLUMPS * most - length f.ages) OLDEST

    abbrev pub larger : Parts
    larger = record f {
      table = record f.table { blocks = most };
      ages = f.ages ++ came;
      weak = w;
    }

    -- the age of a row
    age_same : IsTable larger.table → (slot : ℕ) (h : Handle Addr) → get f.table.rows slot ≡ Some h
        → age_of (f.ages ++ came) slot ≡ age_of f.ages slot
    age_same table slot h is =
        let inside = stored.uses.within (slot / ROWS) (ap is_some (table.rows slot h is).block) in
        let low : clump_of slot < length f.ages = omega (arith, inside.0, inside.1, stored.clumps) in
        get_or_append_left f.ages came 0 (clump_of slot) low

    pub stored_larger : IsTable larger.table → IsStored larger
    stored_larger table = record {
      whole = stored.whole;
      identities = stored.identities;
      ages = record {
        targets = λ slot h x is target. omega (
          arith,
          age_same table slot h is,
          stored.ages.targets slot h x is target,
        );
        secondaries = λ slot h x is second. omega (
          arith,
          age_same table slot h is,
          stored.ages.secondaries slot h x is second,
        );
      };
      cards = stored.cards;
      full = stored.full;
      room = stored.room;
      within = stored.within;
      limit = stored.limit;
      roots = stored.roots;
      serials = stored.serials;
      clumps = omega (
        arith,
        stored.clumps,
        length-append f.ages came,
        length-replicate (CLUMPS * most - length f.ages) OLDEST,
        up,
      );
      blocks = few;
      uses = record {
        within = λ block is. let was = stored.uses.within block is in (was.0, omega (arith, was.1, up));
        extras = stored.uses.extras;
      };
      tied = λ slot key is. stored.tied slot key
          (ap (λ (held : FinMap nat_cmp (Option Id)). get held slot) (sym same) ∙ is);
      weak_room = weak_room;
    }

-- ---- a store

pub sound_reserved : {T E : Type 0} {old new : Machine} (most : ℕ) (r : Result T E)
    → MatchResult r (λ _. new ≡ with_blocks (max old.numbers.blocks most) old) (λ _. new ≡ old)
    → most ≤ HOST_BLOCKS → IsSound old → IsSound new
sound_reserved {T} {E} {old} most (Ok _) is few sound =
    let w : IsWellFormed old.numbers _ = sound.well_formed in
    subst IsSound (sym is)
    (record {
      limits = record {
        heap = sound.limits.heap;
        blocks = (omega (arith, sound.limits.blocks.0), omega (arith, sound.limits.blocks.1, few));
        callers = sound.limits.callers;
      };
      well_formed = record {
        shape = record {
          registers = w.shape.registers;
          each_registers = w.shape.each_registers;
          handle_registers = w.shape.handle_registers;
          each_handle_registers = w.shape.each_handle_registers;
          statics = w.shape.statics;
          board = w.shape.board;
          serials = w.shape.serials;
        };
        names = w.names;
        objects = w.objects;
        serials = w.serials;
        handles = record {
          kinds = w.handles.kinds;
          extras = w.handles.extras;
          dependents = w.handles.dependents;
          blocks = λ block is. let was = w.handles.blocks block is in (was.0, omega (arith, was.1));
        };
        weak = w.weak;
      };
    })
sound_reserved most (Err _) same few sound = subst IsSound (sym same) sound
