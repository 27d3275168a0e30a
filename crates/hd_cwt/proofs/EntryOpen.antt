-- Entries of which no slot is held.
use Rattle.hd_cwt.proofs.Basics.{HOST_BLOCKS, Id, IsEntries, List, None, NumberSet, Option, ROWS, [], ap, arith, bucket_in, contains, contains-empty, entry_at, get_or, get_or-replicate_None, idle_in, length, length-replicate, nat_cmp, node_at, none-some, not_in_none, pairs_none, replicate, sym, ℕ, ◌*◌, ◌+◌, ◌<◌, ◌^◌, ◌∙◌, ◌≡◌, ◌≢◌, ◌≤◌}
use Rattle.std.specs.FinSet as set

module _ {blocks buckets : ℕ} (limit : blocks ≤ HOST_BLOCKS) (many : (0 < buckets) × (buckets < 2 ^ 31))
    (held : List (Option (Option Id)))
    (next previous : List ℕ) {idle : NumberSet}
    (is_held : held ≡ replicate (ROWS * (blocks + 1)) None)
    (is_idle : idle ≡ record { room = ROWS * (blocks + 1); members = set.empty })
    (next_long : length next ≡ ROWS * (blocks + 1) + buckets)
    (back_long : length previous ≡ ROWS * (blocks + 1) + buckets)
    (ahead : (x : ℕ) → x < ROWS * (blocks + 1) + buckets → node_at next x ≡ x)
    (back : (x : ℕ) → x < ROWS * (blocks + 1) + buckets → node_at previous x ≡ x) where
  pub none : (s : ℕ) → entry_at held s ≡ None
  none s = ap (λ es. get_or es s None) is_held ∙ get_or-replicate_None (ROWS * (blocks + 1)) s

  held_long : length held ≡ ROWS * (blocks + 1)
  held_long = ap length is_held ∙ length-replicate (ROWS * (blocks + 1)) None

  next_low : (x : ℕ) → x < length next → node_at next x ≡ x
  next_low x lx = ahead x (omega (arith, lx, next_long))

  back_low : (x : ℕ) → x < length next → node_at previous x ≡ x
  back_low x lx = back x (omega (arith, lx, next_long))

  pub opened : IsEntries blocks buckets held next previous idle
  opened = record {
    limit = limit;
    some = many.0;
    few = many.1;
    size = held_long;
    linked = record {
      rings = record {
        size = back_long ∙ sym next_long;
        within = λ x lx. omega (arith, lx, next_low x lx);
        back_within = λ x lx. omega (arith, lx, back_low x lx);
        ahead = λ x lx. ap (node_at previous) (next_low x lx) ∙ back_low x lx;
        behind = λ x lx. ap (node_at next) (back_low x lx) ∙ next_low x lx;
      };
      nodes = omega (arith, next_long, held_long);
      each = λ b low. record {
        list = [];
        is = record {
          walk = next_low (length held + b) (omega (arith, low, next_long, held_long));
          once = pairs_none (λ x y. x ≢ y);
          into = λ s e. absurd (none-some b (sym (ap (bucket_in buckets) (none s)) ∙ e));
          from = λ s h. absurd (not_in_none s h);
        };
      };
      alone = λ s low _. next_low s (omega (arith, low, next_long, held_long));
    };
    idle_slots = record {
      room = omega (arith, held_long, ap (λ (n : NumberSet). n.room) is_idle);
      each = λ s. ap (λ (n : NumberSet). contains n.members s) is_idle ∙ contains-empty nat_cmp s
          ∙ sym (ap idle_in (none s));
    };
  }
