-- The steps of a call that ends in `missed` are a whole miss, a whole miss is the steps of such a call, and
-- it found nothing in any word of the kind.
use Rattle.hd_custody.proofs.Basics.{BANK, BLOCKS, Bool, CACHE, Did, FIRST_QUICK, IsNone, List, None, Option, Phase, ROWS, Some, [], again, again_whole, and_right, ap, arith, back, back_part, bank, bit_or, cases_eq, cond, cond-false, drain, drain_whole, ending, eq-eqb, false, follow, found, inl, inr, is_step, last, length, look, look_whole, lowest, ltb-false, ltb-true, missed, nat_lt, ne_eqb, next_phase, next_rows, probe, probe_word, push, refl, rest, settle, slot_number, subst, suc, sweep, sym, to_bank, to_look, to_probe, true, wrong, zero, ℕ, ◌&&◌, ◌*◌, ◌++◌, ◌+◌, ◌-◌, ◌<◌, ◌==◌, ◌↔◌, ◌∙◌, ◌∷◌, ◌≡◌, ◌≢◌, ◌≤◌, ◌⊎◌}
use mathlib.Core.Option.{some, some-injective, some-ne-none}
use lib.ListN.{get_elem?}
use Rattle.hd_custody.specs.Misses.{Gave, another, nothing, regiven, on_block, on_blocks, on_cache, IsGiven, WholeMiss, HasStep, FoundNone}
use Rattle.hd_model.specs.declared.data.Slot.{Slot}
use Rattle.hd_custody.proofs.WordNumbers.{probe-quick, probe-reserve, probe-free}
use Rattle.hd_custody.proofs.GatherMasks.{stays_in, bank_in, next_in}
use Rattle.hd_custody.proofs.CallPhases.{due, follow_append, zero_is, zero_not, same_is, same_not, less_is, less_not}

as_step : (t : Did) (i y z : ℕ) → t.0 ≡ i → t.1 ≡ y → t.2 ≡ z → t ≡ (i, y, z)
as_step t i y z first second third =
    ap (λ n. (n, t.1, t.2)) first ∙ ap (λ n. (i, n, t.2)) second ∙ ap (λ n. (i, y, n)) third

module _ (k blocks : ℕ) where
  never_missed : (p : Phase) (ts : List Did) → stays_in false p ≡ true → follow k blocks p ts ≡ missed → ⊥
  never_missed p [] off ends = (let e : stays_in false p ≡ stays_in false missed = ap (stays_in false) ends in
      cc)
  never_missed p (t ∷ ts) off ends =
      never_missed (next_phase k blocks p t) ts (next_in false k blocks p t off) ends

  -- what led on was the step that was due
  step_is : (t : Did) (i z : ℕ) (p : Phase) (ts : List Did) → follow k blocks (is_step t i z p) ts ≡ missed
      → (t.0 ≡ i) × (t.2 ≡ z) × (follow k blocks p ts ≡ missed)
  step_is t i z p ts ends = elim (cases_eq t.0 i) [
    | inl here ↦ elim (cases_eq t.2 z) [
      | inl left ↦ (
        here,
        left,
        ap (λ q. follow k blocks q ts) (sym (ap (λ b. cond (b && (t.2 == z)) p wrong) (eq-eqb t.0 i here)
            ∙ ap (λ b. cond b p wrong) (eq-eqb t.2 z left))) ∙ ends,
      )
      | inr other ↦ absurd (never_missed wrong ts refl (
          ap (λ q. follow k blocks q ts)
          (sym (cond-false _ p wrong (and_right (t.0 == i) (t.2 == z) (ne_eqb t.2 z other)))) ∙ ends))
    ]
    | inr far ↦ absurd (never_missed wrong ts refl (
        ap (λ q. follow k blocks q ts)
        (sym (cond-false _ p wrong (ap (λ b. b && (t.2 == z)) (ne_eqb t.0 i far)))) ∙ ends))
  ]

  missed_only : (ts : List Did) → follow k blocks missed ts ≡ missed → ts ≡ []
  missed_only [] ends = refl
  missed_only (t ∷ ts) ends = absurd (never_missed wrong ts refl ends)

  -- ---- the blocks

  Back : ℕ → ℕ → List Did → Type 0
  Back b m ts = (o : ℕ) × (others : List Did) × (ts ≡ (BLOCKS + b, o, bit_or o m) ∷ others)
      × (follow k blocks (to_look blocks (b + 1)) others ≡ missed)

  from_back : (b m : ℕ) (ts : List Did) → follow k blocks (back b m) ts ≡ missed → Back b m ts
  unfolding Back
  from_back b m [] ends = cc
  from_back b m (t ∷ ts) ends =
      let s = step_is t (BLOCKS + b) (bit_or t.1 m) (to_look blocks (b + 1)) ts ends in
      (t.1, ts, ap (λ e. e ∷ ts) (as_step t (BLOCKS + b) t.1 (bit_or t.1 m) s.0 refl s.1), s.2)

  -- the block gave this, and the others follow
  Rest : ℕ → List Did → Type 0
  Rest b ts = (g : Gave) × (others : List Did) × IsGiven k g × (ts ≡ on_block k b g ++ others)
      × (follow k blocks (to_look blocks (b + 1)) others ≡ missed)

  from_again : (b m : ℕ) (ts : List Did) → m ≢ 0 → follow k blocks (again b m) ts ≡ missed
      → Rest b ((b, k + 1, k + 1) ∷ (BLOCKS + b, m, 0) ∷ ts)
  unfolding Back Rest
  from_again b m [] some_m ends = cc
  from_again b m (t ∷ ts) some_m ends =
      let p = to_bank b (ROWS * b + lowest m) 0 (next_rows m) in
      let s = step_is t b t.1 (cond (t.1 == k + 1) p (back b m)) ts ends in
      elim (cases_eq t.1 (k + 1)) [
        | inl same ↦ absurd (never_missed p ts (bank_in false b (ROWS * b + lowest m) 0 (next_rows m) refl) (
            ap (λ q. follow k blocks q ts) (sym (same_is t.1 (k + 1) p (back b m) same)) ∙ s.2))
        | inr other ↦ (
            let r = from_back b m ts (
            ap (λ q. follow k blocks q ts) (sym (same_not t.1 (k + 1) p (back b m) other)) ∙ s.2) in (
              regiven m t.1 r.0,
              r.1,
              (some_m, other),
              ap (λ e. (b, k + 1, k + 1) ∷ (BLOCKS + b, m, 0) ∷ e ∷ ts) (as_step t b t.1 t.1 s.0 refl s.1)
                  ∙ ap (λ es. (b, k + 1, k + 1) ∷ (BLOCKS + b, m, 0) ∷ (b, t.1, t.1) ∷ es) r.2,
              r.3,
            ))
      ]

  from_drain : (b : ℕ) (ts : List Did) → follow k blocks (drain b) ts ≡ missed
      → Rest b ((b, k + 1, k + 1) ∷ ts)
  unfolding Rest
  from_drain b [] ends = cc
  from_drain b (t ∷ ts) ends =
      let s = step_is t (BLOCKS + b) 0 (cond (t.1 == 0) (to_look blocks (b + 1)) (again b t.1)) ts ends in
      elim (cases_eq t.1 0) [
        | inl none ↦ (
          nothing,
          ts,
          tt,
          ap (λ e. (b, k + 1, k + 1) ∷ e ∷ ts) (as_step t (BLOCKS + b) 0 0 s.0 none s.1),
          ap (λ q. follow k blocks q ts)
              (sym (zero_is t.1 (to_look blocks (b + 1)) (again b t.1) none)) ∙ s.2,
        )
        | inr some_m ↦ subst (λ e. Rest b ((b, k + 1, k + 1) ∷ e ∷ ts))
            (sym (as_step t (BLOCKS + b) t.1 0 s.0 refl s.1))
            (from_again b t.1 ts some_m (
            ap (λ q. follow k blocks q ts)
            (sym (zero_not t.1 (to_look blocks (b + 1)) (again b t.1) some_m)) ∙ s.2))
      ]

  from_look : (b : ℕ) (ts : List Did) → follow k blocks (look b) ts ≡ missed → Rest b ts
  unfolding Rest
  from_look b [] ends = cc
  from_look b (t ∷ ts) ends =
      let s = step_is t b t.1 (cond (t.1 == k + 1) (drain b) (to_look blocks (b + 1))) ts ends in
      elim (cases_eq t.1 (k + 1)) [
        | inl same ↦ subst (λ e. Rest b (e ∷ ts)) (sym (as_step t b (k + 1) (k + 1) s.0 same (s.1 ∙ same)))
            (from_drain b ts (
            ap (λ q. follow k blocks q ts)
            (sym (same_is t.1 (k + 1) (drain b) (to_look blocks (b + 1)) same)) ∙ s.2))
        | inr other ↦ (
          another t.1,
          ts,
          other,
          ap (λ e. e ∷ ts) (as_step t b t.1 t.1 s.0 refl s.1),
          ap (λ q. follow k blocks q ts)
              (sym (same_not t.1 (k + 1) (drain b) (to_look blocks (b + 1)) other)) ∙ s.2,
        )
      ]

  AllGiven : List Gave → Type 0
  AllGiven gs = (n : ℕ) (g : Gave) → get_elem? gs n ≡ some g → IsGiven k g

  one_more : (g : Gave) (gs : List Gave) → IsGiven k g → AllGiven gs → AllGiven (g ∷ gs)
  unfolding AllGiven
  one_more g gs this these zero h at = subst (IsGiven k) (some-injective g h at) this
  one_more g gs this these (suc n) h at = these n h at

  from_blocks : (n b : ℕ) (ts : List Did) → b + n ≡ blocks + 1
      → follow k blocks (to_look blocks b) ts ≡ missed
      → (gs : List Gave) × (length gs ≡ n) × AllGiven gs × (ts ≡ on_blocks k b gs)
  unfolding AllGiven Rest
  from_blocks zero b ts size ends = (
    [],
    refl,
    (λ n g at. absurd (some-ne-none g (sym at))),
    missed_only ts (ap (λ q. follow k blocks q ts)
        (sym (less_is blocks b missed (look b) (omega arith))) ∙ ends),
  )
  from_blocks (suc n) b ts size ends =
      let r = from_look b ts (ap (λ q. follow k blocks q ts)
      (sym (less_not blocks b missed (look b) (omega arith))) ∙ ends) in
      let more = from_blocks n (b + 1) r.1 (omega arith) r.4 in (
        r.0 ∷ more.0,
        ap suc more.1,
        one_more r.0 more.0 r.2 more.2,
        r.3 ∙ ap (λ es. on_block k b r.0 ++ es) more.3,
      )

  -- ---- the cache

  from_probe : (n : ℕ) (ts : List Did) → follow k blocks (probe n) ts ≡ missed
      → (others : List Did) × (ts ≡ (probe_word k n, 0, 0) ∷ others)
      × (follow k blocks (to_probe blocks (n + 1)) others ≡ missed)
  from_probe n [] ends = cc
  from_probe n (t ∷ ts) ends =
      let s = step_is t (probe_word k n) 0 (cond (t.1 == 0) (to_probe blocks (n + 1)) (found t.1)) ts ends in
      elim (cases_eq t.1 0) [
        | inl none ↦ (
          ts,
          ap (λ e. e ∷ ts) (as_step t (probe_word k n) 0 0 s.0 none s.1),
          ap (λ q. follow k blocks q ts) (sym (zero_is t.1 (to_probe blocks (n + 1)) (found t.1) none)) ∙ s.2,
        )
        | inr some_x ↦ absurd (never_missed (found t.1) ts refl (
            ap (λ q. follow k blocks q ts)
            (sym (zero_not t.1 (to_probe blocks (n + 1)) (found t.1) some_x)) ∙ s.2))
      ]

  from_cache : (c n : ℕ) (ts : List Did) → n + c ≡ CACHE → follow k blocks (to_probe blocks n) ts ≡ missed
      → (others : List Did) × (ts ≡ on_cache k c n ++ others)
      × (follow k blocks (to_look blocks 1) others ≡ missed)
  unfolding on_cache
  from_cache zero n ts size ends = (
    ts,
    refl,
    ap (λ q. follow k blocks q ts) (sym (less_not n CACHE (probe n) (to_look blocks 1) (omega arith))) ∙ ends,
  )
  from_cache (suc c) n ts size ends =
      let r = from_probe n ts (ap (λ q. follow k blocks q ts)
      (sym (less_is n CACHE (probe n) (to_look blocks 1) (omega arith))) ∙ ends) in
      let more = from_cache c (n + 1) r.0 (omega arith) r.2 in
      (more.0, r.1 ∙ ap (λ es. (probe_word k n, 0, 0) ∷ es) more.1, more.2)

  pub missed_whole : (ts : List Did) → follow k blocks (probe 0) ts ≡ missed → WholeMiss k blocks ts
  unfolding AllGiven
  missed_whole ts ends =
      let cache = from_cache CACHE 0 ts refl ends in
      let all = from_blocks blocks 1 cache.0 (omega arith) cache.2 in record {
        gave = all.0;
        each_block = all.1;
        given = all.2;
        steps = cache.1 ∙ ap (λ es. on_cache k CACHE 0 ++ es) all.3;
      }

  -- ---- the other way round

  cache_leads : (c n : ℕ) → n + c ≡ CACHE
      → follow k blocks (to_probe blocks n) (on_cache k c n) ≡ to_look blocks 1
  unfolding on_cache
  cache_leads zero n size = less_not n CACHE (probe n) (to_look blocks 1) (omega arith)
  cache_leads (suc c) n size =
      ap (λ p. follow k blocks (next_phase k blocks p (probe_word k n, 0, 0)) (on_cache k c (n + 1)))
      (less_is n CACHE (probe n) (to_look blocks 1) (omega arith))
      ∙ ap (λ p. follow k blocks p (on_cache k c (n + 1)))
      (due (probe_word k n) 0 0 (to_probe blocks (n + 1))) ∙ cache_leads c (n + 1) (omega arith)

  look_leads : (b : ℕ) → next_phase k blocks (look b) (b, k + 1, k + 1) ≡ drain b
  look_leads b = due b (k + 1) (k + 1) (cond (k + 1 == k + 1) (drain b) (to_look blocks (b + 1)))
      ∙ same_is (k + 1) (k + 1) (drain b) (to_look blocks (b + 1)) refl

  block_leads : (b : ℕ) (g : Gave) → IsGiven k g
      → follow k blocks (look b) (on_block k b g) ≡ to_look blocks (b + 1)
  block_leads b (another y) other =
      due b y y (cond (y == k + 1) (drain b) (to_look blocks (b + 1)))
      ∙ same_not y (k + 1) (drain b) (to_look blocks (b + 1)) other
  block_leads b nothing is =
      ap (λ p. next_phase k blocks p (BLOCKS + b, 0, 0)) (look_leads b)
      ∙ due (BLOCKS + b) 0 0 (to_look blocks (b + 1))
  block_leads b (regiven m y o) is =
      let p = to_bank b (ROWS * b + lowest m) 0 (next_rows m) in
      let second : Phase → Phase = λ q. next_phase k blocks q (BLOCKS + b, m, 0) in
      let third : Phase → Phase = λ q. next_phase k blocks q (b, y, y) in
      let fourth : Phase → Phase = λ q. next_phase k blocks q (BLOCKS + b, o, bit_or o m) in
      ap (λ q. fourth (third (second q))) (look_leads b)
      ∙ ap (λ q. fourth (third q)) (due (BLOCKS + b) m 0 (cond (m == 0) (to_look blocks (b + 1)) (again b m))
      ∙ zero_not m (to_look blocks (b + 1)) (again b m) is.0)
      ∙ ap fourth (due b y y (cond (y == k + 1) p (back b m)) ∙ same_not y (k + 1) p (back b m) is.1)
      ∙ due (BLOCKS + b) o (bit_or o m) (to_look blocks (b + 1))

  blocks_lead : (gs : List Gave) (b : ℕ) → b + length gs ≡ blocks + 1 → AllGiven gs
      → follow k blocks (to_look blocks b) (on_blocks k b gs) ≡ missed
  unfolding AllGiven
  blocks_lead [] b size given = less_is blocks b missed (look b) (omega arith)
  blocks_lead (g ∷ gs) b size given =
      ap (λ p. follow k blocks p (on_block k b g ++ on_blocks k (b + 1) gs))
      (less_not blocks b missed (look b) (omega arith))
      ∙ follow_append k blocks (look b) (on_block k b g) (on_blocks k (b + 1) gs)
      ∙ ap (λ p. follow k blocks p (on_blocks k (b + 1) gs)) (block_leads b g (given 0 g refl))
      ∙ blocks_lead gs (b + 1) (omega arith) (λ n. given (suc n))

  pub whole_missed : (ts : List Did) → WholeMiss k blocks ts → follow k blocks (probe 0) ts ≡ missed
  unfolding AllGiven
  whole_missed ts whole =
      ap (follow k blocks (probe 0)) whole.steps
      ∙ follow_append k blocks (probe 0) (on_cache k CACHE 0) (on_blocks k 1 whole.gave)
      ∙ ap (λ p. follow k blocks p (on_blocks k 1 whole.gave)) (cache_leads CACHE 0 refl)
      ∙ blocks_lead whole.gave 1 (omega (arith, whole.each_block)) whole.given

-- ---- each word alone

still_there : (ts us : List Did) (n : ℕ) (t : Did) → get_elem? ts n ≡ some t → get_elem? (ts ++ us) n ≡ some t
still_there [] us n t at = absurd (some-ne-none t (sym at))
still_there (e ∷ ts) us zero t at = at
still_there (e ∷ ts) us (suc n) t at = still_there ts us n t at

further : (ts us : List Did) (t : Did) → HasStep t us → HasStep t (ts ++ us)
further [] us t has = has
further (e ∷ ts) us t has = (let more = further ts us t has in (suc more.0, more.1))

either_way : (b : Bool) → (b ≡ true) ⊎ (b ≡ false)
either_way true = inl refl
either_way false = inr refl

module _ (k : ℕ) where
  cache_at : (c n j : ℕ) → j < c → get_elem? (on_cache k c n) j ≡ some (probe_word k (j + n), 0, 0)
  unfolding on_cache
  cache_at zero n j lt = absurd (omega arith)
  cache_at (suc c) n zero lt = ap (λ i. some (probe_word k i, 0, 0)) (omega arith)
  cache_at (suc c) n (suc j) lt = cache_at c (n + 1) j (omega arith)
      ∙ ap (λ i. some (probe_word k i, 0, 0)) (omega arith)

  probe_at : (n : ℕ) → n < CACHE → get_elem? (on_cache k CACHE 0) n ≡ some (probe_word k n, 0, 0)
  probe_at n lt = cache_at CACHE 0 n lt ∙ ap (λ i. some (probe_word k i, 0, 0)) (omega arith)

  -- each word of the kind is one of the probes
  probe_of : (i : ℕ) → FIRST_QUICK + CACHE * k ≤ i → i < FIRST_QUICK + CACHE * k + CACHE
      → (n : ℕ) × (n < CACHE) × (probe_word k n ≡ i)
  probe_of i low high = elim (cases_eq i (FIRST_QUICK + CACHE * k)) [
    | inl quick ↦ (0, omega arith, probe-quick k 0 refl ∙ sym quick)
    | inr cell ↦ elim (either_way (nat_lt i (FIRST_QUICK + 1 + BANK + CACHE * k))) [
      | inl reserve ↦ (
          let under = ltb-true i (FIRST_QUICK + 1 + BANK + CACHE * k) reserve in (
            FIRST_QUICK + 1 + BANK + CACHE * k - i,
            omega arith,
            probe-reserve k (FIRST_QUICK + 1 + BANK + CACHE * k - i) (λ e. omega arith) (omega arith)
                ∙ omega arith,
          ))
      | inr free ↦ (
          let over = ltb-false i (FIRST_QUICK + 1 + BANK + CACHE * k) free in (
            FIRST_QUICK + 1 + BANK + 2 * BANK + CACHE * k - i,
            omega arith,
            probe-free k (FIRST_QUICK + 1 + BANK + 2 * BANK + CACHE * k - i) (λ e. omega arith) (omega arith)
                ∙ omega arith,
          ))
    ]
  ]

  first_load : (b : ℕ) (g : Gave) (ts : List Did) → (y : ℕ) × HasStep (b, y, y) (on_block k b g ++ ts)
  first_load b (another y) ts = (y, (0, refl))
  first_load b nothing ts = (k + 1, (0, refl))
  first_load b (regiven m y o) ts = (k + 1, (0, refl))

  loads : (gs : List Gave) (b c : ℕ) → b ≤ c → c < b + length gs
      → (y : ℕ) × HasStep (c, y, y) (on_blocks k b gs)
  loads [] b c low high = absurd (omega arith)
  loads (g ∷ gs) b c low high = elim (cases_eq b c) [
    | inl here ↦ subst (λ d. (y : ℕ) × HasStep (d, y, y) (on_block k b g ++ on_blocks k (b + 1) gs)) here
        (first_load b g (on_blocks k (b + 1) gs))
    | inr later ↦ (
        let more = loads gs (b + 1) c (omega arith) (omega arith) in
        (more.0, further (on_block k b g) (on_blocks k (b + 1) gs) (c, more.0, more.0) more.1))
  ]

  -- what comes after a load of the kind
  ComesAfter : ℕ → ℕ → List Did → Type 0
  ComesAfter n b ts =
      (m : ℕ) × (get_elem? ts (suc n) ≡ some (BLOCKS + b, m, 0)) × ((m ≡ 0)
      ⊎ ((y : ℕ) × (y ≢ k + 1) × (get_elem? ts (suc (suc n)) ≡ some (b, y, y))))

  on_one : (c : ℕ) (g : Gave) (ts : List Did) (n b : ℕ) → 0 < c → b ≤ BLOCKS → IsGiven k g
      → ((j : ℕ) → get_elem? ts j ≡ some (b, k + 1, k + 1) → ComesAfter j b ts)
      → get_elem? (on_block k c g ++ ts) n ≡ some (b, k + 1, k + 1) → ComesAfter n b (on_block k c g ++ ts)
  unfolding ComesAfter
  on_one c (another y) ts zero b real low given on at =
      absurd (given (ap (λ (t : Did). t.1) (some-injective (c, y, y) (b, k + 1, k + 1) at)))
  on_one c (another y) ts (suc n) b real low given on at = on n at
  on_one c nothing ts zero b real low given on at = (
    0,
    ap (λ (t : Did). some (BLOCKS + t.0, 0, 0)) (some-injective (c, k + 1, k + 1) (b, k + 1, k + 1) at),
    inl refl,
  )
  on_one c nothing ts (suc zero) b real low given on at =
      let e = ap (λ (t : Did). t.2) (some-injective (BLOCKS + c, 0, 0) (b, k + 1, k + 1) at) in
      absurd (omega arith)
  on_one c nothing ts (suc (suc n)) b real low given on at = on n at
  on_one c (regiven m y o) ts zero b real low given on at =
      let same = ap (λ (t : Did). t.0) (some-injective (c, k + 1, k + 1) (b, k + 1, k + 1) at) in
      (m, ap (λ d. some (BLOCKS + d, m, 0)) same, inr (y, given.1, ap (λ d. some (d, y, y)) same))
  on_one c (regiven m y o) ts (suc zero) b real low given on at =
      let e = ap (λ (t : Did). t.2) (some-injective (BLOCKS + c, m, 0) (b, k + 1, k + 1) at) in
      absurd (omega arith)
  on_one c (regiven m y o) ts (suc (suc zero)) b real low given on at =
      absurd (given.1 (ap (λ (t : Did). t.1) (some-injective (c, y, y) (b, k + 1, k + 1) at)))
  on_one c (regiven m y o) ts (suc (suc (suc zero))) b real low given on at =
      let e = ap (λ (t : Did). t.0) (some-injective (BLOCKS + c, o, bit_or o m) (b, k + 1, k + 1) at) in
      absurd (omega arith)
  on_one c (regiven m y o) ts (suc (suc (suc (suc n)))) b real low given on at = on n at

  on_all : (gs : List Gave) (c n b : ℕ) → 0 < c → b ≤ BLOCKS
      → ((n : ℕ) (g : Gave) → get_elem? gs n ≡ some g → IsGiven k g)
      → get_elem? (on_blocks k c gs) n ≡ some (b, k + 1, k + 1) → ComesAfter n b (on_blocks k c gs)
  on_all [] c n b real low given at = absurd (some-ne-none (b, k + 1, k + 1) (sym at))
  on_all (g ∷ gs) c n b real low given at =
      on_one c g (on_blocks k (c + 1) gs) n b real low (given 0 g refl)
      (λ j here. on_all gs (c + 1) j b (omega arith) low (λ i. given (suc i)) here) at

  past_cache : (c s : ℕ) (ts : List Did) (b : ℕ)
      → ((j : ℕ) → get_elem? ts j ≡ some (b, k + 1, k + 1) → ComesAfter j b ts)
      → (n : ℕ) → get_elem? (on_cache k c s ++ ts) n ≡ some (b, k + 1, k + 1)
      → ComesAfter n b (on_cache k c s ++ ts)
  unfolding on_cache ComesAfter
  past_cache zero s ts b on n at = on n at
  past_cache (suc c) s ts b on zero at =
      let e = ap (λ (t : Did). t.2) (some-injective (probe_word k s, 0, 0) (b, k + 1, k + 1) at) in
      absurd (omega arith)
  past_cache (suc c) s ts b on (suc n) at = past_cache c (s + 1) ts b on n at

  pub found_none : (blocks : ℕ) (trace : List Did) → WholeMiss k blocks trace → FoundNone k blocks trace
  unfolding ComesAfter
  found_none blocks trace whole =
      let all = on_cache k CACHE 0 ++ on_blocks k 1 whole.gave in
      subst (FoundNone k blocks) (sym whole.steps) (record {
        cache = λ i low high. (
            let p = probe_of i low high in (
              p.0,
              still_there (on_cache k CACHE 0) (on_blocks k 1 whole.gave) p.0 (i, 0, 0)
                  (probe_at p.0 p.1 ∙ ap (λ j. some (j, 0, 0)) p.2),
            ));
        loaded = λ b real low. (
            let l = loads whole.gave 1 b (omega arith) (omega (arith, whole.each_block)) in
            (l.0, further (on_cache k CACHE 0) (on_blocks k 1 whole.gave) (b, l.0, l.0) l.1));
        masks = λ n b real low at. past_cache CACHE 0 (on_blocks k 1 whole.gave) b
            (λ j here. on_all whole.gave 1 j b (omega arith) low whole.given here) n at;
      })

-- ---- what a call that returns none has made

none_ends : (r : Option Slot) → IsNone r → ending (slot_number r) ≡ missed
none_ends None none = refl
none_ends (Some x) none = cc

missed_none : (r : Option Slot) → ending (slot_number r) ≡ missed → IsNone r
missed_none None ends = refl
missed_none (Some x) ends = cc

module _ (k blocks : ℕ) (r : Option Slot) (ts : List Did)
    (ends : follow k blocks (probe 0) ts ≡ ending (slot_number r)) where
  pub none_is_whole : IsNone r ↔ WholeMiss k blocks ts
  none_is_whole = (
    λ none. missed_whole k blocks ts (ends ∙ none_ends r none),
    λ whole. missed_none r (sym ends ∙ whole_missed k blocks ts whole),
  )
