-- The numbers of the words, in each order.
use Rattle.hd_custody.proofs.Basics.{BANK, CACHE, FIRST_QUICK, ROWS, arith, refl, ℕ, ◌*◌, ◌+◌, ◌-◌, ◌<◌, ◌∙◌, ◌≡◌, ◌≢◌, ◌≤◌}
use Rattle.hd_custody.specs.Traces.{probe_word, sweep_word, push_word}
use Rattle.hd_custody.proofs.CallPhases.{zero_is, zero_not, less_is, less_not}

pub probe-quick : (k n : ℕ) → n ≡ 0 → probe_word k n ≡ FIRST_QUICK + CACHE * k
unfolding probe_word
probe-quick k n e = zero_is n _ _ e

pub probe-reserve : (k n : ℕ) → n ≢ 0 → n < ROWS → probe_word k n ≡ FIRST_QUICK + 1 + CACHE * k + (BANK - n)
unfolding probe_word
probe-reserve k n ne lt = zero_not n _ _ ne ∙ less_not BANK n _ _ (omega arith)

pub probe-free : (k n : ℕ) → n ≢ 0 → ROWS ≤ n
    → probe_word k n ≡ FIRST_QUICK + 1 + BANK + CACHE * k + (2 * BANK - n)
unfolding probe_word
probe-free k n ne le = zero_not n _ _ ne ∙ less_is BANK n _ _ le

pub sweep-each : (k n : ℕ) → sweep_word k n ≡ FIRST_QUICK + CACHE * k + n
unfolding sweep_word
sweep-each k n = refl

pub push-quick : (k n : ℕ) → n ≡ 0 → push_word k n ≡ FIRST_QUICK + CACHE * k
unfolding push_word
push-quick k n e = zero_is n _ _ e

pub push-free : (k n : ℕ) → n ≢ 0 → push_word k n ≡ FIRST_QUICK + 1 + BANK + CACHE * k + (n - 1)
unfolding push_word
push-free k n ne = zero_not n _ _ ne

pub ruleset numbered = (probe-quick, probe-reserve, probe-free, sweep-each, push-quick, push-free)
