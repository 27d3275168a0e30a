-- The set of idle slots, where a slot gets a key or loses it.
use Rattle.hd_cwt.proofs.Basics.{HasIdle, Id, List, None, NumberSet, Option, Some, ap, arith, contains, entry_at, false≢true, idle_in, length, length-set, refl, set, sym, true, ℕ, ◌<◌, ◌∙◌, ◌≡◌}
use Rattle.std.specs.FinSet.{insert, remove}
use Rattle.hd_tiers.proofs.SetMembers.{insert_same, insert_other, remove_same, remove_other}
use Rattle.hd_cwt.proofs.BucketChange.{entry_cases}

idle_is : (v : Option (Option Id)) → idle_in v ≡ true → v ≡ Some None
idle_is None e = absurd (false≢true e)
idle_is (Some None) e = refl
idle_is (Some (Some k)) e = absurd (false≢true e)

module _ {held : List (Option (Option Id))} {idle : NumberSet} (is : HasIdle held idle) where
  pub put_idle : (s : ℕ) → s < length held → (key : Id)
      → HasIdle (set held s (Some (Some key))) (record idle { members = remove idle.members s })
  put_idle s low key = record {
    room = omega (arith, is.room, length-set held s (Some (Some key)));
    each = λ z. entry_cases held s (Some (Some key)) low (λ v. contains (remove idle.members s) z ≡ idle_in v)
        z (λ same. remove_same idle.members s z same)
        (λ apart. remove_other idle.members s z apart ∙ is.each z);
  }

  pub clear_idle : (s : ℕ) → s < length held
      → HasIdle (set held s (Some None)) (record idle { members = insert idle.members s })
  clear_idle s low = record {
    room = omega (arith, is.room, length-set held s (Some None));
    each = λ z. entry_cases held s (Some None) low (λ v. contains (insert idle.members s) z ≡ idle_in v) z
        (λ same. insert_same idle.members s z same)
        (λ apart. insert_other idle.members s z apart ∙ is.each z);
  }

  pub release_idle : (s : ℕ) → s < length held
      → HasIdle (set held s None) (record idle { members = remove idle.members s })
  release_idle s low = record {
    room = omega (arith, is.room, length-set held s None);
    each = λ z. entry_cases held s None low (λ v. contains (remove idle.members s) z ≡ idle_in v) z
        (λ same. remove_same idle.members s z same)
        (λ apart. remove_other idle.members s z apart ∙ is.each z);
  }

  pub is_member : (s : ℕ) → entry_at held s ≡ Some None → contains idle.members s ≡ true
  is_member s e = is.each s ∙ ap idle_in e

  pub of_member : (s : ℕ) → contains idle.members s ≡ true → entry_at held s ≡ Some None
  of_member s member = idle_is (entry_at held s) (sym (is.each s) ∙ member)
