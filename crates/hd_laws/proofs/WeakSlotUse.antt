-- A slot of the weak table stays its own, and no command on a handle works on it.
use Rattle.hd_model.specs.{declared.data.Grown.TheVariants.Back, declared.command.Cmd.Cmd, declared.data.Entry.Entry, declared.data.Grown.Grown, declared.data.Id.Id, declared.data.Kind.Kind, declared.data.Grown.TheVariants.One, declared.data.Slot.Slot, declared.data.Grown.TheVariants.Two, declared.data.Grown.TheVariants.Zero}
use Rattle.hd_model.proofs.Basics.{Bool, GivesBack, IsSome, IsWellFormed, MayGive, None, Numbers, Option, Some, State, TakesWay, Way, WeakEntry, and_parts, replies_address, ap, block_of, decided, false≢true, frees_handle, get, gives_back, is_done, is_some, makes_object, none-some, option_map, refl, same_Some, subst, swept, sym, touched_by, true, true≢false, way_of, ℕ, ⊎_elim, ◌∙◌, ◌≡◌}
use Rattle.hd_laws.proofs.Basics.{TextsLeaveTheWeakTableOut, WeakSlotsAreNotLive, WeakSlotsStayHeld}
use Rattle.hd_model.specs.Step.{makes_handle as makes_handle_way, collects as collects_way, adds_entry as adds_entry_way}
use Rattle.hd_model.specs.Laws.{makes_handle}
use Rattle.hd_model.proofs.{ReadAfterWrite.still_some, WellFormedSteps.given_not_weak, HandleParts.not_live}
use Rattle.hd_model.specs.Step.{replies_root}
use Rattle.hd_model.proofs.Effects.{Effect, refused, collects, makes_handle as does_make_handle, frees_handle as does_free, adds_entry, removes_entry, effect}

pub weak_slots_are_not_live : WeakSlotsAreNotLive
weak_slots_are_not_live n s t e h slot w step uses names held =
    not_live n s e t h slot names (w.weak.apart slot.0 held) e.cmd step.does uses

pub texts_leave_the_weak_table_out : TextsLeaveTheWeakTableOut
texts_leave_the_weak_table_out journal s weak = (refl, refl)

module _ (n : Numbers) (s : State) (w : IsWellFormed n s) (e : Entry) (slot : Slot)
    (held : IsSome (get s.weak slot.0)) where
  -- a slot of the weak table may not be given
  never_given : (wanted : Kind) (other : Slot) → MayGive n s wanted e.grown other → other ≡ slot → ⊥
  never_given wanted other may same =
      true≢false (sym held ∙ ap (λ (x : Slot). is_some (get s.weak x.0)) (sym same)
      ∙ ap is_some (given_not_weak n s w wanted e.grown other may))

  swept_some : (kept : Id → Bool) (o : Option (Option (WeakEntry Id))) → IsSome o
      → IsSome (option_map (swept kept) o)
  swept_some kept None h = h
  swept_some kept (Some c) h = refl

  stays : (c : Cmd) (t : State) → Effect n s e c t → IsSome (get t.weak slot.0)
  stays c t (collects did) = subst IsSome (sym (did.collects.weak slot.0)) (swept_some _
      (get s.weak slot.0) held)
  stays c t (adds_entry key other f none may p q) = still_some s.weak other.0 _ slot.0 held
  stays c t (removes_entry key other x f p) = still_some s.weak other.0 None slot.0 held
  stays c t _ = held

  never_made : (c : Cmd) (t : State) → Effect n s e c t → makes_handle c e.reply ≡ true
      → e.slot ≡ Some slot → ⊥
  never_made c t (refused p) made given =
      false≢true (sym (ap is_done p) ∙ (and_parts (touched_by c).makes_handle (is_done e.reply) made).1)
  never_made c t (does_make_handle other at may p) made given =
      never_given _ other may (same_Some other slot (sym at ∙ given))
  never_made c t _ made given = false≢true made

  never_freed : (c : Cmd) (t : State) → Effect n s e c t → frees_handle c e.reply ≡ true
      → e.slot ≡ Some slot → ⊥
  never_freed c t (refused p) freed given =
      false≢true (sym (ap is_done p) ∙ (and_parts (touched_by c).frees_handle (is_done e.reply) freed).1)
  never_freed c t (does_free other handle f p q) freed given =
      none-some handle (sym (w.weak.apart slot.0 held)
      ∙ ap (λ (x : Slot). get s.handles x.0) (sym (same_Some other slot (sym q ∙ given))) ∙ f.live)
  never_freed c t _ freed given = false≢true freed

  not_back : (g : Grown) (block : ℕ) → g ≡ Zero → g ≡ Back block → ⊥
  not_back g block zero_is back = let same = sym zero_is ∙ back in cc

  same_block : {a b : ℕ} → Back a ≡ Back b → a ≡ b
  same_block same = cc

  never_may : (wanted : Kind) (other : Slot) (g : Grown) → MayGive n s wanted g other
      → g ≡ Back (block_of slot) → ⊥
  never_may wanted other Zero may back = let same = back in cc
  never_may wanted other (One b) may back = let same = back in cc
  never_may wanted other (Two b o) may back = let same = back in cc
  never_may wanted other (Back b) may back = may

  -- no way of a step gives the slot's block back
  way_keeps : (t : State) (way : Way) → TakesWay n s e t way → e.grown ≡ Back (block_of slot) → ⊥
  way_keeps t (decided r) h back = not_back e.grown _ h.grown back
  way_keeps t (makes_object d fields fin) h back = not_back e.grown _ h.1.grown back
  way_keeps t (makes_handle_way d given r) h back =
      ⊎_elim (λ m. never_may _ m.slot e.grown m.may back)
      (λ full. not_back e.grown _ full.refused.grown back) h
  way_keeps t (collects_way k) h back = not_back e.grown _ h.grown back
  way_keeps t (replies_address r) h back = not_back e.grown _ h.outcome.grown back
  way_keeps t (replies_root r) h back = not_back e.grown _ h.outcome.grown back
  way_keeps t (adds_entry_way v key) h back =
      ⊎_elim (λ a. never_may _ a.slot e.grown a.may back)
      (λ full. not_back e.grown _ full.refused.grown back) h
  way_keeps t (gives_back wanted) h back =
      ⊎_elim
      (λ (g : GivesBack s e t wanted). true≢false (sym held
      ∙ ap is_some (g.free slot (same_block (sym back ∙ g.grown))).not_weak))
      (λ none. not_back e.grown _ none.grown back) h

pub weak_slots_stay_held : WeakSlotsStayHeld
weak_slots_stay_held n s t e slot w step held =
    let does = effect n s e t step in
    record {
      held = stays n s w e slot held e.cmd t does;
      not_made = never_made n s w e slot held e.cmd t does;
      not_freed = never_freed n s w e slot held e.cmd t does;
      not_given_back = way_keeps n s w e slot held t (way_of s e.caller e.cmd) step.does;
    }
