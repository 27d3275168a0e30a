-- A command ages the clumps of a table, and those of blocks that it does not have so far stay at 2.
use Rattle.std.proofs.Common.{Bool, List, None, Option, Some, ap, arith, cond, false, inl, inr, is_some, length, min, refl, replicate, set, subst, suc, sym, true, zero, ℕ, ◌*◌, ◌+◌, ◌++◌, ◌/◌, ◌<◌, ◌∙◌, ◌∷◌, ◌≡◌}
use Rattle.std.proofs.lemmas.Bool.{true≢false}
use Rattle.std.proofs.lemmas.List.{get_or_append_left, length-map, length-set, map-append, set-append_left}
use Rattle.std.specs.Option.{option_map_or}
use Rattle.std.specs.Prelude.{IsSome, map, nat_lt}
use Rattle.hd_model.proofs.Effects.{Effect, MayHold, adds_entry, collects, effect, makes_handle, refused, sets_secondary, sets_target}
use Rattle.hd_model.specs.{declared.class.Class.Class, declared.command.Cmd.Cmd, declared.data.Entry.Entry, declared.data.Grown.Grown, declared.data.Id.Id, declared.data.Kind.Kind, declared.data.Make.Make, declared.data.Slot.Slot, Class.class_of, Kinds.secondary_register}
use Rattle.hd_model.specs.Ages.{age_of, clump_of, grown, lowered, raised}
use Rattle.hd_model.specs.Aging.{aged_by, aged_by_class, aged_by_command, is_refused, lowered_at, lowered_by_new, lowered_to}
use Rattle.hd_model.specs.Scene.{generation_at, scene_of}
use Rattle.hd_model.specs.State.{Numbers, State, handle_register_of, register_of, use_of}
use Rattle.hd_model.specs.Step.{MayGive, Step}
use Rattle.hd_model.specs.WellFormed.{HasHandles, HasWeakTable}
use Rattle.hd_model.specs.declared.class.Class.TheVariants as class
use Rattle.hd_model.specs.declared.data.Grown.TheVariants.{Back, One, Two, Zero}
use Rattle.hd_model.specs.declared.limits.TheConstants.{CLUMPS, OLDEST, ROWS}

-- ---- as many ages as before

length_at : (ages : List ℕ) (o : Option Slot) (g : ℕ) → length (lowered_at ages o g) ≡ length ages
length_at ages None g = refl
length_at ages (Some slot) g = length-set ages (clump_of slot.0) (min (age_of ages slot.0) g)

length_to : (s : State) (ages : List ℕ) (o : Option Slot) (x : Option Id)
    → length (lowered_to s ages o x) ≡ length ages
length_to s ages o None = refl
length_to s ages o (Some x) = length_at ages o (generation_at (scene_of s).object x)

length_new : (s : State) (ages : List ℕ) (o : Option Slot) (make : Make) (x : Option Id)
    → length (lowered_by_new s ages o make x) ≡ length ages
length_new s ages o make x = by (secondary_register make)
  where
    by : (r : Option ℕ)
        → length (option_map_or (λ _. lowered_at ages o 0) r (lowered_to s ages o x)) ≡ length ages
    by None = length_to s ages o x
    by (Some k) = length_at ages o 0

length_class : (s : State) (caller : ℕ) (o : Option Slot) (ages : List ℕ) (c : Class)
    → length (aged_by_class s caller o ages c) ≡ length ages
length_class s caller o ages (class.TakesSlot make t) = length_new s ages o make (register_of s caller t)
length_class s caller o ages (class.StoresTarget h t) =
    length_to s ages (handle_register_of s caller h) (register_of s caller t)
length_class s caller o ages (class.StoresSecondary h) = length_at ages (handle_register_of s caller h) 0
length_class s caller o ages (class.Collects n) = length-map ages (raised n)
length_class s caller o ages (class.AddsEntry k v) = length_at ages o 0
length_class s caller o ages _ = refl

pub length_aged : (s : State) (e : Entry) (ages : List ℕ) → length (aged_by s e ages) ≡ length ages
length_aged s e ages = by (is_refused e.reply)
  where
    by : (b : Bool) → length (cond b ages (aged_by_command s e.caller e.slot ages e.cmd)) ≡ length ages
    by true = refl
    by false = length_class s e.caller e.slot ages (class_of e.cmd)

-- ---- more ages

raised_oldest : (n : ℕ) → raised n OLDEST ≡ OLDEST
raised_oldest n = by (nat_lt n OLDEST)
  where
    by : (b : Bool) → cond b OLDEST (min (OLDEST + 1) OLDEST) ≡ OLDEST
    by true = refl
    by false = refl

all_oldest : (n count : ℕ) → map (raised n) (replicate count OLDEST) ≡ replicate count OLDEST
all_oldest n zero = refl
all_oldest n (suc count) = λ i. raised_oldest n i ∷ all_oldest n count i

module _ (ages more : List ℕ) where
  lowered_left : (slot g : ℕ) → clump_of slot < length ages
      → lowered (ages ++ more) slot g ≡ lowered ages slot g ++ more
  lowered_left slot g low =
      ap (λ x. set (ages ++ more) (clump_of slot) (min x g)) (get_or_append_left ages more 0 (clump_of slot) low)
      ∙ set-append_left ages more (clump_of slot) (min (age_of ages slot) g) low

  module _ {o : Option Slot} (slot : Slot) (is : o ≡ Some slot) (low : clump_of slot.0 < length ages) where
    at_left : (g : ℕ) → lowered_at (ages ++ more) o g ≡ lowered_at ages o g ++ more
    at_left g = subst (λ x. lowered_at (ages ++ more) x g ≡ lowered_at ages x g ++ more) (sym is)
        (lowered_left slot.0 g low)

    to_left : (s : State) (x : Option Id) → lowered_to s (ages ++ more) o x ≡ lowered_to s ages o x ++ more
    to_left s None = refl
    to_left s (Some x) = at_left (generation_at (scene_of s).object x)

    new_left : (s : State) (make : Make) (x : Option Id)
        → lowered_by_new s (ages ++ more) o make x ≡ lowered_by_new s ages o make x ++ more
    new_left s make x = by (secondary_register make)
      where
        by : (r : Option ℕ)
            → option_map_or (λ _. lowered_at (ages ++ more) o 0) r (lowered_to s (ages ++ more) o x)
            ≡ option_map_or (λ _. lowered_at ages o 0) r (lowered_to s ages o x) ++ more
        by None = to_left s x
        by (Some k) = at_left 0

-- ---- the clumps of a table

module _ (n : Numbers) (s : State) (handles : HasHandles n s) (weak : HasWeakTable s) (ages : List ℕ)
    (long : length ages ≡ CLUMPS * n.blocks) where
  low_in : (slot : ℕ) → IsSome (use_of s (slot / ROWS)) → clump_of slot < length ages
  low_in slot used =
      let inside = handles.blocks (slot / ROWS) used in omega (arith, inside.0, inside.1, long)

  low_given : (k : Kind) (g : Grown) (slot : Slot) → MayGive n s k g slot → clump_of slot.0 < length ages
  low_given k Zero slot may = low_in slot.0 (ap is_some may.of_kind)
  low_given k (One block) slot may =
      omega (arith, may.1.low, may.1.high, ap (λ (x : Slot). x.0) may.2, long)
  low_given k (Two block other) slot may =
      omega (arith, may.1.low, may.1.high, ap (λ (x : Slot). x.0) may.3, long)
  low_given k (Back block) slot may = absurd may

  low_held : (g : Grown) (slot : Slot) → MayHold n s g slot → clump_of slot.0 < length ages
  low_held g slot (inl idle) = low_in slot.0 (ap is_some (weak.kinds slot.0 (ap is_some idle.0)))
  low_held g slot (inr may) = low_given _ g slot may

  module _ (e : Entry) (t : State) (count : ℕ) where
    abbrev more : List ℕ
    more = replicate count OLDEST

    abbrev Ages : Cmd → Type 0
    Ages c = aged_by_class s e.caller e.slot (ages ++ more) (class_of c)
        ≡ aged_by_class s e.caller e.slot ages (class_of c) ++ more

    by_effect : (c : Cmd) (t : State) → Effect n s e c t → is_refused e.reply ≡ false → Ages c
    by_effect c t (refused p) done = absurd (true≢false (sym (ap is_refused p) ∙ done))
    by_effect c t (collects {k = k} did) done =
        map-append (raised k) ages more ∙ ap (λ xs. grown k ages ++ xs) (all_oldest k count)
    by_effect c t (makes_handle {t = r} {given = make} slot at may p) done =
        new_left ages more slot at (low_given _ e.grown slot may) s make (register_of s e.caller r)
    by_effect c t (sets_target {t = r} slot handle f p) done =
        to_left ages more slot f.names (low_in slot.0 (ap is_some (handles.kinds slot.0 handle f.live))) s
        (register_of s e.caller r)
    by_effect c t (sets_secondary slot handle f k l p) done =
        at_left ages more slot f.names (low_in slot.0 (ap is_some (handles.kinds slot.0 handle f.live))) 0
    by_effect c t (adds_entry key slot f none may p q) done =
        at_left ages more slot q (low_held e.grown slot may) 0
    by_effect c t _ done = refl

    pub aged_wider : Step n s e t → aged_by s e (ages ++ more) ≡ aged_by s e ages ++ more
    aged_wider step = by (is_refused e.reply) refl
      where
        by : (b : Bool) → is_refused e.reply ≡ b
            → cond b (ages ++ more) (aged_by_command s e.caller e.slot (ages ++ more) e.cmd)
            ≡ cond b ages (aged_by_command s e.caller e.slot ages e.cmd) ++ more
        by true is = refl
        by false is = by_effect e.cmd t (effect n s e t step) is
