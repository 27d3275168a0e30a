-- The slots of the handles that are shown.
use Rattle.std.proofs.Common.{List, [], ap, map, refl, ℕ, ◌∷◌, ◌≡◌}
use Rattle.hd_model.specs.declared.data.Id.{Id}
use Rattle.hd_model.specs.State.{Handle}
use Rattle.hd_seen.specs.Seen.{handle_seen}
use Rattle.hd_show.specs.Laws.{HandlesHaveOneLine, slot_of}
use Rattle.std.specs.FinMap.{entries}

slots_seen : (ages : List ℕ) (es : List (ℕ × Handle Id))
    → map slot_of (map (handle_seen ages) es) ≡ map (λ (e : ℕ × Handle Id). e.0) es
slots_seen ages [] = refl
slots_seen ages (e ∷ es) = ap (λ xs. e.0 ∷ xs) (slots_seen ages es)

pub handles_have_one_line : HandlesHaveOneLine
handles_have_one_line n s ages h t = slots_seen ages (entries s.handles)
