-- What the rule says where the gate is free.
use Rattle.hd_custody.proofs.Basics.{BLOCKS, Custodied, FIRST_MASK, Ghosts, List, Numbers, Option, Some, State, View, [], ap, arith, cases_lt, changed, get_or, inl, inr, kind_word, part_of, sym, ◌∙◌, ◌∷◌, ◌≡◌, ◌<◌, ◌+◌, ℕ}
use Rattle.hd_custody.specs.Laws.{HasTheWorld, AFreeGateHasTheWorld}
use Rattle.hd_custody.proofs.SlotWeights.{kind_word_is}
use mathlib.Core.Option.{some}

module _ {W : Type 0} {m : Ghosts W} {numbers : Numbers} {s : State (Option W) (View W)}
    (c : Custodied m numbers s) (free : get_or s.words 0 0 ≡ 0) where
  stored : (s.homes ≡ some (Some c.world) ∷ []) × (c.changes ≡ [])
  stored = elim c.gate.free_or_held [
    | inl f ↦ (f.1, f.2)
    | inr h ↦ absurd (let one = h.0 in omega arith)
  ]

  has_the_world : HasTheWorld m numbers s c.world
  has_the_world = record {
    stored = stored.0;
    sized = c.sized;
    kinds = λ b real lt. kind_word_is s.words b lt ∙ c.kinds b real lt
        ∙ ap (λ cs. changed cs (m.kind c.world) b) stored.1;
    parts = λ i v at lives. (let f = c.seats.each i v at lives in (f.own_part, f.has_seen));
    ended_parts = λ i v at lives k e there.
        (let h = (c.seats.each i v at lives).ended_parts k e there in (h.2, h.3));
    others = λ n. elim (cases_lt n c.made) [
      | inl low ↦ inr (c.seats.kept n low)
      | inr over ↦ inl (c.seats.unmade n over)
    ];
    sound = c.sound;
  }

pub a_free_gate_has_the_world : {W : Type 0} (m : Ghosts W) → AFreeGateHasTheWorld m
a_free_gate_has_the_world m numbers s rule free = (rule.world, has_the_world rule free)
