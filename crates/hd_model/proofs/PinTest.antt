-- The test for what is pinned, against its definition.
use Rattle.hd_model.proofs.Basics.{Bool, Decides, FinMap, Handle, Id, IsHeld, IsPinned, None, Option, Some, and_from, and_parts, ap, eq-eqb, eqb-true, false≢true, get, is_pinned, is_target, nat_cmp, pins, refl, true, values, ℕ, ◌&&◌, ◌∙◌, ◌≡◌}
use Rattle.hd_model.proofs.MapEntries.{value_of, value_found, any_from, any_of}
use Rattle.hd_model.proofs.KindExtras.{pins_hold}

pub target_is : (x : Id) (o : Option Id) → is_target x.0 o ≡ true → o ≡ Some x
target_is x None h = absurd (false≢true h)
target_is x (Some y) h = let same : y.0 ≡ x.0 = eqb-true y.0 x.0 h in λ i. Some (record { 0 = same i })

pub is_the_target : (x : Id) (o : Option Id) → o ≡ Some x → is_target x.0 o ≡ true
is_the_target x o e = ap (is_target x.0) e ∙ eq-eqb x.0 x.0 refl

-- the test decides what is pinned
pub pinned_decides : (handles : FinMap nat_cmp (Handle Id)) (x : Id)
    → Decides (is_pinned handles x.0) (IsPinned (λ slot. get handles slot) x)
pinned_decides handles x = (
  λ h.
      let test : Handle Id → Bool = λ g. pins g && is_target x.0 g.target in
      let (g, rest) = any_from test (values handles) h in
      let (slot, found) = value_found handles g rest.0 in
      let (pinning, target) = and_parts (pins g) (is_target x.0 g.target) rest.1 in
      record {
        slot = slot;
        handle = g;
        is_stored = found;
        pins = pinning;
        target = target_is x g.target target;
      },
  λ p. any_of (λ (g : Handle Id). pins g && is_target x.0 g.target) (values handles) p.handle
      (value_of handles p.slot p.handle p.is_stored)
      (and_from (pins p.handle) (is_target x.0 p.handle.target) p.pins
      (is_the_target x p.handle.target p.target)),
)

-- what is pinned is held
pub pinned_held : {N : Type 0} (rows : ℕ → Option (Handle N)) (x : N) → IsPinned rows x → IsHeld rows x
pinned_held rows x p = record {
  slot = p.slot;
  handle = p.handle;
  is_stored = p.is_stored;
  holds = pins_hold p.handle.kind p.handle.extra p.pins;
  target = p.target;
}
