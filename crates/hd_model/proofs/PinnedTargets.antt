-- The targets of pinning handles have a number.
use Rattle.hd_model.proofs.Basics.{Addr, Bool, Counts, Decides, Handle, IsPinned, None, Option, Some, and_from, and_parts, ap, eq-eqb, eqb-true, false, false≢true, get, is_object, is_some, len, list_any, option_map, pins, refl, sym, true, values, ℕ, ◌&&◌, ◌==◌, ◌∙◌, ◌≡◌}
use Rattle.hd_model.specs.Heap.{Heap, Placed, object_at, object_in, region_generation, region_of}
use Rattle.hd_model.specs.Table.{Table, row_at}
use Rattle.hd_model.proofs.MapEntries.{value_of, value_found, any_from, any_of, counts_keys}
use Rattle.hd_model.proofs.PropertyCounts.{counts_like, counts_where}

-- whether a target is at an address
abbrev pub is_at : Addr → Option Addr → Bool
is_at x None = false
is_at x (Some y) = y.0 == x.0

-- whether some handle pins what is at an address
abbrev pub is_pinned_at : Table → Addr → Bool
is_pinned_at t x = list_any (λ h. pins h && is_at x h.target) (values t.rows)

at_is : (x : Addr) (o : Option Addr) → is_at x o ≡ true → o ≡ Some x
at_is x None h = absurd (false≢true h)
at_is x (Some y) h = let same : y.0 ≡ x.0 = eqb-true y.0 x.0 h in λ i. Some (record { 0 = same i })

is_the_target : (x : Addr) (o : Option Addr) → o ≡ Some x → is_at x o ≡ true
is_the_target x o e = ap (is_at x) e ∙ eq-eqb x.0 x.0 refl

pub pinned_decides : (t : Table) (x : Addr) → Decides (is_pinned_at t x) (IsPinned (row_at t) x)
pinned_decides t x = (
  λ h.
      let test : Handle Addr → Bool = λ g. pins g && is_at x g.target in
      let (g, rest) = any_from test (values t.rows) h in
      let (slot, found) = value_found t.rows g rest.0 in
      let (pinning, target) = and_parts (pins g) (is_at x g.target) rest.1 in
      record { slot = slot; handle = g; is_stored = found; pins = pinning; target = at_is x g.target target },
  λ p. any_of (λ (g : Handle Addr). pins g && is_at x g.target) (values t.rows) p.handle
      (value_of t.rows p.slot p.handle p.is_stored)
      (and_from (pins p.handle) (is_at x p.handle.target) p.pins (is_the_target x p.handle.target p.target)),
)

-- the objects of a heap have the number of its entries
pub counts_objects : (h : Heap) → Counts (λ x. is_object (object_at h) x ≡ true) (len h.objects)
counts_objects h =
    counts_like (λ (x : Addr). is_some (get h.objects x.0) ≡ true) (λ x. is_object (object_at h) x ≡ true)
    (len h.objects) (λ x e. by x (get h.objects x.0) ∙ e) (λ x e. sym (by x (get h.objects x.0)) ∙ e)
    (counts_keys h.objects (λ k. record { 0 = k }) (λ (x : Addr). x.0) (λ k. refl) (λ x. refl))
  where
    by : (x : Addr) (o : Option Placed)
        → is_some (option_map (object_in (region_generation h (region_of x))) o) ≡ is_some o
    by x None = refl
    by x (Some p) = refl

-- where all targets are objects, those of pinning handles have a number
pub pinned_count : (h : Heap) (t : Table)
    → ((x : Addr) → IsPinned (row_at t) x → is_object (object_at h) x ≡ true)
    → (k : ℕ) × Counts (IsPinned (row_at t)) k
pinned_count h t objects =
    let (k, of_k) =
    counts_where (λ x. is_object (object_at h) x ≡ true) (is_pinned_at t) (len h.objects) (counts_objects h)
    in (
      k,
      counts_like (λ x. (is_object (object_at h) x ≡ true) × (is_pinned_at t x ≡ true)) (IsPinned (row_at t))
          k (λ x w. (pinned_decides t x).0 w.1) (λ x p. (objects x p, (pinned_decides t x).1 p)) of_k,
    )
