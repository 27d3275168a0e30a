-- What the marking comes to, part by part.
use Rattle.hd_gc.proofs.Basics.{Bool, Contains, Counts, Decides, Grows, IsClosed, IsClosure, IsEdge, IsField, IsHeld, IsOut, IsReached, IsRoot, IsYoungField, Leads, List, Objects, Resurrection, Resurrects, Rows, Scene, Some, decides_reached, generation_at, grown_within, held, inl, inr, leads_like, leads_on, named, nil_from_length, not_in_none, older, queued, reached_on, root_reached, subst, true, ℕ, ⊎_elim, ◌<◌, ◌≡◌, ◌⊎◌}

-- a field of a condemned object is an edge
pub young_edge : {N : Type 0} (o : Objects N) (rows : Rows N) (n : ℕ) (x y : N) → IsYoungField o n x y
    → IsEdge o rows x y
young_edge o rows n x y e = inl e.field

-- what a collection starts from, besides older objects: what the roots reference, the queue, what handles
-- hold, and what a set of fields of older objects references
abbrev pub Starts : {N : Type 0} → Scene N → (N → Type 0) → N → Type 0
Starts s F x = ((Contains s.named (Some x) ⊎ Contains s.queue x) ⊎ IsHeld s.handle x) ⊎ F x

-- from older objects and all these, and then along all edges, exactly what is reached is promoted
module _ {N : Type 0} (s : Scene N) (n : ℕ) (F : N → Type 0) (p r q : N → Bool)
    (starts : (x : N) → p x ≡ true → n < generation_at s.object x)
    (has_older : (x : N) → n < generation_at s.object x → p x ≡ true)
    (fields : (y : N) → F y → (x : N) × ((n < generation_at s.object x) × IsField s.object x y))
    (grows : Grows (IsYoungField s.object n) (Starts s F) p r)
    (closure : IsClosure (IsEdge s.object s.handle) r q) where
  roots_in : (x : N) → IsRoot s n x → q x ≡ true
  roots_in x (named h) = closure.keeps x (grows.joins x (inl (inl (inl h))))
  roots_in x (queued h) = closure.keeps x (grows.joins x (inl (inl (inr h))))
  roots_in x (held h) = closure.keeps x (grows.joins x (inl (inr h)))
  roots_in x (older l) = closure.keeps x (grows.keeps x (has_older x l))

  start_reached : (x : N) → Starts s F x → IsReached s n x
  start_reached x (inl (inl (inl h))) = root_reached n s x (named h)
  start_reached x (inl (inl (inr h))) = root_reached n s x (queued h)
  start_reached x (inl (inr h)) = root_reached n s x (held h)
  start_reached x (inr f) =
      let (y, both) = fields x f in reached_on n s y x (root_reached n s y (older both.0)) (inl both.1)

  pub traced : (x : N) → Decides (q x) (IsReached s n x)
  traced =
      decides_reached s n q roots_in closure.closed (λ x h.
      let (y, rest) = closure.only x h in
      let (root, chain) =
      grown_within (IsYoungField s.object n) (Starts s F) (IsReached s n) p r
      (λ x y h e. reached_on n s x y h (inl e.field)) (λ x h. root_reached n s x (older (starts x h)))
      start_reached grows y rest.0 in
      (root, (chain.0, leads_on (IsEdge s.object s.handle) chain.1 rest.1)))

-- what is out and joins, and what chains lead to from there
pub resurrection : {N : Type 0} {rank : N → ℕ} (s : Scene N) {n : ℕ} {p r q : N → Bool} {after : List N}
    → Resurrects rank s.object n p r s.queue after → IsClosure (IsEdge s.object s.handle) r q
    → Resurrection rank s n p q after
resurrection {N} {rank} s {n} {p} by_out closure = record {
  keeps = λ x h. closure.keeps x (by_out.grows.keeps x h);
  resurrects = λ x h. closure.keeps x (by_out.grows.joins x h);
  closed = closure.closed;
  only = λ x h.
      let (y, rest) = closure.only x h in
      ⊎_elim (λ in_p. (y, (inl in_p, rest.1)))
      (λ (w : (z : N) × (IsOut s.object n p z × Leads (IsYoungField s.object n) z y)). (
        w.0,
        (
          inr w.1.0,
          leads_on (IsEdge s.object s.handle)
              (leads_like (IsYoungField s.object n) (IsEdge s.object s.handle)
              (young_edge s.object s.handle n) w.1.1) rest.1,
        ),
      ))
      (by_out.grows.only y rest.0);
  joins = by_out.joins;
  queue_is = by_out.queue_is;
  joins_are = λ x. (by_out.each x, by_out.all x);
  rising = by_out.rising;
}

-- nothing has a property that is counted to be of nothing
nobody : {N : Type 0} {P : N → Type 0} → Counts P 0 → (x : N) → P x → ⊥
nobody none x has =
    not_in_none x (subst (λ xs. Contains xs x) (nil_from_length none.members none.number) (none.all x has))

-- nothing is out: then nothing joins, and what was closed is its own closure
module _ {N : Type 0} {rank : N → ℕ} (s : Scene N) {n : ℕ} {p r : N → Bool} {after : List N}
    (by_out : Resurrects rank s.object n p r s.queue after) (none : Counts (IsOut s.object n p) 0) where
  as_before : (x : N) → r x ≡ true → p x ≡ true
  as_before x h =
      ⊎_elim (λ was. was)
      (λ (w : (z : N) × (IsOut s.object n p z × Leads (IsYoungField s.object n) z x)).
      absurd (nobody none w.0 w.1.0)) (by_out.grows.only x h)

  pub closure_alone : IsClosed (IsEdge s.object s.handle) p → IsClosure (IsEdge s.object s.handle) r r
  closure_alone closed = record {
    keeps = λ x h. h;
    closed = λ x y h e. by_out.grows.keeps y (closed x y (as_before x h) e);
    only = λ x h. (x, (h, Leads.here));
  }
