-- Marks that promote from one set after another, and from the members of a list one by one.
use Rattle.hd_gc.proofs.Basics.{Addr, Basis, Contains, Contains-append_left, Contains-push, Contains-push_cases, Grows, IsSettledMarks, IsTracing, IsYoungField, List, MarksOf, MayPromote, Promotes, Table, [], ap, due_again, get_or, grows_like, grows_none, grows_on, is_object, length, objects_of, promoted_in, refl, subst, sym, take, take-length, take_more, true, ℕ, ⊎_elim, ◌++◌, ◌+◌, ◌<◌, ◌∙◌, ◌∷◌, ◌≡◌, ◌⊎◌}

-- settled marks may promote what is in a set of objects of their heap
pub may_promote : {S : Addr → Type 0} {g : Basis} {m : MarksOf} → IsSettledMarks m → m.basis ≡ g
    → ((x : Addr) → S x → is_object (objects_of g) x ≡ true) → MayPromote S m
may_promote {S} {g} {m} settled basis objects = record {
  settled = settled;
  objects = subst (λ (f : Basis). (x : Addr) → S x → is_object (objects_of f) x ≡ true) (sym basis) objects;
}

-- more is promoted or pinned
pub tracing_on : {g : Basis} {t : Table} {ages : List ℕ} {m k : MarksOf} → IsTracing g t ages m
    → IsSettledMarks k → k.basis ≡ m.basis → IsTracing g t ages k
tracing_on s settled basis = record {
  settled = settled;
  basis = basis ∙ s.basis;
  due = due_again basis refl s.due;
}

pub promotes_none : (S : Addr → Type 0) (m : MarksOf) → IsSettledMarks m → ((x : Addr) → S x → ⊥)
    → Promotes S m m
promotes_none S m settled never = record {
  settled = settled;
  basis = refl;
  pinned = refl;
  grows = grows_none (IsYoungField (objects_of m.basis) m.basis.condemned) S (promoted_in m) never;
}

pub promotes_like : (S T : Addr → Type 0) (m k : MarksOf) → ((x : Addr) → S x → T x)
    → ((x : Addr) → T x → S x) → Promotes S m k → Promotes T m k
promotes_like S T m k to back a = record {
  settled = a.settled;
  basis = a.basis;
  pinned = a.pinned;
  grows =
      grows_like (IsYoungField (objects_of m.basis) m.basis.condemned) S T (promoted_in m) (promoted_in k) to
      back a.grows;
}

-- an edge of a collection: a field of a condemned object
abbrev pub Edge : MarksOf → Addr → Addr → Type 0
Edge m = IsYoungField (objects_of m.basis) m.basis.condemned

-- one growth after another, over one basis
pub grows_after : (S T : Addr → Type 0) (m k o : MarksOf) → k.basis ≡ m.basis
    → Grows (Edge m) S (promoted_in m) (promoted_in k) → Grows (Edge k) T (promoted_in k) (promoted_in o)
    → Grows (Edge m) (λ x. S x ⊎ T x) (promoted_in m) (promoted_in o)
grows_after S T m k o basis a b =
    grows_on (Edge m) S T (promoted_in m) (promoted_in k) (promoted_in o) a
    (subst (λ (g : Basis). Grows (IsYoungField (objects_of g) g.condemned) T (promoted_in k) (promoted_in o))
    basis b)

pub promotes_on : (S T : Addr → Type 0) (m k o : MarksOf) → Promotes S m k → Promotes T k o
    → Promotes (λ x. S x ⊎ T x) m o
promotes_on S T m k o a b = record {
  settled = b.settled;
  basis = b.basis ∙ a.basis;
  pinned = b.pinned ∙ a.pinned;
  grows = grows_after S T m k o a.basis a.grows b.grows;
}

-- from the first members of a list of references to one more
pub promoted_next : {A : Type 0} (name : Addr → A) (xs : List A) (i : ℕ) (d : A) → i < length xs
    → {m k o : MarksOf} → Promotes (λ x. Contains (take i xs) (name x)) m k
    → Promotes (λ x. get_or xs i d ≡ name x) k o → Promotes (λ x. Contains (take (i + 1) xs) (name x)) m o
promoted_next name xs i d l {m} {k} {o} done step =
    promotes_like (λ x. Contains (take i xs) (name x) ⊎ (get_or xs i d ≡ name x))
    (λ x. Contains (take (i + 1) xs) (name x)) m o
    (λ x h. subst (λ ys. Contains ys (name x)) (sym (take_more xs i d l))
    (⊎_elim (λ early. Contains-append_left (take i xs) (get_or xs i d ∷ []) (name x) early)
    (λ here. subst (Contains (take i xs ++ get_or xs i d ∷ [])) here
    (Contains-push (take i xs) (get_or xs i d))) h))
    (λ x h. Contains-push_cases (take i xs) (get_or xs i d) (name x)
    (subst (λ ys. Contains ys (name x)) (take_more xs i d l) h))
    (promotes_on (λ x. Contains (take i xs) (name x)) (λ x. get_or xs i d ≡ name x) m k o done step)

pub promoted_all : {A : Type 0} (name : Addr → A) (xs : List A) (i : ℕ) (m k : MarksOf) → i ≡ length xs
    → Promotes (λ x. Contains (take i xs) (name x)) m k → Promotes (λ x. Contains xs (name x)) m k
promoted_all name xs i m k e a =
    subst (λ ys. Promotes (λ x. Contains ys (name x)) m k) (ap (λ j. take j xs) e ∙ take-length xs) a
