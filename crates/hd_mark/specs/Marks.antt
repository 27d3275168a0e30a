-- The value of marks: what a collection has promoted and pinned, and what is still to be scanned. They are
-- this project's own, after the mark bits and the mark list of CoreCLR's collector in outline.
use Rattle.std.specs.Prelude.{◌≡◌, ℕ, ◌||◌, Bool, false, nat_lt, if◌then◌else◌, List, [], ◌∷◌, ◌++◌, refl}
use Rattle.std.specs.Coded.{Coded, code_by, coded×, coded_ℕ, coded_list}
use Rattle.std.specs.FinSet as set
use Rattle.std.specs.Ordering.{nat_cmp}
use Rattle.hd_model.specs.{declared.data.Addr.Addr, Scene.generation_at, Scene.IsCondemned, Marking.IsSettled, Marking.IsPromotionLog, Code.addr_code, Code.basis_code}
use Rattle.hd_model.specs.Heap.{Heap, Basis, objects_of}

-- the heap and the condemned generation, the addresses that are marked and pinned, and what is marked, in the
-- order of the marking: what was scanned, and then what was not
pub record MarksOf : Type 0 where
  pub basis : Basis
  pub marks : set.FinSet nat_cmp
  pub pins : set.FinSet nat_cmp
  pub scanned : List Addr
  pub unscanned : List Addr

abbrev pub marks_code : Coded MarksOf
marks_code =
    code_by (Basis × (set.FinSet nat_cmp × (set.FinSet nat_cmp × (List Addr × List Addr))))
    (coded× basis_code
    (coded× (set.code coded_ℕ)
    (coded× (set.code coded_ℕ) (coded× (coded_list addr_code) (coded_list addr_code)))))
    (λ m. (m.basis, (m.marks, (m.pins, (m.scanned, m.unscanned)))))
    (λ p. record {
      basis = p.0;
      marks = p.1.0;
      pins = p.1.1.0;
      scanned = p.1.1.1.0;
      unscanned = p.1.1.1.1;
    }) (λ _. refl)

-- what is marked, the first first
abbrev pub log_of : MarksOf → List Addr
log_of m = m.scanned ++ m.unscanned

-- the log of the first ends where that of the second goes on
abbrev pub GoesOn : MarksOf → MarksOf → Type 0
GoesOn old new = (more : List Addr) × (log_of new ≡ log_of old ++ more)

-- an object of a generation above the condemned one
abbrev pub is_older : Basis → Addr → Bool
is_older b a = nat_lt b.condemned (generation_at (objects_of b) a)

-- an object is promoted where it is older or marked
abbrev pub promoted_in : MarksOf → Addr → Bool
promoted_in m a = is_older m.basis a || set.contains m.marks a.0

-- an object is pinned where it is older, since only condemned objects move, or was pinned
abbrev pub pinned_in : MarksOf → Addr → Bool
pinned_in m a = is_older m.basis a || set.contains m.pins a.0

-- nothing is left to scan: what is promoted is closed under the fields of condemned objects, and the log has
-- what of it is condemned
pub record IsSettledMarks (m : MarksOf) : Type 0 where
  pub empty : m.unscanned ≡ []
  pub settled : IsSettled (objects_of m.basis) m.basis.condemned (promoted_in m)
  pub log : IsPromotionLog (objects_of m.basis) m.basis.condemned (promoted_in m) (log_of m)

-- no condemned object is promoted or pinned yet
abbrev pub HasNoneYet : MarksOf → Type 0
HasNoneYet m =
    (a : Addr) → IsCondemned (objects_of m.basis) m.basis.condemned a → (promoted_in m a ≡ false)
    × (pinned_in m a ≡ false)

-- the marks at first
abbrev pub first_marks : Heap → ℕ → MarksOf
first_marks h n = record {
  basis = record { heap = h; condemned = n };
  marks = set.empty;
  pins = set.empty;
  scanned = [];
  unscanned = [];
}

-- an object is marked and to be scanned, unless it is promoted
abbrev pub marked_also : MarksOf → Addr → MarksOf
marked_also m a = record m { marks = set.insert m.marks a.0; unscanned = m.unscanned ++ a ∷ [] }

abbrev pub pushed : MarksOf → Addr → MarksOf
pushed m a = if promoted_in m a then m else marked_also m a
