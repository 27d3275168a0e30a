-- What holds of one basis and one table holds of equal ones.
use Rattle.hd_model.proofs.Basics.{Kind, List, [], ap, kind_number, length, slice_index_or, subst, sum_by, sym, visits, ℕ, ◌*◌, ◌∙◌, ◌≡◌}
use Rattle.hd_model.specs.{Heap.Basis, Heap.objects_of, Table.Table, Table.row_at}
use Rattle.hd_model.specs.Visits.{visits_of, visits_over, MayVisitDue, IsSameTable}
use Rattle.hd_model.proofs.RowReferences.{Fades, faded_names, faded_ages}

-- a table of which only rows differ has the same clumps and visits
pub clumps_same : (t u : Table) (ages : List ℕ) → IsSameTable t u → length ages ≡ 4 * t.blocks
    → length ages ≡ 4 * u.blocks
clumps_same t u ages same e = e ∙ ap (λ k. 4 * k) (sym same.blocks)

pub visits_same : (t u : Table) (ages : List ℕ) (n : ℕ) (k : Kind) → IsSameTable t u
    → visits_of u ages n k ≡ visits_of t ages n k
visits_same t u ages n k same =
    ap (λ chains. visits ages n (slice_index_or chains (kind_number k) [])) same.chains

pub same_table_on : (t u v : Table) → IsSameTable t u → IsSameTable u v → IsSameTable t v
same_table_on t u v a b = record {
  chains = b.chains ∙ a.chains;
  uses = b.uses ∙ a.uses;
  blocks = b.blocks ∙ a.blocks;
}

pub visits_alike : (t u : Table) (ages : List ℕ) (n : ℕ) (ks : List Kind) → IsSameTable t u
    → visits_over u ages n ks ≡ visits_over t ages n ks
visits_alike t u ages n ks same =
    ap (λ chains. sum_by (λ (k : Kind). visits ages n (slice_index_or chains (kind_number k) [])) ks)
    same.chains

-- a pass may visit what is equal, and rows that reference no more than before
pub due_again : {g f : Basis} {t u : Table} {ages : List ℕ} {n : ℕ} → f ≡ g → u ≡ t
    → MayVisitDue g t ages n → MayVisitDue f u ages n
due_again {g} {f} {t} {u} {ages} {n} basis table w =
    subst (λ (k : Basis). MayVisitDue k u ages n) (sym basis)
    (subst (λ (v : Table). MayVisitDue g v ages n) (sym table) w)

pub due_faded : {g : Basis} {t u : Table} {ages : List ℕ} {n : ℕ} → IsSameTable t u
    → Fades (row_at t) (row_at u) → MayVisitDue g t ages n → MayVisitDue g u ages n
due_faded {g} {t} {u} {ages} same fades w = record {
  visit = record {
    generation = w.visit.generation;
    names = faded_names (row_at t) (row_at u) (objects_of g) fades w.visit.names;
    covers = clumps_same t u ages same w.visit.covers;
  };
  sound = faded_ages (row_at t) (row_at u) (objects_of g) fades ages w.sound;
}
