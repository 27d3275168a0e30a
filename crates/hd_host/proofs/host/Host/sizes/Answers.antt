use Rattle.std.proofs.Common.{List, [], ap, slice_index, subst, ℕ, ◌∙◌, ◌∷◌, ◌≡◌, None, Some}
use Rattle.std.specs.FinMap.{get}
use Rattle.hd_model.specs.{Counting.Counts, Kinds.kind_number, State.IsFree, declared.data.Kind.Kind}
use Rattle.hd_model.specs.declared.data.Kind.TheVariants as kind
use Rattle.hd_store.specs.{Growth.with_blocks, Sizes.HasSize, Sizes.IsWhole, Store.Machine}
use Rattle.hd_host.specs.View.{HostView}
use Rattle.hd_host.proofs.host.Host.sizes.Goals as goal

-- seven numbers, one of each kind
by_kind : (P : Kind → ℕ → Type 0) {short long strong pinned variable counted dependent : ℕ} → P kind.Short short
    → P kind.Long long → P kind.Strong strong → P kind.Pinned pinned → P kind.Variable variable
    → P kind.Counted counted → P kind.Dependent dependent → (k : Kind)
    → P k (slice_index (short ∷ long ∷ strong ∷ pinned ∷ variable ∷ counted ∷ dependent ∷ []) (kind_number k))
by_kind P a b c d e f g kind.Short = a
by_kind P a b c d e f g kind.Long = b
by_kind P a b c d e f g kind.Strong = c
by_kind P a b c d e f g kind.Pinned = d
by_kind P a b c d e f g kind.Variable = e
by_kind P a b c d e f g kind.Counted = f
by_kind P a b c d e f g kind.Dependent = g

pub returns : goal.returns
returns c =
    let same : with_blocks c.self.inside.limit c.contents-store.result.now ≡ c.args.self.now.machine =
    ap (with_blocks c.self.inside.limit) c.contents-store.ensures.value
    ∙ ap (λ (v : HostView). v.machine) c.self.view_is in
    let heap = c.sizes.ensures in
    let free : List ℕ = c.free_slots.result ∷ c.free_slots-2.result ∷ c.free_slots-3.result ∷ c.free_slots-4.result
    ∷ c.free_slots-5.result ∷ c.free_slots-6.result ∷ c.free_slots-7.result ∷ [] in
    record {
      youngest = subst (λ (m : Machine). HasSize m 0 c.sizes.result.youngest) same (record {
        objects = heap.youngest.objects;
        cells = heap.youngest.cells;
        regions = heap.youngest.regions;
      });
      middle = subst (λ (m : Machine). HasSize m 1 c.sizes.result.middle) same (record {
        objects = heap.middle.objects;
        cells = heap.middle.cells;
        regions = heap.middle.regions;
      });
      oldest = subst (λ (m : Machine). HasSize m 2 c.sizes.result.oldest) same (record {
        objects = heap.oldest.objects;
        cells = heap.oldest.cells;
        regions = heap.oldest.regions;
      });
      whole = subst (λ (m : Machine). IsWhole m c.sizes.result) same (record {
        objects = heap.whole.objects;
        cells = heap.whole.cells;
        regions = heap.whole.regions;
      });
      free = λ k. subst (λ (m : Machine). Counts (IsFree m.state k) (slice_index free (kind_number k))) same
          (by_kind (λ x. Counts (IsFree c.contents-store.result.now.state x)) c.free_slots.ensures
          c.free_slots-2.ensures c.free_slots-3.ensures c.free_slots-4.ensures c.free_slots-5.ensures
          c.free_slots-6.ensures c.free_slots-7.ensures k);
      idle = subst (λ (m : Machine). Counts (λ (slot : ℕ). get m.state.weak slot ≡ Some None) c.idle_slots.result) same
          c.idle_slots.ensures;
    }
