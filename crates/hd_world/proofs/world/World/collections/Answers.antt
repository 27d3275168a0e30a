use Rattle.hd_store.proofs.StoreWords.{Entry, List, Some, [], ap, arith, collections_of, cond, get_or, is_collect, length, refl, slice_get, suc, sum_by_more, sym, take, zero, ℕ, ◌+◌, ◌<◌, ◌∙◌, ◌∷◌, ◌≡◌}
use Rattle.hd_world.proofs.world.World.collections.Goals.{Joined-is_collect, then-is_collect, else-is_collect}
use Rattle.hd_world.proofs.world.World.collections.Goals as goal

-- the entry that is read is the one at its index
at_address : (xs : List Entry) (i : ℕ) (e : Entry) → slice_get xs i ≡ Some e → get_or xs i e ≡ e
at_address [] i e is = refl
at_address (x ∷ xs) zero e is = cc
at_address (x ∷ xs) (suc i) e is = at_address xs i e is

-- one more entry counts if it is a collection
more : (xs : List Entry) (i : ℕ) (e : Entry) → i < length xs → slice_get xs i ≡ Some e
    → collections_of (take (i + 1) xs) ≡ collections_of (take i xs) + cond (is_collect e.cmd) 1 0
more xs i e within is =
    sum_by_more (λ (x : Entry). cond (is_collect x.cmd) 1 0) xs i e within
    ∙ ap (λ (x : Entry). collections_of (take i xs) + cond (is_collect x.cmd) 1 0) (at_address xs i e is)

step : (c : Joined-is_collect) → collections_of (take (c.loop-i.i + 1) c.self.inside.journal.entries)
    ≡ collections_of (take c.loop-i.i c.self.inside.journal.entries) + cond c.is_collect.result 1 0
step c =
    let within : c.loop-i.i < length c.self.inside.journal.entries =
    omega (arith, c.loop-i-test.true, c.len-i-end.ensures.value) in
    more c.self.inside.journal.entries c.loop-i.i c.entry.result within c.entry.ensures
    ∙ ap (λ b. collections_of (take c.loop-i.i c.self.inside.journal.entries) + cond b 1 0)
    (sym c.is_collect.ensures)

pub loop-i-preserved : goal.loop-i-preserved
loop-i-preserved c =
    elim c.if-is_collect.branch [
      | then-is_collect w ↦ let one = ap (λ b. cond {A = ℕ} b 1 0) w.if-is_collect.true in
          record {
            counted = omega (arith, step c, one, c.loop-i.invariant.counted, w.count-is);
            few = omega (arith, c.loop-i.invariant.few, w.count-is);
          }
      | else-is_collect w ↦ let none = ap (λ b. cond {A = ℕ} b 1 0) w.if-is_collect.false in
          record {
            counted = omega (arith, step c, none, c.loop-i.invariant.counted, w.count-is);
            few = omega (arith, c.loop-i.invariant.few, w.count-is);
          }
    ]
