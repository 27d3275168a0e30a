-- A chain has each object once, so it is no longer than the heap has objects.
use Rattle.std.proofs.Common.{◌≡◌, ◌≢◌, ℕ, ◌+◌, ◌/◌, ◌^◌, ◌<◌, ◌≤◌, true, All, AllPairs, List, length, map, Option, Some, IsSome, ap, ◌∙◌, subst, arith}
use Rattle.std.specs.Prelude.{reverse}
use Rattle.std.specs.FinMap.{get, keys, entries, len, len-entries}
use Rattle.std.proofs.lemmas.List.{length-map, reverse-reverse}
use Rattle.std.proofs.lemmas.List.Elements.{All-cons, All-nil}
use Rattle.std.proofs.lemmas.List.Sorted.{All-permutation, IsPermutation-reverse}
use Rattle.std.proofs.lemmas.Option.{slice_get-get_or}
use Rattle.hd_model.specs.declared.limits.TheConstants.{REGION}
use Rattle.hd_model.specs.Heap.{Heap, Placed, has_object, object_in, region_generation, region_of}
use Rattle.hd_model.proofs.MapBuild.{in_keys, had_source}
use Rattle.hd_model.proofs.Members.{mapped_from, pairs_mapped}
use Rattle.hd_model.proofs.PropertyCounts.{fewer}
use Rattle.hd_heap.specs.Sound.{IsSound}
use Rattle.hd_root.specs.Inside.{AreFew}
use Rattle.hd_root.specs.{Inside.AreObjects, Search.address}
use Rattle.hd_walk.specs.declared.trail.Found.{Found}
use Rattle.hd_walk.specs.Trail.{IsOnce, IsReadBack}

-- the address of an object is below 2^32
pub small_address : (h : Heap) → IsSound h → (x : ℕ) → has_object h (address x) ≡ true → x < 2 ^ 32
unfolding region_of
small_address h sound x object =
    let low : x / REGION < 2 ^ 24 =
    (sound.numbers (region_of (address x)) (sound.held (address x) object)).1 in omega arith

room : (h : Heap) (found : List Found) → AreObjects h found → IsOnce found → length found ≤ len h.objects
room h found objects once =
    let node : Found → ℕ = λ x. x.at in
    let apart : AllPairs (λ (x y : ℕ). x ≢ y) (map node found) =
    pairs_mapped (λ (x y : Found). x.at ≢ y.at) (λ (x y : ℕ). x ≢ y) node found (λ x y d. d) once in
    let within = fewer (map node found) (keys h.objects) apart
    (λ q has. let (x, rest) = mapped_from node found q has in
    let (k, lt, is) = rest.0 in
    let object = objects k x (slice_get-get_or found k x lt ∙ ap Some is) in
    in_keys h.objects q
    (subst (λ n. IsSome (get h.objects n)) rest.1
    (had_source (object_in (region_generation h (region_of (address x.at)))) (get h.objects x.at) object))) in
    omega (
      arith,
      within,
      length-map found node,
      length-map (entries h.objects) (λ (g : ℕ × Placed). g.0),
      len-entries h.objects,
    )

read_small : {h : Heap} {found : List Found} → IsSound h → AreObjects h found → {o : Option ℕ}
    {back : List ℕ} → IsReadBack found o back → All (λ x. x < 2 ^ 32) back
read_small sound objects IsReadBack.start = All-nil (λ x. x < 2 ^ 32)
read_small {h = h} sound objects (IsReadBack.step {i = i} {rest = rest} x at more) =
    All-cons (λ x. x < 2 ^ 32) x.at rest (small_address h sound x.at (objects i x at))
    (read_small sound objects more)

pub few_nodes : {h : Heap} {found : List Found} {last : ℕ} {nodes : List ℕ} → IsSound h → AreObjects h found
    → IsOnce found → last < length found → IsReadBack found (Some last) (reverse nodes)
    → length nodes ≤ last + 1 → AreFew nodes
few_nodes {h = h} {found = found} {nodes = nodes} sound objects once inside back long = record {
  few = let r = room h found objects once in let f = sound.few_objects in omega arith;
  small =
      subst (λ xs. All (λ x. x < 2 ^ 32) xs) (reverse-reverse nodes)
      (All-permutation (λ x. x < 2 ^ 32) (reverse nodes) (reverse (reverse nodes))
      (IsPermutation-reverse (reverse nodes)) (read_small sound objects back));
}
