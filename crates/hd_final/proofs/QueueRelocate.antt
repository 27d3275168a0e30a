-- A list whose items are rewritten one after another.
use Rattle.hd_final.proofs.Basics.{AllPairs, Contains, List, [], ap, append-nil, append_assoc, arith, drop, drop_all, drop_more, get_or, get_or_at, length, length-map, length-take-le, map, map_more, pairs_among, pairs_mapped, set, set_at, sym, take, take_all, ℕ, ◌++◌, ◌+◌, ◌<◌, ◌∙◌, ◌∷◌, ◌≡◌, ◌≢◌, ◌≤◌}

module _ {A : Type 0} (forwarding : A → A) (old : List A) where
  -- the first i are rewritten, the others are not
  abbrev pub IsPartMoved : ℕ → List A → Type 0
  IsPartMoved i now = now ≡ map forwarding (take i old) ++ drop i old

  part_length : (i : ℕ) → i ≤ length old → length (map forwarding (take i old)) ≡ i
  part_length i low = length-map (take i old) forwarding ∙ length-take-le i old low

  pub part_read : (i : ℕ) (now : List A) (d : A) → i < length old → IsPartMoved i now
      → get_or now i d ≡ get_or old i d
  part_read i now d low part =
      ap (λ xs. get_or xs i d) (part ∙ ap (λ xs. map forwarding (take i old) ++ xs) (drop_more old i d low))
      ∙ get_or_at (map forwarding (take i old)) (get_or old i d) (drop (i + 1) old) d i
      (part_length i (omega arith))

  pub part_more : (i : ℕ) (now : List A) (d : A) → i < length old → IsPartMoved i now
      → IsPartMoved (i + 1) (set now i (forwarding (get_or old i d)))
  part_more i now d low part =
      ap (λ xs. set xs i (forwarding (get_or old i d)))
      (part ∙ ap (λ xs. map forwarding (take i old) ++ xs) (drop_more old i d low))
      ∙ set_at (map forwarding (take i old)) (get_or old i d) (drop (i + 1) old)
      (forwarding (get_or old i d)) i (part_length i (omega arith))
      ∙ sym (append_assoc (map forwarding (take i old)) (forwarding (get_or old i d) ∷ []) (drop (i + 1) old))
      ∙ ap (λ xs. xs ++ drop (i + 1) old) (sym (map_more forwarding old i d low))

  pub part_all : (i : ℕ) (now : List A) → length old ≤ i → IsPartMoved i now → now ≡ map forwarding old
  part_all i now high part =
      part ∙ (λ k. map forwarding (take_all i old high k) ++ drop_all i old high k)
      ∙ append-nil (map forwarding old)

  -- items that differ become items that differ
  pub apart_moved : ((x y : A) → Contains old x → Contains old y → forwarding x ≡ forwarding y → x ≡ y)
      → AllPairs (λ x y. x ≢ y) old → AllPairs (λ x y. x ≢ y) (map forwarding old)
  apart_moved apart once =
      pairs_mapped (λ x y. forwarding x ≢ forwarding y) (λ x y. x ≢ y) forwarding old (λ x y ne. ne)
      (pairs_among (λ x y. x ≢ y) (λ x y. forwarding x ≢ forwarding y) old
      (λ x y h k ne same. ne (apart x y h k same)) once)
