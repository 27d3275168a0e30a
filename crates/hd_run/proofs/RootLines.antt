-- The lines of a list of roots, one after another.
use Rattle.hd_run.proofs.Basics.{List, RootId, SinkView, Took, WriteBrokeOff, [], ap, append-nil, drop, flat_map, get_or, length, root_text, subst, sym, take, take-append-drop, take_more, ℕ, ◌++◌, ◌+◌, ◌<◌, ◌∙◌, ◌∷◌, ◌≡◌}
use Rattle.std.proofs.lemmas.List.Concat.{flat_map-append}
use Rattle.hd_io.proofs.SinkPieces.{took_more, broke_after, broke_before}

-- at the root at position `i`
module _ (roots : List RootId) (i : ℕ) (d : RootId) (within : i < length roots) where
  lines_more : flat_map root_text (take (i + 1) roots) ≡ flat_map root_text (take i roots)
      ++ root_text (get_or roots i d)
  lines_more =
      ap (flat_map root_text) (take_more roots i d within)
      ∙ flat_map-append root_text (take i roots) (get_or roots i d ∷ [])
      ∙ ap (λ (t : List ℕ). flat_map root_text (take i roots) ++ t)
      (append-nil (root_text (get_or roots i d)))

  lines_whole : flat_map root_text (take (i + 1) roots) ++ flat_map root_text (drop (i + 1) roots)
      ≡ flat_map root_text roots
  lines_whole =
      sym (flat_map-append root_text (take (i + 1) roots) (drop (i + 1) roots))
      ∙ ap (flat_map root_text) (take-append-drop (i + 1) roots)

  module _ (a b c : SinkView) (first : Took a b (flat_map root_text (take i roots))) where
    pub took_root : Took b c (root_text (get_or roots i d))
        → Took a c (flat_map root_text (take (i + 1) roots))
    took_root then =
        subst (Took a c) (sym lines_more)
        (took_more a b c (flat_map root_text (take i roots)) (root_text (get_or roots i d)) first then)

    pub broke_at_root : WriteBrokeOff b c (root_text (get_or roots i d))
        → WriteBrokeOff a c (flat_map root_text roots)
    broke_at_root broke =
        let lines = flat_map root_text (take i roots) in
        let line = root_text (get_or roots i d) in
        subst (WriteBrokeOff a c)
        (ap (λ (t : List ℕ). t ++ flat_map root_text (drop (i + 1) roots)) (sym lines_more) ∙ lines_whole)
        (broke_before a c c (lines ++ line) (flat_map root_text (drop (i + 1) roots))
        (broke_after a b c lines line first broke))
