-- How the lines of a journal grow by those of one entry after another.
use Rattle.hd_print.proofs.Basics.{All, CALLERS, Entry, List, SinkView, Some, Took, WriteBrokeOff, [], ap, append-nil, append_assoc, arith, concat, count_by, count_by-le-length, count_by_more_no, count_by_more_yes, drop, get_or, length, length-set, length-take-le, numbered_after, set, slice_get, subst, sym, take, take-append-drop, take_more, ℕ, ◌++◌, ◌+◌, ◌<◌, ◌==◌, ◌∙◌, ◌∷◌, ◌≡◌, ◌≤◌}
use Rattle.std.proofs.{lemmas.Grind.common_steps, lemmas.Option.get_or_from_slice_get}
use Rattle.hd_io.proofs.SinkPieces.{took_more, broke_after, broke_before}

-- the number of entries of a caller in a list
abbrev pub count_of : ℕ → List Entry → ℕ
count_of caller es = count_by (λ (e : Entry). e.caller == caller) es

-- the lines of entries after others
abbrev lines_after : (Entry → ℕ → List ℕ) → List Entry → List Entry → List ℕ
lines_after line before es = concat (numbered_after line before es)

-- the lines of a list are those of its prefix, and then those of the rest
lines_after-append : (line : Entry → ℕ → List ℕ) (before xs ys : List Entry)
    → lines_after line before (xs ++ ys)
    ≡ lines_after line before xs ++ lines_after line (before ++ xs) ys
lines_after-append line before [] ys =
    ap (λ (b : List Entry). lines_after line b ys) (sym (append-nil before))
lines_after-append line before (x ∷ xs) ys =
    let first = line x (count_of x.caller before + 1) in
    let tail = lines_after line (before ++ x ∷ []) xs in
    ap (λ (t : List ℕ). first ++ t) (lines_after-append line (before ++ x ∷ []) xs ys)
    ∙ ap (λ (b : List Entry). first ++ (tail ++ lines_after line b ys)) (append_assoc before (x ∷ []) xs)
    ∙ sym (append_assoc first tail (lines_after line (before ++ x ∷ xs) ys))

-- the lines of the first entries
abbrev first_lines : (Entry → ℕ → List ℕ) → List Entry → ℕ → List ℕ
first_lines line es i = lines_after line [] (take i es)

-- they are a prefix of all lines
lines_of_prefix : (line : Entry → ℕ → List ℕ) (es : List Entry) (i : ℕ)
    → lines_after line [] es ≡ first_lines line es i ++ lines_after line (take i es) (drop i es)
lines_of_prefix line es i = ap (lines_after line []) (sym (take-append-drop i es))
    ∙ lines_after-append line [] (take i es) (drop i es)

-- at the entry `e` of index `i`
module _ (es : List Entry) (i : ℕ) (e : Entry) (in_range : i < length es) (is_e : slice_get es i ≡ Some e)
  where
    at_address : get_or es i e ≡ e
    at_address = get_or_from_slice_get es i e e is_e

    -- one entry more is one line more
    lines_of_more : (line : Entry → ℕ → List ℕ) → first_lines line es (i + 1)
        ≡ first_lines line es i ++ line e (count_of e.caller (take i es) + 1)
    lines_of_more line =
        let more = take_more es i e in_range ∙ ap (λ (x : Entry). take i es ++ x ∷ []) at_address in
        ap (lines_after line []) more ∙ lines_after-append line [] (take i es) (e ∷ [])
        ∙ ap (λ (t : List ℕ). first_lines line es i ++ t)
        (append-nil (line e (count_of e.caller (take i es) + 1)))

    -- where all callers are below 16
    module _ (all : All (λ (x : Entry). x.caller < CALLERS) es) where
      pub caller_below : e.caller < CALLERS
      caller_below = subst (λ (x : Entry). x.caller < CALLERS) at_address (all i e in_range)

      -- and the entries before this one are counted
      module _ (counts : List ℕ)
          (counted : (c : ℕ) → c < CALLERS → get_or counts c 0 ≡ count_of c (take i es)) where
        -- a count is at most the number of entries
        pub count_le : get_or counts e.caller 0 ≤ i
        count_le =
            let its_count = counted e.caller caller_below in
            let known = count_by-le-length (λ (x : Entry). x.caller == e.caller) (take i es) in
            omega (arith, known, length-take-le i es (omega arith))

        -- and that of the entry's caller is raised, to its number
        module _ (number : ℕ) (is_next : number ≡ get_or counts e.caller 0 + 1) where
          pub counts_more : (new : List ℕ) → new ≡ set counts e.caller number → length new ≡ CALLERS → (c : ℕ)
              → c < CALLERS → get_or new c 0 ≡ count_of c (take (i + 1) es)
          counts_more new written sixteen c small =
              let below = caller_below in
              let is_e = at_address in
              let same_length = length-set counts e.caller number in
              let yes = count_by_more_yes (λ (x : Entry). x.caller == c) es i e in_range in
              let no = count_by_more_no (λ (x : Entry). x.caller == c) es i e in_range in
              grind (arith, common_steps, yes, no, counted c small)

          -- after the lines before it, one write that is the line of the entry
          module _ (line : Entry → ℕ → List ℕ) (a b c : SinkView) (piece : List ℕ)
              (done : Took a b (first_lines line es i)) (its_line : piece ≡ line e number) where
            lines_so_far : first_lines line es i ++ piece ≡ first_lines line es (i + 1)
            lines_so_far =
                let its_number : number ≡ count_of e.caller (take i es) + 1 = is_next
                ∙ ap (λ (n : ℕ). n + 1) (counted e.caller caller_below) in
                ap (λ (t : List ℕ). first_lines line es i ++ t) (its_line ∙ ap (line e) its_number)
                ∙ sym (lines_of_more line)

            pub took_line : Took b c piece → Took a c (first_lines line es (i + 1))
            took_line then = subst (λ (t : List ℕ). Took a c t) lines_so_far
                (took_more a b c (first_lines line es i) piece done then)

            pub broke_in_line : WriteBrokeOff b c piece → WriteBrokeOff a c (lines_after line [] es)
            broke_in_line then =
                let so_far = broke_after a b c (first_lines line es i) piece done then in
                let rest = lines_after line (take (i + 1) es) (drop (i + 1) es) in
                let longer = broke_before a c c (first_lines line es i ++ piece) rest so_far in
                let whole = ap (λ (t : List ℕ). t ++ rest) lines_so_far
                ∙ sym (lines_of_prefix line es (i + 1)) in
                subst (λ (t : List ℕ). WriteBrokeOff a c t) whole longer
