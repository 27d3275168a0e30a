-- The lists of callers with another command, and their counts.
use Rattle.hd_script.proofs.Basics.{All, All-get_or, All-push, All-set, AreCounted, AreLists, Cmd, Global, IsValid, List, MOST_COMMANDS, Vec, [], ap, arith, contents, get_or, get_or-le-sum_by, get_or-map, length, length-map, length-set, length_push, map-set, set, set-get_or, sum_by, sum_by-set, sum_by-take-le, sum_by_more, sym, take, ℕ, ◌++◌, ◌+◌, ◌<◌, ◌∙◌, ◌∷◌, ◌≡◌, ◌≤◌}

-- the list of a caller, in memory and as it is seen
pub listed : (lists : List (Vec Cmd Global)) (caller : ℕ) (list : Vec Cmd Global) → caller < length lists
    → list ≡ get_or lists caller list → list.items ≡ get_or (contents lists) caller []
listed lists caller list within e =
    ap (λ (v : Vec Cmd Global). v.items) e
    ∙ sym (get_or-map (λ (v : Vec Cmd Global). v.items) lists caller list [] within)

-- lists in memory, with one of them written
pub contents_set : (lists : List (Vec Cmd Global)) (caller : ℕ) (list : Vec Cmd Global)
    → contents (set lists caller list) ≡ set (contents lists) caller list.items
contents_set lists caller list = map-set (λ (v : Vec Cmd Global). v.items) lists caller list

-- no list is longer than all of them together
pub list_fits : (lists : List (List Cmd)) (caller : ℕ) → AreLists lists → caller < length lists
    → length (get_or lists caller []) ≤ MOST_COMMANDS
list_fits lists caller are within = omega (arith, get_or-le-sum_by length lists caller [] within, are.total)

-- a command more at the end of a caller's list
pub command_added : (lists : List (List Cmd)) (caller : ℕ) (cmd : Cmd) → AreLists lists
    → caller < length lists → IsValid cmd → sum_by length lists < MOST_COMMANDS →
    AreCounted (set lists caller (get_or lists caller [] ++ cmd ∷ [])) (sum_by length lists + 1)
command_added lists caller cmd are within valid room =
    let old = get_or lists caller [] in
    let new = old ++ cmd ∷ [] in
    let P : List Cmd → Type 0 = λ list. All IsValid list in
    let all_valid : All P (set lists caller new) =
    All-set P lists caller new (All-push IsValid old cmd (All-get_or P lists caller [] within are.valid)
    valid) are.valid in
    let sums = sum_by-set length lists caller new [] within in
    let total : sum_by length lists + 1 ≡ sum_by length (set lists caller new) =
    omega (arith, sums, length_push old cmd) in
    let right : AreLists (set lists caller new) = record {
      least = omega (arith, length-set lists caller new, are.least);
      most = omega (arith, length-set lists caller new, are.most);
      valid = all_valid;
      total = omega (arith, total, room);
    } in
    record { right = right; total = total }

module _ (lists : List (Vec Cmd Global)) (caller : ℕ) (old new : Vec Cmd Global)
    (within : caller < length (contents lists)) (index : old ≡ get_or lists caller old) where
  item_of : old.items ≡ get_or (contents lists) caller []
  item_of = listed lists caller old
      (omega (arith, length-map lists (λ (v : Vec Cmd Global). v.items), within)) index

  -- a caller's list in memory got a command
  pub written : (cmd : Cmd) → new.items ≡ old.items ++ cmd ∷ [] → contents (set lists caller new)
      ≡ set (contents lists) caller (get_or (contents lists) caller [] ++ cmd ∷ [])
  written cmd e = contents_set lists caller new
      ∙ ap (set (contents lists) caller) (e ∙ ap (λ (items : List Cmd). items ++ cmd ∷ []) item_of)

  -- or it stayed
  pub unwritten : new.items ≡ old.items → contents (set lists caller new) ≡ contents lists
  unwritten e = contents_set lists caller new ∙ ap (set (contents lists) caller) (e ∙ item_of)
      ∙ set-get_or (contents lists) caller []

  -- and they are counted as before, or with one command more
  pub written_counted : (cmd : Cmd) (count : ℕ) → new.items ≡ old.items ++ cmd ∷ []
      → AreCounted (contents lists) count → IsValid cmd → sum_by length (contents lists) < MOST_COMMANDS
      → AreCounted (contents (set lists caller new)) (count + 1)
  written_counted cmd count e are valid room =
      rw (written cmd e, are.total) (command_added (contents lists) caller cmd are.right within valid room)

  pub unwritten_counted : (count : ℕ) → new.items ≡ old.items → AreCounted (contents lists) count
      → AreCounted (contents (set lists caller new)) count
  unwritten_counted count e are = rw (unwritten e) are

-- one list more is counted
pub counted_more : (lists : List (Vec Cmd Global)) (i : ℕ) (list : Vec Cmd Global) → i < length lists
    → list ≡ get_or lists i list → sum_by length (take (i + 1) (contents lists))
    ≡ sum_by length (take i (contents lists)) + length list.items
counted_more lists i list within index =
    sum_by_more length (contents lists) i []
    (omega (arith, length-map lists (λ (v : Vec Cmd Global). v.items), within))
    ∙ ap (λ (items : List Cmd). sum_by length (take i (contents lists)) + length items)
    (sym (listed lists i list within index))

-- and the count is at most that of all of them
pub counted_fits : (lists : List (Vec Cmd Global)) (i : ℕ) (list : Vec Cmd Global) → i < length lists
    → list ≡ get_or lists i list →
    sum_by length (take i (contents lists)) + length list.items ≤ sum_by length (contents lists)
counted_fits lists i list within index =
    let more = counted_more lists i list within index in
    omega (arith, more, sum_by-take-le length (contents lists) (i + 1))
