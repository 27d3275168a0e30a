-- What was seen of a journal, once it goes on.
use Rattle.hd_custody.proofs.Basics.{Continues, Entry, IsPrefix, List, [], ap, append-nil, append_assoc, inl, inr, sym, ℕ, ◌++◌, ◌∙◌, ◌∷◌, ◌≡◌}

pub whole_prefix : (journal : List Entry) → IsPrefix journal journal
whole_prefix journal = ([], sym (append-nil journal))

pub empty_prefix : (front journal : List Entry) → front ≡ [] → IsPrefix front journal
empty_prefix front journal none = (journal, ap (λ f. f ++ journal) (sym none))

-- with more after it
pub longer_prefix : (front journal rest : List Entry) → IsPrefix front journal → IsPrefix front (journal ++ rest)
longer_prefix front journal rest has =
    (has.0 ++ rest, ap (λ j. j ++ rest) has.1 ∙ append_assoc front has.0 rest)

pub prefix_goes_on : (number room : ℕ) (before : List Entry) (spare : ℕ) (journal : List Entry) (spare' : ℕ)
    → Continues number room before spare journal spare'
    → (front : List Entry) → IsPrefix front before → IsPrefix front journal
prefix_goes_on number room before spare journal spare' (inl same) front has = (has.0, same.0 ∙ has.1)
prefix_goes_on number room before spare journal spare' (inr more) front has =
    let longer = longer_prefix front before (more.0 ∷ []) has in (longer.0, more.1 ∙ longer.1)
