-- The first field or static that references an object, and the least link that does what is asked.
use Rattle.std.proofs.Common.{Bool, Contains, List, None, Option, Some, [], ap, arith, cond, false, leb, length, refl, slice_index_or, subst, sym, true, ℕ, ⊎_elim, ◌++◌, ◌+◌, ◌<◌, ◌∙◌, ◌∷◌, ◌≡◌, ◌≤◌}
use Rattle.std.proofs.lemmas.Bool.{and_from, and_parts, cases_lt, false≢true, leb-false, leb-true}
use Rattle.std.proofs.lemmas.List.{get_or_past}
use Rattle.std.proofs.lemmas.List.Elements.{Contains-append_cases, Contains-append_left, Contains-append_right}
use Rattle.std.proofs.lemmas.Option.{none-some}
use Rattle.hd_model.proofs.Members.{first_in, member_cases, not_in_none}
use Rattle.hd_model.specs.declared.data.Id.{Id}
use Rattle.hd_links.specs.declared.links.Link.{Link}
use Rattle.hd_links.specs.Links.{LinksTo, is_at}
use Rattle.hd_links.proofs.GraphTargets.{at_from, at_of}
use Rattle.hd_path.specs.Inside.{IsAt, IsLeastLink, LeastOf, NoIndex, links_to, lower_link, lowest}

-- the tests say what they are to say
pub links_from : (l : Link) (x : Id) (to : Option Id) → links_to l x to ≡ true → LinksTo l x to
links_from l x None h = at_from l.held x h
links_from l x (Some y) h =
    let parts = and_parts (is_at l.source x) (is_at l.attached y) h in
    (at_from l.source x parts.0, at_from l.attached y parts.1)

pub links_of : (l : Link) (x : Id) (to : Option Id) → LinksTo l x to → links_to l x to ≡ true
links_of l x None h = at_of l.held x h
links_of l x (Some y) h =
    and_from (is_at l.source x) (is_at l.attached y) (at_of l.source x h.0) (at_of l.attached y h.1)

-- fields or statics that were looked at
pub none_more : (targets : List (Option Id)) (x : Id) (i : ℕ) → ((k : ℕ) → k < i → IsAt targets x k → ⊥)
    → is_at (slice_index_or targets i None) x ≡ false → (k : ℕ) → k < i + 1 → IsAt targets x k → ⊥
none_more targets x i none here k low at =
    ⊎_elim (λ less. none k less at)
    (λ ge.
    let same : k ≡ i = omega (arith, ge, low) in
    false≢true (sym here ∙ at_of (slice_index_or targets i None) x
    (subst (λ j. slice_index_or targets j None ≡ Some x) same at))) (cases_lt k i)

pub none_all : (targets : List (Option Id)) (x : Id) (i : ℕ) → length targets ≤ i
    → ((k : ℕ) → k < i → IsAt targets x k → ⊥) → NoIndex targets x
none_all targets x i end none k at =
    ⊎_elim (λ less. none k less at)
    (λ ge. none-some x (sym (get_or_past targets k None (omega (arith, ge, end))) ∙ at)) (cases_lt k i)

-- one link more
module _ (links : List Link) (l : Link) (x : Id) (to : Option Id) where
  abbrev more : List Link
  more = links ++ l ∷ []

  two : (m : Link) → Contains more m → (P : Type 0) → (Contains links m → P) → (l ≡ m → P) → P
  two m has P old new =
      ⊎_elim old (λ last. ⊎_elim new (λ none. absurd (not_in_none m none)) (member_cases l [] m last))
      (Contains-append_cases links (l ∷ []) m has)

  skipped : (before : Option Link) → links_to l x to ≡ false → LeastOf links x to before
      → LeastOf more x to before
  skipped None not least = λ m has does.
      two m has ⊥ (λ old. least m old does)
      (λ same. false≢true (sym not ∙ ap (λ (k : Link). links_to k x to) same ∙ links_of m x to does))
  skipped (Some b) not least = record {
    among = Contains-append_left links (l ∷ []) b least.among;
    links_to = least.links_to;
    least = λ m has does.
        two m has (b.slot.0 ≤ m.slot.0) (λ old. least.least m old does)
        (λ same. absurd (false≢true (sym not ∙ ap (λ (k : Link). links_to k x to) same ∙ links_of m x to
        does)));
  }

  last_in : Contains more l
  last_in = Contains-append_right links (l ∷ []) l (first_in l [])

  picked : (b : Link) (t : Bool) → leb b.slot.0 l.slot.0 ≡ t → LinksTo l x to → IsLeastLink links x to b
      → IsLeastLink more x to (cond t b l)
  picked b true low does least = record {
    among = Contains-append_left links (l ∷ []) b least.among;
    links_to = least.links_to;
    least = λ m has also.
        two m has (b.slot.0 ≤ m.slot.0) (λ old. least.least m old also)
        (λ same. subst (λ (k : Link). b.slot.0 ≤ k.slot.0) same (leb-true b.slot.0 l.slot.0 low));
  }
  picked b false low does least = record {
    among = last_in;
    links_to = does;
    least = λ m has also.
        two m has (l.slot.0 ≤ m.slot.0)
        (λ old. let le = least.least m old also in
        let over = leb-false b.slot.0 l.slot.0 low in omega (arith, le, over))
        (λ same. subst (λ (k : Link). l.slot.0 ≤ k.slot.0) same (omega arith));
  }

  taken : (before : Option Link) → LinksTo l x to → LeastOf links x to before
      → LeastOf more x to (Some (lowest before l))
  taken None does least = record {
    among = last_in;
    links_to = does;
    least = λ m has also.
        two m has (l.slot.0 ≤ m.slot.0) (λ old. absurd (least m old also))
        (λ same. subst (λ (k : Link). l.slot.0 ≤ k.slot.0) same (omega arith));
  }
  taken (Some b) does least = picked b (leb b.slot.0 l.slot.0) refl does least

  by_test : (t : Bool) → links_to l x to ≡ t → (before : Option Link) → LeastOf links x to before
      → LeastOf more x to (cond t (Some (lowest before l)) before)
  by_test true does before least = taken before (links_from l x to does) least
  by_test false not before least = skipped before not least

  pub least_more : (before after : Option Link) → LeastOf links x to before → after ≡ lower_link before l x to
      → (all : List Link) → all ≡ more → LeastOf all x to after
  least_more before after least lower all is =
      subst (λ ls. LeastOf ls x to after) (sym is)
      (subst (λ a. LeastOf more x to a) (sym lower) (by_test (links_to l x to) refl before least))

pub least_none : (x : Id) (to : Option Id) → LeastOf [] x to None
least_none x to m has does = not_in_none m has
