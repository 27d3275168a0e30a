-- What is listed of an object in a graph is all that it leads to.
use Rattle.std.proofs.Common.{AllPairs, Bool, Contains, List, Option, Some, [], ap, arith, cond, eq-eqb, eqb-true, false, refl, subst, sym, true, ℕ, ⊎_elim, ◌++◌, ◌∙◌, ◌≡◌, inl, inr, None}
use Rattle.std.specs.Prelude.{flat_map}
use Rattle.std.specs.List.Sorted.{IsNonDecreasingBy, IsPermutation}
use Rattle.std.proofs.lemmas.Bool.{false≢true}
use Rattle.std.proofs.lemmas.List.Elements.{Contains-append_cases, Contains-append_left, Contains-append_right}
use Rattle.std.proofs.lemmas.List.Sorted.{Contains-permutation, IsPermutation-sym}
use Rattle.std.proofs.lemmas.Option.{none-some, same_Some}
use Rattle.hd_model.proofs.Members.{not_in_none}
use Rattle.hd_model.specs.declared.data.Id.{Id}
use Rattle.hd_walk.specs.Walk.{AreTargets}
use Rattle.hd_links.specs.{Graph.IsNode, Graph.LinkLeads, Graph.fields_at, Graph.in_order, Graph.itself, Graph.leads_in, Graph.named, Graph.numbers_of, Inside.attached_to}
use Rattle.hd_links.specs.Links.{LinksTo, is_at}
use Rattle.hd_links.specs.Sources.{IsPartFrom}
use Rattle.hd_links.specs.declared.graph.Graph.{Graph}
use Rattle.hd_links.specs.declared.links.Link.{Link}
use Rattle.hd_links.proofs.Members.{flat_from, flat_in, number_from, number_in, numbers_from, numbers_in}

-- the test of a reference says what it is to say
pub at_from : (o : Option Id) (x : Id) → is_at o x ≡ true → o ≡ Some x
at_from None x h = absurd (false≢true h)
at_from (Some y) x h = let same : y.0 ≡ x.0 = eqb-true y.0 x.0 h in λ i. Some (record { 0 = same i })

pub at_of : (o : Option Id) (x : Id) → o ≡ Some x → is_at o x ≡ true
at_of None x h = absurd (none-some x h)
at_of (Some y) x h = eq-eqb y.0 x.0 (ap (λ (z : Id). z.0) (same_Some y x h))

-- numbers in order
pub in_turn : (numbers : List ℕ) → IsNonDecreasingBy itself numbers → AllPairs in_order numbers
in_turn numbers rising = λ i j d lt l. rising i j d (omega (arith, lt)) l

-- what a link attaches to an object
link_from : (x : Id) (l : Link) (y : ℕ) → Contains (attached_to x l) y → LinksTo l x (Some (named y))
link_from x l y has = by (is_at l.source x) refl has
  where
    by : (t : Bool) → is_at l.source x ≡ t → Contains (cond t (numbers_of l.attached) []) y
        → LinksTo l x (Some (named y))
    by true at has = (at_from l.source x at, number_from l.attached y has)
    by false at has = absurd (not_in_none y has)

link_in : (x : Id) (l : Link) (y : ℕ) → LinksTo l x (Some (named y)) → Contains (attached_to x l) y
link_in x l y leads =
    subst (λ t. Contains (cond t (numbers_of l.attached) []) y) (sym (at_of l.source x leads.0))
    (number_in l.attached y leads.1)

module _ (g : Graph) (x : ℕ) (part : List Link) (is : IsPartFrom g.attaching.items (named x) part) where
  abbrev fields : List ℕ
  fields = flat_map numbers_of (fields_at g x)

  abbrev attached : List ℕ
  attached = flat_map (attached_to (named x)) part

  target_from : (y : ℕ) → Contains (fields ++ attached) y → leads_in g x y
  target_from y has =
      ⊎_elim (λ field. inl (numbers_from (fields_at g x) y field))
      (λ late. let l = flat_from (attached_to (named x)) part y late in
      inr (record { link = l.0; among = is.among l.0 l.1; leads = link_from (named x) l.0 y l.2 }))
      (Contains-append_cases fields attached y has)

  target_in : (y : ℕ) → leads_in g x y → Contains (fields ++ attached) y
  target_in y =
      ⊎_elim (λ field. Contains-append_left fields attached y (numbers_in (fields_at g x) y field))
      (λ (l : LinkLeads g.attaching.items x y).
      Contains-append_right fields attached y
      (flat_in (attached_to (named x)) part l.link y (is.all l.link l.among l.leads.0)
      (link_in (named x) l.link y l.leads)))

  pub targets_are : IsNode g x → (listed sorted : List ℕ) → listed ≡ fields ++ attached
      → IsPermutation listed sorted → IsNonDecreasingBy itself sorted
      → AreTargets (IsNode g) (leads_in g x) in_order sorted
  targets_are node listed sorted are moved rising = record {
    nodes = λ y has. node;
    only = λ y has.
        target_from y
        (subst (λ (ys : List ℕ). Contains ys y) are
        (Contains-permutation sorted listed y (IsPermutation-sym listed sorted moved) has));
    all = λ y leads.
        Contains-permutation listed sorted y moved
        (subst (λ (ys : List ℕ). Contains ys y) (sym are) (target_in y leads));
    ordered = in_turn sorted rising;
  }
