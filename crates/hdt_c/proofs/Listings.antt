-- Live handles that are listed one by one.
use Rattle.std.proofs.Common.{List, None, Option, Some, [], ap, append_assoc, arith, drop, false, length, length-append, length-set, map, refl, sym, ℕ, ◌++◌, ◌+◌, ◌-◌, ◌<◌, ◌∙◌, ◌∷◌, ◌≡◌, ◌≤◌}
use Rattle.std.proofs.lemmas.Bool.{true≢false}
use Rattle.std.proofs.lemmas.List.{drop_more, length-map, map-append, set-append_right}
use Rattle.std.proofs.Math.ListN.{set}
use Rattle.std.specs.{Int.bit_at, Prelude.IsSome}
use Rattle.hd_model.specs.{declared.data.Id.Id, declared.data.Kind.Kind, declared.data.Slot.Slot, Kinds.kind_number}
use Rattle.hd_model.specs.declared.data.Kind.TheVariants as kind
use Rattle.hd_model.specs.State.{Handle, State, handle_at}
use Rattle.hd_host.specs.{Handles.HasNoneFrom, Handles.IsNextFrom, View.HostView}
use Rattle.hd_host.specs.Kinds.{HasNoneOf, IsHandleOf, IsListedOf}
use Rattle.hd_host.specs.declared.observing.Listed.{Listed}
use Rattle.hdt_c.specs.Outs.{AreListed, ListsFrom, info_of, listed, no_room, nothing_left}
use Rattle.hdt_c.specs.declared.arguments.TheConstants.{ALL_KINDS}
use Rattle.hdt_c.specs.declared.parts.Info.{Info}

-- each is the next one from the one before, up to a slot
pub data Goes (Next : ℕ → Listed → Type 0) : ℕ → List Listed → ℕ → Type 0 where
  stays : (from : ℕ) → Goes Next from [] from
  goes_on : (from : ℕ) (l : Listed) (ls : List Listed) (at : ℕ) → Next from l
      → Goes Next (l.slot.0 + 1) ls at → Goes Next from (l ∷ ls) at

module _ {Next : ℕ → Listed → Type 0} where
  one_more : (from : ℕ) (ls : List Listed) (at : ℕ) → Goes Next from ls at → (l : Listed) → Next at l
      → Goes Next from (ls ++ l ∷ []) (l.slot.0 + 1)
  one_more from _ _ (stays _) l is = goes_on from l [] (l.slot.0 + 1) is (stays (l.slot.0 + 1))
  one_more from _ at (goes_on _ k ks _ first rest) l is =
      goes_on from k (ks ++ l ∷ []) (l.slot.0 + 1) first (one_more (k.slot.0 + 1) ks at rest l is)

  ends : {NoneFrom : ℕ → Type 0} (from : ℕ) (ls : List Listed) (at next : ℕ) → Goes Next from ls at
      → ListsFrom Next NoneFrom at [] next → ListsFrom Next NoneFrom from ls next
  ends from _ _ next (stays _) last = last
  ends from _ at next (goes_on _ k ks _ first rest) last =
      listed from k ks next first (ends (k.slot.0 + 1) ks at next rest last)

-- the first numbers of an array are these
pub record IsListing (Next : ℕ → Listed → Type 0) (from : ℕ) (old : List Info) (at i : ℕ)
    (new : List Info) : Type 0 where
  pub these : List Listed
  pub goes : Goes Next from these at
  pub count : i ≡ length these
  pub items : new ≡ map info_of these ++ drop i old
  pub same : length new ≡ length old

pub starts : {Next : ℕ → Listed → Type 0} (from : ℕ) (old : List Info) → IsListing Next from old from 0 old
starts from old = record { these = []; goes = stays from; count = refl; items = refl; same = refl }

module _ {Next : ℕ → Listed → Type 0} {from : ℕ} {old : List Info} {at i : ℕ} {new : List Info}
    (so_far : IsListing Next from old at i new) where
  pub goes_next : i < length old → (l : Listed) → Next at l → (x : Info) → x ≡ info_of l
      → IsListing Next from old (l.slot.0 + 1) (i + 1) (set new i x)
  goes_next low l is x same = record {
    these = so_far.these ++ l ∷ [];
    goes = one_more from so_far.these at so_far.goes l is;
    count = omega (arith, length-append so_far.these (l ∷ []), so_far.count);
    items = written;
    same = length-set new i x ∙ so_far.same;
  }
    where
      head : List Info
      head = map info_of so_far.these

      long : length head ≡ i
      long = length-map so_far.these info_of ∙ sym so_far.count

      none : i - i ≡ 0
      none = omega arith

      written : set new i x ≡ map info_of (so_far.these ++ l ∷ []) ++ drop (i + 1) old
      written =
          ap (λ ys. set ys i x) so_far.items
          ∙ set-append_right head (drop i old) i i x long (omega arith)
          ∙ (λ j. head ++ set (drop_more old i x low j) (none j) x)
          ∙ sym (append_assoc head (x ∷ []) (drop (i + 1) old))
          ∙ (λ j. (head ++ same j ∷ []) ++ drop (i + 1) old)
          ∙ ap (λ ys. ys ++ drop (i + 1) old) (sym (map-append info_of so_far.these (l ∷ [])))

  pub ends_none : {NoneFrom : ℕ → Type 0} → i ≤ length old → NoneFrom at
      → AreListed Next NoneFrom from old new i 0
  ends_none room none = record {
    listed = so_far.these;
    lists = ends from so_far.these at 0 so_far.goes (nothing_left at none);
    count_is = so_far.count;
    room = room;
    full = λ no. absurd (no refl);
    items = so_far.items;
  }

  pub ends_full : {NoneFrom : ℕ → Type 0} {n next : ℕ} → i ≡ length old → n ≡ i
      → ListsFrom Next NoneFrom at [] next → AreListed Next NoneFrom from old new n next
  ends_full {n = n} {next = next} all is last = record {
    listed = so_far.these;
    lists = ends from so_far.these at next so_far.goes last;
    count_is = is ∙ so_far.count;
    room = omega (arith, all, is);
    full = λ _. is ∙ all;
    items = so_far.items ∙ (λ j. map info_of so_far.these ++ drop (sym is j) old);
  }

-- ---- all kinds

bit_of : (k : Kind) → bit_at ALL_KINDS (kind_number k) ≡ 1
bit_of kind.Short = refl
bit_of kind.Long = refl
bit_of kind.Strong = refl
bit_of kind.Pinned = refl
bit_of kind.Variable = refl
bit_of kind.Counted = refl
bit_of kind.Dependent = refl

of_any : (s : State) (slot : Slot) (o : Option (Handle Id)) → handle_at s slot ≡ o → IsSome o
    → IsHandleOf s ALL_KINDS false slot
of_any s slot None at live = absurd (true≢false (sym live))
of_any s slot (Some h) at live = record {
  has = record { handle = h; live = at; is_cleared = λ wrong. absurd (true≢false (sym wrong)) };
  of_kinds = bit_of h.kind;
}

module _ (v : HostView) where
  next_by : (from : ℕ) (l : Listed) → IsListedOf v ALL_KINDS false from l → IsNextFrom v from l
  next_by from l is = record {
    from_on = is.next.from_on;
    handle = is.handle;
    info = is.info;
    least = λ other low live. is.next.least other low
        (of_any v.machine.state other (handle_at v.machine.state other) refl live);
  }

  lists_by : (from : ℕ) (ls : List Listed) (next : ℕ)
      → ListsFrom (IsListedOf v ALL_KINDS false) (HasNoneOf v.machine.state ALL_KINDS false) from ls next
      → ListsFrom (IsNextFrom v) (HasNoneFrom v) from ls next
  lists_by from _ _ (nothing_left _ none) = nothing_left from (λ slot low live. none slot low
      (of_any v.machine.state slot (handle_at v.machine.state slot) refl live))
  lists_by from _ _ (no_room _ l is) = no_room from l (next_by from l is)
  lists_by from _ next (listed _ l ls _ is rest) =
      listed from l ls next (next_by from l is) (lists_by (l.slot.0 + 1) ls next rest)

  pub all_listed : {from : ℕ} {old new : List Info} {count next : ℕ}
      → AreListed (IsListedOf v ALL_KINDS false) (HasNoneOf v.machine.state ALL_KINDS false) from old new count
      next
      → AreListed (IsNextFrom v) (HasNoneFrom v) from old new count next
  all_listed {from = from} {next = next} are = record {
    listed = are.listed;
    lists = lists_by from are.listed next are.lists;
    count_is = are.count_is;
    room = are.room;
    full = are.full;
    items = are.items;
  }
