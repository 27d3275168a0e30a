-- The state of a store is that of its heap and its table, and what keeps its pinned address is kept at it.
use Rattle.hd_store.proofs.StoreWords.{AreAddresses, Cmd, Entry, FinMap, Id, IsFreeAddress, IsOfHeap, IsOfTable, IsOverHeap, IsPinned, IsStored, IsStoredAt, KeepsPinned, Machine, MatchOption, None, Numbers, Parts, Some, State, ap, cond, empty, false, get, get_inserted, inl, inr, insert, is_collect, is_pinned, machine_of, names_of, nat_cmp, nothing_at, objects_by_id, pinned_decides, pinned_target, refl, rows_by_id, same_Some, subst, sym, true, true≢false, weak_by_id, with_pinned, ℕ, ◌∙◌, ◌≡◌, ◌⊎◌, insert_cases}
use Rattle.hd_model.proofs.Effects.{Effect, replies_address, collects, effect}
use Rattle.hd_store.proofs.{IdentityReadings.names-get, EntryReadings.row-reads, AddressSteps.returns-address}
use Rattle.hd_model.specs.declared.data.Reply.TheVariants as reply
use Rattle.hd_model.specs.declared.command.Cmd.TheVariants as cmd

module _ (f : Parts) (stored : IsStored f) where
  over : IsOverHeap (machine_of f)
  unfolding names_of objects_by_id rows_by_id weak_by_id
  over = record {
    names = refl;
    heap = record {
      objects = refl;
      identities = stored.identities;
      pinned = λ x address is. absurd (nothing_at x address is);
      cards = stored.cards;
    };
    table = record { rows = λ slot. sym (row-reads f stored.whole.paired stored.tied slot); uses = refl };
  }

pub over-heap : (f : Parts) (m : Machine) → machine_of f ≡ m → IsStored f → IsOverHeap m
over-heap f m view stored = subst IsOverHeap view (over f stored)

-- with pinned addresses that are those of their objects it is still that of its heap
pub of-heap : (m : Machine) (p : FinMap nat_cmp ℕ) → IsOverHeap m → AreAddresses m.names p
    → IsOfHeap (with_pinned m.state p) m.heap
of-heap m p over are = record {
  objects = over.heap.objects;
  identities = over.heap.identities;
  pinned = λ x address is.
      sym (names-get m.heap address) ∙ ap (λ names. get names address) (sym over.names) ∙ are x address is;
  cards = over.heap.cards;
}

-- no pinned address is in the table
pub of-table : (m : Machine) (p : FinMap nat_cmp ℕ) → IsOverHeap m
    → IsOfTable (with_pinned m.state p) m.heap m.table
of-table m p over = record { rows = over.table.rows; uses = over.table.uses }

-- what keeps its pinned address over a step: what is pinned, and all over a step of no collection
module _ (n : Numbers) (s : State) (e : Entry) (x a : ℕ) where
  address_stays : (c : Cmd) (t : State) → Effect n s e c t → get s.pinned x ≡ Some a
      → (is_collect c ≡ false) ⊎ (is_pinned s.handles x ≡ true) → get t.pinned x ≡ Some a
  address_stays c t (collects did) is (inl not) = absurd (true≢false not)
  address_stays c t (collects did) is (inr pinned) =
      did.collects.pinned x ∙ ap (λ b. cond b (get s.pinned x) None) pinned ∙ is
  address_stays c t (replies_address slot handle id address found target may reply) is why =
      insert_cases s.pinned id.0 (λ y o. get s.pinned y ≡ Some a → o ≡ Some a) address x
      (λ was. ap Some (subst (λ o. MatchOption o (IsFreeAddress s id address) (λ own. address ≡ own))
      was may)) (λ _ was. was) is
  address_stays c t _ is why = is

-- one pinned address, which is that of its object
one_address : (names : FinMap nat_cmp Id) (x : Id) (a : ℕ) → get names a ≡ Some x
    → AreAddresses names (insert empty x.0 a)
one_address names x a named y b =
    insert_cases empty x.0 (λ z o. o ≡ Some b → get names b ≡ Some (record { 0 = z })) a y
    (λ is. ap (get names) (sym (same_Some a b is)) ∙ named) (λ _ is. absurd (nothing_at y b is))

module _ (m k : Machine) (e : Entry) (keeps : KeepsPinned m e k) (before : IsOverHeap m)
    (after : IsOverHeap k) (x : Id) (a : ℕ) where
  keeps_name : (is_collect e.cmd ≡ false) ⊎ (is_pinned m.state.handles x.0 ≡ true) → get m.names a ≡ Some x
      → get k.names a ≡ Some x
  keeps_name why named =
      let p = insert empty x.0 a in
      let moved = keeps p (one_address m.names x a named) in
      moved.addresses x.0 a (address_stays m.numbers (with_pinned m.state p) e x.0 a e.cmd
      (with_pinned k.state moved.pinned)
      (effect m.numbers (with_pinned m.state p) e (with_pinned k.state moved.pinned) moved.step)
      (get_inserted empty x.0 a) why)

  pub keeps-address : (is_collect e.cmd ≡ false) ⊎ (is_pinned m.state.handles x.0 ≡ true)
      → IsStoredAt m.heap x a → IsStoredAt k.heap x a
  keeps-address why is =
      sym (names-get k.heap a) ∙ ap (λ names. get names a) (sym after.names)
      ∙ keeps_name why (ap (λ names. get names a) before.names ∙ names-get m.heap a ∙ is)

  pub returns-stored : (h : ℕ) → e.cmd ≡ cmd.AddrOf h → e.reply ≡ reply.Place a
      → pinned_target m.state e.caller h ≡ Some x → IsStoredAt k.heap x a
  returns-stored h same in_reply pinned =
      sym (names-get k.heap a) ∙ ap (λ names. get names a) (sym after.names)
      ∙ returns-address m k e keeps h a x same in_reply pinned

  pub keeps-pinned : IsPinned (λ slot. get m.state.handles slot) x → IsStoredAt m.heap x a
      → IsStoredAt k.heap x a
  keeps-pinned pinned = keeps-address (inr ((pinned_decides m.state.handles x).1 pinned))
