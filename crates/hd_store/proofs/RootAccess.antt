-- What the roots of a store reference: registers and statics read and written.
use Rattle.hd_store.proofs.StoreWords.{Addr, Contains, IfSome, IsNamed, IsStored, List, Machine, None, Option, Parts, Queue, Some, ap, arith, callers_of, get_or, get_or_default, has_object, id_at, inl, inr, len, length, length-set, machine_of, map, map-set, named_in, option_map, refl, register_of, rest_of, rows_of, set, state_of, static_of, subst, sym, true, with_register, with_static, ℕ, ◌*◌, ◌+◌, ◌<◌, ◌∙◌, ◌≡◌, ◌≤◌}
use Rattle.hd_store.proofs.RegisterRoots.{rows-get, rest-get, rows-set, rest-set_row, rest-set, rows-set_rest}
use Rattle.hd_store.proofs.{IdentityReadings.named-is, EntryReadings.tied-agrees, Barrier.contains_set}
use Rattle.hd_store.proofs.HeapCallReadings.{named_objects, objects_named, field-read}
use Rattle.hd_model.specs.declared.limits.TheConstants.{REGISTERS}

-- the parts with another root at an index
abbrev pub with_root : Parts → ℕ → Option Addr → Parts
with_root f i v = record f { roots = set f.roots i v }

-- other roots and another queue, which reference objects
pub stored-named : (f : Parts) (roots : List (Option Addr)) (q : Queue) → IsStored f
    → length f.roots ≡ length roots → ((x : Addr) → Contains roots (Some x) → has_object f.heap x ≡ true)
    → ((x : Addr) → Contains q.queued x → has_object f.heap x ≡ true) → len f.heap.objects ≤ q.room
    → IsStored (record f { roots = roots; queue = q })
stored-named f roots q stored long named queue room = record {
  identities = stored.identities;
  ages = stored.ages;
  cards = stored.cards;
  full = stored.full;
  room = room;
  whole = record {
    fields = stored.whole.fields;
    named = named;
    queue = queue;
    targets = stored.whole.targets;
    secondaries = stored.whole.secondaries;
    paired = stored.whole.paired;
    fits = stored.whole.fits;
  };
  within = stored.within;
  limit = stored.limit;
  serials = stored.serials;
  clumps = stored.clumps;
  roots = stored.roots ∙ long;
  blocks = stored.blocks;
  uses = stored.uses;
  tied = λ slot key is. tied-agrees f (record f { roots = roots; queue = q }) slot key
      (stored.tied slot key is) refl (λ x e. refl);
  weak_room = stored.weak_room;
}

module _ (f : Parts) (m : Machine) (view : machine_of f ≡ m) (stored : IsStored f) where
  -- how a root is read
  read : (o : Option Addr) → named_in m.names o ≡ option_map (id_at f.heap) o
  read o = ap (λ (n : Machine). named_in n.names o) (sym view) ∙ named-is f.heap o

  read_at : (i : ℕ) (x : Option Addr) → i < length f.roots → x ≡ get_or f.roots i x
      → named_in m.names x ≡ get_or (map (option_map (id_at f.heap)) f.roots) i None
  read_at i x within is =
      read x ∙ ap (option_map (id_at f.heap)) (is ∙ get_or_default f.roots i x None within)
      ∙ sym (field-read (id_at f.heap) f.roots i)

  pub root-named : (i : ℕ) (x : Option Addr) → i < length f.roots → x ≡ get_or f.roots i x → IsNamed m.names x
  root-named i x within is =
      subst (λ (n : Machine). IsNamed n.names x) view
      (objects_named f.heap x
      (λ y same. stored.whole.named y (subst (Contains f.roots) same (i, within, sym is))))

  pub register-within : (c d : ℕ) → c < m.numbers.callers → d < REGISTERS → REGISTERS * c + d < length f.roots
  register-within c d known within =
      let callers : callers_of f ≡ m.numbers.callers = ap (λ (n : Machine). n.numbers.callers) view in
      omega (arith, callers, stored.roots)

  pub static-within : (k : ℕ) → k < REGISTERS → REGISTERS * callers_of f + k < length f.roots
  static-within k within = omega (arith, stored.roots)

  pub register-is : (c d : ℕ) (x : Option Addr) → c < m.numbers.callers → d < REGISTERS
      → x ≡ get_or f.roots (REGISTERS * c + d) x → named_in m.names x ≡ register_of m.state c d
  register-is c d x known within is =
      let mine : c < callers_of f = subst (λ (n : Machine). c < n.numbers.callers) (sym view) known in
      read_at (REGISTERS * c + d) x (register-within c d known within) is
      ∙ sym (rows-get (callers_of f) c d (REGISTERS * c + d)
      (map (option_map (id_at f.heap)) f.roots) None refl mine within)
      ∙ ap (λ (n : Machine). register_of n.state c d) view

  pub static-is : (k : ℕ) (x : Option Addr) → k < REGISTERS → x ≡ get_or f.roots
      (REGISTERS * callers_of f + k) x
      → named_in m.names x ≡ static_of m.state k
  static-is k x within is =
      read_at (REGISTERS * callers_of f + k) x (static-within k within) is ∙ sym
      (rest-get (callers_of f) k (REGISTERS * callers_of f + k) (map (option_map (id_at f.heap)) f.roots) None
      refl)
      ∙ ap (λ (n : Machine). static_of n.state k) view

  -- another root
  pub stored-root : (i : ℕ) (v : Option Addr) → IsNamed m.names v → IsStored (with_root f i v)
  stored-root i v named =
      let objects : IfSome v (λ y. has_object f.heap y ≡ true) =
      named_objects f.heap v (subst (λ (n : Machine). IsNamed n.names v) (sym view) named) in
      stored-named f (set f.roots i v) f.queue stored (sym (length-set f.roots i v)) (λ x c.
      elim (contains_set f.roots i v (Some x) c) [
        | inl was ↦ stored.whole.named x was
        | inr is ↦ subst (λ o. IfSome o (λ z. has_object f.heap z ≡ true)) is objects
      ]) stored.whole.queue stored.room

  roots_set : (i : ℕ) (v : Option Addr) → map (option_map (id_at f.heap)) (set f.roots i v) ≡ set
      (map (option_map (id_at f.heap)) f.roots) i (named_in m.names v)
  roots_set i v =
      map-set (option_map (id_at f.heap)) f.roots i v
      ∙ ap (set (map (option_map (id_at f.heap)) f.roots) i) (sym (read v))

  pub machine-register : (c d : ℕ) (v : Option Addr) → c < m.numbers.callers → d < REGISTERS
      → machine_of (with_root f (REGISTERS * c + d) v)
      ≡ record m { state = with_register m.state c d (named_in m.names v) }
  machine-register c d v known within =
      let mine : c < callers_of f = subst (λ (n : Machine). c < n.numbers.callers) (sym view) known in
      let names = map (option_map (id_at f.heap)) f.roots in
      let rows = ap (rows_of (callers_of f)) (roots_set (REGISTERS * c + d) v)
      ∙ rows-set (callers_of f) c d (REGISTERS * c + d) names (named_in m.names v) refl mine within in
      let rest = ap (rest_of (callers_of f)) (roots_set (REGISTERS * c + d) v)
      ∙ rest-set_row (callers_of f) c d (REGISTERS * c + d) names (named_in m.names v) refl mine within in
      (λ i. record (machine_of (with_root f (REGISTERS * c + d) v)) {
        state = record (state_of (with_root f (REGISTERS * c + d) v))
            { registers = rows i; statics = rest i };
      })
      ∙ (λ i. record (view i) { state = with_register (view i).state c d (named_in m.names v) })

  pub machine-static : (k : ℕ) (v : Option Addr) → machine_of (with_root f (REGISTERS * callers_of f + k) v)
      ≡ record m { state = with_static m.state k (named_in m.names v) }
  machine-static k v =
      let at = REGISTERS * callers_of f + k in
      let names = map (option_map (id_at f.heap)) f.roots in
      let rows = ap (rows_of (callers_of f)) (roots_set at v)
      ∙ rows-set_rest (callers_of f) k at names (named_in m.names v) refl in
      let rest = ap (rest_of (callers_of f)) (roots_set at v)
      ∙ rest-set (callers_of f) k at names (named_in m.names v) refl in
      (λ i. record (machine_of (with_root f at v)) {
        state = record (state_of (with_root f at v)) { registers = rows i; statics = rest i };
      })
      ∙ (λ i. record (view i) { state = with_static (view i).state k (named_in m.names v) })
