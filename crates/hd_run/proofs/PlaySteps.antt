-- How a caller goes through its list.
use Rattle.hd_run.proofs.Basics.{CallerView, Cmd, Entry, HasDone, HasPlayed, IsSameCaller, IsTrue, List, MayRunOut, Reply, [], ap, arith, commands_of, drop, drop_all, drop_more, get_or, having_seen, length, length-drop, map-append, subst, sym, take, take-append-drop, take_more, takes_memory, ℕ, ◌++◌, ◌+◌, ◌<◌, ◌∙◌, ◌∷◌, ◌≡◌, ◌≤◌}

-- a caller that began as this one has done this number of commands of its list
pub record IsAt (list : List Cmd) (begun p : CallerView) (i : ℕ) : Type 0 where
  pub same : IsSameCaller begun p
  pub done : commands_of p.part ≡ take i list
  pub room : p.room + i ≡ length list

module _ (list : List Cmd) (begun : CallerView) where
  pub same_on : (p q : CallerView) → IsSameCaller begun p → IsSameCaller p q → IsSameCaller begun q
  same_on p q a b = record {
    table = b.table ∙ a.table;
    numbers = b.numbers ∙ a.numbers;
    number = b.number ∙ a.number;
  }

  -- one command more was done
  pub goes_on : (p q : CallerView) (i : ℕ) (cmd : Cmd) {answer : Reply} → i < length list
      → get_or list i cmd ≡ cmd
      → IsAt list begun p i → IsSameCaller p q → HasDone p q cmd answer → IsAt list begun q (i + 1)
  goes_on p q i cmd lt here at same did = record {
    same = same_on p q at.same same;
    done = ap commands_of did.part ∙ map-append (λ (e : Entry). e.cmd) p.part (did.entry ∷ [])
        ∙ (λ k. at.done k ++ did.command_is k ∷ []) ∙ ap (λ c. take i list ++ c ∷ []) (sym here)
        ∙ sym (take_more list i cmd lt);
    room = omega (arith, at.room, did.room);
  }

  -- it is before a command that found no memory
  pub stops : (p : CallerView) (i : ℕ) (cmd : Cmd) → i < length list → get_or list i cmd ≡ cmd
      → IsAt list begun p i → IsTrue (takes_memory cmd) → HasPlayed list begun p
  stops p i cmd lt here at wants = record {
    same = at.same;
    left = drop i list;
    parts = sym (take-append-drop i list) ∙ ap (λ v. v ++ drop i list) (sym at.done);
    room = omega (arith, length-drop i list, at.room);
    wants = subst MayRunOut (sym (drop_more list i cmd lt ∙ ap (λ c. c ∷ drop (i + 1) list) here)) wants;
  }

  -- which changed nothing but what it has seen
  pub sees : (p q : CallerView) (journal : List Entry) → q ≡ having_seen journal p → HasPlayed list begun p
      → HasPlayed list begun q
  sees p q journal is h = subst (HasPlayed list begun) (sym is) (record {
    same = record { table = h.same.table; numbers = h.same.numbers; number = h.same.number };
    left = h.left;
    parts = h.parts;
    room = h.room;
    wants = h.wants;
  })

  -- it came to the end of its list
  pub ends : (p : CallerView) (i : ℕ) → length list ≤ i → IsAt list begun p i → HasPlayed list begun p
  ends p i all at = record {
    same = at.same;
    left = drop i list;
    parts = sym (take-append-drop i list) ∙ ap (λ v. v ++ drop i list) (sym at.done);
    room = omega (arith, length-drop i list, at.room);
    wants = subst MayRunOut (sym (drop_all i list all)) tt;
  }
