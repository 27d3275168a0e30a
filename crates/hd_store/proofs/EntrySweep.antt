-- What a collection and the sweep after it leave of an entry of the weak table.
use Rattle.hd_store.proofs.StoreWords.{Addr, Bool, Dependent, Extra, Handle, Id, None, Option, Short, Some, Table, WeakEntry, ap, cleared, cond, count, entry_named, false, get, is_lost, is_none, is_secondary, live_at, not, nothing, option_map, refl, rename_extra, rename_handle, secondary, secondary_of, strength, swept, sym, true, true≢false, unwrap_or, ℕ, ◌∙◌, ◌≡◌}
use Rattle.hd_store.proofs.IdentityReadings.{no_some}

-- the row of an entry
abbrev pub attaching : {N : Type 0} → Option N → Option N → Handle N
attaching key value = record { kind = Dependent; target = key; extra = secondary value }

cond_secondary : (b : Bool) (value : Option Id)
    → cond b (secondary None) (secondary value) ≡ secondary (cond b None value)
cond_secondary true value = refl
cond_secondary false value = refl

-- an entry of a key with a value, if there is a key
abbrev pub valued : Option Id → Option Id → Option (WeakEntry Id)
valued value key = option_map (λ (k : Id). record { key = k; value = value }) key

module _ (name : Addr → Id) (reach kept : Id → Bool) where
  -- a row that is cleared with its key where that is lost
  pub record IsLeft (row : Handle Addr) (key value : Option Id) : Type 0 where
    pub target : Option Addr
    pub second : Option Addr
    pub row_is : row ≡ attaching target second
    pub key_is : option_map name target ≡ cond (is_lost kept key) None key
    pub value_is : option_map name second ≡ cond (is_lost kept key) None value

  second : (e : Extra Addr) (value : Option Id) → rename_extra name e ≡ secondary value
      → (s : Option Addr) × ((e ≡ secondary s) × (option_map name s ≡ value))
  second nothing value is = absurd (true≢false (sym (ap is_secondary is)))
  second (strength s) value is = absurd (true≢false (sym (ap is_secondary is)))
  second (secondary s) value is = (s, (refl, ap secondary_of is))
  second (count c) value is = absurd (true≢false (sym (ap is_secondary is)))

  pub left-row : (row : Handle Addr) (key value : Option Id)
      → rename_handle name row ≡ cleared reach kept (attaching key value) → IsLeft row key value
  left-row row key value is =
      let s = second row.extra (cond (is_lost kept key) None value)
      (ap (λ (h : Handle Id). h.extra) is ∙ cond_secondary (is_lost kept key) value) in
      record {
        target = row.target;
        second = s.0;
        row_is = λ i. record {
          kind = ap (λ (h : Handle Id). h.kind) is i;
          target = row.target;
          extra = s.1.0 i;
        };
        key_is = ap (λ (h : Handle Id). h.target) is;
        value_is = s.1.1;
      }

  -- the sweep takes the key exactly where the row has lost its target
  pub swept-key : (o : Option Addr) (key : Option Id) → option_map name o ≡ cond (is_lost kept key) None key
      → cond (is_none o) None key ≡ option_map name o
  swept-key o key is = by o (is_lost kept key) is
    where
      by : (o : Option Addr) (lost : Bool) → option_map name o ≡ cond lost None key
          → cond (is_none o) None key ≡ option_map name o
      by None lost is = refl
      by (Some a) true is = absurd (no_some (name a) is)
      by (Some a) false is = sym is

  -- so the entry is as it was where its key is kept, and else the slot is idle
  pub swept-entry : (row : Handle Addr) (key value : Option Id) → IsLeft row key value
      → entry_named name (Some row) (cond (is_none row.target) None key) ≡ swept kept (valued value key)
  swept-entry row key value left =
      ap (entry_named name (Some row)) (ap (λ (h : Handle Addr). cond (is_none h.target) None key) left.row_is
      ∙ swept-key left.target key left.key_is ∙ left.key_is)
      ∙ ap (λ (h : Handle Addr). entry_named name (Some h) (cond (is_lost kept key) None key)) left.row_is
      ∙ ap (λ v. valued v (cond (is_lost kept key) None key)) left.value_is
      ∙ by key
    where
      at : (b : Bool) (k : Id) → valued (cond (not b) None value) (cond (not b) None (Some k))
          ≡ cond b (Some (record { key = k; value = value })) None
      at true k = refl
      at false k = refl

      by : (o : Option Id) → valued (cond (is_lost kept o) None value) (cond (is_lost kept o) None o)
          ≡ swept kept (valued value o)
      by None = refl
      by (Some k) = at (kept k) k

-- the row of a slot, where it is known
pub row-known : (t : Table) (slot : ℕ) (row : Handle Addr) → get t.rows slot ≡ Some row → live_at t slot ≡ row
row-known t slot row is =
    ap (λ o. unwrap_or o (record { kind = Short; target = None; extra = nothing })) is
