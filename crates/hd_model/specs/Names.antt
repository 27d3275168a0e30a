-- What a collection asks of references: that each is to an object.
use Rattle.std.specs.Prelude.{◌≡◌, ℕ, true, Some}
use Rattle.hd_model.specs.State.{Handle, secondary_of}
use Rattle.hd_model.specs.Scene.{Objects, Rows, IsField, is_object}

-- each field of an object is null or references an object
abbrev pub HasClosedFields : {N : Type 0} → Objects N → Type 0
HasClosedFields {N} o = (x y : N) → IsField o x y → is_object o y ≡ true

-- each target and each secondary of a live row is null or references an object
pub record NamesObjects {N : Type 0} (o : Objects N) (rows : Rows N) : Type 0 where
  pub targets : (slot : ℕ) (h : Handle N) (x : N) → rows slot ≡ Some h → h.target ≡ Some x
      → is_object o x ≡ true
  pub secondaries :
      (slot : ℕ) (h : Handle N) (x : N) → rows slot ≡ Some h → secondary_of h.extra ≡ Some x
      → is_object o x ≡ true
