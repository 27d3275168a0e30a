-- Whether a handle pins, and its role, do not depend on names.
use Rattle.hd_model.proofs.Basics.{Extra, Handle, Kind, ap, count, count_of, nothing, pins, pins_with, refl, rename_extra, rename_handle, role_by, role_of, secondary, strength, strength_in, ◌≡◌}

module _ {N M : Type 0} (f : N → M) where
  strength_renamed : (e : Extra N) → strength_in (rename_extra f e) ≡ strength_in e
  strength_renamed nothing = refl
  strength_renamed (strength given) = refl
  strength_renamed (secondary o) = refl
  strength_renamed (count c) = refl

  count_renamed : (e : Extra N) → count_of (rename_extra f e) ≡ count_of e
  count_renamed nothing = refl
  count_renamed (strength given) = refl
  count_renamed (secondary o) = refl
  count_renamed (count c) = refl

  pub role_renamed : (k : Kind) (e : Extra N) → role_of k (rename_extra f e) ≡ role_of k e
  role_renamed k e = λ i. role_by k (strength_renamed e i) (count_renamed e i)

  pub pins_renamed : (h : Handle N) → pins (rename_handle f h) ≡ pins h
  pins_renamed h = ap (pins_with h.kind) (strength_renamed h.extra)
