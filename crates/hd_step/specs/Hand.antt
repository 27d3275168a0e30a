-- What is at hand of a source: the bytes that were read and are in no line that was taken.
use Rattle.std.specs.Prelude.{ℕ, Bool, List, refl}
use Rattle.std.specs.Coded.{Coded, code_by, coded×, coded_ℕ, coded_bool, coded_list}

-- and how many more may be read, and whether the source is at its end
pub record Hand : Type 0 where
  pub bytes : List ℕ
  pub room : ℕ
  pub ended : Bool

abbrev pub hand_code : Coded Hand
hand_code =
    code_by (List ℕ × (ℕ × Bool)) (coded× (coded_list coded_ℕ) (coded× coded_ℕ coded_bool))
    (λ h. (h.bytes, (h.room, h.ended))) (λ p. record { bytes = p.0; room = p.1.0; ended = p.1.1 })
    (λ _. refl)
