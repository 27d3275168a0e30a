-- Lists of ends, and of what is open of them.
use Rattle.std.proofs.Common.{None, Option, Some, List, [], ◌∷◌, ◌++◌, ap, arith, false, get_or, is_some, length, map, refl, replicate, set, suc, sym, true, true≢false, zero, ℕ, ◌<◌, ◌∙◌, ◌≡◌}
use Rattle.std.proofs.lemmas.List.{length-append, length-map}
use Rattle.std.specs.List.{Contains}
use Rattle.atomic_table.specs.Seated.{TableId}
use Rattle.hd_host.specs.View.{HostView}
use Rattle.hd_ends.specs.Ends.{EndView, ends_up, new_end}
use Rattle.hd_ends.specs.declared.end.End.{End}
use Rattle.hd_ends.specs.declared.end.End.TheVariants.{Shared}

-- one of them is open
pub open_at : (vs : List (Option End)) (k : ℕ) (v : Option End) → k < length vs → v ≡ get_or vs k v
    → is_some v ≡ true → (e : End) × Contains vs (Some e)
open_at vs k (Some e) low at is = (e, (k, low, sym at))
open_at vs k None low at is = absurd (true≢false (sym is))

pub closed_is : (v : Option End) → is_some v ≡ false → v ≡ None
closed_is None is = refl
closed_is (Some e) is = absurd (true≢false is)

-- none of them is open
pub none_open : (xs : List (Option End)) → ((k : ℕ) (d : Option End) → k < length xs → get_or xs k d ≡ None)
    → xs ≡ replicate (length xs) None
none_open [] none = refl
none_open (x ∷ xs) none =
    ap (λ y. y ∷ xs) (none 0 None (omega arith))
    ∙ ap (λ ys. None ∷ ys) (none_open xs (λ k d low. none (suc k) d (omega (arith, low))))

pub length_ups : (table : TableId) (each : ℕ) (v : HostView) (count : ℕ) → length (ends_up table each v count) ≡ count
length_ups table each v zero = refl
length_ups table each v (suc count) =
    length-append (ends_up table each v count) (new_end table each v count ∷ [])
    ∙ omega (arith, length_ups table each v count)

some_of : {A : Type 0} (f : A → End) (l : List A) → map (λ y. Some (f y)) l ≡ map Some (map f l)
some_of f [] = refl
some_of f (y ∷ l) = ap (λ ys. Some (f y) ∷ ys) (some_of f l)

pub count_of : {A : Type 0} (value : A → End) (ys : List A) (table : TableId) (each : ℕ) (v : HostView) (count : ℕ)
    → map value ys ≡ map Shared (ends_up table each v count) → length ys ≡ count
count_of value ys table each v count same =
    sym (length-map ys value) ∙ ap length same ∙ length-map (ends_up table each v count) Shared
    ∙ length_ups table each v count

-- as what C holds
pub as_held : {A : Type 0} (value : A → End) (ys : List A) (xs : List EndView) → map value ys ≡ map Shared xs
    → map (λ y. Some (value y)) ys ≡ map (λ (e : EndView). Some (Shared e)) xs
as_held value ys xs same = some_of value ys ∙ ap (map Some) same ∙ sym (some_of Shared xs)

-- the last of those that are closed is opened
pub put_last : (count : ℕ) (x : Option End) (later : List (Option End))
    → set (replicate (suc count) None ++ later) count x ≡ replicate count None ++ x ∷ later
put_last zero x later = refl
put_last (suc count) x later = ap (λ ys. None ∷ ys) (put_last count x later)

pub last_closed : (count : ℕ) (d : Option End) (later : List (Option End))
    → get_or (replicate (suc count) None ++ later) count d ≡ None
last_closed zero d later = refl
last_closed (suc count) d later = last_closed count d later
