-- Examples of roots and of their lines, each proved by computing.
use Rattle.hd_model.specs.{declared.data.Id.Id, declared.data.Kind.Kind}
use Rattle.hd_model.proofs.Basics.{Extra, Handle, None, Some, [], identity_of, newline, nothing, refl, strength, ◌++◌, ◌∷◌, ◌≡◌}
use Rattle.std.specs.{Fmt.digits, Prelude.codes}
use Rattle.hd_model.specs.RootText.{held_of, roots_in, root_id, list_text}
use Rattle.hd_model.specs.declared.data.Kind.TheVariants as kind
use Rattle.hd_model.specs.declared.data.Strength.TheVariants as strength_of

-- a handle to the first object of caller 0
abbrev pub handle_to_first : Kind → Extra Id → Handle Id
handle_to_first k extra = record { kind = k; target = Some (identity_of 0 1); extra = extra }

-- a strong one without a target holds nothing
pub null_is_no_root : held_of {N = Id} (record { kind = kind.Strong; target = None; extra = nothing }) ≡ None
null_is_no_root = refl

-- the lines of a weak handle, a strong one and a variable one: those of two roots
pub lines_of_three :
    list_text (roots_in root_id (
    (64, handle_to_first kind.Short nothing) ∷ (128, handle_to_first kind.Strong nothing)
    ∷ (192, handle_to_first kind.Variable (strength strength_of.Pinned)) ∷ []))
    ≡ codes "root 128 strong 0.1" ++ newline ++ codes "root 192 var 0.1" ++ newline
    ++ codes "roots 2" ++ newline
unfolding digits
lines_of_three = refl
