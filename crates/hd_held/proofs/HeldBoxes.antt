-- The machine values of a `Held`.
use Rattle.std.proofs.Common.{◌≡◌, ℕ, List, [], ◌∷◌, ◌++◌, refl, subst}
use Rattle.std.specs.Prelude.{Option, Some, None}
use seplogic.Ra.Ura.{Ura}
use mir.Raw.{raw as bare}
use mir.Val.{Val, vstruct, of_list, has_ty}
use base.Logic.{ent, guard, never, via, fst∗, snd∗, guard_i}
use types.Logic.{Logic, sem}
use types.Kit.{Item, Goal, Seq, Step, step, ‵, given, ◌$◌, move, drop, use1, learn, fsplit, fjoin, fpick, fpack, feq_i, feq_l}
use contract.Monad.{fact_use}
use denote.RattleType.{RattleType, Valss}
use denote.Builtin.{RawPtr}
use denote.Memory.{lone}
use denote.RawPtr.{Ptr, block_ptr, null_ptr, ptr_val, in_a_block, Testable}
use denote.Steps.{nothing}
use denote.Param.{layout}
use denote.Struct.Struct.{within}
use denote.Struct.Owning.{shape}
use Rattle.core.specs.Ptr.{points_to}
use Rattle.core.proofs.alloc.Calls.{handle_tells}
use Rattle.core.proofs.atomic.Steps.{Ptr-Good}
use Rattle.core.proofs.cell.Inside.{Good}
use Rattle.std.specs.declared.alloc.Global.{Global}
use Rattle.std.specs.contracts.alloc.Global as heap
use Rattle.std.proofs.alloc.Global.TheLaws as heap_laws
use Rattle.std.specs.contracts.impls.GlobalAllocator.TheImpl.{ghosts}
use Rattle.std.proofs.GlobalToken.{dealloc_token-Testable}
use Rattle.std_alloc.specs.Box.Ownership.{box_owns}
use Rattle.hd_ends.specs.declared.end.End.{End}
use Rattle.hd_ends.specs.contracts.end.End as host
use Rattle.hd_held.specs.Held.{owned_at}
use Rattle.hd_held.specs.contracts.held.Held as held
use Rattle.hd_loose.proofs.LooseBoxes.{al, both, both_tt}

-- its machine value is well formed
pub held_good : (p : Ptr) (h : Val) → Good (layout heap.the_row) h
    → Good (layout held.the_row) (both (ptr_val p) h)
held_good p h fits = (
  both_tt (has_ty (layout RawPtr) (ptr_val p)) (has_ty (layout heap.the_row) h) (Ptr-Good p).0 fits.0,
  ((Ptr-Good p).1, (fits.1, tt)),
)

module _ {M : Type 1} {𝓤 : Ura M} {𝓛 : Logic 𝓤} {K : Type 0} {Γ : List (Item 𝓤)} {G : Goal 𝓤 𝓛.H} where
  -- the pointer, the allocator, and what the pointer owns
  pub held_out : K → (d : held.the_row.Denot) (vs : List Val)
      → ((h : Val) → vs ≡ both (ptr_val d.at) h ∷ [] → Good (layout heap.the_row) h
      → Seq K 𝓛 (‵ (owned_at d.alloc d.at d.value) ∷ ‵ (heap.the_row.own_val d.alloc (h ∷ [])) ∷ Γ) G)
      → Seq K 𝓛 (‵ (held.the_row.own_val d vs) ∷ Γ) G
  held_out t d vs k =
      fsplit t $ fpick t (λ vss. fsplit t $ feq_l t (λ ev. fsplit t $ feq_l t (λ ep. fsplit t $
      handle_tells (al host.the_row heap.the_row heap_laws.the_row_laws ghosts) t d.alloc vss.1.0
      (λ h ea fits.
      move t (1 ∷ []) $ drop t $ move t (1 ∷ []) $ k h
      (subst (λ (ws : List Val). vs ≡ vstruct (of_list (ptr_val d.at ∷ (ws ++ []))) ∷ []) ea
      (subst (λ (ps : List Val). vs ≡ vstruct (of_list (ps ++ (vss.1.0 ++ []))) ∷ []) ep ev)) fits))))

  pub held_in : K → (p : Ptr) (h : Val) (a : Global) (x : Option End)
      → Step K 𝓛 (‵ (held.the_row.own_val (record { at = p; alloc = a; value = x })
      (both (ptr_val p) h ∷ [])) ∷ Γ) G
      (‵ (owned_at a p x) ∷ ‵ (heap.the_row.own_val a (h ∷ [])) ∷ Γ) G
  held_in t p h a x = step (λ s. let v : Val = both (ptr_val p) h in
      nothing t $ move t (2 ∷ 0 ∷ []) $ fjoin t $
      feq_i t (List Val) (ptr_val p ∷ []) (ptr_val p ∷ []) refl $ fjoin t $
      feq_i t (List Val) (v ∷ []) (v ∷ []) refl $ fjoin t $
      fpack t (Valss (RawPtr ∷ heap.the_row ∷ []))
      (within (shape held.the_type) (p, (heap.the_type.to a, tt)) (v ∷ []))
      (ptr_val p ∷ [], (h ∷ [], tt)) $ fjoin t $ s)

module _ {M : Type 1} {𝓤 : Ura M} (𝓛 : Logic 𝓤) (R : RattleType) (a : Global) where
  -- who may free the block of a pointer may compare it with null
  pub tested : (p : Ptr) (x : R.Denot) → ent 𝓤 (sem 𝓛 (box_owns (ghosts.dealloc_token a) R p x))
      (guard 𝓤 (Testable p) (sem 𝓛 (box_owns (ghosts.dealloc_token a) R p x)))
  tested p x =
      fact_use 𝓤 (Testable p)
      (via 𝓤 _ (snd∗ 𝓤 (sem 𝓛 (points_to R p x)) (sem 𝓛 (ghosts.dealloc_token a (bare (lone R.mir)) p)))
      (dealloc_token-Testable 𝓛 a (bare (lone R.mir)) p))
      (guard_i 𝓤 (Testable p) (sem 𝓛 (box_owns (ghosts.dealloc_token a) R p x)))

module _ {M : Type 1} {𝓤 : Ura M} {𝓛 : Logic 𝓤} {K : Type 0} {Γ : List (Item 𝓤)} {G : Goal 𝓤 𝓛.H} where
  -- it is closed, and its pointer null, or it is open, and its pointer not
  pub either_held : K → (a : Global) (p : Ptr) (x : Option End) → (x ≡ None → p ≡ null_ptr → Seq K 𝓛 Γ G)
      → ((b o : ℕ) (v : End) → x ≡ Some v → p ≡ block_ptr b o → Testable (block_ptr b o)
      → Seq K 𝓛 (‵ (box_owns (ghosts.dealloc_token a) host.the_row (block_ptr b o) v) ∷ Γ) G)
      → Seq K 𝓛 (‵ (owned_at a p x) ∷ Γ) G
  either_held t a p None none one = feq_l t (λ e. none refl e)
  either_held t a p (Some v) none one =
      in_a_block t p (λ q. box_owns (ghosts.dealloc_token a) host.the_row q v)
      (fst∗ 𝓤 (never 𝓤) (sem 𝓛 (ghosts.dealloc_token a (bare (lone host.the_row.mir)) null_ptr)))
      (λ b o e. use1 𝓛 (given (Testable (block_ptr b o))
      (‵ (box_owns (ghosts.dealloc_token a) host.the_row (block_ptr b o) v)))
      (tested 𝓛 host.the_row a (block_ptr b o) v) $ learn t (λ test. one b o v refl e test))
