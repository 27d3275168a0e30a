-- The handles and the objects of a run, counted over its journal.
use Rattle.hd_model.proofs.Basics.{Bool, Chain, Cmd, DoesCollect, Entry, Handle, HandlesAreMadeLessFreed, Id, IsSome, IsWellFormed, List, None, Numbers, Object, ObjectsAreMadeLessRemoved, Option, Refusal, Reply, Some, State, Step, ap, arith, cleared, cond, false, field_of, frees_handle, fresh_object, get, is_done, is_some, last_serial, len, len-empty, link, load_reply, made_handle, nat_cmp, object_returned, object_by_id, option_map, refl, register_of, removed_in, start_of, stay, subst, sum_by, sum_by-cons, sym, touched_by, true, with_handle, ℕ, ◌%◌, ◌&&◌, ◌+◌, ◌/◌, ◌<◌, ◌^◌, ◌∙◌, ◌≡◌, ◌≤◌}
use Rattle.hd_model.specs.Laws.{makes_handle, makes_object}
use Rattle.hd_model.proofs.ReadAfterWrite.{len_new, len_again, len_less}
use Rattle.hd_model.proofs.{PropertyCounts.counts_like, PropertyCounts.counts_once, SceneCollection.mapped_value, Reports.report_says}
use Rattle.hd_model.proofs.MapEntries.{counts_keys, some_value, none_from}
use Rattle.hd_model.proofs.Effects.{Effect, refused, makes_object as does_make, sets_field, gets_field, sets_value, reads_value, copies, clears, puts_static, gets_static, reads_generation, suppresses, reregisters, finds_none, takes_first, collects, makes_handle as does_make_handle, gets_target, sets_target, sets_secondary, gets_secondary, sets_strength, raises_count, lowers_count, frees_handle as does_free, puts_board, picks_board, replies_address, gives_back, gives_none, adds_entry, finds_value, finds_no_entry, removes_entry, removes_none, effect, next_identity, with_field}
use Rattle.hd_model.proofs.WellFormedSteps.{has, given_vacant, step_keeps, start_is_well_formed}
use Rattle.hd_model.specs.declared.data.Reply.TheVariants as reply
use Rattle.hd_model.proofs.Basics.{⊎_elim}
use Rattle.hd_model.proofs.Effects.{replies_root}

abbrev one_if : Bool → ℕ
one_if b = cond b 1 0

-- what each step adds and takes is what the entries state
totals : (n : Numbers) (size : State → ℕ) (made gone : Entry → ℕ)
    → ((s : State) (e : Entry) (t : State) → IsWellFormed n s → Step n s e t
    → size t + gone e ≡ size s + made e) → {s t : State} {es : List Entry} → IsWellFormed n s
    → Chain (Step n) s es t → size t + sum_by gone es ≡ size s + sum_by made es
totals n size made gone each w stay = refl
totals n size made gone each w (link {s = s} {t = t} {u = u} {e = e} {es = es} step rest) =
    let first = each s e t w step in
    let others = totals n size made gone each (step_keeps n s t e w step) rest in
    let more = sum_by-cons made e es in
    let less = sum_by-cons gone e es in
    omega arith

-- a refused command makes and frees nothing
no_and : (b : Bool) → (b && false) ≡ false
no_and true = refl
no_and false = refl

as_one : (b : Bool) → b ≡ true → one_if b ≡ 1
as_one b e = ap one_if e

as_none : (b : Bool) → b ≡ false → one_if b ≡ 0
as_none b e = ap one_if e

refused_is_none : (b : Bool) (test : Reply → Bool) (r : Reply) (why : Refusal)
    → test (reply.Refused why) ≡ false → r ≡ reply.Refused why → one_if (b && test r) ≡ 0
refused_is_none b test r why fails is = as_none _
    (ap (λ x. b && test x) is ∙ ap (λ x. b && x) fails ∙ no_and b)

done_is_one : (r : Reply) → r ≡ reply.Done → one_if (is_done r) ≡ 1
done_is_one r is = as_one _ (ap is_done is)

-- the next identity of a caller is that of no object
pub fresh : (n : Numbers) (s : State) (c : ℕ) → IsWellFormed n s → last_serial s c + 1 < 2 ^ 32
    → get s.objects (next_identity s c).0 ≡ None
fresh n s c w small =
    let id : ℕ = (next_identity s c).0 in
    let owner : id / 2 ^ 32 ≡ c = omega arith in
    let number : id % 2 ^ 32 ≡ last_serial s c + 1 = omega arith in
    none_from (get s.objects id) (λ h.
    let le : id % 2 ^ 32 ≤ last_serial s c =
    subst (λ k. id % 2 ^ 32 ≤ last_serial s k) owner (w.serials.to_last id h) in
    omega arith)

-- a collection leaves as many handles, and as many objects as it does not remove
mapped_some : {A B : Type 0} (f : A → B) (o : Option A) → IsSome o → IsSome (option_map f o)
mapped_some f None h = h
mapped_some f (Some x) h = refl

module _ (n : Numbers) (k : ℕ) (s t : State) (e : Entry) (w : IsWellFormed n s)
    (did : DoesCollect s e t k) where
  handles_stay : len t.handles ≡ len s.handles
  handles_stay =
      let scene = did.collects.scene in
      let before = counts_keys s.handles (λ i. i) (λ i. i) (λ i. refl) (λ i. refl) in
      let after = counts_keys t.handles (λ i. i) (λ i. i) (λ i. refl) (λ i. refl) in
      counts_once (λ i. IsSome (get s.handles i)) (len t.handles) (len s.handles)
      (counts_like (λ i. IsSome (get t.handles i)) (λ i. IsSome (get s.handles i)) (len t.handles)
      (λ i h.
      let (handle, is) = some_value (get t.handles i) h in
      let (g, both) = mapped_value (cleared scene.reach scene.kept) (get s.handles i) handle
      (sym (did.collects.handles i) ∙ is) in ap is_some both.0)
      (λ i h. subst IsSome (sym (did.collects.handles i)) (mapped_some (cleared scene.reach scene.kept)
      (get s.handles i) h)) after) before

  objects_fall : len t.objects + did.report.removed ≡ len s.objects
  objects_fall =
      (report_says n k s t did.report (record { well_formed = w; collects = did.collects })).objects

module _ (n : Numbers) (s : State) (e : Entry) (w : IsWellFormed n s) where
  again : (h : ℕ) (slot : ℕ) (handle handle' : Handle Id) → get s.handles slot ≡ Some handle
      → len (with_handle s (record { 0 = slot }) handle').handles ≡ len s.handles
  again h slot handle handle' live = len_again s.handles slot handle' (ap is_some live)

  handles_step : (c : Cmd) (t : State) → Effect n s e c t
      → len t.handles + one_if (frees_handle c e.reply) ≡ len s.handles + one_if (makes_handle c e.reply)
  handles_step c t (refused {r = r} p) =
      let free = refused_is_none (touched_by c).frees_handle is_done e.reply r refl p in
      let none = refused_is_none (touched_by c).makes_handle is_done e.reply r refl p in
      omega arith
  handles_step c t (does_make_handle {d = d} {t = r} {given = given} slot given_is may p) =
      let one = done_is_one e.reply p in
      let more = len_new s.handles slot.0 (made_handle s e.caller given r)
      (given_vacant n s w _ e.grown slot may) in
      omega arith
  handles_step c t (sets_target {h = h} slot handle f p) = ap (λ x. x + 0) (again h slot.0 handle _ f.live)
  handles_step c t (sets_secondary {h = h} slot handle f same target p) =
      ap (λ x. x + 0) (again h slot.0 handle _ f.live)
  handles_step c t (sets_strength {h = h} slot handle f same p) =
      ap (λ x. x + 0) (again h slot.0 handle _ f.live)
  handles_step c t (raises_count {h = h} slot handle f same p) =
      ap (λ x. x + 0) (again h slot.0 handle _ f.live)
  handles_step c t (lowers_count {h = h} slot handle f same p) =
      ap (λ x. x + 0) (again h slot.0 handle _ f.live)
  handles_step c t (does_free {h = h} slot handle f p q) =
      let one = done_is_one e.reply p in
      let less = len_less s.handles slot.0 (ap is_some f.live) in
      omega arith
  handles_step c t (collects {k = k} did) = ap (λ x. x + 0) (handles_stay n k s t e w did)
  handles_step c t _ = refl

  loaded_removes : (o : Option Id) → removed_in (load_reply o) ≡ 0
  loaded_removes None = refl
  loaded_removes (Some id) = refl

  -- only a collection returns that it removed objects
  removes : (c : Cmd) (t : State) → Effect n s e c t
      → len t.objects + removed_in e.reply ≡ len s.objects + one_if (makes_object c e.reply)
  removes c t (refused {r = r} p) =
      let none = refused_is_none (touched_by c).makes_object
      (λ x. is_some (object_returned x)) e.reply r refl p in
      let zero_is = ap removed_in p in
      omega arith
  removes c t (does_make {d = d} {fields = fields} {fin = fin} small p) =
      let zero_is = ap removed_in p in
      let one = as_one (is_some (object_returned e.reply)) (ap (λ x. is_some (object_returned x)) p) in
      let more = len_new s.objects (next_identity s e.caller).0 (fresh_object fields fin)
      (fresh n s e.caller w small) in
      omega arith
  removes c t (sets_field {o = o} {i = i} {v = v} id f l p) =
      let zero_is = ap removed_in p in
      let same = len_again s.objects id.0 (with_field (object_by_id s id) i (register_of s e.caller v))
      (has n s e.caller o id w f) in
      omega arith
  removes c t (sets_value {o = o} {v = v} id f p) =
      let zero_is = ap removed_in p in
      let same = len_again s.objects id.0 (record (object_by_id s id) { value = v })
      (has n s e.caller o id w f) in
      omega arith
  removes c t (suppresses {o = o} id f p) =
      let zero_is = ap removed_in p in
      let same = len_again s.objects id.0 (record (object_by_id s id) { registered = false })
      (has n s e.caller o id w f) in
      omega arith
  removes c t (reregisters {o = o} id f p) =
      let zero_is = ap removed_in p in
      let same = len_again s.objects id.0 (record (object_by_id s id) { registered = true })
      (has n s e.caller o id w f) in
      omega arith
  removes c t (collects {k = k} did) =
      let fall = objects_fall n k s t e w did in
      let in_reply = ap removed_in did.reply in
      omega arith
  removes c t (gets_field {i = i} id f l p) = ap (λ x. len s.objects + x)
      (ap removed_in p ∙ loaded_removes (field_of (object_by_id s id) i))
  removes c t (reads_value id f p) = ap (λ x. len s.objects + removed_in x) p
  removes c t (copies p) = ap (λ x. len s.objects + removed_in x) p
  removes c t (clears p) = ap (λ x. len s.objects + removed_in x) p
  removes c t (puts_static p) = ap (λ x. len s.objects + removed_in x) p
  removes c t (gets_static p) = ap (λ x. len s.objects + x) (ap removed_in p ∙ loaded_removes _)
  removes c t (reads_generation id f p) = ap (λ x. len s.objects + removed_in x) p
  removes c t (finds_none p) = ap (λ x. len s.objects + removed_in x) p
  removes c t (takes_first id rest is p) = ap (λ x. len s.objects + removed_in x) p
  removes c t (does_make_handle slot given_is may p) = ap (λ x. len s.objects + removed_in x) p
  removes c t (gets_target slot handle f p) = ap (λ x. len s.objects + x) (ap removed_in p ∙ loaded_removes _)
  removes c t (sets_target slot handle f p) = ap (λ x. len s.objects + removed_in x) p
  removes c t (sets_secondary slot handle f same target p) = ap (λ x. len s.objects + removed_in x) p
  removes c t (gets_secondary slot handle f p) =
      ap (λ x. len s.objects + x) (ap removed_in p ∙ loaded_removes _)
  removes c t (sets_strength slot handle f same p) = ap (λ x. len s.objects + removed_in x) p
  removes c t (raises_count slot handle f same p) = ap (λ x. len s.objects + removed_in x) p
  removes c t (lowers_count slot handle f same p) = ap (λ x. len s.objects + removed_in x) p
  removes c t (does_free slot handle f p q) = ap (λ x. len s.objects + removed_in x) p
  removes c t (puts_board p) = ap (λ x. len s.objects + removed_in x) p
  removes c t (picks_board p) = ap (λ x. len s.objects + removed_in x) p
  removes c t (replies_address slot handle id address f target may p) =
      ap (λ x. len s.objects + removed_in x) p
  removes c t (gives_back block free p) = ap (λ x. len s.objects + removed_in x) p
  removes c t (gives_none p) = ap (λ x. len s.objects + removed_in x) p
  removes c t (adds_entry key slot f none may p q) = ap (λ x. len s.objects + removed_in x) p
  removes c t (finds_value key slot x f p) = ap (λ x. len s.objects + x) (ap removed_in p ∙ loaded_removes _)
  removes c t (finds_no_entry key f none p) = ap (λ x. len s.objects + removed_in x) p
  removes c t (removes_entry key slot x f p) = ap (λ x. len s.objects + removed_in x) p
  removes c t (removes_none key f none p) = ap (λ x. len s.objects + removed_in x) p
  removes c t (replies_root goal f is_root) =
      ap (λ x. len s.objects + x) (⊎_elim (λ x. ap removed_in x.reply_is) (λ x. ap removed_in x.1) is_root)

pub handles_are_made_less_freed : HandlesAreMadeLessFreed
handles_are_made_less_freed n journal s run =
    let none : len (start_of n).handles ≡ 0 = len-empty nat_cmp (Handle Id) in
    let all = totals n (λ x. len x.handles) (λ e. one_if (makes_handle e.cmd e.reply))
    (λ e. one_if (frees_handle e.cmd e.reply)) (λ x e y w step. handles_step n x e w e.cmd y
    (effect n x e y step)) (start_is_well_formed n) run in
    omega arith

pub objects_are_made_less_removed : ObjectsAreMadeLessRemoved
objects_are_made_less_removed n journal s run =
    let none : len (start_of n).objects ≡ 0 = len-empty nat_cmp (Object Id) in
    let all = totals n (λ x. len x.objects) (λ e. one_if (makes_object e.cmd e.reply))
    (λ e. removed_in e.reply) (λ x e y w step. removes n x e w e.cmd y (effect n x e y step))
    (start_is_well_formed n) run in
    omega arith
