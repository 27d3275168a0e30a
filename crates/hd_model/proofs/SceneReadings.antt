-- Scenes under other names: readings one after another, and whole scenes and sound ages under them.
use Rattle.hd_model.proofs.Basics.{Contains, Extra, Handle, HasSoundAges, IsField, IsReading, IsWhole, List, None, Object, Option, Scene, Some, [], age_of, ap, count, fields_in, generation_at, is_object, is_some, map, nothing, option_map, refl, rename_extra, rename_handle, rename_object, role, secondary, secondary_of, strength, subst, sym, true, ℕ, ◌∙◌, ◌∷◌, ◌≡◌, ◌≤◌}
use Rattle.hd_model.proofs.Members.{mapped_from, first_in, later_in, not_in_none}
use Rattle.hd_model.proofs.{MapEntries.some_value, SceneCollection.mapped_value, RenamedPins.role_renamed}
use Rattle.hd_model.proofs.RenamedReach.{secondary_renamed, object_read, object_unread, is_object_read, generation_read}

-- renaming twice is renaming by the composition
option_fused : {A B C : Type 0} (f : A → B) (g : B → C) (o : Option A)
    → option_map g (option_map f o) ≡ option_map (λ x. g (f x)) o
option_fused f g None = refl
option_fused f g (Some x) = refl

list_fused : {A B C : Type 0} (f : A → B) (g : B → C) (xs : List A) → map g (map f xs) ≡ map (λ x. g (f x)) xs
list_fused f g [] = refl
list_fused f g (x ∷ xs) = λ i. g (f x) ∷ list_fused f g xs i

names_fused : {A B C : Type 0} (f : A → B) (g : B → C) (xs : List (Option A))
    → map (option_map g) (map (option_map f) xs) ≡ map (option_map (λ x. g (f x))) xs
names_fused f g xs = list_fused (option_map f) (option_map g) xs ∙ (λ i. map (λ o. option_fused f g o i) xs)

extra_fused : {A B C : Type 0} (f : A → B) (g : B → C) (e : Extra A)
    → rename_extra g (rename_extra f e) ≡ rename_extra (λ x. g (f x)) e
extra_fused f g nothing = refl
extra_fused f g (strength given) = refl
extra_fused f g (secondary o) = ap secondary (option_fused f g o)
extra_fused f g (count c) = refl

pub object_fused : {A B C : Type 0} (f : A → B) (g : B → C) (o : Object A)
    → rename_object g (rename_object f o) ≡ rename_object (λ x. g (f x)) o
object_fused f g o = λ i. record {
  fields = names_fused f g o.fields i;
  value = o.value;
  generation = o.generation;
  registered = o.registered;
}

pub handle_fused : {A B C : Type 0} (f : A → B) (g : B → C) (h : Handle A)
    → rename_handle g (rename_handle f h) ≡ rename_handle (λ x. g (f x)) h
handle_fused f g h = λ i. record {
  kind = h.kind;
  target = option_fused f g h.target i;
  extra = extra_fused f g h.extra i;
}

-- two renamings that agree on what is referenced give the same
pub option_agrees : {A B : Type 0} (f g : A → B) (o : Option A) → ((x : A) → o ≡ Some x → f x ≡ g x)
    → option_map f o ≡ option_map g o
option_agrees f g None same = refl
option_agrees f g (Some x) same = ap (λ y. Some y) (same x refl)

pub list_agrees : {A B : Type 0} (f g : A → B) (xs : List A) → ((x : A) → Contains xs x → f x ≡ g x)
    → map f xs ≡ map g xs
list_agrees f g [] same = refl
list_agrees f g (x ∷ xs) same =
    let first : f x ≡ g x = same x (first_in x xs) in
    let rest : map f xs ≡ map g xs = list_agrees f g xs (λ y h. same y (later_in x xs y h)) in
    λ i. first i ∷ rest i

pub names_agree : {A B : Type 0} (f g : A → B) (xs : List (Option A))
    → ((x : A) → Contains xs (Some x) → f x ≡ g x) → map (option_map f) xs ≡ map (option_map g) xs
names_agree f g xs same =
    list_agrees (option_map f) (option_map g) xs
    (λ o h. option_agrees f g o (λ x e. same x (subst (λ q. Contains xs q) e h)))

pub extra_agrees : {A B : Type 0} (f g : A → B) (e : Extra A)
    → ((x : A) → secondary_of e ≡ Some x → f x ≡ g x)
    → rename_extra f e ≡ rename_extra g e
extra_agrees f g nothing same = refl
extra_agrees f g (strength given) same = refl
extra_agrees f g (secondary o) same = ap secondary (option_agrees f g o same)
extra_agrees f g (count c) same = refl

-- one reading after another is a reading
module _ {N M K : Type 0} (f : N → M) (g : M → K) (s : Scene N) (t : Scene M) (u : Scene K) (w : IsWhole s)
    (a : IsReading f s t) (b : IsReading g t u) where
  pub reading_on : IsReading (λ x. g (f x)) s u
  reading_on = record {
    objects = λ x h.
        let (o, e) = some_value (s.object x) h in
        b.objects (f x) (is_object_read f s t a x h)
        ∙ ap (option_map (rename_object g)) (object_read f s t a x o e)
        ∙ ap (λ p. Some p) (object_fused f g o) ∙ sym (ap (option_map (rename_object (λ y. g (f y)))) e);
    only = λ z h.
        let (y, there) = b.only z h in
        let (x, here) = a.only y there.0 in
        (x, (here.0, ap g here.1 ∙ there.1));
    apart = λ x y h k same.
        a.apart x y h k (b.apart (f x) (f y) (is_object_read f s t a x h) (is_object_read f s t a y k) same);
    handles = λ slot. b.handles slot ∙ ap (option_map (rename_handle g)) (a.handles slot)
        ∙ fused (s.handle slot);
    named = b.named ∙ ap (map (option_map g)) a.named ∙ names_fused f g s.named;
    queue = b.queue ∙ ap (map g) a.queue ∙ list_fused f g s.queue;
  }
    where
      fused : (o : Option (Handle N))
          → option_map (rename_handle g) (option_map (rename_handle f) o) ≡ option_map
          (rename_handle (λ x. g (f x))) o
      fused None = refl
      fused (Some h) = ap (λ q. Some q) (handle_fused f g h)

-- renamings that agree on its objects read a whole scene alike
module _ {N M : Type 0} (f g : N → M) (s : Scene N) (t : Scene M) (w : IsWhole s) (a : IsReading f s t)
    (same : (x : N) → is_object s.object x ≡ true → f x ≡ g x) where
  same_object : (x : N) (o : Object N) → s.object x ≡ Some o → rename_object f o ≡ rename_object g o
  same_object x o e = λ i. record {
    fields =
        names_agree f g o.fields
        (λ y h. same y (w.fields x y (subst (λ (q : Option (Object N)). Contains (fields_in q) (Some y))
        (sym e) h))) i;
    value = o.value;
    generation = o.generation;
    registered = o.registered;
  }

  same_handle : (slot : ℕ) (h : Handle N) → s.handle slot ≡ Some h → rename_handle f h ≡ rename_handle g h
  same_handle slot h e = λ i. record {
    kind = h.kind;
    target = option_agrees f g h.target (λ x at. same x (w.targets slot h x e at)) i;
    extra = extra_agrees f g h.extra (λ x at. same x (w.secondaries slot h x e at)) i;
  }

  same_row : (slot : ℕ) (o : Option (Handle N)) → s.handle slot ≡ o
      → option_map (rename_handle f) o ≡ option_map (rename_handle g) o
  same_row slot None e = refl
  same_row slot (Some h) e = ap (λ q. Some q) (same_handle slot h e)

  pub reading_like : IsReading g s t
  reading_like = record {
    objects = λ x h.
        let (o, e) = some_value (s.object x) h in
        ap t.object (sym (same x h)) ∙ object_read f s t a x o e ∙ ap (λ p. Some p) (same_object x o e)
        ∙ sym (ap (option_map (rename_object g)) e);
    only = λ y h. let (x, rest) = a.only y h in (x, (rest.0, sym (same x rest.0) ∙ rest.1));
    apart = λ x y h k e. a.apart x y h k (same x h ∙ e ∙ sym (same y k));
    handles = λ slot. a.handles slot ∙ same_row slot (s.handle slot) refl;
    named = a.named ∙ names_agree f g s.named (λ x h. same x (w.named x h));
    queue = a.queue ∙ list_agrees f g s.queue (λ x h. same x (w.queue x h));
  }

-- a whole scene and sound ages are so under other names
module _ {N M : Type 0} (f : N → M) (s : Scene N) (t : Scene M) (w : IsWhole s) (a : IsReading f s t) where
  row_unread : (slot : ℕ) (h : Handle M) → t.handle slot ≡ Some h → (g : Handle N)
      × ((s.handle slot ≡ Some g) × (rename_handle f g ≡ h))
  row_unread slot h e = mapped_value (rename_handle f) (s.handle slot) h (sym (a.handles slot) ∙ e)

  -- a target or a secondary under the new name is one under the old
  target_unread : (g : Handle N) (h : Handle M) (y : M) → rename_handle f g ≡ h → h.target ≡ Some y → (x : N)
      × ((g.target ≡ Some x) × (f x ≡ y))
  target_unread g h y same e = mapped_value f g.target y (ap (λ (q : Handle M). q.target) same ∙ e)

  secondary_unread : (g : Handle N) (h : Handle M) (y : M) → rename_handle f g ≡ h
      → secondary_of h.extra ≡ Some y → (x : N) × ((secondary_of g.extra ≡ Some x) × (f x ≡ y))
  secondary_unread g h y same e =
      mapped_value f (secondary_of g.extra) y
      (sym (secondary_renamed f g.extra) ∙ ap (λ (q : Handle M). secondary_of q.extra) same ∙ e)

  named_object : (x : N) (y : M) → is_object s.object x ≡ true → f x ≡ y → is_object t.object y ≡ true
  named_object x y h e = subst (λ z. is_object t.object z ≡ true) e (is_object_read f s t a x h)

  field_unread : (b y : M) (o : Option (Object M)) → t.object b ≡ o → Contains (fields_in o) (Some y)
      → is_object t.object y ≡ true
  field_unread b y None e h = absurd (not_in_none (Some y) h)
  field_unread b y (Some p) e h =
      let (x, there) = a.only b (ap is_some e) in
      let (o, both) = object_unread f s t a x p there.0 (ap t.object there.1 ∙ e) in
      let fields = subst (λ (q : Object M). Contains q.fields (Some y)) (sym both.1) h in
      let (v, rest) = mapped_from (option_map f) o.fields (Some y) fields in
      let (z, at) = mapped_value f v y rest.1 in
      let field : IsField s.object x z =
      subst (λ (q : Option (Object N)). Contains (fields_in q) (Some z)) (sym both.0)
      (subst (λ q. Contains o.fields q) at.0 rest.0) in
      named_object z y (w.fields x z field) at.1

  pub whole_read : IsWhole t
  whole_read = record {
    fields = λ b y h. field_unread b y (t.object b) refl h;
    named = λ y h.
        let (o, rest) = mapped_from (option_map f) s.named (Some y)
        (subst (λ xs. Contains xs (Some y)) a.named h) in
        let (x, both) = mapped_value f o y rest.1 in
        named_object x y (w.named x (subst (λ q. Contains s.named q) both.0 rest.0)) both.1;
    queue = λ y h. let (x, rest) = mapped_from f s.queue y (subst (λ xs. Contains xs y) a.queue h) in
        named_object x y (w.queue x rest.0) rest.1;
    targets = λ slot h y is_stored e.
        let (g, both) = row_unread slot h is_stored in
        let (x, at) = target_unread g h y both.1 e in named_object x y (w.targets slot g x both.0 at.0) at.1;
    secondaries = λ slot h y is_stored e.
        let (g, both) = row_unread slot h is_stored in
        let (x, at) = secondary_unread g h y both.1 e in
        named_object x y (w.secondaries slot g x both.0 at.0) at.1;
    paired = λ slot h is_stored none.
        let (g, both) = row_unread slot h is_stored in
        sym (ap (λ (q : Handle M). secondary_of q.extra) both.1) ∙ secondary_renamed f g.extra
        ∙ ap (option_map f) (w.paired slot g both.0
        (none_before g.target (ap (λ (q : Handle M). q.target) both.1 ∙ none)));
    fits = λ slot h y is_stored e.
        let (g, both) = row_unread slot h is_stored in
        let (x, at) = secondary_unread g h y both.1 e in
        sym (ap (λ (q : Handle M). role q) both.1) ∙ role_renamed f g.kind g.extra
        ∙ w.fits slot g x both.0 at.0;
  }
    where
      none_before : (o : Option N) → option_map f o ≡ None → o ≡ None
      none_before None e = refl
      none_before (Some x) e = cc

  aged : (slot : ℕ) (ages : List ℕ) (x : N) (y : M) → is_object s.object x ≡ true → f x ≡ y
      → age_of ages slot ≤ generation_at s.object x → age_of ages slot ≤ generation_at t.object y
  aged slot ages x y h same l =
      subst (λ z. age_of ages slot ≤ generation_at t.object z) same
      (subst (λ k. age_of ages slot ≤ k) (sym (generation_read f s t a x h)) l)

  pub ages_read : (ages : List ℕ) → HasSoundAges s.object s.handle ages → HasSoundAges t.object t.handle ages
  ages_read ages sound = record {
    targets = λ slot h y is_stored e.
        let (g, both) = row_unread slot h is_stored in
        let (x, at) = target_unread g h y both.1 e in
        aged slot ages x y (w.targets slot g x both.0 at.0) at.1 (sound.targets slot g x both.0 at.0);
    secondaries = λ slot h y is_stored e.
        let (g, both) = row_unread slot h is_stored in
        let (x, at) = secondary_unread g h y both.1 e in
        aged slot ages x y (w.secondaries slot g x both.0 at.0) at.1 (sound.secondaries slot g x both.0 at.0);
  }
