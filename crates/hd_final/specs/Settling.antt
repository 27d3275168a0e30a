-- How a heap loses registrations: a finalizer runs once for each time that its object is registered (.NET's
-- GC.ReRegisterForFinalize registers it again).
use Rattle.std.specs.Prelude.{◌≡◌, false, List, option_map, Contains}
use Rattle.hd_model.specs.{declared.data.Addr.Addr, State.Object}
use Rattle.hd_model.specs.Heap.{Heap, object_at, id_at}

-- the object without its registration
abbrev pub unregistered : {N : Type 0} → Object N → Object N
unregistered o = record {
  fields = o.fields;
  value = o.value;
  generation = o.generation;
  registered = false;
}

-- the registrations of these objects are removed, and nothing else is changed: regions, free regions, limit
-- and cards are as before
pub record Unregisters (xs : List Addr) (old new : Heap) : Type 0 where
  pub among : (a : Addr) → Contains xs a → object_at new a ≡ option_map unregistered (object_at old a)
  pub others : (a : Addr) → (Contains xs a → ⊥) → object_at new a ≡ object_at old a
  pub ids : (a : Addr) → id_at new a ≡ id_at old a
  pub same : new ≡ record old { objects = new.objects }
