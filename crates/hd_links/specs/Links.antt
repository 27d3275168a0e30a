-- What handles and entries of the weak table do for chains.
use Rattle.std.specs.Prelude.{◌≡◌, ◌==◌, Bool, true, false, List, ◌++◌, map, Option, Some, None}
use Rattle.hd_model.specs.declared.data.Id.{Id}
use Rattle.hd_model.specs.declared.data.Kind.TheVariants as kind
use Rattle.hd_model.specs.Role.{Role, holds, short, long, attaches, role}
use Rattle.hd_model.specs.State as machine
use Rattle.hd_model.specs.State.{Handle, secondary_of}
use Rattle.hd_seen.specs.declared.SeenHandle.{SeenHandle}
use Rattle.hd_seen.specs.declared.SeenEntry.{SeenEntry}
use Rattle.hd_seen.specs.declared.SeenExtra.{SeenExtra}
use Rattle.hd_seen.specs.declared.SeenExtra.TheVariants as seen
use Rattle.hd_links.specs.declared.links.Link.{Link}

-- a handle of the machine, as it was before it was seen
abbrev pub extra_again : SeenExtra → machine.Extra Id
extra_again seen.Nothing = machine.nothing
extra_again (seen.Strength s) = machine.strength s
extra_again (seen.Secondary o) = machine.secondary o
extra_again (seen.Count c) = machine.count c

abbrev pub handle_again : SeenHandle → Handle Id
handle_again h = record { kind = h.kind; target = h.target; extra = extra_again h.extra }

-- the target of a handle that holds it, and of one that attaches something to it
abbrev pub held_by : Role → Option Id → Option Id
held_by holds o = o
held_by short o = None
held_by long o = None
held_by attaches o = None

abbrev pub source_by : Role → Option Id → Option Id
source_by holds o = None
source_by short o = None
source_by long o = None
source_by attaches o = o

-- what a handle does, and what an entry does
abbrev pub handle_link : SeenHandle → Link
handle_link h = record {
  slot = h.slot;
  kind = h.kind;
  is_entry = false;
  held = held_by (role (handle_again h)) h.target;
  source = source_by (role (handle_again h)) h.target;
  attached = secondary_of (extra_again h.extra);
}

abbrev pub entry_link : SeenEntry → Link
entry_link e = record {
  slot = e.slot;
  kind = kind.Dependent;
  is_entry = true;
  held = None;
  source = e.key;
  attached = e.value;
}

abbrev pub links_in : List SeenHandle → List SeenEntry → List Link
links_in handles entries = map handle_link handles ++ map entry_link entries

-- a link holds an object, or attaches another to it
abbrev pub LinksTo : Link → Id → Option Id → Type 0
LinksTo l x None = l.held ≡ Some x
LinksTo l x (Some y) = (l.source ≡ Some x) × (l.attached ≡ Some y)

-- whether a reference is of an object
abbrev pub is_at : Option Id → Id → Bool
is_at None x = false
is_at (Some y) x = y.0 == x.0
