-- What commands touch, what handles are to a collection, how ages move, and what a load is.
use Rattle.hd_model.specs.{declared.data.Id.Id}
use Rattle.hd_model.proofs.Basics.{List, Object, Some, [], ap, false, nat_cmp_total, refl, true, ℕ, ◌∷◌, ◌≡◌}
use Rattle.std.specs.FinMap.{get-from_entries}
use Rattle.hd_model.specs.Scene.{scene_of, generation_at, generation_in}
use Rattle.hd_model.specs.Aging.{lowered_at}
use Rattle.hd_model.specs.Generated.{generated_list, generated_lists}
use Rattle.hd_laws.specs.CollectionSamples.{id_of, slot_of, object_with}
use Rattle.hd_laws.specs.TableLaws.{AgesMoveSo, CommandsTouchThese, HandlesHaveTheseRoles, LoadsAreThese, OthersLeaveAges, StoresLowerAges, aging, all_two}

pub commands_touch_these : CommandsTouchThese
commands_touch_these = record {
  parts = record {
    objects = refl;
    handles = refl;
    weak = refl;
    queue = refl;
    pinned = refl;
    blocks = refl;
    serials = refl;
  };
  places = record {
    register = refl;
    copied = refl;
    handle_register = refl;
    picked = refl;
    static = refl;
    board = refl;
  };
  about = record {
    handle = refl;
    adds = refl;
    takes_out = refl;
    makes_object = refl;
    makes_handle = refl;
    frees_handle = refl;
  };
  take_memory = refl;
  collect = refl;
}

pub handles_have_these_roles : HandlesHaveTheseRoles
handles_have_these_roles = record { roles = refl; pinning = refl }

-- ---- how ages move

abbrev objects : List (ℕ × Object Id)
objects =
    (5, object_with [] 0 false) ∷ (3, object_with (Some (id_of 4) ∷ []) 0 true) ∷ (4, object_with [] 0 false)
    ∷ (2, object_with [] 0 false) ∷ (1, object_with [] 1 false) ∷ []

generation_of_one : generation_at (scene_of aging).object (id_of 1) ≡ 1
generation_of_one = ap generation_in (get-from_entries nat_cmp_total objects 1)

generation_of_five : generation_at (scene_of aging).object (id_of 5) ≡ 0
generation_of_five = ap generation_in (get-from_entries nat_cmp_total objects 5)

stores : StoresLowerAges
stores = record {
  hset = ap (lowered_at all_two (Some (slot_of 80))) generation_of_one;
  hset_young = ap (lowered_at all_two (Some (slot_of 80))) generation_of_five;
  hset_null = refl;
  hset_refused = refl;
  hnew = ap (lowered_at all_two (Some (slot_of 66))) generation_of_one;
  hnew_null = refl;
  hnew_full = refl;
  hnew_dependent = refl;
  hsec = refl;
  cadd = refl;
}

others : OthersLeaveAges
others = record {
  new = refl;
  hget = refl;
  hfree = refl;
  hvar = refl;
  trim = refl;
  cfind = refl;
  cremove = refl;
  gcroot = refl;
}

pub ages_move_so : AgesMoveSo
ages_move_so = record {
  start = refl;
  last_of_first = refl;
  first_of_second = refl;
  never_raised = refl;
  collect_0 = refl;
  collect_1 = refl;
  collect_2 = refl;
  by_collect = refl;
  stores = stores;
  others = others;
}

-- ---- the commands of a load

pub loads_are_these : LoadsAreThese
unfolding generated_list generated_lists
loads_are_these = record {
  numbers = refl;
  makes = refl;
  collections = refl;
  round = refl;
  rounds = refl;
  callers = refl;
}
