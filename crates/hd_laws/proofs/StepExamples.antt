-- Examples of what steps return and give, each proved by computing.
use Rattle.hd_model.proofs.Basics.{None, Numbers, [], all_kinds, reply_address, block_of, blocks_needed, count, first_slot, made_extra, map, read_generation, refl, secondary, start_of, take_queued, ◌∷◌, ◌≡◌}
use Rattle.hd_model.specs.declared.data.Make.TheVariants as make
use Rattle.hd_model.specs.declared.data.Refusal.TheVariants as refusal
use Rattle.hd_model.specs.declared.data.Reply.TheVariants as reply

-- a kind with extra data grows the table by two blocks, and any other by one
pub blocks_of_kinds : map blocks_needed all_kinds ≡ 1 ∷ 1 ∷ 1 ∷ 1 ∷ 2 ∷ 2 ∷ 2 ∷ []
blocks_of_kinds = refl

-- the last slot of block 3 is 255, and the first one is 192
pub last_slot_in_block : block_of (record { 0 = 255 }) ≡ 3
last_slot_in_block = refl

pub first_slot_in_block : first_slot 3 ≡ record { 0 = 192 }
first_slot_in_block = refl

module _ (n : Numbers) where
  -- at the start a dependent handle made from null registers has no secondary, and a ref-counted one the
  -- count 1
  pub dependent_without_target :
      made_extra (start_of (record n { callers = 1 })) 0 (make.Dependent 1) 0 ≡ secondary None
  dependent_without_target = refl

  pub counted_at_one : made_extra (start_of n) 0 make.Counted 0 ≡ count 1
  counted_at_one = refl

  -- at the start nothing is queued, no register references an object, and handle registers are empty
  pub none_queued_at_first : (take_queued (start_of n) 0 3).reply ≡ reply.NoneQueued
  none_queued_at_first = refl

  pub null_has_no_generation :
      (read_generation (start_of (record n { callers = 1 })) 0 15).reply ≡ reply.Refused refusal.Null
  null_has_no_generation = refl

  pub empty_has_no_address : (reply_address (start_of (record n { callers = 1 })) 0 4 640).reply
      ≡ reply.Refused refusal.EmptyRegister
  empty_has_no_address = refl
