use Rattle.hd_laws.proofs.JournalTexts.{texts_give_slots_and_blocks}
use Rattle.hd_laws.proofs.text_laws.texts_give_slots_and_blocks.Goals as goal

pub returns : goal.returns
returns c = texts_give_slots_and_blocks
