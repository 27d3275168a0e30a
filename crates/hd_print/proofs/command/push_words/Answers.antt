use Rattle.hd_print.proofs.Basics.{arith, operand_word}
use Rattle.hd_print.proofs.WordJoin.{joined_step}
use Rattle.hd_print.proofs.command.push_words.Goals as goal

pub loop-operand-preserved : goal.loop-operand-preserved
loop-operand-preserved c =
    let i = c.loop-operand.operand-index in record {
      text = joined_step 32 c.args.name.now operand_word c.args.operands.now i _ c.args.line.now
          c.loop-operand.line c.push_operand.new.line (omega arith) c.loop-operand.invariant.text
          c.push_operand.ensures.text;
      short = omega (arith, c.push_operand.ensures.short, c.loop-operand.invariant.short);
    }
