use Rattle.hd_script.proofs.Basics.{arith, take_rest}
use Rattle.hd_script.proofs.LineSplit.{word_to_end, ended_word, broken_word, line_goes_on, past_blank}
use Rattle.hd_script.proofs.text.first_word.Goals as goal

pub returns-then-end-bytes-clause-words : goal.returns-then-end-bytes-clause-words
returns-then-end-bytes-clause-words c =
    rw take_rest (rw c.without_return.ensures
    (word_to_end c.args.bytes.now c.word_end-end.result c.word_end-end.ensures.first (omega arith)).0)

pub returns-then-end-bytes-clause-line : goal.returns-then-end-bytes-clause-line
returns-then-end-bytes-clause-line c =
    rw take_rest
    (word_to_end c.args.bytes.now c.word_end-end.result c.word_end-end.ensures.first (omega arith)).1

pub returns-then-bytes-end-eq10-clause-words : goal.returns-then-bytes-end-eq10-clause-words
returns-then-bytes-end-eq10-clause-words c =
    rw take_rest (rw c.without_return-then-bytes-end-eq10.ensures
    (ended_word c.args.bytes.now c.word_end-end.result c.word_end-end.ensures.first (omega arith)
    c.if-bytes-end-eq10.true))

pub returns-then-bytes-end-eq10-clause-line : goal.returns-then-bytes-end-eq10-clause-line
returns-then-bytes-end-eq10-clause-line c =
    rw take_rest
    (line_goes_on c.args.bytes.now c.word_end-end.result c.word_end-end.ensures.first (omega arith))

pub returns-then-bytes-end-eq35-clause-words : goal.returns-then-bytes-end-eq35-clause-words
returns-then-bytes-end-eq35-clause-words c =
    rw take_rest
    (broken_word c.args.bytes.now c.word_end-end.result c.word_end-end.ensures.first (omega arith) c.requires
    c.if-bytes-end-eq10.false)

pub returns-then-bytes-end-eq35-clause-line : goal.returns-then-bytes-end-eq35-clause-line
returns-then-bytes-end-eq35-clause-line c =
    rw take_rest
    (line_goes_on c.args.bytes.now c.word_end-end.result c.word_end-end.ensures.first (omega arith))

pub returns-else-bytes-end-eq35-clause-words : goal.returns-else-bytes-end-eq35-clause-words
returns-else-bytes-end-eq35-clause-words c =
    rw take_rest
    (past_blank c.args.bytes.now c.word_end-end.result c.word_end-end.ensures.first (omega arith) c.requires
    c.if-bytes-end-eq10.false c.if-bytes-end-eq35.false).0

pub returns-else-bytes-end-eq35-clause-line : goal.returns-else-bytes-end-eq35-clause-line
returns-else-bytes-end-eq35-clause-line c =
    rw take_rest
    (past_blank c.args.bytes.now c.word_end-end.result c.word_end-end.ensures.first (omega arith) c.requires
    c.if-bytes-end-eq10.false c.if-bytes-end-eq35.false).1
