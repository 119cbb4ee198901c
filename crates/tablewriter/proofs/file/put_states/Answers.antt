-- `put_states` meets its contract: each turn puts what is put of the next state. Assumes nothing.
use Rattle.std.proofs.Common.{sym, ◌∙◌, arith}
use Rattle.buffers.proofs.Parts.{parts_none, part_room, part_next}
use Rattle.buffers.proofs.PutsLaws.{puts_none}
use Rattle.transducer.specs.Limits.{most_states}
use Rattle.tablewriter.proofs.FileLaws.{state_in_lem, state_out, states_parts}
use Rattle.tablewriter.proofs.file.put_states.Goals as goal
use Rattle.tablewriter.proofs.file.put_states.Goals.{then-contains, else-contains}

pub loop-q-init : goal.loop-q-init
loop-q-init c = parts_none (states_parts _ _ most_states) c.requires

pub put_record-at-requires-clause-room : goal.put_record-at-requires-clause-room
put_record-at-requires-clause-room c =
    rw (state_in_lem _ _ _ (sym c.contains.ensures ∙ c.if-contains.true)) at (part_room c.loop-q.invariant (omega arith))

pub loop-q-preserved : goal.loop-q-preserved
loop-q-preserved c =
    let has_q = c.contains.ensures in
    elim c.if-contains.branch [
      | then-contains w ↦ rw (w.at-is, w.out-is) (part_next c.loop-q.invariant (omega arith) (rw (← state_in_lem c.args.letter c.args.s c.loop-q.q (sym has_q ∙ w.if-contains.true)) at w.put_record-at.ensures))
      | else-contains w ↦ rw (w.at-is, w.out-is) (part_next c.loop-q.invariant (omega arith) (rw (state_out c.args.letter c.args.s c.loop-q.q (sym has_q ∙ w.if-contains.false)) puts_none))
    ]
