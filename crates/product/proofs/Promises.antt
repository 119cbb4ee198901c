-- What this crate promises of the steps of pairs. Assumes nothing.
use Rattle.product.specs.Promises.{StepsPromised}
use Rattle.product.proofs.LabelLaws.{both_label, left_label, right_label, edge_number, label_low}
use Rattle.product.proofs.StepLaws.{step_label, past_steps, past_first_row, past_row_after, past_last_row}
use Rattle.product.proofs.TargetLaws.{target_low}
use Rattle.product.proofs.ImageLaws.{steps_move, move_steps}

pub steps_promised : StepsPromised
steps_promised =
    record {
      edge_number = edge_number;
      both_label = both_label;
      left_label = left_label;
      right_label = right_label;
      label_low = label_low;
      steps_move = steps_move;
      move_steps = λ image v move. let s = move_steps image v move in (s.steps, s.target);
      step_label = step_label;
      target_low = target_low;
      past_first_row = past_first_row;
      past_steps = past_steps;
      past_row_after = past_row_after;
      past_last_row = past_last_row;
    }
