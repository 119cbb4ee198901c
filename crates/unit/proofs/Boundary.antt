-- The statement of specs/Laws.antt holds. Assumes nothing.
use Rattle.unit.specs.Laws.{Boundary}
use Rattle.unit.proofs.ReturnLaws.{returned}
use Rattle.unit.proofs.Leaves.{refusal_leaves}
use Rattle.unit.proofs.Determined.{determined}
use Rattle.unit.proofs.HeldCalls.{read_taken, read_table, read_then_write, write_then_read, edits_in_place, edited_file, series_of, alike_join}
use Rattle.unit.proofs.HeldCalls.{joined_file, looks, look_shows}
use Rattle.unit.proofs.There.{read_there, edits_there}
use Rattle.unit.proofs.WordCalls.{verdict_means, outputs_agree, alike_verdict, single_join, alike_translation, agreement}

pub boundary : Boundary
boundary =
    record {
      returned = returned;
      refusal_leaves = refusal_leaves;
      determined = determined;
      read_holds = λ g z. (read_taken g z, read_table g z);
      read_there = read_there;
      looks = looks;
      look_shows = look_shows;
      read_then_write = read_then_write;
      write_then_read = λ g z k long. write_then_read g z k long;
      verdict_means = λ g z. verdict_means g z;
      outputs_agree = λ g z. outputs_agree g z;
      alike_verdict = alike_verdict;
      alike_translation = alike_translation;
      agreement = agreement;
      in_series = λ k z. series_of k z;
      single_join = single_join;
      alike_join = alike_join;
      joined_file = joined_file;
      edits = edits_in_place;
      edits_there = edits_there;
      edited_file = edited_file;
    }
