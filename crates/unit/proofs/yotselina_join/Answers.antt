-- The joined table has its shape, and is held.
use Rattle.std.proofs.Common.{refl}
use Rattle.held.proofs.BytesLaws.{held_shaped}
use Rattle.series.specs.Join.{joined_of}
use Rattle.series.proofs.SeriesLaws.{joined_shaped}
use Rattle.unit.proofs.Returns.{begun, made_shaped, held_as}
use Rattle.unit.proofs.yotselina_join.Goals as goal

pub give_table-requires-clause-shaped : goal.give_table-requires-clause-shaped
give_table-requires-clause-shaped c =
    let shaped = joined_shaped c.join-joined.ensures (rw c.table_in-other.ensures (held_shaped c.args.second.now)) in
    made_shaped c.join-joined.result c.on_file.ensures (λ t e. rw e at shaped)

pub returns : goal.returns
returns c =
    let joined = c.join-joined.result in
    record {
      call =
          begun (c.if-first-lt-SIZE.false, c.if-second-lt-SIZE.false, c.if-res-lt-SIZE.false)
          (record {
            joined = joined;
            joins = rw (c.table_in-t.ensures, c.table_in-other.ensures) at c.join-joined.ensures;
            held = held_as joined joined_of c.on_file.ensures (λ t. refl) c.give_table.ensures;
          });
    }
