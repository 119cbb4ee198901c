-- Each record of the witness has room behind those before it, and all are the witness.
use Rattle.listing.proofs.ListingLaws.{word_room, path_a_room, path_b_room, output_x_room, output_y_room, shared_room, witness_put}
use Rattle.listing.proofs.put_witness.Goals as goal

pub put_counted-word-requires-clause-room : goal.put_counted-word-requires-clause-room
put_counted-word-requires-clause-room c =
    let s = c.args.s.now in
    word_room s.word.now s.path_a.now s.path_b.now s.output_x.now s.output_y.now s.shared c.requires.room

pub put_counted-path_a-requires-clause-room : goal.put_counted-path_a-requires-clause-room
put_counted-path_a-requires-clause-room c =
    let s = c.args.s.now in
    path_a_room s.word.now s.path_a.now s.path_b.now s.output_x.now s.output_y.now s.shared c.requires.room c.put_counted-word.ensures

pub put_counted-path_b-requires-clause-room : goal.put_counted-path_b-requires-clause-room
put_counted-path_b-requires-clause-room c =
    let s = c.args.s.now in
    path_b_room s.word.now s.path_a.now s.path_b.now s.output_x.now s.output_y.now s.shared c.requires.room c.put_counted-word.ensures c.put_counted-path_a.ensures

pub put_counted-output_x-requires-clause-room : goal.put_counted-output_x-requires-clause-room
put_counted-output_x-requires-clause-room c =
    let s = c.args.s.now in
    output_x_room s.word.now s.path_a.now s.path_b.now s.output_x.now s.output_y.now s.shared c.requires.room c.put_counted-word.ensures c.put_counted-path_a.ensures c.put_counted-path_b.ensures

pub put_counted-output_y-requires-clause-room : goal.put_counted-output_y-requires-clause-room
put_counted-output_y-requires-clause-room c =
    let s = c.args.s.now in
    output_y_room s.word.now s.path_a.now s.path_b.now s.output_x.now s.output_y.now s.shared c.requires.room c.put_counted-word.ensures c.put_counted-path_a.ensures c.put_counted-path_b.ensures c.put_counted-output_x.ensures

pub put_record-requires-clause-room : goal.put_record-requires-clause-room
put_record-requires-clause-room c =
    let s = c.args.s.now in
    shared_room s.word.now s.path_a.now s.path_b.now s.output_x.now s.output_y.now s.shared c.requires.room c.put_counted-word.ensures c.put_counted-path_a.ensures c.put_counted-path_b.ensures c.put_counted-output_x.ensures c.put_counted-output_y.ensures

pub returns : goal.returns
returns c =
    let s = c.args.s.now in
    witness_put s.word.now s.path_a.now s.path_b.now s.output_x.now s.output_y.now s.shared c.requires.room c.put_counted-word.ensures c.put_counted-path_a.ensures c.put_counted-path_b.ensures c.put_counted-output_x.ensures c.put_counted-output_y.ensures c.put_record.ensures
