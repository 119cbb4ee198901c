-- The record `V` is put, and where a witness is shown its records behind it.
use Rattle.std.proofs.Common.{true}
use Rattle.listing.proofs.ListingLaws.{verdict_listing_room, single_room, single_put, shown_room, split_room, witness_room, split_put}
use Rattle.listing.proofs.list_verdict.Goals as goal

pub put_record-requires-clause-room : goal.put_record-requires-clause-room
put_record-requires-clause-room c = single_room c.args.u (rw c.in-None.is at c.requires)

pub put_record-verdict-requires-clause-room : goal.put_record-verdict-requires-clause-room
put_record-verdict-requires-clause-room c =
    let s = c.in-Some.s in
    let room = verdict_listing_room true c.args.u s.shared (shown_room c.in-Some.is c.requires) in
    split_room c.args.u s.word.now s.path_a.now s.path_b.now s.output_x.now s.output_y.now s.shared room

pub put_witness-requires-clause-room : goal.put_witness-requires-clause-room
put_witness-requires-clause-room c =
    let s = c.in-Some.s in
    let room = verdict_listing_room true c.args.u s.shared (shown_room c.in-Some.is c.requires) in
    witness_room c.args.u s.word.now s.path_a.now s.path_b.now s.output_x.now s.output_y.now s.shared room c.put_record-verdict.ensures

pub returns-in-None : goal.returns-in-None
returns-in-None c = rw c.in-None.is (single_put c.args.u _ _ _ _ _ _ c.put_record.ensures)

pub returns-in-Some : goal.returns-in-Some
returns-in-Some c =
    let s = c.in-Some.s in
    let room = verdict_listing_room true c.args.u s.shared (shown_room c.in-Some.is c.requires) in
    rw c.in-Some.is
    (split_put c.args.u s.word.now s.path_a.now s.path_b.now s.output_x.now s.output_y.now s.shared room c.put_record-verdict.ensures c.put_witness.ensures)
