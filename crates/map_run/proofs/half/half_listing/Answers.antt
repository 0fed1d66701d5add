use Rattle.std.proofs.Common.{◌++◌, codes, lit≤}
use Rattle.machine_defs.specs.Outside.{Rose}
use Rattle.machine_defs.specs.Text.{listing_text, numbers_text}
use Rattle.map_run.specs.Halves.{ListingHalfAnswer, orient_line_of}
use Rattle.map_run.proofs.AnswerFacts.{put-ends, refused-ends}
use Rattle.map_run.proofs.half.half_listing.Goals as goal

pub returns-in-Ok-clause-ends : goal.returns-in-Ok-clause-ends
returns-in-Ok-clause-ends g c =
    let half = c.in-Ok.half in
    rw c.put_status.ensures
    (put-ends (ListingHalfAnswer c.args.listing.now) (Rose (g.S.Sink.faults c.args.out.now) (g.S.Sink.faults c.put_half.new.out)) (g.S.Sink.written c.args.out.now) (g.S.Sink.written c.put_half.new.out)
    (listing_text half.listing ++ numbers_text (codes "from") half.origins.items) 0 c.in-Ok.ensures (lit≤ tt) c.put_half.result c.put_half.ensures.written c.put_half.ensures.cause.rose)

pub returns-in-Err-clause-ends : goal.returns-in-Err-clause-ends
returns-in-Err-clause-ends g c =
    refused-ends (ListingHalfAnswer c.args.listing.now) (Rose (g.S.Sink.faults c.args.out.now) (g.S.Sink.faults c.refuse_map.new.out)) (g.S.Sink.written c.args.out.now) (g.S.Sink.written c.refuse_map.new.out)
    (orient_line_of c.in-Err.fault) c.refuse_map.result c.in-Err.ensures c.refuse_map.ensures.refused
