use Rattle.std.proofs.Common.{◌<◌, ◌≤◌, ◌+◌, ap, arith, rules, length, length-append}
use Rattle.std.proofs.lemmas.List.{places}
use Rattle.std.proofs.KnownBytes.{Consumes-trans}
use Rattle.map_io.proofs.ReadWhole.{Consumes-part, Consumes-whole, Consumes-longer}
use Rattle.map_io.proofs.file_shelf.read_whole.Goals as goal

pub returns-in_err-count-clause-taken : goal.returns-in_err-count-clause-taken
returns-in_err-count-clause-taken g c =
    let part = c.append_some.ensures.read in
    let room : length part.0 + length c.loop-bytes.bytes.items ≤ c.args.limit + 1 = search (rules, places) in
    (_, Consumes-trans _ _ _ _ _ c.loop-bytes.invariant.read part.1, omega (arith, room, length-append c.loop-bytes.bytes.items part.0))

pub returns-then-count-eq0-clause-bytes : goal.returns-then-count-eq0-clause-bytes
returns-then-count-eq0-clause-bytes g c =
    let part = c.in_ok-count.ensures.read in (
      omega (arith, ap length part.3.1, length-append c.loop-bytes.bytes.items part.0),
      Consumes-whole _ _ _ (Consumes-part _ _ _ _ _ part.0 c.loop-bytes.invariant.read part.3.1 part.1) (c.in_ok-count.ensures.end c.if-count-eq0.true),
    )

pub returns-then-count-eq0-clause-taken : goal.returns-then-count-eq0-clause-taken
returns-then-count-eq0-clause-taken g c =
    let part = c.in_ok-count.ensures.read in
    (_, Consumes-part _ _ _ _ _ part.0 c.loop-bytes.invariant.read part.3.1 part.1, omega (arith, ap length part.3.1, length-append c.loop-bytes.bytes.items part.0))

pub returns-then-len-limit-clause-bytes : goal.returns-then-len-limit-clause-bytes
returns-then-len-limit-clause-bytes g c =
    let part = c.in_ok-count.ensures.read in
    let longer : c.args.limit < length c.append_some.new.bytes.items = search (rules, places) in (
      search (rules, places),
      Consumes-longer _ _ _ _ (Consumes-part _ _ _ _ _ part.0 c.loop-bytes.invariant.read part.3.1 part.1) longer,
    )

pub returns-then-len-limit-clause-taken : goal.returns-then-len-limit-clause-taken
returns-then-len-limit-clause-taken g c =
    let part = c.in_ok-count.ensures.read in
    let room : length part.0 + length c.loop-bytes.bytes.items ≤ c.args.limit + 1 = search (rules, places) in
    (_, Consumes-part _ _ _ _ _ part.0 c.loop-bytes.invariant.read part.3.1 part.1, omega (arith, room, ap length part.3.1, length-append c.loop-bytes.bytes.items part.0))

pub loop-bytes-preserved : goal.loop-bytes-preserved
loop-bytes-preserved g c =
    let part = c.in_ok-count.ensures.read in record {
      most = search (rules, places);
      read = Consumes-part _ _ _ _ _ part.0 c.loop-bytes.invariant.read part.3.1 part.1;
      well = search rules;
    }
