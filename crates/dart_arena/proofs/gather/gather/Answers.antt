use Rattle.std.proofs.Common.{◌<◌, length, arith, rules}
use Rattle.dart_arena.specs.Layout.{keys_of}
use Rattle.dart_arena.proofs.Gathering.{keys-long, copy-fits, copied-more}
use Rattle.dart_arena.proofs.gather.gather.Goals as goal

pub copy_row-requires : goal.copy_row-requires
copy_row-requires g c =
    let kept = c.loop-place.invariant in
    let within : c.loop-place.place < length (keys_of c.args.places.now) = omega (arith, c.made-place-end.ensures) in
    let fits = copy-fits c.args.rows.now c.loop-place.gathered (keys_of c.args.places.now) c.loop-place.keys.items c.loop-place.place c.args.live c.args.room within (omega (arith, c.requires.few)) c.requires.live kept.0 kept.1 in
    (search rules, (rw c.key.ensures fits, kept.1.narrow))

pub push_reserved-requires : goal.push_reserved-requires
push_reserved-requires g c =
    let kept = c.loop-place.invariant in
    let within : c.loop-place.place < length (keys_of c.args.places.now) = omega (arith, c.made-place-end.ensures) in
    let full = keys-long c.args.rows.now c.loop-place.gathered (keys_of c.args.places.now) c.loop-place.keys.items c.loop-place.place c.args.live c.args.room within (omega (arith, c.requires.few)) c.requires.live kept.0 kept.1 in
    omega (arith, full, kept.2, within)

pub loop-place-preserved : goal.loop-place-preserved
loop-place-preserved g c =
    let kept = c.loop-place.invariant in
    let within : c.loop-place.place < length (keys_of c.args.places.now) = omega (arith, c.made-place-end.ensures) in
    let copied = rw c.key.ensures at c.copy_row.ensures in
    let more = copied-more c.args.rows.now c.loop-place.gathered (keys_of c.args.places.now) c.loop-place.keys.items c.loop-place.place c.args.live c.args.room within (omega (arith, c.requires.few)) c.requires.live kept.0 kept.1 c.copy_row.new.to c.copy_row.result copied.same copied.none copied.turned copied.fresh copied.count in
    rw c.push_reserved.ensures.items (more.0, more.1, omega (arith, kept.2, c.push_reserved.ensures.capacity))
