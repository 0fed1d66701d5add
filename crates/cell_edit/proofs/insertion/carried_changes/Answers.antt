use Rattle.std.proofs.Common.{◌≡◌, ◌+◌, ◌<◌, ◌≤◌, ℕ, List, get_or, slice_index, length, Contains, sym, ap, ◌∙◌, lit<, arith}
use Rattle.std.specs.Prelude.{All, vec_len, vec_capacity}
use Rattle.std.proofs.lemmas.List.{get_or_default}
use Rattle.map_defs.specs.Rows.{links_of, made}
use Rattle.cell_edit.specs.Stars.{star_of}
use Rattle.cell_edit.proofs.DartEntries.{carried-more}
use Rattle.cell_edit.proofs.Beyond.{keys-apart, live-made}
use Rattle.cell_edit.proofs.ChangeRoom.{room-left, room-used}
use Rattle.cell_edit.proofs.insertion.carried_changes.Goals as goal

pub push_dart-requires : goal.push_dart-requires
push_dart-requires g c =
    let keys : List ℕ = c.args.stars.now.keys in
    let low : c.loop-place.place < length keys = rw c.darts-darts.ensures.darts at c.loop-place-test.true in
    let at : c.index-darts-place.result ≡ get_or keys c.loop-place.place c.index-darts-place.result = rw c.darts-darts.ensures.darts at c.index-darts-place.is in
    let one : c.index-darts-place.result ≡ slice_index keys c.loop-place.place = at ∙ get_or_default keys c.loop-place.place c.index-darts-place.result 0 low in
    let key : Contains keys c.index-darts-place.result = (c.loop-place.place, low, sym at) in
    let room = room-left c.loop-place.place (length keys) (g.row.DIM + 2) (vec_len c.loop-place.changes) (vec_capacity c.loop-place.changes) low c.loop-place.invariant.1 c.loop-place.invariant.2 in
    (lit< tt, (c.requires.link, (c.requires.own, (c.requires.ready, (key, (c.star_at.ensures.star ∙ ap (star_of c.args.stars.now) (sym one), (c.star_at.ensures.above, room)))))))

pub loop-place-preserved : goal.loop-place-preserved
loop-place-preserved g c =
    let keys : List ℕ = c.args.stars.now.keys in
    let low : c.loop-place.place < length keys = rw c.darts-darts.ensures.darts at c.loop-place-test.true in
    let at : c.index-darts-place.result ≡ get_or keys c.loop-place.place c.index-darts-place.result = rw c.darts-darts.ensures.darts at c.index-darts-place.is in
    let below : All (λ (d : ℕ). d ≤ c.args.stars.now.made) keys = λ p z h.
    let made_low : get_or keys p z ≤ made c.args.links.now.rows = live-made c.args.links.now.rows (get_or keys p z) (c.requires.ready.live p z h) in omega (arith, c.requires.ready.made) in (
      carried-more g.K.Kind.kind (links_of c.args.links.now.rows) c.args.link (g.row.DIM + 1) (star_of c.args.stars.now) keys c.loop-place.place c.index-darts-place.result c.loop-place.changes.items c.push_dart.new.changes.items
          low at (λ u has. keys-apart c.args.stars.now c.loop-place.place c.index-darts-place.result u c.darts-darts.ensures.ascending below low at has)
          c.loop-place.invariant.0 c.push_dart.ensures.entries,
      room-used c.loop-place.place (g.row.DIM + 2) (vec_len c.loop-place.changes) (vec_len c.push_dart.new.changes) c.loop-place.invariant.1 c.push_dart.ensures.few,
      rw c.push_dart.ensures.capacity c.loop-place.invariant.2,
    )
