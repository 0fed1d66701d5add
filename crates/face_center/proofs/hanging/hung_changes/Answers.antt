use Rattle.std.proofs.Common.{ℕ, ◌≡◌, ◌+◌, ◌*◌, ◌<◌, List, get_or, slice_index, length, Contains, sym, ◌∙◌, lit<}
use Rattle.std.specs.Prelude.{vec_len, vec_capacity}
use Rattle.std.proofs.lemmas.List.{get_or_default}
use Rattle.map_defs.specs.Rows.{links_of}
use Rattle.cell_edit.specs.Stars.{star_of}
use Rattle.face_center.specs.Hanging.{tip_of, IsHungEntry}
use Rattle.cell_edit.proofs.Appending.{each-more}
use Rattle.cell_edit.proofs.ChangeRoom.{room-left, room-used}
use Rattle.face_center.proofs.HungPlaces.{keys-hung-apart}
use Rattle.face_center.proofs.hanging.hung_changes.Goals as goal

pub push_dart-requires : goal.push_dart-requires
push_dart-requires g c =
    let keys : List ℕ = c.args.stars.now.keys in
    let low : c.loop-place.place < length keys = rw c.darts-darts.ensures.darts at c.loop-place-test.true in
    let at : c.index-darts-place.result ≡ get_or keys c.loop-place.place c.index-darts-place.result = rw c.darts-darts.ensures.darts at c.index-darts-place.is in
    let one : c.index-darts-place.result ≡ slice_index keys c.loop-place.place = at ∙ get_or_default keys c.loop-place.place c.index-darts-place.result 0 low in
    let key : Contains keys c.index-darts-place.result = (c.loop-place.place, low, sym at) in
    let room = room-left c.loop-place.place (length keys) (2 * g.row.DIM + 4) (vec_len c.loop-place.changes) (vec_capacity c.loop-place.changes) low c.loop-place.invariant.1 c.loop-place.invariant.2 in
    (lit< tt, (c.requires, (key, (rw one c.edge_at.ensures.begin, (rw one c.edge_at.ensures.end, room)))))

pub loop-place-preserved : goal.loop-place-preserved
loop-place-preserved g c =
    let rows = c.args.links.now.rows in
    let stars = c.args.stars.now in
    let keys : List ℕ = stars.keys in
    let low : c.loop-place.place < length keys = rw c.darts-darts.ensures.darts at c.loop-place-test.true in
    let at : c.index-darts-place.result ≡ get_or keys c.loop-place.place c.index-darts-place.result = rw c.darts-darts.ensures.darts at c.index-darts-place.is in (
      each-more (links_of rows) (IsHungEntry g.K.Kind.kind c.args.hanging (links_of rows) (star_of stars) (tip_of stars) (g.row.DIM + 1)) keys c.loop-place.place c.index-darts-place.result
          c.loop-place.changes.items c.push_dart.new.changes.items low at
          (λ u has. keys-hung-apart g.K.Kind.kind rows c.args.hanging stars c.requires g.row.DIM c.see_sound.ensures.sound (g.row.DIM + 1) c.loop-place.place c.index-darts-place.result u low at has)
          c.loop-place.invariant.0 c.push_dart.ensures.entries,
      room-used c.loop-place.place (2 * g.row.DIM + 4) (vec_len c.loop-place.changes) (vec_len c.push_dart.new.changes) c.loop-place.invariant.1 c.push_dart.ensures.few,
      rw c.push_dart.ensures.capacity c.loop-place.invariant.2,
    )
