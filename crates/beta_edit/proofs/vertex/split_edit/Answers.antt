use Rattle.std.proofs.Common.{ℕ, ◌≡◌, ◌+◌, ◌<◌, ◌≤◌, List, length, get_or, slice_index, sym, ap, ◌∙◌, arith}
use Rattle.std.specs.Prelude.{vec_len}
use Rattle.std.proofs.lemmas.List.{get_or_default}
use Rattle.map_defs.specs.Rows.{links_of}
use Rattle.cell_edit.specs.Stars.{star_of}
use Rattle.cell_edit.proofs.ChangeRoom.{room-used}
use Rattle.beta_edit.specs.Splitting.{split_link, IsOldSplitEntry, IsNewSplitEntry}
use Rattle.beta_edit.proofs.AddedRows.{grown-more, grown-all}
use Rattle.beta_edit.proofs.GrowthFacts.{star-place, fresh-free}
use Rattle.beta_edit.proofs.SplitEntries.{old-pushed}
use Rattle.beta_edit.proofs.SplitEdit.{splits-apart, split-made}
use Rattle.beta_edit.proofs.vertex.split_edit.Goals as goal

pub loop-place-preserved : goal.loop-place-preserved
loop-place-preserved g c =
    let rows = c.args.links.now.rows in
    let L = links_of rows in
    let stars = c.args.stars.now in
    let star = star_of stars in
    let keys : List ℕ = stars.keys in
    let m : ℕ = g.row.DIM + 1 in
    let p : ℕ = c.loop-place.place in
    let x : ℕ = c.index-darts-place.result in
    let low : p < length keys = rw c.darts-darts.ensures.darts at c.loop-place-test.true in
    let at : x ≡ get_or keys p x = rw c.darts-darts.ensures.darts at c.index-darts-place.is in
    let one : slice_index keys p ≡ x = sym (at ∙ get_or_default keys p x 0 low) in
    let new : c.star_at.result ≡ star x = c.star_at.ensures.star ∙ ap star one in
    let more : vec_len c.push_sides.new.changes ≤ vec_len c.loop-place.changes + m = omega (arith, c.push_behind.ensures.few, c.push_sides.ensures.few) in (
      grown-more L (IsOldSplitEntry L star m) (IsNewSplitEntry L star) keys (stars.made + 1) m p p x c.loop-place.changes.items c.loop-place.born low at c.loop-place.invariant.0
          (split_link L x) (star x) c.push_sides.new.changes.items c.push_row.new.born
          (star-place g.row.DIM rows c.see_sound.ensures.sound stars c.requires.edge.grow p x low one)
          (λ u has. splits-apart g.row.DIM rows c.see_sound.ensures.sound c.see_sound.ensures.low c.requires.laws stars c.requires.edge m p x u low at has)
          (old-pushed L x star m c.loop-place.changes.items c.push_behind.new.changes.items c.push_sides.new.changes.items (rw new at c.push_behind.ensures.entries) c.push_sides.ensures.entries)
          (c.in_ok-push_row.ensures L c.live_row-row.ensures)
          (λ d t y. ((λ e. e), λ e. e)),
      room-used p m (vec_len c.loop-place.changes) (vec_len c.push_sides.new.changes) c.loop-place.invariant.1 more,
      rw (c.push_sides.ensures.capacity, c.push_behind.ensures.capacity) c.loop-place.invariant.2,
    )

pub returns : goal.returns
returns g c =
    let rows = c.args.links.now.rows in
    let L = links_of rows in
    let stars = c.args.stars.now in
    let star = star_of stars in
    let m : ℕ = g.row.DIM + 1 in
    let past : length stars.keys ≤ c.loop-place.place = rw c.darts-darts.ensures.darts at c.loop-place-test.false in record {
      births = c.births.ensures;
      deaths = c.new.ensures.items;
      writes = grown-all L (IsOldSplitEntry L star m) (IsNewSplitEntry L star) stars.keys (stars.made + 1) m c.loop-place.place c.loop-place.place c.loop-place.changes.items c.loop-place.born past
          (fresh-free g.row.DIM rows c.see_sound.ensures.sound stars c.requires.edge.grow)
          (split-made g.row.DIM rows c.see_sound.ensures.sound c.see_sound.ensures.low c.requires.laws stars c.requires.edge m)
          c.loop-place.invariant.0;
    }
