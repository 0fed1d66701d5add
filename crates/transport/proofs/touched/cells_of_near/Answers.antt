use Rattle.std.proofs.Common.{◌≡◌, ℕ, ◌+◌, ◌<◌, ◌≤◌, List, length, Contains, refl, sym, subst, ◌∙◌, rules, arith}
use Rattle.std.proofs.lemmas.List.Sorted.{IsNonDecreasingBy-from_sort_by_key}
use Rattle.map_defs.specs.Rows.{links_of}
use Rattle.map_defs.specs.Cells.{InCell}
use Rattle.store_defs.specs.Groups.{Group, least_of}
use Rattle.transport.specs.Found.{AreMarkedFound}
use Rattle.transport.proofs.Finding.{sound_classes}
use Rattle.transport.proofs.MarkFacts.{near_none, near_more, near_sorted, added_size}
use Rattle.transport.proofs.touched.cells_of_near.Goals as goal

pub loop-place-init : goal.loop-place-init
loop-place-init g c =
    let between = subst (λ (f : ℕ). (c.args.last < f + length c.in_ok-marks.marks.marks) × ((d : ℕ) → Contains c.args.touched.now d → (f ≤ d) × (d ≤ c.args.last))) (sym c.in_ok-marks.ensures.first) (c.in_ok-marks.ensures.last, c.requires.within) in
    record {
      found = subst (λ (cells : List Group). AreMarkedFound (InCell g.K.Kind.kind (links_of c.args.links.now.rows) c.args.dim) c.args.dim 0 c.args.touched.now c.put_all.new.self cells) (sym c.new-cells.ensures.items)
          (near_none (InCell g.K.Kind.kind (links_of c.args.links.now.rows) c.args.dim) (sound_classes _ _ _ _ c.requires.sound) c.args.dim c.args.touched.now c.in_ok-marks.marks c.put_all.new.self c.args.last
          c.in_ok-marks.ensures.unmarked between.0 between.1 c.put_all.ensures.first c.put_all.ensures.size c.put_all.ensures.marks);
      size = refl;
    }

pub loop-place-preserved : goal.loop-place-preserved
loop-place-preserved g c = record {
  found = near_more _ (sound_classes _ _ _ _ c.requires.sound) _ _ _ _ _ _ _ c.loop-place.invariant.found c.in_ok-add_cell_at.ensures;
  size = added_size _ _ _ _ _ _ _ c.in_ok-add_cell_at.ensures ∙ c.loop-place.invariant.size;
}

pub returns : goal.returns
returns g c =
    let size = c.loop-place.invariant.size in
    let past : length c.loop-place.marks.marks ≤ c.loop-place.place = omega arith in
    near_sorted _ (sound_classes _ _ _ _ c.requires.sound) _ _ _ _ _ _ c.loop-place.invariant.found past c.sort_unstable_by_key.ensures.permutation
    (IsNonDecreasingBy-from_sort_by_key least_of _ c.sort_unstable_by_key.ensures.sorted (λ a r q k. search rules))
