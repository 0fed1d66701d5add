use Rattle.std.proofs.Common.{◌≡◌, ℕ, ◌<◌, ◌≤◌, ◌↔◌, List, length, Contains, rules, arith, ap, sym, subst, ◌∙◌}
use Rattle.std.proofs.lemmas.List.Sorted.{IsNonDecreasingBy-from_sort_by_key}
use Rattle.store_defs.specs.Groups.{least_of}
use Rattle.transport.proofs.Finding.{sound_classes, added_same, found_more, held_sorted}
use Rattle.transport.proofs.touched.cells_of_many.Goals as goal

pub loop-place-preserved : goal.loop-place-preserved
loop-place-preserved g c =
    let long : length c.loop-place.wanted.darts ≡ length c.in_ok-wanted.wanted.darts = ap length c.loop-place.invariant.same in
    let within : c.loop-place.place < length c.loop-place.wanted.darts = omega arith in record {
      found = found_more _ (sound_classes _ _ _ _ c.requires.sound) _ _ _ _ _ _ c.loop-place.invariant.found within c.in_ok-add_cell.ensures;
      same = added_same _ _ _ _ _ _ _ c.in_ok-add_cell.ensures ∙ c.loop-place.invariant.same;
    }

pub returns : goal.returns
returns g c =
    let long : length c.loop-place.wanted.darts ≡ length c.in_ok-wanted.wanted.darts = ap length c.loop-place.invariant.same in
    let past : length c.loop-place.wanted.darts ≤ c.loop-place.place = omega arith in
    let members : (d : ℕ) → Contains c.loop-place.wanted.darts d ↔ Contains c.args.touched.now d = subst (λ (ds : List ℕ). (d : ℕ) → Contains ds d ↔ Contains c.args.touched.now d) (sym c.loop-place.invariant.same) c.in_ok-wanted.ensures.members in
    held_sorted _ (sound_classes _ _ _ _ c.requires.sound) _ _ _ _ _ _ members c.loop-place.invariant.found.held past c.sort_unstable_by_key.ensures.permutation
    (IsNonDecreasingBy-from_sort_by_key least_of _ c.sort_unstable_by_key.ensures.sorted (λ a r q k. search rules))
