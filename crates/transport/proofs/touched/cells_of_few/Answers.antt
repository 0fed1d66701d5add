use Rattle.std.proofs.Common.{◌≡◌, ◌≤◌, length, slice_index, rules, arith, ◌∙◌}
use Rattle.std.proofs.lemmas.List.{get_or_default}
use Rattle.std.proofs.lemmas.List.Sorted.{IsNonDecreasingBy-from_sort_by_key}
use Rattle.store_defs.specs.Groups.{least_of}
use Rattle.transport.proofs.Finding.{sound_classes, held_more, held_sorted}
use Rattle.transport.proofs.touched.cells_of_few.Goals as goal

pub loop-dart-preserved : goal.loop-dart-preserved
loop-dart-preserved g c =
    let at : c.dart-item.result ≡ slice_index c.args.touched.now c.loop-dart.dart-index = c.dart-item.is ∙ get_or_default c.args.touched.now c.loop-dart.dart-index c.dart-item.result 0 c.loop-dart-test.true in
    held_more _ (sound_classes _ _ _ _ c.requires.sound) _ _ _ _ _ _ c.loop-dart.invariant c.loop-dart-test.true at c.in_ok-add_cell_of.ensures

pub returns : goal.returns
returns g c =
    let past : length c.args.touched.now ≤ c.loop-dart.dart-index = omega arith in
    held_sorted _ (sound_classes _ _ _ _ c.requires.sound) _ _ _ _ _ _ (λ d. (λ h. h, λ h. h)) c.loop-dart.invariant past c.sort_unstable_by_key.ensures.permutation
    (IsNonDecreasingBy-from_sort_by_key least_of _ c.sort_unstable_by_key.ensures.sorted (λ a r q k. search rules))
