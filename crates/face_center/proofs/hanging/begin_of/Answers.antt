use Rattle.std.proofs.Common.{ℕ, ◌≡◌, ◌≤◌, ◌<◌, ◌∙◌, List, length, get_or, slice_index, arith}
use Rattle.std.proofs.lemmas.List.{get_or_default}
use Rattle.face_center.proofs.Tips.{first-least}
use Rattle.face_center.proofs.hanging.begin_of.Goals as goal

pub overflow_sub-place : goal.overflow_sub-place
overflow_sub-place c =
    let keys : List ℕ = c.args.stars.now.keys in
    let first : (0 < length keys) × (slice_index keys 0 ≤ c.args.dart) = first-least keys c.args.dart c.darts-darts.ensures.ascending c.requires in
    let at : c.index-darts-0.result ≡ get_or keys 0 c.index-darts-0.result = rw c.darts-darts.ensures.darts at c.index-darts-0.is in
    let one : c.index-darts-0.result ≡ slice_index keys 0 = at ∙ get_or_default keys 0 c.index-darts-0.result 0 first.0 in
    omega (arith, c.number.ensures.same, c.number-2.ensures.same, first.1)
