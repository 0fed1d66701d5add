use Rattle.std.proofs.Common.{ℕ, ◌≡◌, ◌+◌, ◌≤◌, List, length, slice_index, Contains, arith}
use Rattle.std.proofs.lemmas.List.{get_or_default}
use Rattle.cell_edit.specs.Stars.{star_of}
use Rattle.face_center.specs.Hanging.{tip_of}
use Rattle.face_center.proofs.Tips.{tip-beyond, tip-small}
use Rattle.face_center.proofs.hanging.edge_at.Goals as goal

pub tip-requires : goal.tip-requires
tip-requires c =
    let keys : List ℕ = c.args.stars.now.keys in
    let dart : ℕ = slice_index keys c.args.place in
    let key : Contains keys dart = (c.args.place, c.requires.place, get_or_default keys c.args.place dart 0 c.requires.place) in
    let small : star_of c.args.stars.now dart + length keys ≤ 12582912 = tip-small c.args.stars.now c.requires.pair dart key in
    omega (arith, c.star_at-begin.ensures.star)

pub returns-clause-end : goal.returns-clause-end
returns-clause-end c =
    let keys : List ℕ = c.args.stars.now.keys in
    let dart : ℕ = slice_index keys c.args.place in
    let key : Contains keys dart = (c.args.place, c.requires.place, get_or_default keys c.args.place dart 0 c.requires.place) in
    let beyond : tip_of c.args.stars.now dart ≡ star_of c.args.stars.now dart + length keys = tip-beyond c.args.stars.now c.requires.pair dart key in
    omega (arith, c.tip.ensures, c.star_at-begin.ensures.star)
