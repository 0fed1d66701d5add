use Rattle.std.proofs.Common.{◌≡◌, ◌≢◌, ◌<◌, ◌≤◌, ◌+◌, ◌*◌, ℕ, suc, length, refl, ap, ◌∙◌, arith, mul-le-mul_left, mul-suc}
use Rattle.std.proofs.lemmas.List.{length_push}
use Rattle.map_defs.specs.Kind.{Kind, alpha, beta}
use Rattle.map_defs.specs.Polygon.{per_side}
use Rattle.dart_arena.proofs.RowSize.{row-fits}
use Rattle.link_rows.specs.BornRows.{NewRows}
use Rattle.link_rows.proofs.polygon.push_side.Goals as goal

-- the rows of a side, behind those of the sides before it
side-room : (p side sides : ℕ) → side < sides → p * side + p ≤ p * sides
side-room p side sides h =
    let most : p * suc side ≤ p * sides = mul-le-mul_left p (omega arith) in
    omega (arith, mul-suc p side)

two-per-side : (k : Kind) → per_side k ≢ 1 → per_side k ≡ 2
two-per-side alpha other = refl
two-per-side beta other = absurd (other refl)

pub two_links-requires : goal.two_links-requires
two_links-requires g c = (row-fits g.row.DIM c.requires.high, c.requires.low)

pub push-requires : goal.push-requires
push-requires g c =
    let room = side-room (per_side g.K.Kind.kind) c.args.side c.args.sides c.requires.side in
    (row-fits g.row.DIM c.requires.high, (c.requires.width, omega (arith, c.requires.few, c.requires.begun, c.requires.next)))

pub two_links-requires-2 : goal.two_links-requires-2
two_links-requires-2 g c = (row-fits g.row.DIM c.requires.high, c.requires.low)

pub push-requires-2 : goal.push-requires-2
push-requires-2 g c =
    let room = side-room (per_side g.K.Kind.kind) c.args.side c.args.sides c.requires.side in
    (row-fits g.row.DIM c.requires.high, (c.requires.width, omega (arith, c.requires.few, c.requires.begun, c.requires.next)))

pub two_links-requires-3 : goal.two_links-requires-3
two_links-requires-3 g c = (row-fits g.row.DIM c.requires.high, c.requires.low)

pub push-requires-3 : goal.push-requires-3
push-requires-3 g c =
    let room = side-room (per_side g.K.Kind.kind) c.args.side c.args.sides c.requires.side in
    let two = two-per-side g.K.Kind.kind (λ one. c.if-per_side-eq1.false (c.per_side.ensures ∙ one)) in
    let width : c.push-2.new.self.width ≡ c.args.born.now.width = ap (λ (b : NewRows). b.width) c.in_ok-push.ensures in
    let first : c.push-2.new.self.first ≡ c.args.born.now.first = ap (λ (b : NewRows). b.first) c.in_ok-push.ensures in
    let long : length c.push-2.new.self.rows ≡ length c.args.born.now.rows + 1 =
    ap (λ (b : NewRows). length b.rows) c.in_ok-push.ensures ∙ length_push c.args.born.now.rows c.two_links-2.result in (
      row-fits g.row.DIM c.requires.high,
      (width ∙ c.requires.width, omega (arith, c.requires.few, c.requires.begun, c.requires.next)),
    )
