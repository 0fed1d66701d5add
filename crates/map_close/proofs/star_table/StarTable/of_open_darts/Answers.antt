use Rattle.std.proofs.Common.{ℕ, ◌≡◌, ◌+◌, ◌≤◌, ◌<◌, length, ap, ◌∙◌, arith}
use Rattle.map_defs.specs.Rows.{made}
use Rattle.cell_edit.specs.Stars.{number_from}
use Rattle.cell_edit.proofs.Premises.{live-dart}
use Rattle.map_close.specs.Boundary.{keys_from, IsToldBelow}
use Rattle.map_close.proofs.StarNumbers.{told-begins, told-few, told-all}
use Rattle.map_close.proofs.star_table.StarTable.of_open_darts.Goals as goal

pub loop-number-init : goal.loop-number-init
loop-number-init g c =
    let rows = c.args.links.now.rows in (
      rw (c.push_reserved.ensures.items, c.in_ok-numbers.ensures.items, c.made-made.ensures.made)
          (told-begins rows c.args.link (λ x at. live-dart g.K.Kind.kind g.row.DIM rows c.made-made.ensures.sound x at.0)),
      omega (arith, c.push_reserved.ensures.capacity, c.in_ok-numbers.ensures.capacity),
    )

pub invariant_of-result : goal.invariant_of-result
invariant_of-result g c =
    let rows = c.args.links.now.rows in
    let table : IsToldBelow rows c.args.link c.loop-number.number c.loop-number.next c.loop-number.numbers.items = c.loop-number.invariant.0 in
    let few : length (keys_from 0 c.loop-number.numbers.items) ≤ made rows =
    told-few rows c.args.link g.K.Kind.kind g.row.DIM c.loop-number.number c.loop-number.next c.loop-number.numbers.items c.made-made.ensures.sound table in (
      omega (arith, c.made-made.ensures.made, c.made-made.ensures.sound.few),
      omega (arith, few, table.count, c.made-made.ensures.made),
      omega (arith, table.count, c.made-made.ensures.made),
      omega (arith, table.long, c.loop-number-test.false, c.loop-number.auto.number-end),
      λ x. table.told x ∙ ap (λ (m : ℕ). number_from (m + 1) (keys_from 0 c.loop-number.numbers.items) x) (let e : made rows ≡ c.made-made.result = omega (arith, c.made-made.ensures.made) in e),
    )

pub returns : goal.returns
returns g c =
    let rows = c.args.links.now.rows in
    let past : made rows < c.loop-number.number = omega (arith, c.made-made.ensures.made, c.loop-number-test.false) in
    rw c.made-made.ensures.made
    (told-all rows c.args.link g.K.Kind.kind c.loop-number.number c.loop-number.next c.loop-number.numbers.items past c.requires.own c.requires.laws c.loop-number.invariant.0)
