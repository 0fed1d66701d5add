use Rattle.std.proofs.Common.{ℕ, ◌≡◌, ◌+◌, ◌-◌, ◌<◌, ◌≤◌, ◌∙◌, List, length, drop, sym, ap, subst, lit<, arith}
use Rattle.std.proofs.lemmas.List.{get_or_default}
use Rattle.map_defs.specs.Rows.{Rows, made, live_count}
use Rattle.map_defs.specs.Edits.{Edit, IsLed}
use Rattle.machine_defs.specs.Difference.{Difference}
use Rattle.valued_map.specs.Undoing.{no_step, step_at, rows_before}
use Rattle.valued_map.proofs.Reversing.{led-at, room-back, live-back, made-on}
use Rattle.valued_map.proofs.restore.links_back.Goals as goal

pub reverse_plain-requires : goal.reverse_plain-requires
reverse_plain-requires g c =
    let xs : List Difference = c.args.steps.now in
    let j : ℕ = c.loop-index.index - 1 in
    let one : j + 1 ≡ c.loop-index.index = omega arith in
    let within : j < length xs = omega arith in
    let item = c.index-steps-index.is ∙ get_or_default xs j c.index-steps-index.result no_step within in
    let edit = ap (λ (d : Difference). d.edit) (c.step.view_is ∙ item) in
    let rows : c.loop-index.links.rows ≡ rows_before g.row.DIM (drop (j + 1) xs) c.args.links.now.rows =
    c.loop-index.invariant.0 ∙ ap (λ (m : ℕ). rows_before g.row.DIM (drop m xs) c.args.links.now.rows) (sym one) in
    let led = led-at g.K.Kind.kind g.row.DIM c.args.links.now.rows xs _ c.requires j within in
    let sum = ap (λ (r : Rows). live_count r + c.loop-index.links.room) (sym rows) ∙ c.loop-index.invariant.1 in
    let room = room-back g.K.Kind.kind g.row.DIM c.args.links.now.rows xs _ c.requires j within c.loop-index.links.room sum in (
      lit< tt,
      (
        (
          rows_before g.row.DIM (drop j xs) c.args.links.now.rows,
          subst (λ (e : Edit). IsLed g.K.Kind.kind g.row.DIM e (rows_before g.row.DIM (drop j xs) c.args.links.now.rows) c.loop-index.links.rows) (sym edit)
              (subst (λ (r : Rows). IsLed g.K.Kind.kind g.row.DIM (step_at xs j).edit (rows_before g.row.DIM (drop j xs) c.args.links.now.rows) r) (sym rows) led),
        ),
        subst (λ (e : Edit). length e.deaths ≤ c.loop-index.links.room + e.births) (sym edit) room,
      ),
    )

pub loop-index-preserved : goal.loop-index-preserved
loop-index-preserved g c =
    let xs : List Difference = c.args.steps.now in
    let j : ℕ = c.loop-index.index - 1 in
    let one : j + 1 ≡ c.loop-index.index = omega arith in
    let within : j < length xs = omega arith in
    let item = c.index-steps-index.is ∙ get_or_default xs j c.index-steps-index.result no_step within in
    let edit = ap (λ (d : Difference). d.edit) (c.step.view_is ∙ item) in
    let rows : c.loop-index.links.rows ≡ rows_before g.row.DIM (drop (j + 1) xs) c.args.links.now.rows =
    c.loop-index.invariant.0 ∙ ap (λ (m : ℕ). rows_before g.row.DIM (drop m xs) c.args.links.now.rows) (sym one) in
    let led = led-at g.K.Kind.kind g.row.DIM c.args.links.now.rows xs _ c.requires j within in
    let led' = subst (λ (e : Edit). IsLed g.K.Kind.kind g.row.DIM e (rows_before g.row.DIM (drop j xs) c.args.links.now.rows) c.loop-index.links.rows) (sym edit)
    (subst (λ (r : Rows). IsLed g.K.Kind.kind g.row.DIM (step_at xs j).edit (rows_before g.row.DIM (drop j xs) c.args.links.now.rows) r) (sym rows) led) in
    let sum = ap (λ (r : Rows). live_count r + c.loop-index.links.room) (sym rows) ∙ c.loop-index.invariant.1 in
    let back = c.reverse_plain.ensures.back (rows_before g.row.DIM (drop j xs) c.args.links.now.rows) led' in
    let room = c.reverse_plain.ensures.room ∙ ap (λ (e : Edit). c.loop-index.links.room + e.births - length e.deaths) edit in
    let spare = c.reverse_plain.ensures.spare ∙ ap (λ (e : Edit). c.loop-index.links.spare + e.births) edit in
    let more = made-on g.K.Kind.kind g.row.DIM c.args.links.now.rows xs _ c.requires j within in
    let many = ap made rows in
    let fewer = ap made back in
    let sums = c.loop-index.invariant.2 in (
      back,
      ap (λ (r : Rows). live_count r + c.reverse_plain.new.self.room) back ∙ ap (λ (m : ℕ). live_count (rows_before g.row.DIM (drop j xs) c.args.links.now.rows) + m) room
          ∙ live-back g.K.Kind.kind g.row.DIM c.args.links.now.rows xs _ c.requires j within c.loop-index.links.room sum,
      omega (arith, spare, more, many, fewer, sums),
    )
