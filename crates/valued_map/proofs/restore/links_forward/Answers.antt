use Rattle.std.proofs.Common.{ℕ, ◌≡◌, ◌+◌, ◌-◌, ◌∙◌, List, length, drop, sym, ap, subst, lit<, arith}
use Rattle.std.proofs.lemmas.List.{get_or_default}
use Rattle.map_defs.specs.Rows.{Rows, made, live_count}
use Rattle.map_defs.specs.Edits.{Edit, Fits, after_edit}
use Rattle.machine_defs.specs.Difference.{Difference}
use Rattle.valued_map.specs.Undoing.{AreEditsTo, no_step, step_at, rows_before}
use Rattle.valued_map.proofs.Reversing.{led-at, room-on, live-on, made-on, made-grows}
use Rattle.valued_map.proofs.restore.links_forward.Goals as goal

pub apply_plain-requires : goal.apply_plain-requires
apply_plain-requires g c =
    let xs : List Difference = c.args.steps.now in
    let k : ℕ = c.loop-step.step-index in
    let now : Rows = c.requires.0 in
    let item = c.step-item.is ∙ get_or_default xs k c.step-item.result no_step c.loop-step-test.true in
    let edit = ap (λ (d : Difference). d.edit) (c.step.view_is ∙ item) in
    let rows : c.loop-step.links.rows ≡ rows_before g.row.DIM (drop k xs) now = c.loop-step.invariant.0 now c.requires.1 c.requires.2 in
    let led = led-at g.K.Kind.kind g.row.DIM now xs _ c.requires.2 k c.loop-step-test.true in
    let sum = ap (λ (r : Rows). live_count r + c.loop-step.links.room) (sym rows) ∙ c.loop-step.invariant.1 in
    let room = room-on g.K.Kind.kind g.row.DIM now xs _ c.requires.2 k c.loop-step-test.true c.loop-step.links.room sum in
    let more = made-on g.K.Kind.kind g.row.DIM now xs _ c.requires.2 k c.loop-step-test.true in
    let grows = made-grows g.K.Kind.kind g.row.DIM now xs _ c.requires.2 (length xs - (k + 1)) (k + 1) (omega (arith, c.loop-step-test.true)) in
    let many = ap made rows in
    let births = ap (λ (e : Edit). e.births) edit in
    let few = led.few in
    let most = c.requires.3 in
    let sums = c.loop-step.invariant.2 in (
      lit< tt,
      (
        subst (λ (e : Edit). Fits g.K.Kind.kind g.row.DIM c.loop-step.links.rows e) (sym edit)
            (subst (λ (r : Rows). Fits g.K.Kind.kind g.row.DIM r (step_at xs k).edit) (sym rows) led.fits),
        (omega (arith, births, more, grows, many, most, sums), (omega (arith, births, room), omega (arith, births, few, many))),
      ),
    )

pub loop-step-preserved : goal.loop-step-preserved
loop-step-preserved g c =
    let xs : List Difference = c.args.steps.now in
    let k : ℕ = c.loop-step.step-index in
    let item = c.step-item.is ∙ get_or_default xs k c.step-item.result no_step c.loop-step-test.true in
    let edit = ap (λ (d : Difference). d.edit) (c.step.view_is ∙ item) in
    let on : (now : Rows) → c.args.links.now.rows ≡ rows_before g.row.DIM xs now
    → AreEditsTo g.K.Kind.kind g.row.DIM now xs (live_count c.args.links.now.rows + c.args.links.now.room) → c.apply_plain.new.self.rows ≡ rows_before g.row.DIM (drop (k + 1) xs) now = λ now is are.
    c.apply_plain.ensures.rows
    ∙ ap (λ (e : Edit). after_edit g.row.DIM e c.loop-step.links.rows) edit
    ∙ ap (after_edit g.row.DIM (step_at xs k).edit) (c.loop-step.invariant.0 now is are)
    ∙ (led-at g.K.Kind.kind g.row.DIM now xs _ are k c.loop-step-test.true).after in
    let now : Rows = c.requires.0 in
    let rows : c.loop-step.links.rows ≡ rows_before g.row.DIM (drop k xs) now = c.loop-step.invariant.0 now c.requires.1 c.requires.2 in
    let next = on now c.requires.1 c.requires.2 in
    let sum = ap (λ (r : Rows). live_count r + c.loop-step.links.room) (sym rows) ∙ c.loop-step.invariant.1 in
    let room = c.apply_plain.ensures.room ∙ ap (λ (e : Edit). c.loop-step.links.room - e.births + length e.deaths) edit in
    let spare = c.apply_plain.ensures.spare ∙ ap (λ (e : Edit). c.loop-step.links.spare - e.births) edit in
    let more = made-on g.K.Kind.kind g.row.DIM now xs _ c.requires.2 k c.loop-step-test.true in
    let grows = made-grows g.K.Kind.kind g.row.DIM now xs _ c.requires.2 (length xs - (k + 1)) (k + 1) (omega (arith, c.loop-step-test.true)) in
    let many = ap made rows in
    let later = ap made next in
    let most = c.requires.3 in
    let sums = c.loop-step.invariant.2 in (
      on,
      ap (λ (r : Rows). live_count r + c.apply_plain.new.self.room) next ∙ ap (λ (m : ℕ). live_count (rows_before g.row.DIM (drop (k + 1) xs) now) + m) room
          ∙ live-on g.K.Kind.kind g.row.DIM now xs _ c.requires.2 k c.loop-step-test.true c.loop-step.links.room sum,
      omega (arith, spare, more, grows, many, later, most, sums),
    )
