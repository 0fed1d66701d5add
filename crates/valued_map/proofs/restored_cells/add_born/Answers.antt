use Rattle.std.proofs.Common.{ℕ, ◌≡◌, ◌⊎◌, ◌+◌, ◌<◌, ◌≤◌, inl, inr, arith}
use Rattle.std.proofs.lemmas.Bool.{cases_lt}
use Rattle.map_defs.specs.Rows.{Rows, made, made_max}
use Rattle.edit_laws.proofs.RowWrites.{live-within}
use Rattle.valued_map.proofs.Adding.{added-none, added-then, added-told}
use Rattle.valued_map.proofs.restored_cells.add_born.Goals as goal

pub loop-number-init : goal.loop-number-init
loop-number-init g c =
    added-none c.args.links.now.rows (λ x. (c.args.first ≤ x) × (x < c.args.first)) c.args.darts.now.items (λ x w h. (let low : c.args.first ≤ x = w.0 in let high : x < c.args.first = w.1 in omega arith))

pub loop-number-preserved : goal.loop-number-preserved
loop-number-preserved g c =
    let rows : Rows = c.args.links.now.rows in
    let first : ℕ = c.args.first in
    let d : ℕ = c.loop-number.number in
    added-told rows (λ x. ((first ≤ x) × (x < d)) ⊎ (x ≡ d)) (λ x. (first ≤ x) × (x < d + 1)) c.args.darts.now.items c.add_live.new.touched.items
    (λ x w h. elim (cases_lt x d) [ inl below ↦ inl (w.0, below) | inr above ↦ inr (let high : x < d + 1 = w.1 in omega arith) ])
    (added-then rows (λ x. (first ≤ x) × (x < d)) (λ x. x ≡ d) c.args.darts.now.items c.loop-number.darts.items c.add_live.new.touched.items c.loop-number.invariant c.in_ok-add_live.ensures)

pub returns : goal.returns
returns g c =
    let rows : Rows = c.args.links.now.rows in
    let first : ℕ = c.args.first in
    let few : made rows ≤ made_max = c.requires.few in
    added-told rows (λ x. (first ≤ x) × (x < c.loop-number.number)) (λ x. (first ≤ x) × (x < first + c.args.births)) c.args.darts.now.items c.loop-number.darts.items
    (λ x w live. (let within = live-within rows x live in let high : x < first + c.args.births = w.1 in
    (w.0, omega (arith, within, few, high, c.saturating_add-number-end.ensures, c.loop-number-test.false))))
    c.loop-number.invariant
