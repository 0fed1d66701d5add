use Rattle.std.proofs.Common.{ℕ, ◌≡◌, ◌≢◌, ◌+◌, ◌≤◌, List, slice_index, Contains, sym, ap, ◌∙◌, subst, arith}
use Rattle.std.proofs.lemmas.Result.{on_ok_weaker}
use Rattle.map_defs.specs.Edits.{Change}
use Rattle.map_defs.specs.Rows.{links_of}
use Rattle.link_laws.proofs.RowFacts.{rows_dimension}
use Rattle.cell_edit.specs.Stars.{star_of}
use Rattle.beta_edit.proofs.GrowthFacts.{keys-numbered}
use Rattle.beta_edit.proofs.OldEntries.{one-pushed}
use Rattle.beta_edit.proofs.CutEntries.{around-pushed, cut-told, three-set}
use Rattle.beta_edit.proofs.cut.push_corner.Goals as goal

pub set_along-requires : goal.set_along-requires
set_along-requires g c =
    let rows = c.args.links.now.rows in
    let keys : List ℕ = c.args.stars.now.keys in
    let turned : List ℕ = c.live_row-turned.result.now in
    let same = c.live_row-turned.ensures in
    let copies : (t : ℕ) → 3 ≤ t → slice_index turned t ≢ 0 → Contains keys (slice_index turned t) = λ t high some.
    subst (Contains keys) (sym (same t)) (c.requires.turn.copies t high (λ none. some (same t ∙ none))) in
    let three = three-set (g.row.DIM + 1) c.number-5.result c.number-6.result c.number-7.result c.set-3.new.self (omega (arith, c.see_sound.ensures.low)) (rw (c.set-2.ensures, c.set.ensures, c.zeros-row.ensures) at c.set-3.ensures) in (
      omega (arith, c.see_sound.ensures.high),
      (
        copies,
        (
          (keys-numbered g.row.DIM rows c.see_sound.ensures.sound c.args.stars.now c.requires.grow).nothing,
          ((λ t above. same t ∙ rows_dimension g.row.DIM rows c.see_sound.ensures.sound.wide t c.args.other above), three.3),
        ),
      ),
    )

pub returns-clause-entries : goal.returns-clause-entries
returns-clause-entries g c =
    let L = links_of c.args.links.now.rows in
    let x : ℕ = c.args.corner in
    let z : ℕ = c.args.other in
    let before : c.unwrap-before.result ≡ L 0 x = (rw c.unwrap-before.ensures at c.new.ensures.same) ∙ c.entry.ensures ∙ c.live_row.ensures 0 in
    let behind : c.unwrap-behind.result ≡ L 1 z = (rw c.unwrap-behind.ensures at c.new-2.ensures.same) ∙ c.entry-2.ensures ∙ c.live_row-turned.ensures 1 in
    let first : Change = record { dart = L 0 x; link = 1; old = x; new = c.args.new } in
    let then : Change = record { dart = L 1 z; link = 0; old = z; new = c.args.new } in
    let has = around-pushed L x z c.args.new c.args.changes.now.items c.push_reserved.new.self.items c.push_reserved-2.new.self.items
    (one-pushed L first c.args.changes.now.items c.push_reserved.new.self.items (sym (c.requires.laws.back 0 x c.requires.turn.begins))
    (rw (c.new-3.ensures, c.number.ensures.same, c.number-2.ensures.same, before) at c.push_reserved.ensures.items))
    (one-pushed L then c.push_reserved.new.self.items c.push_reserved-2.new.self.items (sym (c.requires.laws.back 1 z c.requires.turn.ends))
    (rw (c.new-4.ensures, c.number-3.ensures.same, c.number-4.ensures.same, behind) at c.push_reserved-2.ensures.items)) in
    on_ok_weaker c.push.result (λ _. has) c.push.ensures

pub returns-clause-row : goal.returns-clause-row
returns-clause-row g c =
    let L = links_of c.args.links.now.rows in
    let x : ℕ = c.args.corner in
    let z : ℕ = c.args.other in
    let star = star_of c.args.stars.now in
    let row : List ℕ = c.set_along.new.row in
    let before : c.unwrap-before.result ≡ L 0 x = (rw c.unwrap-before.ensures at c.new.ensures.same) ∙ c.entry.ensures ∙ c.live_row.ensures 0 in
    let behind : c.unwrap-behind.result ≡ L 1 z = (rw c.unwrap-behind.ensures at c.new-2.ensures.same) ∙ c.entry-2.ensures ∙ c.live_row-turned.ensures 1 in
    let three = three-set (g.row.DIM + 1) c.number-5.result c.number-6.result c.number-7.result c.set-3.new.self (omega (arith, c.see_sound.ensures.low)) (rw (c.set-2.ensures, c.set.ensures, c.zeros-row.ensures) at c.set-3.ensures) in
    on_ok_weaker c.push.result
    (λ is. (
      row,
      is,
      cut-told L x z star (slice_index row)
          (c.set_along.ensures.low 0 (omega arith) ∙ three.0 ∙ c.number-5.ensures.same ∙ before)
          (c.set_along.ensures.low 1 (omega arith) ∙ three.1 ∙ c.number-6.ensures.same ∙ behind)
          (c.set_along.ensures.low 2 (omega arith) ∙ three.2 ∙ c.number-7.ensures.same ∙ c.star.ensures.star ∙ ap star behind)
          (λ t high. c.set_along.ensures.along t high ∙ ap star (c.live_row-turned.ensures t)),
    ))
    c.push.ensures
