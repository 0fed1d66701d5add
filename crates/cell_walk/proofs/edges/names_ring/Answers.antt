use Rattle.std.proofs.Common.{◌≡◌, ℕ, sym, ap, ◌∙◌, subst, lit<, arith}
use Rattle.std.proofs.lemmas.Bool.{false≢true}
use Rattle.map_defs.specs.Rows.{links_of, IsSound}
use Rattle.map_defs.specs.LinkWords.{one_link, through, IsWithin}
use Rattle.map_defs.specs.Cells.{NamesCell}
use Rattle.cell_walk.proofs.EdgeDarts.{IsBefore, zeroth-runs, second-runs, lesser-led, lesser-across, ring-names, told-unless}
use Rattle.cell_walk.proofs.RowSteps.{row-fits}
use Rattle.cell_walk.proofs.edges.names_ring.Goals.{then-is_before-via-then-is_before, then-is_before-via-else-is_before+then-is_before-2}
use Rattle.cell_walk.proofs.edges.names_ring.Goals as goal

pub returns-then-is_before : goal.returns-then-is_before
returns-then-is_before g c =
    let L = links_of c.args.links.now.rows in
    let no_name : NamesCell g.K.Kind.kind L 1 c.args.dart → ⊥ = elim c.then-is_before.branch [
      | then-is_before-via-then-is_before w ↦
          lesser-led g.K.Kind.kind L c.args.dart (one_link 0) (zeroth-runs g.K.Kind.kind c.requires.kind)
          (subst (λ (m : ℕ). IsBefore m c.args.dart) (c.entry.ensures ∙ c.live_row-row.ensures 0) (c.is_before.ensures.0 w.if-is_before.true))
      | then-is_before-via-else-is_before+then-is_before-2 w ↦
          lesser-led g.K.Kind.kind L c.args.dart (one_link 2) (second-runs g.K.Kind.kind)
          (subst (λ (m : ℕ). IsBefore m c.args.dart) (w.entry-else-is_before.ensures ∙ c.live_row-row.ensures 2) (w.is_before-else-is_before.ensures.0 w.if-is_before-2.true))
    ] in
    (λ no_less. absurd (false≢true no_less), λ names. absurd (no_name names))

pub number_from-across-requires : goal.number_from-across-requires
number_from-across-requires g c =
    let within : IsWithin g.row.DIM c.two.result = subst (IsWithin g.row.DIM) (sym c.two.ensures) (omega arith, c.see_sound.ensures.low) in
    (lit< tt, (row-fits g.row.DIM c.see_sound.ensures.high, (within, (c.args.dart, c.live_row-row.ensures))))

pub number_from-requires : goal.number_from-requires
number_from-requires g c =
    let within : IsWithin g.row.DIM c.two-2.result = subst (IsWithin g.row.DIM) (sym c.two-2.ensures) (c.see_sound.ensures.low, omega arith) in
    (lit< tt, (row-fits g.row.DIM c.see_sound.ensures.high, (within, (c.args.dart, c.live_row-row.ensures))))

pub returns : goal.returns
returns g c =
    let L = links_of c.args.links.now.rows in
    let sound : IsSound g.K.Kind.kind 2 c.args.links.now.rows = subst (λ (n : ℕ). IsSound g.K.Kind.kind n c.args.links.now.rows) c.requires.surface c.see_sound.ensures.sound in
    let across : L 2 (L 0 c.args.dart) ≡ c.number_from-across.result =
    sym (c.number_from-across.ensures c.args.dart c.live_row-row.ensures ∙ ap (λ w. through L w c.args.dart) c.two.ensures) in
    let other : L 0 (L 2 c.args.dart) ≡ c.number_from-across.result =
    sym (c.number_from.ensures c.args.dart c.live_row-row.ensures ∙ ap (λ w. through L w c.args.dart) c.two-2.ensures) ∙ c.if-number_from-across.false in
    let end : IsBefore (L 0 c.args.dart) c.args.dart → ⊥ = λ before.
    false≢true (sym c.if-is_before.false ∙ c.is_before.ensures.1 (subst (λ (m : ℕ). IsBefore m c.args.dart) (sym (c.entry.ensures ∙ c.live_row-row.ensures 0)) before)) in
    let side : IsBefore (L 2 c.args.dart) c.args.dart → ⊥ = λ before.
    false≢true (sym c.if-is_before-2.false ∙ c.is_before-else-is_before.ensures.1 (subst (λ (m : ℕ). IsBefore m c.args.dart) (sym (c.entry-else-is_before.ensures ∙ c.live_row-row.ensures 2)) before)) in
    told-unless c.is_before-2.result (IsBefore c.number_from-across.result c.args.dart) (NamesCell g.K.Kind.kind L 1 c.args.dart) c.is_before-2.ensures
    (λ before. lesser-across g.K.Kind.kind c.requires.kind 2 c.args.links.now.rows sound c.args.dart (subst (λ (m : ℕ). IsBefore m c.args.dart) (sym across) before))
    (ring-names g.K.Kind.kind c.requires.kind c.args.links.now.rows sound c.args.dart c.number_from-across.result across other end side)
