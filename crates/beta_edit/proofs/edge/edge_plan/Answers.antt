use Rattle.std.proofs.Common.{ℕ, List, lit<, sym, ◌∙◌}
use Rattle.std.proofs.lemmas.Bool.{false≢true}
use Rattle.map_defs.specs.Kind.{beta}
use Rattle.map_defs.specs.Rows.{links_of}
use Rattle.map_defs.specs.Insertion.{InBetaCorner, BetaEdgeLeads}
use Rattle.insert_laws.proofs.BetaEdgePairs.{edge_turning}
use Rattle.sewing.specs.Triples.{Triple}
use Rattle.cell_edit.specs.Stars.{Stars}
use Rattle.cell_edit.proofs.Premises.{all-made}
use Rattle.beta_edit.proofs.CutEdit.{edit-cuts}
use Rattle.beta_edit.proofs.EdgeTurns.{pair-leads, leads-pair, corner-members, corners-live, edge-turns}
use Rattle.beta_edit.proofs.edge.edge_plan.Goals as goal

pub new-stars-requires-clause-made : goal.new-stars-requires-clause-made
new-stars-requires-clause-made g c =
    let rows = c.args.links.now.rows in
    let apart : InBetaCorner (links_of rows) c.args.one c.args.other → ⊥ = λ same. false≢true (sym c.if-branch.false ∙ c.in_ok-are_in_one_beta_corner.ensures.1 same) in
    rw c.made.ensures.made (all-made beta g.row.DIM rows c.made.ensures.sound c.in_ok-corners-in-Ok.field-0.items
    (corners-live rows c.requires.laws c.args.one c.args.other c.in-Ok.ensures.paired apart c.in-Ok.pairs.items c.in-Ok.ensures.members c.in_ok-corners-in-Ok.field-0.items
    (rw c.deref.ensures.value at c.in_ok-corners-in-Ok.ensures.members)))

pub cut_edit-requires : goal.cut_edit-requires
cut_edit-requires g c =
    let rows = c.args.links.now.rows in
    let apart : InBetaCorner (links_of rows) c.args.one c.args.other → ⊥ = λ same. false≢true (sym c.if-branch.false ∙ c.in_ok-are_in_one_beta_corner.ensures.1 same) in
    rw (c.deref-in-Ok.ensures.value, c.new-stars.ensures) (
      lit< tt,
      (
        edge-turns rows c.requires.laws c.args.one c.args.other c.in-Ok.ensures.paired apart c.in-Ok.pairs.items c.in-Ok.ensures.members c.in_ok-corners-in-Ok.field-0.items
            (rw c.deref.ensures.value at c.in_ok-corners-in-Ok.ensures.members) c.made.result c.made.ensures.made c.in_ok-corners-in-Ok.ensures.ascending c.in-Ok.ensures.ascending,
        c.requires.laws,
      ),
    )

pub returns-in_ok-cut_edit-in-Ok : goal.returns-in_ok-cut_edit-in-Ok
returns-in_ok-cut_edit-in-Ok g c =
    let rows = c.args.links.now.rows in
    let one : ℕ = c.args.one in
    let other : ℕ = c.args.other in
    let pairs : List Triple = c.in-Ok.pairs.items in
    let keys : List ℕ = c.in_ok-corners-in-Ok.field-0.items in
    let stars : Stars = record { keys = keys; made = c.made.result } in
    let paired = c.in-Ok.ensures.paired in
    let same = c.in-Ok.ensures.members in
    let members = rw c.deref.ensures.value at c.in_ok-corners-in-Ok.ensures.members in
    let apart : InBetaCorner (links_of rows) one other → ⊥ = λ same. false≢true (sym c.if-branch.false ∙ c.in_ok-are_in_one_beta_corner.ensures.1 same) in (
      c.in_ok-are_on_one_side.ensures.0 c.if-not-branch.false,
      apart,
      paired,
      edit-cuts g.row.DIM rows c.made.ensures.sound c.made.ensures.low c.requires.laws stars pairs
          (edge-turns rows c.requires.laws one other paired apart pairs same keys members c.made.result c.made.ensures.made c.in_ok-corners-in-Ok.ensures.ascending c.in-Ok.ensures.ascending)
          (BetaEdgeLeads (links_of rows) one other) (edge_turning (links_of rows) c.requires.laws one other paired apart)
          (λ x y z p q. paired.good.one (links_of rows 0 x) y z 1 p.1 q.1)
          (corner-members (links_of rows) c.requires.laws one other paired apart pairs same keys members)
          (pair-leads (links_of rows) c.requires.laws one other paired apart pairs same)
          (leads-pair (links_of rows) c.requires.laws one other paired apart pairs same)
          c.in_ok-cut_edit-in-Ok.field-0 (rw (c.deref-in-Ok.ensures.value, c.new-stars.ensures) at c.in_ok-cut_edit-in-Ok.ensures),
    )
