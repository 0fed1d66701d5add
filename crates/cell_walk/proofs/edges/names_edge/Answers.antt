use Rattle.std.proofs.Common.{◌≡◌, ℕ, sym, ◌∙◌, subst}
use Rattle.std.proofs.lemmas.Bool.{false≢true}
use Rattle.map_defs.specs.LinkWords.{one_link}
use Rattle.map_defs.specs.Rows.{links_of, IsLive, IsSound}
use Rattle.map_defs.specs.Cells.{NamesCell}
use Rattle.cell_walk.proofs.EdgeDarts.{IsBefore, second-runs, lesser-led, side-names, told-unless}
use Rattle.cell_walk.proofs.edges.names_edge.Goals as goal

pub returns : goal.returns
returns g c =
    let L = links_of c.args.links.now.rows in
    let sound : IsSound g.K.Kind.kind 2 c.args.links.now.rows = subst (λ (n : ℕ). IsSound g.K.Kind.kind n c.args.links.now.rows) c.requires c.is_live.ensures.sound in
    let side : c.entry.result ≡ L 2 c.args.dart = c.entry.ensures ∙ c.live_row.ensures 2 in
    told-unless c.is_before.result (IsBefore c.entry.result c.args.dart) (IsLive c.args.links.now.rows c.args.dart × NamesCell g.K.Kind.kind L 1 c.args.dart) c.is_before.ensures
    (λ before names. lesser-led g.K.Kind.kind L c.args.dart (one_link 2) (second-runs g.K.Kind.kind) (subst (λ (m : ℕ). IsBefore m c.args.dart) side before) names.1)
    (λ no_less. (
      c.is_live.ensures.live.0 c.if-not-is_live.false,
      side-names g.K.Kind.kind (λ kind. false≢true (sym c.if-is_generalized.false ∙ c.is_generalized.ensures.1 kind)) c.args.links.now.rows sound c.args.dart
          (λ before. no_less (subst (λ (m : ℕ). IsBefore m c.args.dart) (sym side) before)),
    ))
