use Rattle.std.proofs.Common.{◌≡◌, ℕ, List, [], ◌∷◌, map, min, None, ap, subst, ◌∙◌, lit<, arith}
use Rattle.std.proofs.lemmas.Result.{IfOk-weaker}
use Rattle.map_defs.specs.Rows.{Rows, links_of, made}
use Rattle.map_defs.specs.Edits.{Edit}
use Rattle.map_defs.specs.Values.{Place}
use Rattle.cell_walk.specs.CellLists.{AreCellsOf}
use Rattle.edit_laws.proofs.EditSound.{length-after}
use Rattle.map_core.proofs.map.Map.load.Goals as goal

pub links_after-requires : goal.links_after-requires
links_after-requires g c = (lit< tt, (c.see_dimension.ensures.low, (c.see_dimension.ensures.high, (c.requires.fits, c.requires.few))))

pub load_links-requires : goal.load_links-requires
load_links-requires g c =
    let k = g.K.Kind.kind in
    let lists : List (List ℕ) = c.in_ok-cells.cells in
    let its = subst (λ (ds : List ℕ). AreCellsOf k (links_of c.in_ok-links.links.rows) 0 ds lists) (c.deref.ensures.value ∙ c.in_ok-darts.ensures) c.in_ok-cells.ensures in
    let cells = subst (λ (rows : Rows). AreCellsOf k (links_of rows) 0 (map (λ (place : Place). place.dart) c.args.places.now) lists) c.in_ok-links.ensures its in
    rw c.in_ok-links.ensures (lit< tt, (lit< tt, (c.requires.new, (c.requires.laws, (c.requires.members, (c.requires.ascending, cells))))))

pub returns-clause-first : goal.returns-clause-first
returns-clause-first g c =
    let e : Edit = c.args.edit.now in
    let births : made c.in_ok-links.links.rows ≡ e.births = ap made c.in_ok-links.ensures ∙ (let long = length-after g.row.DIM e (None ∷ []) in omega (arith, long)) in
    IfOk-weaker c.load_links.result _ _ (λ done first. first ∙ ap (λ (m : ℕ). min m 1) births) c.load_links.ensures.first

pub returns-clause-count : goal.returns-clause-count
returns-clause-count g c =
    let e : Edit = c.args.edit.now in
    let births : made c.in_ok-links.links.rows ≡ e.births = ap made c.in_ok-links.ensures ∙ (let long = length-after g.row.DIM e (None ∷ []) in omega (arith, long)) in
    IfOk-weaker c.load_links.result _ _ (λ done count. count ∙ births) c.load_links.ensures.count
