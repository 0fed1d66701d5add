use Rattle.std.proofs.Common.{◌≡◌, sym, ◌∙◌, subst, All, Contains, lit<}
use Rattle.std.proofs.lemmas.Result.{IfOk-weaker}
use Rattle.map_defs.specs.LinkWords.{IsWithin}
use Rattle.map_defs.specs.Cells.{Leads}
use Rattle.map_defs.specs.Rows.{links_of}
use Rattle.cell_walk.specs.Surveys.{TurnsBack, IsLeast}
use Rattle.cell_walk.proofs.ComponentDarts.{all_links, links-within, links-turn, links-least}
use Rattle.cell_walk.proofs.whole_map.components_with.Goals as goal

pub least_darts-requires : goal.least_darts-requires
least_darts-requires g c =
    let are : c.deref.result.now ≡ all_links g.row.DIM = c.deref.ensures.value ∙ (rw c.dimension.ensures.dimension at c.in_ok-words.ensures) in (
      lit< tt,
      (
        subst (All (IsWithin g.row.DIM)) (sym are) (links-within g.row.DIM),
        subst (λ words. TurnsBack (Leads (links_of c.args.links.now.rows) (Contains words))) (sym are) (links-turn g.K.Kind.kind g.row.DIM c.args.links.now.rows c.dimension.ensures.sound),
      ),
    )

pub returns-clause-members : goal.returns-clause-members
returns-clause-members g c =
    let are : c.deref.result.now ≡ all_links g.row.DIM = c.deref.ensures.value ∙ (rw c.dimension.ensures.dimension at c.in_ok-words.ensures) in
    IfOk-weaker c.least_darts.result _ _
    (λ components members d.
    let names = links-least g.K.Kind.kind g.row.DIM c.args.links.now.rows c.dimension.ensures.sound d in (
      λ has. let s = (members d).0 has in (s.0, names.0 (subst (λ words. IsLeast (Leads (links_of c.args.links.now.rows) (Contains words)) d) are s.1)),
      λ s. (members d).1 (s.0, subst (λ words. IsLeast (Leads (links_of c.args.links.now.rows) (Contains words)) d) (sym are) (names.1 s.1)),
    ))
    c.least_darts.ensures.members
