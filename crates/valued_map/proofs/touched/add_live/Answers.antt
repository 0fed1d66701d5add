use Rattle.std.proofs.Common.{◌≡◌, ◌∙◌, rules}
use Rattle.valued_map.proofs.Adding.{added-none}
use Rattle.valued_map.proofs.LiveDarts.{zero-dead}
use Rattle.valued_map.proofs.touched.add_live.Goals as goal

pub returns-in_default : goal.returns-in_default
returns-in_default g c =
    let zero : c.args.number ≡ 0 = search rules in
    added-none c.args.links.now.rows (λ x. x ≡ c.args.number) c.args.touched.now.items
    (λ x e live. zero-dead g.K.Kind.kind g.row.DIM c.args.links.now.rows x c.requires (e ∙ zero) live)
