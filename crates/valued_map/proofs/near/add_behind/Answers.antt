use Rattle.std.proofs.Common.{ℕ, ◌≡◌, ◌≤◌, lit<, sym, ap, subst}
use Rattle.map_defs.specs.LinkWords.{LinkWord}
use Rattle.link_laws.proofs.Basics.{inverse_within}
use Rattle.valued_map.proofs.near.add_behind.Goals as goal

pub link-requires : goal.link-requires
link-requires g c =
    let first : c.word.inside.first ≡ c.args.word.first = ap (λ (w : LinkWord). w.first) c.word.view_is in
    let within : c.word.inside.first ≤ g.row.DIM = subst (λ (j : ℕ). j ≤ g.row.DIM) (sym first) c.requires.word.0 in
    (lit< tt, subst (λ (j : ℕ). j ≤ g.row.DIM) (sym c.inverse.ensures) (inverse_within g.K.Kind.kind g.row.DIM c.word.inside.first c.requires.low within))
