use Rattle.std.proofs.Common.{◌∷◌, []}
use Rattle.std.proofs.lemmas.Result.{IfOk-weaker, on_ok_weaker}
use Rattle.map_defs.specs.Kind.{alpha}
use Rattle.map_defs.specs.Rows.{links_of}
use Rattle.map_defs.specs.Pairs.{JustOne}
use Rattle.map_defs.specs.Insertion.{IsPairing}
use Rattle.sewing.specs.Triples.{Lists}
use Rattle.sewing.proofs.DistantPairs.{one_listed}
use Rattle.cell_edit.proofs.PairsAlong.{seeded-pairs, seeded-good, good-seeded}
use Rattle.alpha_edit.proofs.edge.edge_pairs.Goals as goal

pub returns-clause-members : goal.returns-clause-members
returns-clause-members g c =
    let d = c.args.one in
    let e = c.args.other in
    IfOk-weaker c.insertion_pairs.result _ _
    (λ pairs same. λ x y t. let seeded = seeded-pairs alpha (links_of c.args.links.now.rows) (IsPairing 1) (Lists (record { x = d; y = e; t = 0 } ∷ [])) (JustOne d e 0) (one_listed d e 0) x y t in
    (λ has. seeded.0 ((same x y t).0 has), λ p. (same x y t).1 (seeded.1 p)))
    c.insertion_pairs.ensures.members

pub returns-clause-paired : goal.returns-clause-paired
returns-clause-paired g c =
    let d = c.args.one in
    let e = c.args.other in
    on_ok_weaker c.insertion_pairs.result
    (seeded-good alpha (links_of c.args.links.now.rows) (IsPairing 1) (Lists (record { x = d; y = e; t = 0 } ∷ [])) (JustOne d e 0) (one_listed d e 0))
    c.insertion_pairs.ensures.good

pub returns-clause-unpaired : goal.returns-clause-unpaired
returns-clause-unpaired g c = λ is good.
    let d = c.args.one in
    let e = c.args.other in
    c.insertion_pairs.ensures.unpaired is
    (good-seeded alpha (links_of c.args.links.now.rows) (IsPairing 1) (Lists (record { x = d; y = e; t = 0 } ∷ [])) (JustOne d e 0) (one_listed d e 0) good)
