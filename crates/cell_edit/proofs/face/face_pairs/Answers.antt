use Rattle.std.proofs.lemmas.Result.{IfOk-weaker, on_ok_weaker}
use Rattle.map_defs.specs.Rows.{links_of}
use Rattle.map_defs.specs.Insertion.{IsPairing, FaceSeed}
use Rattle.sewing.specs.Triples.{Lists}
use Rattle.cell_edit.proofs.PairsAlong.{seeded-pairs, seeded-good, good-seeded}
use Rattle.cell_edit.proofs.face.face_pairs.Goals as goal

pub returns-clause-members : goal.returns-clause-members
returns-clause-members g c =
    IfOk-weaker c.insertion_pairs.result _ _
    (λ pairs same. λ x y t. let seeded = seeded-pairs g.K.Kind.kind (links_of c.args.links.now.rows) (IsPairing 2) (Lists c.in_ok-seeds.seeds.items) (FaceSeed g.K.Kind.kind (links_of c.args.links.now.rows) c.args.path.now) c.in_ok-seeds.ensures x y t in
    (λ has. seeded.0 ((same x y t).0 has), λ p. (same x y t).1 (seeded.1 p)))
    (rw c.deref.ensures.value at c.insertion_pairs.ensures.members)

pub returns-clause-paired : goal.returns-clause-paired
returns-clause-paired g c =
    on_ok_weaker c.insertion_pairs.result
    (λ good. record {
      apart = c.in_ok-are_apart.ensures.0 c.if-not-branch.false;
      good = seeded-good g.K.Kind.kind (links_of c.args.links.now.rows) (IsPairing 2) (Lists c.in_ok-seeds.seeds.items) (FaceSeed g.K.Kind.kind (links_of c.args.links.now.rows) c.args.path.now) c.in_ok-seeds.ensures good;
    })
    (rw c.deref.ensures.value at c.insertion_pairs.ensures.good)

pub returns-clause-unpaired : goal.returns-clause-unpaired
returns-clause-unpaired g c = λ is paired.
    (rw c.deref.ensures.value at c.insertion_pairs.ensures.unpaired) is
    (good-seeded g.K.Kind.kind (links_of c.args.links.now.rows) (IsPairing 2) (Lists c.in_ok-seeds.seeds.items) (FaceSeed g.K.Kind.kind (links_of c.args.links.now.rows) c.args.path.now) c.in_ok-seeds.ensures paired.good)
