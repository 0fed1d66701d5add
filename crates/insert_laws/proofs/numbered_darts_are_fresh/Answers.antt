use Rattle.std.proofs.Common.{IsTrue}
use Rattle.map_defs.specs.Cells.{InCell}
use Rattle.map_defs.specs.Insertion.{FaceDarts}
use Rattle.map_defs.specs.Inserting.{EdgeDarts}
use Rattle.map_defs.specs.Closing.{IsOpen}
use Rattle.map_defs.specs.Rows.{IsLive}
use Rattle.insert_laws.proofs.Numbers.{numbered_fresh}
use Rattle.insert_laws.proofs.numbered_darts_are_fresh.Goals as goal

pub returns-clause-told : goal.returns-clause-told
returns-clause-told c K keys made star L m low bound = numbered_fresh (λ x. IsTrue (K x)) keys made star m L low bound

pub returns-clause-vertex : goal.returns-clause-vertex
returns-clause-vertex c k i d keys made star L m low bound = numbered_fresh (InCell k L i d) keys made star m L low bound

pub returns-clause-edge : goal.returns-clause-edge
returns-clause-edge c k d e keys made star L m low bound = numbered_fresh (EdgeDarts k L d e) keys made star m L low bound

pub returns-clause-face : goal.returns-clause-face
returns-clause-face c k path keys made star L m low bound = numbered_fresh (FaceDarts k L path) keys made star m L low bound

pub returns-clause-closing : goal.returns-clause-closing
returns-clause-closing c i rows keys made star L m low bound = numbered_fresh (IsOpen (IsLive rows) i L) keys made star m L low bound
