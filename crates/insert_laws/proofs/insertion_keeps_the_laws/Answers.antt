use Rattle.std.proofs.Common.{IsTrue}
use Rattle.map_defs.specs.Insertion.{IsJustBelow}
use Rattle.map_defs.specs.Closing.{IsOpen, IsAround}
use Rattle.map_defs.specs.Rows.{IsLive}
use Rattle.insert_laws.proofs.InsertSquare.{insertion_keeps}
use Rattle.insert_laws.proofs.insertion_keeps_the_laws.Goals as goal

pub returns-clause-told : goal.returns-clause-told
returns-clause-told c k i K P star L N w can fresh s = insertion_keeps k i (λ x. IsTrue (K x)) (λ x y t. IsTrue (P x y t)) star L w can fresh N s

pub returns-clause-closing : goal.returns-clause-closing
returns-clause-closing c k i rows star L N w can fresh s =
    insertion_keeps k i (IsOpen (IsLive rows) i L) (λ x y t. IsOpen (IsLive rows) i L x × IsJustBelow k i t × IsAround k i t L x y) star L w can fresh N s
