use Rattle.std.proofs.lemmas.Result.{IfOk-weaker}
use Rattle.map_kind.proofs.CellWords.{IsCellWord-alpha}
use Rattle.map_kind.proofs.kind.AlphaKind.words.Goals as goal

pub returns : goal.returns
returns c = IfOk-weaker c.single_links.result _ _
    (λ words are w. let cell = IsCellWord-alpha c.args.dim c.args.cell w in (λ has. cell.0 ((are w).0 has), λ is. (are w).1 (cell.1 is)))
    c.single_links.ensures
