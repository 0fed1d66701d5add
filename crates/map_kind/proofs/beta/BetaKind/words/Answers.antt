use Rattle.std.proofs.Common.{arith}
use Rattle.std.proofs.lemmas.Result.{IfOk-weaker}
use Rattle.map_kind.proofs.CellWords.{IsCellWord-beta-edge, IsCellWord-beta, IsCellWord-beta-vertex}
use Rattle.map_kind.proofs.beta.BetaKind.words.Goals as goal

pub returns-then-cell-eq0 : goal.returns-then-cell-eq0
returns-then-cell-eq0 c = IfOk-weaker c.vertex_words.result _ _
    (λ words are w. let cell = IsCellWord-beta-vertex c.args.dim c.args.cell (omega arith) w in (λ has. cell.0 ((are w).0 has), λ is. (are w).1 (cell.1 is)))
    c.vertex_words.ensures

pub returns-then-cell-eq1 : goal.returns-then-cell-eq1
returns-then-cell-eq1 c = IfOk-weaker c.single_links.result _ _
    (λ words are w. let cell = IsCellWord-beta-edge c.args.dim c.args.cell (omega arith) w in (λ has. cell.0 ((are w).0 has), λ is. (are w).1 (cell.1 is)))
    c.single_links.ensures

pub returns-else-cell-eq1 : goal.returns-else-cell-eq1
returns-else-cell-eq1 c = IfOk-weaker c.single_links-else-cell-eq1.result _ _
    (λ words are w. let cell = IsCellWord-beta c.args.dim c.args.cell (omega arith) c.requires.cell w in (λ has. cell.0 ((are w).0 has), λ is. (are w).1 (cell.1 is)))
    c.single_links-else-cell-eq1.ensures
