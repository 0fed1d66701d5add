use Rattle.std.proofs.lemmas.Result.{IfOk-weaker}
use Rattle.alpha_edit.proofs.EdgeDarts.{merged-members}
use Rattle.alpha_edit.proofs.vertex.four_darts.Goals as goal

pub returns-clause-members : goal.returns-clause-members
returns-clause-members c =
    IfOk-weaker c.from_slice.result _ _
    (λ darts items. rw items (merged-members _ _ _ _ _ _ _ _ _ _ c.ordered-lower.ensures.which c.ordered-upper.ensures.which c.ordered-middle.ensures.which))
    c.from_slice.ensures.items
