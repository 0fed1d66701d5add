use Rattle.std.proofs.lemmas.Result.{IfOk-weaker}
use Rattle.list_text.proofs.RankCounts.{counts-alike}
use Rattle.list_text.proofs.counts.row_counts.Goals as goal

pub returns : goal.returns
returns g c =
    IfOk-weaker c.counts.result _ _
    (λ counts of. counts-alike g.K.Kind.kind g.row.DIM c.args.rows.now c.in_ok-links.links.rows c.requires.rows c.requires.lawful c.in_ok-links.ensures counts.items of) c.counts.ensures
