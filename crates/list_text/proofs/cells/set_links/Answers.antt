use Rattle.std.proofs.Common.{◌≡◌, ℕ, ◌+◌, ◌-◌, subst, arith}
use Rattle.list_text.specs.Ranks.{AreSetUpTo}
use Rattle.list_text.proofs.RankSteps.{set-row}
use Rattle.list_text.proofs.cells.set_links.Goals as goal

pub returns : goal.returns
returns g c =
    let e : c.args.dart - 1 + 1 ≡ c.args.dart = omega arith in
    subst (λ (p : ℕ). AreSetUpTo g.row.DIM c.args.table.now p 0 c.loop-link.builder.rows) e
    (set-row g.row.DIM c.args.table.now (c.args.dart - 1) c.loop-link.link c.loop-link.builder.rows (omega arith) c.loop-link.invariant)
