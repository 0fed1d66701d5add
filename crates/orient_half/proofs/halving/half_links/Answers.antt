use Rattle.std.proofs.Common.{ℕ, [], ◌∷◌, None, length, sym, ap, subst, ◌∙◌}
use Rattle.map_defs.specs.Rows.{Rows, links_of}
use Rattle.map_defs.specs.Edits.{with_births}
use Rattle.orient_half.specs.Entries.{IsHalfEntry, AreSetUpTo}
use Rattle.orient_half.proofs.SetEntries.{set-none}
use Rattle.orient_half.proofs.halving.half_links.Goals as goal

pub loop-rank-init : goal.loop-rank-init
loop-rank-init g c =
    subst (λ (rows : Rows). AreSetUpTo g.row.DIM (length c.args.ranks.now) (IsHalfEntry (links_of c.args.links.now.rows) c.args.ranks.now) 1 0 rows)
    (sym (c.in_ok-builder.ensures ∙ ap (λ (k : ℕ). with_births g.row.DIM k (None ∷ [])) c.len.ensures))
    (set-none g.row.DIM (length c.args.ranks.now) (IsHalfEntry (links_of c.args.links.now.rows) c.args.ranks.now))
