use Rattle.std.proofs.Common.{◌≡◌, ℕ, ◌+◌, [], ◌∷◌, None, length, sym, ap, subst, ◌∙◌, arith}
use Rattle.map_defs.specs.Rows.{Rows, links_of}
use Rattle.map_defs.specs.Edits.{with_births}
use Rattle.orient_half.specs.Entries.{IsDoubleEntry, AreSetUpTo}
use Rattle.orient_half.proofs.SetEntries.{set-none}
use Rattle.orient_half.proofs.doubling.double_links.Goals as goal

pub loop-rank-init : goal.loop-rank-init
loop-rank-init g c =
    let m : ℕ = length c.args.ranks.now + length c.args.ranks.now in
    let darts : c.even_dart.result ≡ m = omega (arith, c.even_dart.ensures, c.len.ensures) in
    subst (λ (rows : Rows). AreSetUpTo g.row.DIM m (IsDoubleEntry (links_of c.args.links.now.rows) c.args.ranks.now) 1 0 rows)
    (sym (c.in_ok-builder.ensures ∙ ap (λ (k : ℕ). with_births g.row.DIM k (None ∷ [])) darts))
    (set-none g.row.DIM m (IsDoubleEntry (links_of c.args.links.now.rows) c.args.ranks.now))
