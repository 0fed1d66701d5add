use Rattle.std.proofs.Common.{ℕ, ◌+◌, ◌≤◌, List, length, refl, sym, ap, subst, arith, lit<}
use Rattle.std.specs.Prelude.{All}
use Rattle.map_defs.specs.Kind.{beta}
use Rattle.map_defs.specs.Rows.{IsLive, links_of}
use Rattle.link_laws.proofs.RowFacts.{rows_dimension, rows_lead_to_live}
use Rattle.half_laws.proofs.DoubleLaws.{double_keeps}
use Rattle.half_defs.specs.Halves.{AreOrigins, IsDouble}
use Rattle.orient_half.proofs.LiveDartSteps.{live-made, live-some}
use Rattle.orient_half.proofs.DoubleLinks.{double-links, double-sound}
use Rattle.orient_half.proofs.doubling.double.Goals as goal

pub new-requires-clause-within : goal.new-requires-clause-within
new-requires-clause-within g c =
    subst (λ (m : ℕ). All (λ d. (1 ≤ d) × (d ≤ m)) c.in_ok-live.live.items) (sym c.made.ensures.made)
    (live-made c.args.links.now.rows c.see_sound.ensures.begun c.see_sound.ensures.sound.nothing c.in_ok-live.live.items (λ d has. (c.in_ok-live.ensures.live.members d).0 has))

pub finish-requires : goal.finish-requires
finish-requires g c =
    let are : AreOrigins (IsLive c.args.links.now.rows) c.in_ok-ranks.ranks =
    subst (λ (xs : List ℕ). AreOrigins (IsLive c.args.links.now.rows) xs) (sym c.in_ok-ranks.ensures) c.in_ok-live.ensures.live in
    let few : length c.in_ok-ranks.ranks + length c.in_ok-ranks.ranks ≤ 4194304 = omega (arith, c.requires.few, c.in_ok-live.ensures.count, ap length c.in_ok-ranks.ensures) in (
      lit< tt,
      (
        lit< tt,
        double-sound g.row.DIM (IsLive c.args.links.now.rows) (links_of c.args.links.now.rows) c.in_ok-ranks.ranks c.in_ok-builder.builder.rows
            c.requires.laws (live-some c.args.links.now.rows c.see_sound.ensures.sound.nothing) are c.in_ok-builder.ensures few,
      ),
    )

pub returns-clause-double : goal.returns-clause-double
returns-clause-double g c =
    let are : AreOrigins (IsLive c.args.links.now.rows) c.in_ok-ranks.ranks =
    subst (λ (xs : List ℕ). AreOrigins (IsLive c.args.links.now.rows) xs) (sym c.in_ok-ranks.ensures) c.in_ok-live.ensures.live in
    rw (c.into_darts.ensures, c.finish.ensures)
    (double-links g.row.DIM (IsLive c.args.links.now.rows) (links_of c.args.links.now.rows) c.in_ok-ranks.ranks c.in_ok-builder.builder.rows
    c.requires.laws (live-some c.args.links.now.rows c.see_sound.ensures.sound.nothing) are c.in_ok-builder.ensures)

pub returns-clause-laws : goal.returns-clause-laws
returns-clause-laws g c =
    let are : AreOrigins (IsLive c.args.links.now.rows) c.in_ok-ranks.ranks =
    subst (λ (xs : List ℕ). AreOrigins (IsLive c.args.links.now.rows) xs) (sym c.in_ok-ranks.ensures) c.in_ok-live.ensures.live in
    let double : IsDouble g.row.DIM (links_of c.args.links.now.rows) c.in_ok-ranks.ranks (links_of c.in_ok-builder.builder.rows) =
    double-links g.row.DIM (IsLive c.args.links.now.rows) (links_of c.args.links.now.rows) c.in_ok-ranks.ranks c.in_ok-builder.builder.rows
    c.requires.laws (live-some c.args.links.now.rows c.see_sound.ensures.sound.nothing) are c.in_ok-builder.ensures in
    rw c.finish.ensures
    (double_keeps (IsLive c.args.links.now.rows) c.in_ok-ranks.ranks g.row.DIM (links_of c.args.links.now.rows) (links_of c.in_ok-builder.builder.rows)
    c.requires.laws (rows_lead_to_live beta c.args.links.now.rows c.requires.laws) (rows_dimension g.row.DIM c.args.links.now.rows c.see_sound.ensures.sound.wide)
    (λ lives. live-some c.args.links.now.rows c.see_sound.ensures.sound.nothing 0 lives refl) are double)
