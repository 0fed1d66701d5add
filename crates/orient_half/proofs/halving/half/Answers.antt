use Rattle.std.proofs.Common.{ℕ, ◌≤◌, List, length, sym, ap, subst, ◌∙◌, arith, lit<}
use Rattle.std.specs.Prelude.{All}
use Rattle.map_defs.specs.Kind.{alpha}
use Rattle.map_defs.specs.Rows.{IsLive, links_of, made}
use Rattle.link_laws.proofs.RowFacts.{rows_lead_to_live}
use Rattle.half_laws.proofs.HalfLaws.{half_lawful}
use Rattle.half_defs.specs.Halves.{AreOrigins, IsHalf}
use Rattle.half_defs.specs.Orientation.{IsPositive}
use Rattle.orient_half.proofs.SignFacts.{positive-origins, positive-lives}
use Rattle.orient_half.proofs.LiveDartSteps.{live-made}
use Rattle.orient_half.proofs.RankFacts.{AreMade, few-darts}
use Rattle.orient_half.proofs.HalfLinks.{half-links, half-sound}
use Rattle.orient_half.proofs.halving.half.Goals as goal

pub new-requires-clause-ascending : goal.new-requires-clause-ascending
new-requires-clause-ascending g c =
    let are : AreOrigins (IsPositive c.args.signs.now) c.in_ok-positive.positive.items =
    subst (λ (xs : List ℕ). AreOrigins (IsPositive c.args.signs.now) xs) (sym c.in_ok-positive.ensures)
    (positive-origins g.row.DIM (IsLive c.args.links.now.rows) (links_of c.args.links.now.rows) c.args.signs.now c.requires.oriented) in
    are.ascending

pub new-requires-clause-within : goal.new-requires-clause-within
new-requires-clause-within g c =
    let are : AreOrigins (IsPositive c.args.signs.now) c.in_ok-positive.positive.items =
    subst (λ (xs : List ℕ). AreOrigins (IsPositive c.args.signs.now) xs) (sym c.in_ok-positive.ensures)
    (positive-origins g.row.DIM (IsLive c.args.links.now.rows) (links_of c.args.links.now.rows) c.args.signs.now c.requires.oriented) in
    subst (λ (m : ℕ). All (λ d. (1 ≤ d) × (d ≤ m)) c.in_ok-positive.positive.items) (sym c.made.ensures.made)
    (live-made c.args.links.now.rows c.see_sound.ensures.begun c.see_sound.ensures.sound.nothing c.in_ok-positive.positive.items
    (λ d has. positive-lives g.row.DIM (IsLive c.args.links.now.rows) (links_of c.args.links.now.rows) c.args.signs.now c.requires.oriented d ((are.members d).0 has)))

pub half_links-requires : goal.half_links-requires
half_links-requires g c =
    let are : AreOrigins (IsPositive c.args.signs.now) c.in_ok-positive.positive.items =
    subst (λ (xs : List ℕ). AreOrigins (IsPositive c.args.signs.now) xs) (sym c.in_ok-positive.ensures)
    (positive-origins g.row.DIM (IsLive c.args.links.now.rows) (links_of c.args.links.now.rows) c.args.signs.now c.requires.oriented) in
    let within : AreMade (made c.args.links.now.rows) c.in_ok-positive.positive.items =
    live-made c.args.links.now.rows c.see_sound.ensures.begun c.see_sound.ensures.sound.nothing c.in_ok-positive.positive.items
    (λ d has. positive-lives g.row.DIM (IsLive c.args.links.now.rows) (links_of c.args.links.now.rows) c.args.signs.now c.requires.oriented d ((are.members d).0 has)) in
    let few : length c.in_ok-positive.positive.items ≤ made c.args.links.now.rows = few-darts c.in_ok-positive.positive.items (made c.args.links.now.rows) are.ascending within in
    (lit< tt, (lit< tt, (c.see_sound.ensures.low, (c.see_sound.ensures.high, omega (arith, few, c.see_sound.ensures.sound.few, ap length c.in_ok-ranks.ensures)))))

pub finish-requires : goal.finish-requires
finish-requires g c =
    let are : AreOrigins (IsPositive c.args.signs.now) c.in_ok-ranks.ranks =
    subst (λ (xs : List ℕ). AreOrigins (IsPositive c.args.signs.now) xs) (sym (c.in_ok-ranks.ensures ∙ c.in_ok-positive.ensures))
    (positive-origins g.row.DIM (IsLive c.args.links.now.rows) (links_of c.args.links.now.rows) c.args.signs.now c.requires.oriented) in
    let within : AreMade (made c.args.links.now.rows) c.in_ok-ranks.ranks =
    live-made c.args.links.now.rows c.see_sound.ensures.begun c.see_sound.ensures.sound.nothing c.in_ok-ranks.ranks
    (λ d has. positive-lives g.row.DIM (IsLive c.args.links.now.rows) (links_of c.args.links.now.rows) c.args.signs.now c.requires.oriented d ((are.members d).0 has)) in
    let few : length c.in_ok-ranks.ranks ≤ made c.args.links.now.rows = few-darts c.in_ok-ranks.ranks (made c.args.links.now.rows) are.ascending within in (
      lit< tt,
      (
        lit< tt,
        half-sound g.row.DIM (IsLive c.args.links.now.rows) (links_of c.args.links.now.rows) c.args.signs.now c.in_ok-ranks.ranks c.in_ok-builder.builder.rows
            c.requires.laws (rows_lead_to_live alpha c.args.links.now.rows c.requires.laws) c.see_sound.ensures.low c.requires.oriented are c.in_ok-builder.ensures
            (omega (arith, few, c.see_sound.ensures.sound.few)),
      ),
    )

pub returns-clause-positive : goal.returns-clause-positive
returns-clause-positive g c =
    subst (λ (xs : List ℕ). AreOrigins (IsPositive c.args.signs.now) xs) (sym (c.into_darts.ensures ∙ c.in_ok-ranks.ensures ∙ c.in_ok-positive.ensures))
    (positive-origins g.row.DIM (IsLive c.args.links.now.rows) (links_of c.args.links.now.rows) c.args.signs.now c.requires.oriented)

pub returns-clause-half : goal.returns-clause-half
returns-clause-half g c =
    let are : AreOrigins (IsPositive c.args.signs.now) c.in_ok-ranks.ranks =
    subst (λ (xs : List ℕ). AreOrigins (IsPositive c.args.signs.now) xs) (sym (c.in_ok-ranks.ensures ∙ c.in_ok-positive.ensures))
    (positive-origins g.row.DIM (IsLive c.args.links.now.rows) (links_of c.args.links.now.rows) c.args.signs.now c.requires.oriented) in
    rw (c.into_darts.ensures, c.finish.ensures)
    (half-links g.row.DIM (IsLive c.args.links.now.rows) (links_of c.args.links.now.rows) c.args.signs.now c.in_ok-ranks.ranks c.in_ok-builder.builder.rows
    c.requires.laws (rows_lead_to_live alpha c.args.links.now.rows c.requires.laws) c.see_sound.ensures.low c.requires.oriented are c.in_ok-builder.ensures)

pub returns-clause-laws : goal.returns-clause-laws
returns-clause-laws g c =
    let are : AreOrigins (IsPositive c.args.signs.now) c.in_ok-ranks.ranks =
    subst (λ (xs : List ℕ). AreOrigins (IsPositive c.args.signs.now) xs) (sym (c.in_ok-ranks.ensures ∙ c.in_ok-positive.ensures))
    (positive-origins g.row.DIM (IsLive c.args.links.now.rows) (links_of c.args.links.now.rows) c.args.signs.now c.requires.oriented) in
    let lands = rows_lead_to_live alpha c.args.links.now.rows c.requires.laws in
    let half : IsHalf g.row.DIM (links_of c.args.links.now.rows) c.in_ok-ranks.ranks (links_of c.in_ok-builder.builder.rows) =
    half-links g.row.DIM (IsLive c.args.links.now.rows) (links_of c.args.links.now.rows) c.args.signs.now c.in_ok-ranks.ranks c.in_ok-builder.builder.rows
    c.requires.laws lands c.see_sound.ensures.low c.requires.oriented are c.in_ok-builder.ensures in
    rw c.finish.ensures
    (half_lawful g.row.DIM (IsLive c.args.links.now.rows) (links_of c.args.links.now.rows) c.requires.laws lands c.args.signs.now c.requires.oriented
    c.in_ok-ranks.ranks are (links_of c.in_ok-builder.builder.rows) half)
