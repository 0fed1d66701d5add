use Rattle.std.proofs.Common.{ℕ, ◌≡◌, ◌+◌, ◌≤◌, slice_index, sym, ap, subst, ◌∙◌, arith}
use Rattle.map_defs.specs.Kind.{inverse}
use Rattle.map_defs.specs.Rows.{links_of, made, IsLive}
use Rattle.map_defs.specs.Walks.{Walk}
use Rattle.link_laws.proofs.RowFacts.{rows_made}
use Rattle.map_close.proofs.WalkSteps.{IsAlong, along-none, along-more, along-ends}
use Rattle.map_close.proofs.Rounds.{IsCrossed, turn, around-few}
use Rattle.map_close.proofs.OpenFacts.{key-free, star-crossed, star-free}
use Rattle.map_close.proofs.boundary.next_star.Goals as goal

pub returns-then-star-ne0 : goal.returns-then-star-ne0
returns-then-star-ne0 g c = λ x has row.
    let k = g.K.Kind.kind in
    let rows = c.args.links.now.rows in
    let L = links_of rows in
    let start : ℕ = L (inverse k c.args.before) x in
    let at : c.entry-at.result ≡ start = c.entry-at.ensures ∙ row c.inverse-back.result ∙ ap (λ (t : ℕ). L t x) c.inverse-back.ensures in
    let free : L c.args.link c.entry-at.result ≡ 0 =
    star-free k g.row.DIM rows c.see_sound.ensures.sound c.args.link c.args.stars.now c.requires.can c.entry-at.result (λ none. c.if-star-ne0.true (c.number-star.ensures ∙ none)) in (
      c.entry-at.result,
      along-ends (IsCrossed L c.args.link) (turn k c.args.link c.args.before L) start 0 c.entry-at.result
          (subst (IsAlong (IsCrossed L c.args.link) (turn k c.args.link c.args.before L) start 0) (sym at) (along-none (IsCrossed L c.args.link) (turn k c.args.link c.args.before L) start))
          (λ some. some free),
      c.number-star.ensures,
    )

pub loop-turn-init : goal.loop-turn-init
loop-turn-init g c =
    let k = g.K.Kind.kind in
    let rows = c.args.links.now.rows in
    let L = links_of rows in
    let x : ℕ = c.requires.old.0 in
    let at : c.entry-at.result ≡ slice_index c.args.row.now (inverse k c.args.before) = rw c.inverse-back.ensures at c.entry-at.ensures in
    let is : c.entry-at.result ≡ L (inverse k c.args.before) x = at ∙ c.requires.old.2 (inverse k c.args.before) in (
      subst (IsAlong (IsCrossed L c.args.link) (turn k c.args.link c.args.before L) (slice_index c.args.row.now (inverse k c.args.before)) 0) (sym at)
          (along-none (IsCrossed L c.args.link) (turn k c.args.link c.args.before L) (slice_index c.args.row.now (inverse k c.args.before))),
      sym c.number-star.ensures ∙ c.if-star-ne0.false,
      λ some. subst (IsLive rows) (sym is) (c.see_sound.ensures.sound.live (inverse k c.args.before) x (λ none. some (is ∙ none))),
    )

pub returns-then-at-eq0 : goal.returns-then-at-eq0
returns-then-at-eq0 g c = λ x has row.
    let k = g.K.Kind.kind in
    let L = links_of c.args.links.now.rows in
    let start : ℕ = slice_index c.args.row.now (inverse k c.args.before) in (
      c.loop-turn.at,
      subst (λ (s : ℕ). Walk (IsCrossed L c.args.link) (turn k c.args.link c.args.before L) s c.loop-turn.at) (row (inverse k c.args.before))
          (along-ends (IsCrossed L c.args.link) (turn k c.args.link c.args.before L) start c.loop-turn._turn c.loop-turn.at c.loop-turn.invariant.0
          (λ some. some (ap (L c.args.link) c.if-at-eq0.true ∙ c.requires.can.laws.nil c.args.link))),
      sym c.loop-turn.invariant.1,
    )

pub returns-then-star-ne0-2 : goal.returns-then-star-ne0-2
returns-then-star-ne0-2 g c = λ x has row.
    let k = g.K.Kind.kind in
    let rows = c.args.links.now.rows in
    let L = links_of rows in
    let sound = c.see_sound.ensures.sound in
    let start : ℕ = slice_index c.args.row.now (inverse k c.args.before) in
    let crossed : IsCrossed L c.args.link c.loop-turn.at = star-crossed k g.row.DIM rows sound c.args.link c.args.stars.now c.requires.can c.loop-turn.at
    (c.loop-turn.invariant.2 c.if-at-eq0.false) c.loop-turn.invariant.1 in
    let at : c.number_at-at.result ≡ turn k c.args.link c.args.before L c.loop-turn.at =
    c.number_at-at.ensures ∙ ap (λ (t : ℕ). L t c.number_at.result) c.inverse-back.ensures ∙ ap (L (inverse k c.args.before)) c.number_at.ensures in
    let free : L c.args.link c.number_at-at.result ≡ 0 =
    star-free k g.row.DIM rows sound c.args.link c.args.stars.now c.requires.can c.number_at-at.result (λ none. c.if-star-ne0-2.true (c.number-star-in-loop-turn.ensures ∙ none)) in (
      c.number_at-at.result,
      subst (λ (s : ℕ). Walk (IsCrossed L c.args.link) (turn k c.args.link c.args.before L) s c.number_at-at.result) (row (inverse k c.args.before))
          (along-ends (IsCrossed L c.args.link) (turn k c.args.link c.args.before L) start (c.loop-turn._turn + 1) c.number_at-at.result
          (along-more (IsCrossed L c.args.link) (turn k c.args.link c.args.before L) start c.loop-turn._turn c.loop-turn.at c.number_at-at.result c.loop-turn.invariant.0 crossed at)
          (λ some. some free)),
      c.number-star-in-loop-turn.ensures,
    )

pub loop-turn-preserved : goal.loop-turn-preserved
loop-turn-preserved g c =
    let k = g.K.Kind.kind in
    let rows = c.args.links.now.rows in
    let L = links_of rows in
    let sound = c.see_sound.ensures.sound in
    let start : ℕ = slice_index c.args.row.now (inverse k c.args.before) in
    let crossed : IsCrossed L c.args.link c.loop-turn.at = star-crossed k g.row.DIM rows sound c.args.link c.args.stars.now c.requires.can c.loop-turn.at
    (c.loop-turn.invariant.2 c.if-at-eq0.false) c.loop-turn.invariant.1 in
    let at : c.number_at-at.result ≡ turn k c.args.link c.args.before L c.loop-turn.at =
    c.number_at-at.ensures ∙ ap (λ (t : ℕ). L t c.number_at.result) c.inverse-back.ensures ∙ ap (L (inverse k c.args.before)) c.number_at.ensures in (
      along-more (IsCrossed L c.args.link) (turn k c.args.link c.args.before L) start c.loop-turn._turn c.loop-turn.at c.number_at-at.result c.loop-turn.invariant.0 crossed at,
      sym c.number-star-in-loop-turn.ensures ∙ c.if-star-ne0-2.false,
      λ some. subst (IsLive rows) (sym at) (sound.live (inverse k c.args.before) (L c.args.link c.loop-turn.at) (λ none. some (at ∙ none))),
    )

pub unreachable-requires : goal.unreachable-requires
unreachable-requires g c =
    let rows = c.args.links.now.rows in
    let L = links_of rows in
    let k = g.K.Kind.kind in
    let x : ℕ = c.requires.old.0 in
    let free : L c.args.link x ≡ 0 = key-free k g.row.DIM rows c.see_sound.ensures.sound c.args.link c.args.stars.now c.requires.can x c.requires.old.1 in
    let many : made rows + 2 ≤ c.loop-turn._turn = omega (arith, c.made-turn-end.ensures.made, c.loop-turn-test.false) in
    around-few k L c.requires.can.laws c.args.link c.requires.can.own c.args.before (made rows) (rows_made rows) x free c.loop-turn._turn c.loop-turn.at many
    (subst (λ (s : ℕ). IsAlong (IsCrossed L c.args.link) (turn k c.args.link c.args.before L) s c.loop-turn._turn c.loop-turn.at) (c.requires.old.2 (inverse k c.args.before)) c.loop-turn.invariant.0)
