use Rattle.std.proofs.Common.{ℕ, ◌≡◌, ◌+◌, ◌-◌, ap, subst, inl, inr, sym, ◌∙◌, arith}
use Rattle.std.proofs.lemmas.Bool.{false≢true}
use Rattle.map_defs.specs.Rows.{made}
use Rattle.map_defs.specs.Edits.{Edit}
use Rattle.label_laws.specs.Touching.{IsJoinedApart}
use Rattle.valued_map.specs.Changing.{IsJoinedFrom}
use Rattle.valued_map.proofs.LiveDarts.{live-made}
use Rattle.valued_map.proofs.Joining.{apart-joined}
use Rattle.valued_map.proofs.changed.changed_along.Goals as goal

pub returns-then-has-clause-all : goal.returns-then-has-clause-all
returns-then-has-clause-all g c = λ x moved.
    let older-is : made c.args.links.now.rows - c.args.edit.now.births ≡ c.args.older = omega (arith, c.requires.older) in
    let births-is : c.edit.inside.births ≡ c.args.edit.now.births = ap (λ (e : Edit). e.births) c.edit.view_is in
    let last-is : c.args.older + (c.args.edit.now.births - c.args.kept.aside) ≡ c.args.older + c.saturating_sub.result = omega (arith, births-is, c.saturating_sub.ensures) in elim moved [
      | inl loose ↦ absurd (loose.0 (c.has.ensures.0 c.if-has.true))
      | inr joined ↦ c.in_ok-graft_kept.ensures.added.all x
          (subst (λ (t : ℕ). IsJoinedFrom g.K.Kind.kind c.args.dim c.args.links.now.rows c.args.older t c.graft_kept.new.labels x) last-is
          (subst (λ (o : ℕ). IsJoinedFrom g.K.Kind.kind c.args.dim c.args.links.now.rows o (o + (c.args.edit.now.births - c.args.kept.aside)) c.graft_kept.new.labels x) older-is joined.1))
          joined.1.joined.0
    ]

pub returns-clause-all : goal.returns-clause-all
returns-clause-all g c = λ x moved.
    let older-is : made c.args.links.now.rows - c.args.edit.now.births ≡ c.args.older = omega (arith, c.requires.older) in elim moved [
      | inl (loose, inl unsettled) ↦ c.in_ok-add_touched.ensures.all x unsettled unsettled.4.1
      | inl (loose, inr apart) ↦ c.in_ok-add_touched.ensures.kept x (c.in_ok-graft_born.ensures.added.all x (
        (let low = live-made c.args.links.now.rows x apart.0 in omega (arith, low, c.made-last.ensures.made)),
        subst (λ (o : ℕ). IsJoinedApart g.K.Kind.kind c.args.dim c.args.links.now.rows o c.graft_born.new.labels x) older-is
            (apart-joined g.K.Kind.kind c.args.dim c.args.links.now.rows (made c.args.links.now.rows - c.args.edit.now.births) c.graft_born.new.labels x apart),
      ) apart.0)
      | inr joined ↦ absurd (false≢true (sym c.if-has.false ∙ c.has.ensures.1 joined.0))
    ]
