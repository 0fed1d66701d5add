use Rattle.std.proofs.Common.{ℕ, ◌≡◌, ◌-◌, ◌↔◌, ◌⊎◌, List, Contains, lit<, inl, inr, sym, ap, subst, ◌∙◌, arith}
use Rattle.std.proofs.lemmas.Bool.{false≢true}
use Rattle.map_defs.specs.LinkWords.{LinkWord, IsCellWord, IsWithin}
use Rattle.map_defs.specs.Rows.{made}
use Rattle.map_defs.specs.Edits.{Change, Edit}
use Rattle.valued_map.specs.Changing.{BeginBy, LeadsBackIn, MayReroute}
use Rattle.valued_map.proofs.Rerouting.{none-unsettled, rerouting-told}
use Rattle.valued_map.proofs.Joining.{bare-alike}
use Rattle.valued_map.proofs.changed.changed_in.Goals as goal

pub returns-then-not-may_touch-clause-all : goal.returns-then-not-may_touch-clause-all
returns-then-not-may_touch-clause-all g c = λ x moved.
    let births-is : c.edit.inside.births ≡ c.args.edit.now.births = ap (λ (e : Edit). e.births) c.edit.view_is in
    let older : ℕ = c.made.result - c.edit.inside.births in
    let bare-above = c.requires.bare in
    elim moved [
      | inl (not, inr apart) ↦ absurd (bare-alike g.K.Kind.kind c.args.dim c.args.links.now.rows (made c.args.links.now.rows - c.args.edit.now.births) c.args.labels.now bare-above x apart)
      | inr joined ↦ absurd (false≢true (sym c.if-not-has.true ∙ c.has.ensures.1 joined.0))
      | inl (not, inl loose) ↦ absurd (none-unsettled g.K.Kind.kind g.row.DIM c.args.edit.now c.args.links.now.rows c.args.dim c.args.labels.now c.made.ensures.sound older (omega (arith, c.requires.births, c.made.ensures.made, births-is))
          (λ b here old live followed.
          let mine = subst (λ (bs : List Change). Contains bs b) (sym (ap (λ (e : Edit). e.changes) c.edit.view_is)) here in
          let told = rerouting-told g.K.Kind.kind c.args.dim c.args.links.now.rows older c.edit.inside.changes.items c.edit.inside.born b mine (old, live, followed) in
          false≢true (sym c.if-not-may_touch.true ∙ c.may_touch.ensures.1
          (subst (λ (cs : List Change). BeginBy c.edit.inside.born older ⊎ (LeadsBackIn g.K.Kind.kind c.args.dim c.edit.inside.born
          ⊎ ((x : Change) × Contains cs x × MayReroute g.K.Kind.kind c.args.dim c.args.links.now.rows older x))) (sym c.deref.ensures.value) told)))
          x loose)
    ]

pub changed_along-requires : goal.changed_along-requires
changed_along-requires g c =
    let births-is : c.edit.inside.births ≡ c.args.edit.now.births = ap (λ (e : Edit). e.births) c.edit.view_is in
    let two : 2 ≡ g.row.DIM = omega (arith, c.dimension.ensures.dimension, c.if-dimension-eq2.true) in (
      lit< tt,
      (
        lit< tt,
        (
          omega (arith, c.requires.births, c.made.ensures.made, births-is),
          (
            c.made.ensures.sound,
            (
              c.made.ensures.low,
              (
                c.requires.dim,
                (
                  c.requires.long,
                  (
                    c.requires.placed,
                    (
                      λ d high. c.requires.bare d (omega (arith, c.made.ensures.made, births-is)),
                      λ w. subst (λ (d : ℕ). Contains c.surface_words-words.result w ↔ (IsCellWord g.K.Kind.kind c.args.dim w × IsWithin d w)) two (c.surface_words-words.ensures w),
                    ),
                  ),
                ),
              ),
            ),
          ),
        ),
      ),
    )

pub changed_along-requires-2 : goal.changed_along-requires-2
changed_along-requires-2 g c =
    let births-is : c.edit.inside.births ≡ c.args.edit.now.births = ap (λ (e : Edit). e.births) c.edit.view_is in (
      lit< tt,
      (
        lit< tt,
        (
          omega (arith, c.requires.births, c.made.ensures.made, births-is),
          (
            c.made.ensures.sound,
            (
              c.made.ensures.low,
              (
                c.requires.dim,
                (
                  c.requires.long,
                  (
                    c.requires.placed,
                    (
                      λ d high. c.requires.bare d (omega (arith, c.made.ensures.made, births-is)),
                      λ w. subst (λ (ws : List LinkWord). Contains ws w ↔ (IsCellWord g.K.Kind.kind c.args.dim w × IsWithin g.row.DIM w)) (sym c.deref-2.ensures.value)
                          (subst (λ (d : ℕ). Contains c.in_ok-words.words.items w ↔ (IsCellWord g.K.Kind.kind c.args.dim w × IsWithin d w)) c.dimension-2.ensures.dimension (c.in_ok-words.ensures w)),
                    ),
                  ),
                ),
              ),
            ),
          ),
        ),
      ),
    )
