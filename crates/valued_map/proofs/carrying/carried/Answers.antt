use Rattle.std.proofs.Common.{ℕ, ◌≡◌, ◌⊎◌, ◌+◌, ◌-◌, ◌<◌, List, [], ◌∷◌, length, Contains, IsSome, Option, None, refl, ap, sym, subst, ◌∙◌, inl, inr, lit<, arith, rules}
use Rattle.map_defs.specs.Rows.{Rows, IsLive, links_of, made}
use Rattle.map_defs.specs.Values.{Rule}
use Rattle.edit_laws.proofs.EditSound.{length-after}
use Rattle.store_defs.specs.Groups.{Group, rule_at, darts_in}
use Rattle.label_laws.specs.Touching.{AreGrafted, AreAllTouched}
use Rattle.label_laws.proofs.Making.{none-touched}
use Rattle.label_laws.proofs.Sparing.{spared-covered}
use Rattle.valued_map.proofs.Joining.{grafts-none, grafted-held, unlabelled, before-made, changed-spare}
use Rattle.valued_map.proofs.carrying.carried.Goals as goal

empty-list : (rules : List (Option Rule)) → (0 < length rules → ⊥) → rules ≡ []
empty-list [] none = refl
empty-list (rule ∷ rules) none = absurd (none (omega arith))

pub returns-then-not-has_places-clause-grafted : goal.returns-then-not-has_places-clause-grafted
returns-then-not-has_places-clause-grafted g c = λ old led. grafts-none g.K.Kind.kind c.args.links.now.rows (made old) (λ i. IsSome (rule_at c.args.rules.now i)) c.args.labels.now

pub returns-then-not-has_places-clause-cells : goal.returns-then-not-has_places-clause-cells
returns-then-not-has_places-clause-cells g c = λ old led stored keeps.
    let none : c.args.rules.now ≡ [] = empty-list c.args.rules.now (λ some. let yes-there = c.has_places.ensures.1 some in cc) in
    subst (λ (gs : List Group). AreAllTouched g.K.Kind.kind c.args.links.now.rows c.args.rules.now c.args.labels.now gs) (sym c.new.ensures.items)
    (none-touched g.K.Kind.kind c.args.links.now.rows c.args.rules.now c.args.labels.now none)

rules-long : (n : ℕ) (rules : List (Option Rule)) → 0 < length rules → (rules ≡ []) ⊎ (length rules ≡ n + 1) → length rules ≡ n + 1
rules-long n rules some (inl none) = absurd (omega (arith, some, ap (λ (rs : List (Option Rule)). length rs) none))
rules-long n rules some (inr long) = long

pub changed_darts-requires : goal.changed_darts-requires
changed_darts-requires g c =
    let old = c.requires.led.0 in
    let led = c.requires.led.1 in
    let stored = c.requires.led.2 in
    let long : length c.args.links.now.rows ≡ length old + c.args.edit.now.births =
    ap (λ (r : Rows). length r) (sym led.after) ∙ length-after g.row.DIM c.args.edit.now old in
    let older-is = before-made g.K.Kind.kind g.row.DIM c.args.edit.now old c.args.links.now.rows led in (
      lit< tt,
      (
        lit< tt,
        (
          omega (arith, long, led.begun),
          (
            rules-long g.row.DIM c.args.rules.now (c.has_places.ensures.0 (search rules)) stored.ruled,
            (
              c.requires.long,
              (
                λ i some. stored.placed i some,
                λ i d high. unlabelled g.K.Kind.kind g.row.DIM old c.args.labels.now c.args.pool.now c.args.rules.now stored i d (subst (λ (o : ℕ). o < d) older-is high),
              ),
            ),
          ),
        ),
      ),
    )

pub returns-in_err-changed-clause-grafted : goal.returns-in_err-changed-clause-grafted
returns-in_err-changed-clause-grafted g c = λ old led.
    subst (λ (o : ℕ). AreGrafted g.K.Kind.kind c.args.links.now.rows o (λ i. IsSome (rule_at c.args.rules.now i)) c.args.labels.now c.changed_darts.new.labels)
    (before-made g.K.Kind.kind g.row.DIM c.args.edit.now old c.args.links.now.rows led) c.changed_darts.ensures.grafted

pub returns-then-is_empty-clause-grafted : goal.returns-then-is_empty-clause-grafted
returns-then-is_empty-clause-grafted g c = λ old led.
    subst (λ (o : ℕ). AreGrafted g.K.Kind.kind c.args.links.now.rows o (λ i. IsSome (rule_at c.args.rules.now i)) c.args.labels.now c.changed_darts.new.labels)
    (before-made g.K.Kind.kind g.row.DIM c.args.edit.now old c.args.links.now.rows led) c.changed_darts.ensures.grafted

pub returns-then-is_empty-clause-cells : goal.returns-then-is_empty-clause-cells
returns-then-is_empty-clause-cells g c = λ old led stored keeps.
    let lists : List (List ℕ) = c.in_ok-changed.changed in
    subst (λ (gs : List Group). AreAllTouched g.K.Kind.kind c.args.links.now.rows c.args.rules.now c.changed_darts.new.labels gs) (sym c.new-then-is_empty.ensures.items) (
      darts_in lists,
      c.in_ok-changed.ensures.live,
      record { cells = λ n lt. absurd (omega arith); all = λ i t some here. absurd (c.is_empty.ensures c.if-is_empty.true i t here); ascending = λ a b _ lt. absurd (omega arith) },
      λ i some. changed-spare g.K.Kind.kind g.row.DIM c.args.edit.now c.args.links.now.rows c.args.rules.now c.args.kept c.args.labels.now c.changed_darts.new.labels lists c.changed_darts.ensures.grafted c.in_ok-changed.ensures.all
          old c.args.pool.now led stored keeps c.requires.laws i some,
    )

pub returns-then-is_empty-clause-small : goal.returns-then-is_empty-clause-small
returns-then-is_empty-clause-small g c = λ i rule ruled. c.see_values.ensures

pub carry-requires : goal.carry-requires
carry-requires g c =
    let led = c.requires.led.1 in
    let stored = c.requires.led.2 in
    let old = c.requires.led.0 in
    let rows : Rows = c.args.links.now.rows in
    let lists : List (List ℕ) = c.in_ok-changed.changed in (
      lit< tt,
      (
        lit< tt,
        (
          c.requires.ready,
          (
            rules-long g.row.DIM c.args.rules.now (c.has_places.ensures.0 (search rules)) stored.ruled,
            (
              c.in_ok-changed.ensures.live,
              (
                λ i d id live is. grafted-held g.K.Kind.kind (links_of old) (IsLive old) rows (made rows - c.args.edit.now.births) (λ j. IsSome (rule_at c.args.rules.now j)) c.args.labels.now c.changed_darts.new.labels c.args.pool.now
                    stored.stored c.changed_darts.ensures.grafted i d id is,
                λ i ruled. spared-covered g.K.Kind.kind i rows c.changed_darts.new.labels (Contains (darts_in lists i))
                    (changed-spare g.K.Kind.kind g.row.DIM c.args.edit.now rows c.args.rules.now c.args.kept c.args.labels.now c.changed_darts.new.labels lists c.changed_darts.ensures.grafted c.in_ok-changed.ensures.all
                    old c.args.pool.now led stored c.requires.led.3 c.requires.laws i ruled),
              ),
            ),
          ),
        ),
      ),
    )

pub returns-in_err-groups-clause-grafted : goal.returns-in_err-groups-clause-grafted
returns-in_err-groups-clause-grafted g c = λ old led.
    subst (λ (o : ℕ). AreGrafted g.K.Kind.kind c.args.links.now.rows o (λ i. IsSome (rule_at c.args.rules.now i)) c.args.labels.now c.changed_darts.new.labels)
    (before-made g.K.Kind.kind g.row.DIM c.args.edit.now old c.args.links.now.rows led) c.changed_darts.ensures.grafted

pub returns-in_err-make_room-clause-grafted : goal.returns-in_err-make_room-clause-grafted
returns-in_err-make_room-clause-grafted g c = λ old led.
    subst (λ (o : ℕ). AreGrafted g.K.Kind.kind c.args.links.now.rows o (λ i. IsSome (rule_at c.args.rules.now i)) c.args.labels.now c.changed_darts.new.labels)
    (before-made g.K.Kind.kind g.row.DIM c.args.edit.now old c.args.links.now.rows led) c.changed_darts.ensures.grafted

pub returns-clause-grafted : goal.returns-clause-grafted
returns-clause-grafted g c = λ old led.
    subst (λ (o : ℕ). AreGrafted g.K.Kind.kind c.args.links.now.rows o (λ i. IsSome (rule_at c.args.rules.now i)) c.args.labels.now c.changed_darts.new.labels)
    (before-made g.K.Kind.kind g.row.DIM c.args.edit.now old c.args.links.now.rows led) c.changed_darts.ensures.grafted

pub returns-clause-cells : goal.returns-clause-cells
returns-clause-cells g c = λ old led stored keeps.
    let lists : List (List ℕ) = c.in_ok-changed.changed in (
      darts_in lists,
      c.in_ok-changed.ensures.live,
      c.in_ok-groups.ensures.cells,
      λ i some. changed-spare g.K.Kind.kind g.row.DIM c.args.edit.now c.args.links.now.rows c.args.rules.now c.args.kept c.args.labels.now c.changed_darts.new.labels lists c.changed_darts.ensures.grafted c.in_ok-changed.ensures.all
          old c.args.pool.now led stored keeps c.requires.laws i some,
    )

pub returns-then-not-has_places-clause-small : goal.returns-then-not-has_places-clause-small
returns-then-not-has_places-clause-small g c = λ i rule ruled.
    let none : c.args.rules.now ≡ [] = empty-list c.args.rules.now (λ some. let yes-there = c.has_places.ensures.1 some in cc) in
    absurd (let missing : rule_at c.args.rules.now i ≡ None = ap (λ (rs : List (Option Rule)). rule_at rs i) none in cc (missing, ruled))

pub returns-clause-small : goal.returns-clause-small
returns-clause-small g c = λ i rule ruled. c.in_ok-make_room.ensures.small
