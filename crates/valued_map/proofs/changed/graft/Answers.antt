use Rattle.std.proofs.Common.{ℕ, ◌≡◌, ◌<◌, ◌+◌, List, Contains, drop, take_all, inl, inr, lit<, refl, sym, ap, subst, ◌∙◌, ⊎_elim, arith}
use Rattle.std.proofs.lemmas.List.{take_rest}
use Rattle.std.specs.Prelude.{OnOk}
use Rattle.map_defs.specs.Kind.{Kind}
use Rattle.map_defs.specs.LinkWords.{LinkWord, through}
use Rattle.map_defs.specs.Rows.{Rows, links_of}
use Rattle.map_defs.specs.Cells.{here, onward}
use Rattle.store_defs.specs.Labelings.{Labeling, id_of}
use Rattle.label_laws.specs.Touching.{AreGrafted}
use Rattle.valued_map.specs.Changing.{AreAdded, LeadsApart, IsApartFrom, IsLowerAlong, IsApartAlong}
use Rattle.valued_map.proofs.Adding.{added-none, added-told, on-ok}
use Rattle.valued_map.proofs.Heads.{among-more, among-parts, among-behind}
use Rattle.valued_map.proofs.Joining.{leading-within, grafts-none}
use Rattle.valued_map.proofs.changed.graft.Goals as goal

pub row-requires : goal.row-requires
row-requires g c = (lit< tt, omega (arith, c.see_sound.ensures.high))

pub lesser_along-requires : goal.lesser_along-requires
lesser_along-requires g c =
    (lit< tt, (omega (arith, c.see_sound.ensures.high), (rw c.in-Some-row.is at c.row.ensures, ((c.requires.words c.index-words-index.result).0 (c.loop-index.index, c.loop-index-test.true, sym c.index-words-index.is)).1)))

pub join-requires : goal.join-requires
join-requires g c =
    let L = links_of c.args.links.now.rows in
    let word : LinkWord = c.index-words-index.result in
    let is = (c.requires.words word).0 (c.loop-index.index, c.loop-index-test.true, sym c.index-words-index.is) in
    let (leads, (there, low)) = c.in-Some-lesser_along.ensures.some in
    rw c.loop-index.invariant.0 (
      lit< tt,
      (
        lit< tt,
        (
          omega (arith, c.see_sound.ensures.high),
          (
            c.requires.sound,
            (
              c.requires.dim,
              (
                omega (arith, c.requires.number, c.in-Some.ensures.same),
                (
                  c.requires.placed,
                  (
                    c.requires.bare c.in-Some.dart (omega (arith, c.in-Some.ensures.same)),
                    (
                      rw c.in-Some-row.is at c.row.ensures,
                      (
                        λ w behind. (c.requires.words w).0 (among-behind c.args.words.now (c.loop-index.index + 1) w (subst (λ (ws : List LinkWord). Contains ws w) (take_rest c.args.words.now (c.loop-index.index + 1)) behind)),
                        (subst (λ (y : ℕ). y < c.in-Some.dart) (sym leads) low, onward here (word, is.0, sym leads, λ none. there (sym leads ∙ none))),
                      ),
                    ),
                  ),
                ),
              ),
            ),
          ),
        ),
      ),
    )

pub returns-in-Some-lesser_along-clause-grafted : goal.returns-in-Some-lesser_along-clause-grafted
returns-in-Some-lesser_along-clause-grafted g c = λ older high.
    subst (λ (l : Labeling). AreGrafted g.K.Kind.kind c.args.links.now.rows older (λ i. i ≡ c.args.dim) l c.join.new.labels) c.loop-index.invariant.0
    (c.join.ensures.grafted older (omega (arith, high, c.in-Some.ensures.same)))

pub returns-in-Some-lesser_along-clause-others : goal.returns-in-Some-lesser_along-clause-others
returns-in-Some-lesser_along-clause-others g c = λ j d far.
    c.join.ensures.others j d (λ same. far (same ∙ c.in-Some.ensures.same)) ∙ ap (λ (l : Labeling). id_of l j d) c.loop-index.invariant.0

pub returns-in-Some-lesser_along-clause-added : goal.returns-in-Some-lesser_along-clause-added
returns-in-Some-lesser_along-clause-added g c =
    subst (λ (xs : List ℕ). OnOk c.join.result (AreAdded rows (λ x. (x ≡ c.args.number) × LeadsApart k dim rows now x) xs c.join.new.touched.items)) c.loop-index.invariant.1
    (on-ok c.join.result (added-told rows Found (λ x. (x ≡ c.args.number) × LeadsApart k dim rows now x) c.loop-index.touched.items c.join.new.touched.items (λ x w _. told x w)) joined)
  where
    k : Kind
    k = g.K.Kind.kind

    rows : Rows
    rows = c.args.links.now.rows

    dim : ℕ
    dim = c.args.dim

    now : Labeling
    now = c.join.new.labels

    dart : ℕ
    dart = c.in-Some.dart

    ws : List LinkWord
    ws = c.args.words.now

    behind : List LinkWord
    behind = drop (c.loop-index.index + 1) ws

    Found : ℕ → Type 0
    Found x = (x ≡ dart) × IsApartFrom rows now dim (Contains behind) c.in-Some-lesser_along.lesser dart

    joined : OnOk c.join.result (AreAdded rows Found c.loop-index.touched.items c.join.new.touched.items)
    joined = subst (λ (vs : List LinkWord). OnOk c.join.result (AreAdded rows (λ x. (x ≡ dart) × IsApartFrom rows now dim (Contains vs) c.in-Some-lesser_along.lesser dart) c.loop-index.touched.items c.join.new.touched.items))
        (take_rest ws (c.loop-index.index + 1)) c.join.ensures.added

    told : (x : ℕ) → (x ≡ c.args.number) × LeadsApart k dim rows now x → Found x
    told x (same, (w, word, apart)) =
        let at : x ≡ dart = same ∙ sym c.in-Some.ensures.same in
        let led : IsApartAlong rows now dim w dart = subst (IsApartAlong rows now dim w) at apart in (
          at,
          elim (among-parts ws c.loop-index.index c.index-words-index.result w c.loop-index-test.true c.index-words-index.is
              ((c.requires.words w).1 (word, leading-within k g.row.DIM rows c.requires.sound w dart led.0))) [
                | inl before ↦ absurd (c.loop-index.invariant.2 w before (led.0, led.1))
                | inr later ↦ elim later [
                  | inl here-it ↦ inl (λ alike. led.2 (ap (id_of now dim) (ap (λ (v : LinkWord). through (links_of rows) v dart) (sym here-it) ∙ sym c.in-Some-lesser_along.ensures.some.0) ∙ alike))
                  | inr on ↦ inr (w, on, led)
                ]
              ],
        )

pub loop-index-preserved : goal.loop-index-preserved
loop-index-preserved g c = (
  c.loop-index.invariant.0,
  c.loop-index.invariant.1,
  λ w before low.
      ⊎_elim (λ earlier. c.loop-index.invariant.2 w earlier low)
      (λ same. c.in_default-lesser_along.ensures.none refl (subst (λ (v : LinkWord). IsLowerAlong c.args.links.now.rows v c.in-Some.dart) (sym same) low))
      (among-more c.args.words.now c.loop-index.index c.index-words-index.result w c.loop-index-test.true c.index-words-index.is before),
)

pub returns-clause-grafted : goal.returns-clause-grafted
returns-clause-grafted g c = λ older high.
    rw c.loop-index.invariant.0 (grafts-none g.K.Kind.kind c.args.links.now.rows older (λ i. i ≡ c.args.dim) c.args.labels.now)

pub returns-clause-others : goal.returns-clause-others
returns-clause-others g c = λ j d far. ap (λ (l : Labeling). id_of l j d) c.loop-index.invariant.0

pub returns-clause-added : goal.returns-clause-added
returns-clause-added g c =
    let k = g.K.Kind.kind in
    let rows : Rows = c.args.links.now.rows in
    let ws : List LinkWord = c.args.words.now in
    rw c.loop-index.invariant.1
    (added-none rows (λ x. (x ≡ c.args.number) × LeadsApart k c.args.dim rows c.loop-index.labels x) c.args.touched.now.items
    (λ x (same, (w, word, (there, low, apart))) _.
    let at : x ≡ c.in-Some.dart = same ∙ sym c.in-Some.ensures.same in
    c.loop-index.invariant.2 w
    (subst (λ (vs : List LinkWord). Contains vs w) (sym (take_all c.loop-index.index ws c.loop-index-test.false)) ((c.requires.words w).1 (word, leading-within k g.row.DIM rows c.requires.sound w x there)))
    (subst (IsLowerAlong rows w) at (there, low))))
