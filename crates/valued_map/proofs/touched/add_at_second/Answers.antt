use Rattle.std.specs.Prelude.{IsTrue}
use Rattle.std.proofs.lemmas.Bool.{false≢true}
use Rattle.std.proofs.Common.{ℕ, ◌≡◌, ◌≢◌, ◌≤◌, ◌<◌, lit<, sym, ap, subst, ◌∙◌}
use Rattle.map_defs.specs.Kind.{Kind, inverse}
use Rattle.map_defs.specs.LinkWords.{LinkWord}
use Rattle.map_defs.specs.Rows.{Rows, IsLive, links_of}
use Rattle.map_defs.specs.Cells.{InCell}
use Rattle.map_defs.specs.Edits.{Change}
use Rattle.link_laws.proofs.Basics.{inverse_within}
use Rattle.store_defs.specs.Labelings.{id_of}
use Rattle.valued_map.specs.Changing.{IsThenUnsettled}
use Rattle.valued_map.proofs.Adding.{added-none, added-one}
use Rattle.valued_map.proofs.Rerouting.{comes-from, came-before}
use Rattle.valued_map.proofs.Settling.{settled-then}
use Rattle.valued_map.proofs.touched.add_at_second.Goals as goal

pub link-requires : goal.link-requires
link-requires g c =
    let first-is : c.word.inside.first ≡ c.args.word.first = ap (λ (w : LinkWord). w.first) c.word.view_is in
    let within : c.word.inside.first ≤ g.row.DIM = subst (λ j. j ≤ g.row.DIM) (sym first-is) (((c.requires.words c.args.word).0 c.requires.word).1.0) in
    (lit< tt, subst (λ j. j ≤ g.row.DIM) (sym c.inverse.ensures) (inverse_within g.K.Kind.kind g.row.DIM c.word.inside.first c.requires.low within))

pub led_elsewhere-requires : goal.led_elsewhere-requires
led_elsewhere-requires g c =
    let first-is : c.word.inside.first ≡ c.args.word.first = ap (λ (w : LinkWord). w.first) c.word.view_is in
    (lit< tt, (c.requires.sound, subst (λ j. j ≤ g.row.DIM) (sym first-is) (((c.requires.words c.args.word).0 c.requires.word).1.0)))

pub returns-then-number-older : goal.returns-then-number-older
returns-then-number-older g c =
    let rows : Rows = c.args.links.now.rows in
    added-none rows (IsThenUnsettled g.K.Kind.kind g.row.DIM c.args.edit.now rows c.args.dim c.args.labels.now c.args.word c.args.change) c.args.touched.now.items
    (λ x (old, led, (second, at, was, stood, stands, off)) _.
    came-before g.K.Kind.kind g.row.DIM c.args.edit.now old rows led c.requires.sound c.args.change.dart c.args.word.first c.requires.live x at was c.args.older c.requires.older
    (subst (λ (m : ℕ). c.args.older < m) (c.number.ensures.same ∙ same x at) c.if-number-older.true))
  where
    same : (x : ℕ) → links_of c.args.links.now.rows c.args.word.first x ≡ c.args.change.dart → c.in-Some.dart ≡ x
    same x at =
        c.in-Some.ensures.linked ∙ ap (λ (j : ℕ). links_of c.args.links.now.rows j c.change.inside.dart) (c.inverse.ensures ∙ ap (inverse g.K.Kind.kind) (ap (λ (w : LinkWord). w.first) c.word.view_is))
        ∙ ap (links_of c.args.links.now.rows (inverse g.K.Kind.kind c.args.word.first)) (ap (λ (b : Change). b.dart) c.change.view_is)
        ∙ comes-from g.K.Kind.kind g.row.DIM c.args.links.now.rows c.requires.sound c.args.change.dart c.args.word.first c.requires.live x at

pub returns-then-led_elsewhere : goal.returns-then-led_elsewhere
returns-then-led_elsewhere g c =
    added-none rows (IsThenUnsettled g.K.Kind.kind g.row.DIM c.args.edit.now rows c.args.dim c.args.labels.now c.args.word c.args.change) c.args.touched.now.items
    (λ x (old, led, (second, at, was, stood, stands, off)) _.
    c.led_elsewhere.ensures old led c.if-led_elsewhere.true (ap (λ (j : ℕ). links_of old j c.in-Some.dart) (ap (λ (w : LinkWord). w.first) c.word.view_is) ∙ ap (links_of old c.args.word.first) (same x at) ∙ was ∙ sym (ap (λ (b : Change). b.dart) c.change-2.view_is)))
  where
    rows : Rows
    rows = c.args.links.now.rows

    first-is : c.word.inside.first ≡ c.args.word.first
    first-is = ap (λ (w : LinkWord). w.first) c.word.view_is

    dart-is : c.change.inside.dart ≡ c.args.change.dart
    dart-is = ap (λ (b : Change). b.dart) c.change.view_is

    same : (x : ℕ) → links_of rows c.args.word.first x ≡ c.args.change.dart → c.in-Some.dart ≡ x
    same x at =
        c.in-Some.ensures.linked ∙ ap (λ (j : ℕ). links_of rows j c.change.inside.dart) (c.inverse.ensures ∙ ap (inverse g.K.Kind.kind) first-is)
        ∙ ap (links_of rows (inverse g.K.Kind.kind c.args.word.first)) dart-is
        ∙ comes-from g.K.Kind.kind g.row.DIM rows c.requires.sound c.args.change.dart c.args.word.first c.requires.live x at

pub returns-then-is_settled : goal.returns-then-is_settled
returns-then-is_settled g c =
    added-none rows (IsThenUnsettled k g.row.DIM c.args.edit.now rows i c.args.labels.now c.args.word c.args.change) c.args.touched.now.items
    (λ x (old, led, (second, at, was, stood, stands, off)) _. off (settled-then k i old rows c.args.labels.now c.args.word (((c.requires.words c.args.word).0 c.requires.word).0) x c.change-2.inside.new c.change-2.inside.old
    (subst (λ (y : ℕ). c.change-2.inside.new ≢ 0 → id_of c.args.labels.now i c.change-2.inside.new ≡ id_of c.args.labels.now i y) (same x at) (c.is_settled.ensures.alike yes))
    (subst (λ (y : ℕ). (c.change-2.inside.new ≢ 0 → InCell k (links_of rows) i y c.change-2.inside.new) → c.change-2.inside.old ≢ 0 → InCell k (links_of rows) i y c.change-2.inside.old) (same x at) (c.is_settled.ensures.kept yes))
    c.args.change second at was
    (stands ∙ sym (ap (λ (b : Change). b.new) c.change-2.view_is))
    (stood ∙ sym (ap (λ (b : Change). b.old) c.change-2.view_is))))
  where
    yes : IsTrue c.is_settled.result
    yes = c.if-is_settled.true

    k : Kind
    k = g.K.Kind.kind

    rows : Rows
    rows = c.args.links.now.rows

    i : ℕ
    i = c.args.dim

    same : (x : ℕ) → links_of rows c.args.word.first x ≡ c.args.change.dart → c.in-Some.dart ≡ x
    same x at =
        c.in-Some.ensures.linked ∙ ap (λ (j : ℕ). links_of rows j c.change.inside.dart) (c.inverse.ensures ∙ ap (inverse k) (ap (λ (w : LinkWord). w.first) c.word.view_is))
        ∙ ap (links_of rows (inverse k c.args.word.first)) (ap (λ (b : Change). b.dart) c.change.view_is)
        ∙ comes-from k g.row.DIM rows c.requires.sound c.args.change.dart c.args.word.first c.requires.live x at

pub returns : goal.returns
returns g c =
    added-one rows (IsThenUnsettled k g.row.DIM c.args.edit.now rows c.args.dim c.args.labels.now c.args.word c.args.change) c.args.touched.now.items c.push.new.self.items
    c.in-Some.dart c.in_ok-push.ensures.items alive
    (λ x (old, led, (second, at, was, stood, stands, off)). sym (same x at))
  where
    k : Kind
    k = g.K.Kind.kind

    rows : Rows
    rows = c.args.links.now.rows

    alive : IsLive rows c.in-Some.dart
    alive = subst (IsLive rows) (sym c.in-Some.ensures.linked) (c.requires.sound.live c.inverse.result c.change.inside.dart (λ none. false≢true (sym (c.in-Some.ensures.free.1 none))))

    same : (x : ℕ) → links_of rows c.args.word.first x ≡ c.args.change.dart → c.in-Some.dart ≡ x
    same x at =
        c.in-Some.ensures.linked ∙ ap (λ (j : ℕ). links_of rows j c.change.inside.dart) (c.inverse.ensures ∙ ap (inverse k) (ap (λ (w : LinkWord). w.first) c.word.view_is))
        ∙ ap (links_of rows (inverse k c.args.word.first)) (ap (λ (b : Change). b.dart) c.change.view_is)
        ∙ comes-from k g.row.DIM rows c.requires.sound c.args.change.dart c.args.word.first c.requires.live x at
