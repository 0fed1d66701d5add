use Rattle.std.proofs.Common.{ℕ, ◌≡◌, ◌≢◌, ◌≤◌, Option, lit<, sym, ap, subst, ◌∙◌}
use Rattle.std.specs.Prelude.{IfSome, IsTrue}
use Rattle.map_defs.specs.Kind.{Kind}
use Rattle.map_defs.specs.LinkWords.{LinkWord, through_second}
use Rattle.map_defs.specs.Rows.{Rows, IsLive, links_of}
use Rattle.map_defs.specs.Cells.{InCell}
use Rattle.map_defs.specs.Edits.{Change}
use Rattle.store_defs.specs.Labelings.{id_of}
use Rattle.valued_map.specs.Changing.{IsFirstUnsettled}
use Rattle.valued_map.proofs.Adding.{added-none, added-one}
use Rattle.valued_map.proofs.Settling.{settled-first}
use Rattle.valued_map.proofs.touched.add_at_first.Goals as goal

pub led_to-requires : goal.led_to-requires
led_to-requires g c =
    let second-is : c.word.inside.second ≡ c.args.word.second = ap (λ (w : LinkWord). w.second) c.word.view_is in
    (lit< tt, (c.requires.sound, subst (λ (s : Option ℕ). IfSome s (λ link. link ≤ g.row.DIM)) (sym second-is) (((c.requires.words c.args.word).0 c.requires.word).1.1)))

pub leads_to-now-requires : goal.leads_to-now-requires
leads_to-now-requires g c =
    let second-is : c.word.inside.second ≡ c.args.word.second = ap (λ (w : LinkWord). w.second) c.word.view_is in
    (lit< tt, (c.requires.sound, subst (λ (s : Option ℕ). IfSome s (λ link. link ≤ g.row.DIM)) (sym second-is) (((c.requires.words c.args.word).0 c.requires.word).1.1)))

pub returns-then-is_settled : goal.returns-then-is_settled
returns-then-is_settled g c =
    added-none rows (IsFirstUnsettled k g.row.DIM c.args.edit.now rows i c.args.labels.now word change) c.args.touched.now.items
    (λ x (old, led, (link, at, stood, stands, apart, off)) _.
    let same : c.change-2.inside.dart ≡ x = ap (λ (b : Change). b.dart) c.change-2.view_is ∙ sym at in
    off (settled-first k i old rows c.args.labels.now word (((c.requires.words word).0 c.requires.word).0) x c.leads_to-now.result c.in-Some.before
    (subst (λ (y : ℕ). c.leads_to-now.result ≢ 0 → id_of c.args.labels.now i c.leads_to-now.result ≡ id_of c.args.labels.now i y) same (c.is_settled.ensures.alike yes))
    (subst (λ (y : ℕ). (c.leads_to-now.result ≢ 0 → InCell k (links_of rows) i y c.leads_to-now.result) → c.in-Some.before ≢ 0 → InCell k (links_of rows) i y c.in-Some.before) same (c.is_settled.ensures.kept yes))
    change stands
    (c.leads_to-now.ensures ∙ along-new (links_of rows))
    stood
    (c.in-Some.ensures old led ∙ along-old (links_of old))))
  where
    yes : IsTrue c.is_settled.result
    yes = c.if-is_settled.true

    k : Kind
    k = g.K.Kind.kind

    rows : Rows
    rows = c.args.links.now.rows

    i : ℕ
    i = c.args.dim

    word : LinkWord
    word = c.args.word

    change : Change
    change = c.args.change

    along-old : (L : ℕ → ℕ → ℕ) → through_second L c.word.inside.second c.change.inside.old ≡ through_second L word.second change.old
    along-old L = ap (λ (w : LinkWord). through_second L w.second c.change.inside.old) c.word.view_is ∙ ap (λ (b : Change). through_second L word.second b.old) c.change.view_is

    along-new : (L : ℕ → ℕ → ℕ) → through_second L c.word.inside.second c.change.inside.new ≡ through_second L word.second change.new
    along-new L = ap (λ (w : LinkWord). through_second L w.second c.change.inside.new) c.word.view_is ∙ ap (λ (b : Change). through_second L word.second b.new) c.change.view_is

pub returns : goal.returns
returns g c =
    let same : c.change-2.inside.dart ≡ c.args.change.dart = ap (λ (b : Change). b.dart) c.change-2.view_is in
    added-one c.args.links.now.rows (IsFirstUnsettled g.K.Kind.kind g.row.DIM c.args.edit.now c.args.links.now.rows c.args.dim c.args.labels.now c.args.word c.args.change)
    c.args.touched.now.items c.push.new.self.items c.change-2.inside.dart c.in_ok-push.ensures.items (subst (IsLive c.args.links.now.rows) (sym same) c.requires.live)
    (λ x (old, led, (link, at, was, is, apart, off)). at ∙ sym same)
