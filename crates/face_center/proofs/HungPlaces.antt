-- The places where the entries of hung edges stand: those of two darts have none in common.
use Rattle.std.proofs.Common.{ℕ, ◌≡◌, ◌≢◌, ◌<◌, ◌≤◌, length, take, get_or, Contains, sym, ap, ◌∙◌, inl, inr, arith}
use Rattle.map_defs.specs.Kind.{Kind, alpha, beta}
use Rattle.map_defs.specs.Links.{Links}
use Rattle.map_defs.specs.Rows.{Rows, links_of, made, IsSound}
use Rattle.std.proofs.lemmas.List.Elements.{Contains-get_or}
use Rattle.sewing.proofs.PairWalks.{Contains-take}
use Rattle.cell_edit.specs.Stars.{Stars, star_of}
use Rattle.cell_edit.proofs.Beyond.{keys-apart, live-made}
use Rattle.cell_edit.proofs.Premises.{live-dart}
use Rattle.face_center.specs.declared.hanging.Hanging.{Hanging}
use Rattle.face_center.specs.declared.hanging.Hanging.TheVariants.{Corner, Face}
use Rattle.face_center.specs.Hanging.{tip_of, before, IsOldEntry, IsNewEntry, IsHungEntry, CanHang}
use Rattle.face_center.proofs.HungFacts.{key-made, tip-fresh, star-tip, star-above, tip-above}

-- entries stand at link 1 of the dart b before x, at link 0 of x, at the begin s and at the end e of the new edge
pub data IsPlace (b x s e : ℕ) (d t : ℕ) : Type 0 where
  first : d ≡ b → t ≡ 1 → IsPlace b x s e d t
  back : d ≡ x → t ≡ 0 → IsPlace b x s e d t
  begin : d ≡ s → IsPlace b x s e d t
  end : d ≡ e → IsPlace b x s e d t

pub place-of : (k : Kind) (h : Hanging) (L : Links) (star tip : ℕ → ℕ) (m x d t y : ℕ) → IsHungEntry k h L star tip m x d t y → IsPlace (before k h L x) x (star x) (tip x) d t
place-of k h L star tip m x d t y (inl (inl e)) = first e.0 e.1
place-of k h L star tip m x d t y (inl (inr e)) = back e.1.0 e.1.1
place-of k h L star tip m x d t y (inr (low, inl e)) = begin e.0
place-of k h L star tip m x d t y (inr (low, inr e)) = end e.0

-- what two darts ask whose places are apart
pub record AreApart (made b x s e c u r f : ℕ) : Type 0 where
  pub darts : x ≢ u
  pub firsts : b ≢ c
  pub begins : s ≢ r
  pub ends : e ≢ f
  pub begin_end : s ≢ f
  pub end_begin : e ≢ r
  -- the old darts are made, and the new ones are not
  pub old : (b ≤ made) × (x ≤ made) × (c ≤ made) × (u ≤ made)
  pub new : (made < s) × (made < e) × (made < r) × (made < f)

pub places-apart : (made b x s e c u r f d t : ℕ) → AreApart made b x s e c u r f → IsPlace b x s e d t → IsPlace c u r f d t → ⊥
places-apart made b x s e c u r f d t a (first p q) (first g m) = a.firsts (sym p ∙ g)
places-apart made b x s e c u r f d t a (first p q) (back g m) = omega arith
places-apart made b x s e c u r f d t a (first p q) (begin g) = omega (arith, a.old.0, a.new.2)
places-apart made b x s e c u r f d t a (first p q) (end g) = omega (arith, a.old.0, a.new.3)
places-apart made b x s e c u r f d t a (back p q) (first g m) = omega arith
places-apart made b x s e c u r f d t a (back p q) (back g m) = a.darts (sym p ∙ g)
places-apart made b x s e c u r f d t a (back p q) (begin g) = omega (arith, a.old.1, a.new.2)
places-apart made b x s e c u r f d t a (back p q) (end g) = omega (arith, a.old.1, a.new.3)
places-apart made b x s e c u r f d t a (begin p) (first g m) = omega (arith, a.old.2, a.new.0)
places-apart made b x s e c u r f d t a (begin p) (back g m) = omega (arith, a.old.3, a.new.0)
places-apart made b x s e c u r f d t a (begin p) (begin g) = a.begins (sym p ∙ g)
places-apart made b x s e c u r f d t a (begin p) (end g) = a.begin_end (sym p ∙ g)
places-apart made b x s e c u r f d t a (end p) (first g m) = omega (arith, a.old.2, a.new.1)
places-apart made b x s e c u r f d t a (end p) (back g m) = omega (arith, a.old.3, a.new.1)
places-apart made b x s e c u r f d t a (end p) (begin g) = a.end_begin (sym p ∙ g)
places-apart made b x s e c u r f d t a (end p) (end g) = a.ends (sym p ∙ g)

-- two darts with one dart before them are one
pub before-one : (k : Kind) (h : Hanging) (n : ℕ) (rows : Rows) → IsSound k n rows → (x u : ℕ) → before k h (links_of rows) x ≢ 0 → before k h (links_of rows) x ≡ before k h (links_of rows) u → x ≡ u
before-one alpha h n rows sound x u some e = e
before-one beta Corner n rows sound x u some e = sym (sound.back 0 x some) ∙ ap (links_of rows 1) e ∙ sound.back 0 u (λ none. some (e ∙ none))
before-one beta Face n rows sound x u some e = e

module _ (k : Kind) (rows : Rows) (h : Hanging) (stars : Stars) (can : CanHang k rows h stars) where
  abbrev L : Links
  L = links_of rows

  abbrev K : ℕ → Type 0
  K = Contains stars.keys

  pub before-made : (x : ℕ) → K x → before k h L x ≤ stars.made
  before-made x has = let low : before k h L x ≤ made rows = live-made rows (before k h L x) (can.begins x has) in omega (arith, can.made)

  -- the entries of old darts and of new ones
  pub old-new : (m x d t y z : ℕ) → K x → IsOldEntry k h L (star_of stars) (tip_of stars) x d t y → IsNewEntry k h L (star_of stars) (tip_of stars) m x d t z → ⊥
  old-new m x d t y z has (inl e) (low, inl f) = omega (arith, e.0, f.0, before-made x has, star-above k rows h stars can x has)
  old-new m x d t y z has (inl e) (low, inr f) = omega (arith, e.0, f.0, before-made x has, tip-above k rows h stars can x has)
  old-new m x d t y z has (inr e) (low, inl f) = omega (arith, e.1.0, f.0, key-made k rows h stars can x has, star-above k rows h stars can x has)
  old-new m x d t y z has (inr e) (low, inr f) = omega (arith, e.1.0, f.0, key-made k rows h stars can x has, tip-above k rows h stars can x has)

  -- the entries of two darts
  pub keys-hung-apart : (n : ℕ) → IsSound k n rows → (m p x u : ℕ) → p < length stars.keys → x ≡ get_or stars.keys p x → Contains (take p stars.keys) u → (d t y z : ℕ)
      → IsHungEntry k h L (star_of stars) (tip_of stars) m u d t y → IsHungEntry k h L (star_of stars) (tip_of stars) m x d t z → ⊥
  keys-hung-apart n sound m p x u low at has d t y z e f =
      let apart = keys-apart stars p x u can.pair.rising (λ q v g. key-made k rows h stars can (get_or stars.keys q v) (Contains-get_or stars.keys q v g)) low at has in
      let left : K u = Contains-take p stars.keys u has in
      let right : K x = (p, low, sym at) in
      places-apart stars.made (before k h L u) u (star_of stars u) (tip_of stars u) (before k h L x) x (star_of stars x) (tip_of stars x) d t
      (record {
        darts = apart.0;
        firsts = λ same. apart.0 (before-one k h n rows sound u x (live-dart k n rows sound (before k h L u) (can.begins u left)) same);
        begins = apart.1;
        ends = λ same. apart.0 ((tip-fresh k rows h stars can).one u x left right same);
        begin_end = star-tip k rows h stars can u x left right;
        end_begin = λ same. star-tip k rows h stars can x u right left (sym same);
        old = (before-made u left, key-made k rows h stars can u left, before-made x right, key-made k rows h stars can x right);
        new = (star-above k rows h stars can u left, tip-above k rows h stars can u left, star-above k rows h stars can x right, tip-above k rows h stars can x right);
      })
      (place-of k h L (star_of stars) (tip_of stars) m u d t y e) (place-of k h L (star_of stars) (tip_of stars) m x d t z f)
