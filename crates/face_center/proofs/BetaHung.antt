-- The links after an edit that hangs edges in a combinatorial map, with link 0 leading back along link 1.
use Rattle.std.proofs.Common.{ℕ, ◌≡◌, ◌≢◌, ◌+◌, ◌≤◌, List, length, Contains, refl, sym, subst, ap, ◌∙◌, arith}
use Rattle.map_defs.specs.Kind.{beta}
use Rattle.map_defs.specs.Links.{Links, IsTurned}
use Rattle.map_defs.specs.Laws.{Laws}
use Rattle.map_defs.specs.Rows.{Rows, links_of, IsSound}
use Rattle.map_defs.specs.Edits.{Change, after_edit}
use Rattle.link_laws.proofs.Basics.{by_cases}
use Rattle.insert_laws.proofs.Fresh.{IsNew, fresh_link, fresh_none}
use Rattle.cell_edit.specs.Stars.{Stars, star_of}
use Rattle.cell_edit.specs.Writing.{WritesEntries}
use Rattle.face_center.specs.declared.hanging.Hanging.{Hanging}
use Rattle.face_center.specs.Hanging.{tip_of, before, CanHang}
use Rattle.cell_edit.proofs.EntryEdit.{growing}
use Rattle.face_center.proofs.HungFacts.{star-fresh, tip-fresh}
use Rattle.face_center.proofs.HungLinks.{Entry, star-links, tip-links, first-links, back-links, kept-links}

-- the ways around the face lead from key to key: to each key leads one from the dart before a key, and link 1 of the dart
-- before a key leads to a key
pub record IsRound (L : Links) (h : Hanging) (K : ℕ → Type 0) : Type 0 where
  pub led : (y : ℕ) → K y → L 0 y ≢ 0 → (u : ℕ) × K u × (L 0 y ≡ before beta h L u)
  pub leads : (u : ℕ) → K u → L 1 (before beta h L u) ≢ 0 → K (L 1 (before beta h L u))

module _ (n : ℕ) (rows : Rows) (sound : IsSound beta n rows) (dim : 2 ≤ n) (w : Laws beta (links_of rows)) (h : Hanging) (stars : Stars) (can : CanHang beta rows h stars)
    (round : IsRound (links_of rows) h (Contains stars.keys)) (cs : List Change) (writes : WritesEntries (links_of rows) (Entry beta n rows sound dim h stars can) cs) where
  abbrev L : Links
  L = links_of rows

  abbrev K : ℕ → Type 0
  K = Contains stars.keys

  abbrev star : ℕ → ℕ
  star = star_of stars

  abbrev tip : ℕ → ℕ
  tip = tip_of stars

  abbrev N : Links
  N = links_of (after_edit n (growing (length stars.keys + length stars.keys) cs) rows)

  -- z is before a key
  abbrev IsBefore : ℕ → Type 0
  IsBefore z = (u : ℕ) × K u × (z ≡ before beta h L u)

  first : (x : ℕ) → K x → N 1 (before beta h L x) ≡ star x
  first = first-links beta n rows sound dim h stars can cs writes

  last : (x : ℕ) → K x → N 0 x ≡ tip x
  last x has = back-links beta n rows sound dim h stars can cs writes x refl has

  star_zero : (x : ℕ) → K x → N 0 (star x) ≡ before beta h L x
  star_zero x has = star-links beta n rows sound dim h stars can cs writes x 0 has

  star_one : (x : ℕ) → K x → N 1 (star x) ≡ tip x
  star_one x has = star-links beta n rows sound dim h stars can cs writes x 1 has

  tip_zero : (x : ℕ) → K x → N 0 (tip x) ≡ star x
  tip_zero x has = tip-links beta n rows sound dim h stars can cs writes x 0 has

  tip_one : (x : ℕ) → K x → N 1 (tip x) ≡ x
  tip_one x has = tip-links beta n rows sound dim h stars can cs writes x 1 has

  -- the other darts keep links 1 and 0
  kept_one : (z : ℕ) → (IsNew K star z → ⊥) → (IsNew K tip z → ⊥) → (IsBefore z → ⊥) → N 1 z ≡ L 1 z
  kept_one z new end none = kept-links beta n rows sound dim h stars can cs writes z 1
      (λ u g is same. none (u, g, same)) (λ b is g. absurd (omega arith)) (λ u g same. new (u, g, same)) (λ u g same. end (u, g, same))

  kept_zero : (z : ℕ) → (IsNew K star z → ⊥) → (IsNew K tip z → ⊥) → (K z → ⊥) → N 0 z ≡ L 0 z
  kept_zero z new end none = kept-links beta n rows sound dim h stars can cs writes z 0
      (λ u g is same. absurd (omega arith)) (λ b is g. none g) (λ u g same. new (u, g, same)) (λ u g same. end (u, g, same))

  star_old : (t z : ℕ) → IsNew K star (L t z) → ⊥
  star_old = fresh_link beta L w K star (star-fresh beta rows h stars can)

  tip_old : (t z : ℕ) → IsNew K tip (L t z) → ⊥
  tip_old = fresh_link beta L w K tip (tip-fresh beta rows h stars can)

  forth : (z y : ℕ) → y ≢ 0 → N 1 z ≡ y → N 0 y ≡ z
  forth z y dart e =
      by_cases (IsNew K star z) (N 0 y) z
      (λ (u, g, q). ap (N 0) (sym e ∙ ap (N 1) q ∙ star_one u g) ∙ tip_zero u g ∙ sym q)
      (λ no_star. by_cases (IsNew K tip z) (N 0 y) z
      (λ (u, g, q). ap (N 0) (sym e ∙ ap (N 1) q ∙ tip_one u g) ∙ last u g ∙ sym q)
      (λ no_tip. by_cases (IsBefore z) (N 0 y) z
      (λ (u, g, q). ap (N 0) (sym e ∙ ap (N 1) q ∙ first u g) ∙ star_zero u g ∙ sym q)
      (λ none.
      let on : L 1 z ≡ y = sym (kept_one z no_star no_tip none) ∙ e in
      let back : L 0 y ≡ z = ap (L 0) (sym on) ∙ w.back 1 z (λ o. dart (sym on ∙ o)) in
      kept_zero y (λ (u, g, q). star_old 1 z (u, g, on ∙ q)) (λ (u, g, q). tip_old 1 z (u, g, on ∙ q))
      (λ g. let u = round.led y g (λ o. begin_none z y dart on (sym back ∙ o)) in none (u.0, u.1, sym back ∙ u.2)) ∙ back)))
    where
      begin_none : (z y : ℕ) → y ≢ 0 → L 1 z ≡ y → z ≢ 0
      begin_none z y some on o = some (sym on ∙ ap (L 1) o ∙ w.nil 1)

  back : (z y : ℕ) → z ≢ 0 → y ≢ 0 → N 0 y ≡ z → N 1 z ≡ y
  back z y some dart e =
      by_cases (IsNew K star y) (N 1 z) y
      (λ (u, g, q). ap (N 1) (sym e ∙ ap (N 0) q ∙ star_zero u g) ∙ first u g ∙ sym q)
      (λ no_star. by_cases (IsNew K tip y) (N 1 z) y
      (λ (u, g, q). ap (N 1) (sym e ∙ ap (N 0) q ∙ tip_zero u g) ∙ star_one u g ∙ sym q)
      (λ no_tip. by_cases (K y) (N 1 z) y
      (λ g. ap (N 1) (sym e ∙ last y g) ∙ tip_one y g)
      (λ none.
      let from : L 0 y ≡ z = sym (kept_zero y no_star no_tip none) ∙ e in
      let on : L 1 z ≡ y = ap (L 1) (sym from) ∙ w.back 0 y (λ o. some (sym from ∙ o)) in
      kept_one z (λ (u, g, q). star_old 0 y (u, g, from ∙ q)) (λ (u, g, q). tip_old 0 y (u, g, from ∙ q))
      (λ (u, g, q). let there : L 1 (before beta h L u) ≡ y = ap (L 1) (sym q) ∙ on in
      none (subst K there (round.leads u g (λ o. dart (sym there ∙ o))))) ∙ on)))

  pub hung-turned : IsTurned N
  hung-turned = record {
    nothing =
        kept_zero 0 (fresh_none beta L w K star (star-fresh beta rows h stars can)) (fresh_none beta L w K tip (tip-fresh beta rows h stars can))
        (λ g. can.pair.darts 0 g refl) ∙ w.nil 0;
    back = λ x y dart some. (λ e. forth x y some e, λ e. back x y dart some e);
  }
