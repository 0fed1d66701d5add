-- Links lead from number to number as from dart to dart, in a combinatorial map.
use Rattle.std.proofs.Common.{ℕ, zero, suc, ◌≡◌, ◌≢◌, ◌<◌, List, length, slice_index, inl, inr, refl, sym, ap, subst, ◌∙◌, arith}
use Rattle.map_defs.specs.Kind.{beta}
use Rattle.map_defs.specs.Links.{Links, HasDimension}
use Rattle.map_defs.specs.Laws.{Laws}
use Rattle.map_defs.specs.Rows.{Rows, IsLive, links_of, IsSound}
use Rattle.map_defs.specs.Cells.{InCell, here}
use Rattle.map_defs.specs.MeshMap.{Side, sides_of, start, AreMeshLinks}
use Rattle.map_defs.specs.OffOfMap.{ListsCells}
use Rattle.link_laws.proofs.Basics.{same_or_not}
use Rattle.link_laws.proofs.LawFacts.{back_to}
use Rattle.link_laws.proofs.CellFacts.{by_two_links}
use Rattle.mesh_laws.specs.Sides.{side_of}
use Rattle.off_laws.specs.ReadBack.{AreSidesSewn}
use Rattle.off_laws.specs.SideDarts.{AreSideDarts}
use Rattle.off_laws.proofs.RenumberedPlaces.{same-place, side-ring, next-there, previous-there, dart-some, ends}
use Rattle.off_laws.proofs.RenumberedPairs.{ends-same, dart-ahead}
use Rattle.off_laws.proofs.RenumberedDarts.{IsNumbered, nowhere, starting, ending}
use Rattle.off_laws.proofs.RenumberedSides.{along-at, sewn-at}
use Rattle.off_laws.proofs.RenumberedLinks.{there, own-number, free-led, dead-led, high-led, border-led}

module _ (n : ℕ) (rows : Rows) (sound : IsSound beta n rows) (w : Laws beta (links_of rows)) (vertices : List ℕ) (listed : ListsCells beta rows 0 vertices)
    (faces : List (List ℕ)) (darts : List ℕ) (s : AreSideDarts beta (IsLive rows) (links_of rows) vertices faces darts)
    (flat : HasDimension 2 (links_of rows)) (sewn : AreSidesSewn beta (IsLive rows) (links_of rows)) (M : Links) (m : AreMeshLinks beta (sides_of faces) M) (nil : (t : ℕ) → M t 0 ≡ 0) where
  abbrev L : Links
  L = links_of rows

  abbrev dart : ℕ → ℕ
  dart i = slice_index darts i

  abbrev side : ℕ → Side
  side i = side_of (sides_of faces) i

  abbrev Numbered : ℕ → ℕ → Type 0
  Numbered d e = IsNumbered beta (IsLive rows) L darts d e

  abbrev S : ℕ → ℕ
  S i = start beta i

  within : (i : ℕ) → i < length darts → i < length (sides_of faces)
  within i h = there beta n rows sound w vertices listed faces darts s flat sewn M m nil i h

  number : (i : ℕ) → i < length darts → (side i).number ≡ i
  number i h = own-number beta n rows sound w vertices listed faces darts s flat sewn M m nil i h

  along : (i : ℕ) → i < length darts → (M 1 (S i) ≡ S (side i).next) × (M 0 (S i) ≡ S (side i).previous)
  along i h = subst (λ (j : ℕ). (M 1 (S j) ≡ S (side i).next) × (M 0 (S j) ≡ S (side i).previous)) (number i h) (along-at beta faces M m i (within i h))

  round-back : (i : ℕ) → i < length darts → L 0 (dart i) ≡ dart (side i).previous
  round-back i h =
      let p : ℕ = (side i).previous in
      let hp = previous-there beta n rows sound w vertices listed faces darts s i h in
      let on : L 1 (dart p) ≡ dart i = s.next p hp ∙ ap dart (side-ring beta n rows sound w vertices listed faces darts s i h).back in
      back_to beta L w 1 (dart p) (dart i) (dart-some beta n rows sound w vertices listed faces darts s i h) on

  -- where link 2 of x is y, link 1 of y lies in the 0-cell of x
  meets : (x y : ℕ) → L 2 x ≡ y → L 1 y ≢ 0 → InCell beta L 0 x (L 1 y)
  meets x y e some =
      subst (λ (z : ℕ). InCell beta L 0 x (L 1 z)) e
      (by_two_links beta L 0 2 1 x x (inl (1, 2, omega arith, omega arith, refl)) here (subst (λ (z : ℕ). L 1 z ≢ 0) (sym e) some))

  across : (i : ℕ) → i < length darts → Numbered (L 2 (dart i)) (M 2 (S i))
  across i h = elim (same_or_not (L 2 (dart i)) 0) [
    | inl free ↦
        free-led beta n rows sound w vertices listed faces darts s flat sewn M m nil (L 2 (dart i)) (M 2 (S i)) free
        (subst (λ (j : ℕ). M 2 (S j) ≡ 0) (number i h) (border-led beta n rows sound w vertices listed faces darts s flat sewn M m nil i h free))
    | inr linked ↦ (let other = s.all (L 2 (dart i)) (sound.live 2 (dart i) linked) in joined other.0 other.1 (sym other.2))
  ]
    where
      joined : (j : ℕ) → j < length darts → L 2 (dart i) ≡ dart j → Numbered (L 2 (dart i)) (M 2 (S i))
      joined j hj e =
          let ne : i ≢ j = λ is. w.apart 2 (dart i) refl (dart-some beta n rows sound w vertices listed faces darts s i h) (e ∙ ap dart (sym is)) in
          let back : L 2 (dart j) ≡ dart i = back_to beta L w 2 (dart i) (dart j) (dart-some beta n rows sound w vertices listed faces darts s j hj) e in
          let from : (side i).from ≡ (side j).to =
          same-place beta n rows sound w vertices listed (dart i) (L 1 (dart j)) (side i).from (side j).to (s.starts i h) (ends beta n rows sound w vertices listed faces darts s j hj)
          (meets (dart i) (dart j) e (dart-ahead beta n rows sound w vertices listed faces darts s j hj)) in
          let to : (side j).from ≡ (side i).to =
          same-place beta n rows sound w vertices listed (dart j) (L 1 (dart i)) (side j).from (side i).to (s.starts j hj) (ends beta n rows sound w vertices listed faces darts s i h)
          (meets (dart j) (dart i) back (dart-ahead beta n rows sound w vertices listed faces darts s i h)) in
          let sides = sewn-at beta faces M m i j (within i h) (within j hj) ne (ends-same (side i) (side j) (inr (from, sym to))) in
          starting j hj e (subst (λ (a : ℕ). M 2 (S a) ≡ S j) (number i h) (subst (λ (b : ℕ). M 2 (S (side i).number) ≡ S b) (number j hj) sides.1.0))

  pub led-beta : (t d e : ℕ) → Numbered d e → Numbered (L t d) (M t e)
  led-beta t d e (nowhere dead is) = dead-led beta n rows sound w vertices listed faces darts s flat sewn M m nil t d e dead is
  led-beta t d e (ending i kind h at is) = absurd (cc (kind))
  led-beta zero d e (starting i h at is) = starting (side i).previous (previous-there beta n rows sound w vertices listed faces darts s i h) (ap (L 0) at ∙ round-back i h) (ap (M 0) is ∙ (along i h).1)
  led-beta (suc zero) d e (starting i h at is) = starting (side i).next (next-there beta n rows sound w vertices listed faces darts s i h) (ap (L 1) at ∙ s.next i h) (ap (M 1) is ∙ (along i h).0)
  led-beta (suc (suc zero)) d e (starting i h at is) = subst (λ (x : ℕ). Numbered (L 2 x) (M 2 e)) (sym at) (subst (λ (y : ℕ). Numbered (L 2 (dart i)) (M 2 y)) (sym is) (across i h))
  led-beta (suc (suc (suc t))) d e (starting i h at is) = high-led beta n rows sound w vertices listed faces darts s flat sewn M m nil (suc (suc (suc t))) d e (omega arith)
