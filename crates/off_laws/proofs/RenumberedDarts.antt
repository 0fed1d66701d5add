-- The numbers that the darts of sides get where their faces are loaded: one to one.
use Rattle.std.proofs.Common.{ℕ, ◌≡◌, ◌≢◌, ◌*◌, ◌<◌, ◌≤◌, List, length, slice_index, inl, inr, refl, sym, ap, ◌∙◌, arith}
use Rattle.map_defs.specs.Kind.{Kind, alpha, beta}
use Rattle.map_defs.specs.Links.{Links}
use Rattle.map_defs.specs.Laws.{Laws}
use Rattle.map_defs.specs.Rows.{Rows, IsLive, links_of, IsSound}
use Rattle.map_defs.specs.Polygon.{per_side}
use Rattle.map_defs.specs.MeshMap.{sides_of, start, finish}
use Rattle.map_defs.specs.OffOfMap.{ListsCells}
use Rattle.link_laws.proofs.RowFacts.{live_or_free}
use Rattle.mesh_laws.specs.Sides.{side_of}
use Rattle.mesh_laws.proofs.MeshLinks.{HasSide, at_start, at_finish, has-side}
use Rattle.off_laws.specs.SideDarts.{IsOfSide, AreSideDarts}
use Rattle.off_laws.proofs.RenumberedPlaces.{side-ring}
use Rattle.off_laws.proofs.RenumberedPairs.{of-cases, of-live, side-one}

-- dart d gets the number e: that of the dart where its side starts, or of the one where it ends; what is no dart gets 0
pub data IsNumbered (k : Kind) (Live : ℕ → Type 0) (L : Links) (darts : List ℕ) (d e : ℕ) : Type 0 where
  nowhere : (Live d → ⊥) → e ≡ 0 → IsNumbered k Live L darts d e
  starting : (i : ℕ) → i < length darts → d ≡ slice_index darts i → e ≡ start k i → IsNumbered k Live L darts d e
  ending : (i : ℕ) → k ≡ alpha → i < length darts → d ≡ L 0 (slice_index darts i) → e ≡ finish i → IsNumbered k Live L darts d e

start-one : (k : Kind) (i j : ℕ) → start k i ≡ start k j → i ≡ j
start-one alpha i j e = omega (arith, e)
start-one beta i j e = omega (arith, e)

start-other : (k : Kind) (i j : ℕ) → k ≡ alpha → start k i ≢ finish j
start-other alpha i j is e = omega (arith, e)
start-other beta i j is e = cc (is)

start-some : (k : Kind) (i : ℕ) → start k i ≢ 0
start-some k i e = omega (arith, e)

start-within : (k : Kind) (m i : ℕ) → i < m → start k i ≤ per_side k * m
start-within alpha m i h = omega (arith, h)
start-within beta m i h = omega (arith, h)

finish-within : (k : Kind) (m i : ℕ) → k ≡ alpha → i < m → finish i ≤ per_side k * m
finish-within alpha m i is h = omega (arith, h)
finish-within beta m i is h = absurd (cc (is))

module _ (k : Kind) (n : ℕ) (rows : Rows) (sound : IsSound k n rows) (w : Laws k (links_of rows)) (vertices : List ℕ) (listed : ListsCells k rows 0 vertices)
    (faces : List (List ℕ)) (darts : List ℕ) (s : AreSideDarts k (IsLive rows) (links_of rows) vertices faces darts) where
  abbrev L : Links
  L = links_of rows

  abbrev dart : ℕ → ℕ
  dart i = slice_index darts i

  abbrev Numbered : ℕ → ℕ → Type 0
  Numbered d e = IsNumbered k (IsLive rows) L darts d e

  abbrev count : ℕ
  count = per_side k * length (sides_of faces)

  -- each dart gets a number
  pub number-of : (d : ℕ) → (e : ℕ) × Numbered d e
  number-of d = elim (live_or_free rows d) [
    | inr free ↦ (0, nowhere free.0 refl)
    | inl live ↦ (let side = s.all d live in
        elim (of-cases k L darts side.0 d side.2) [
          | inl e ↦ (start k side.0, starting side.0 side.1 (sym e) refl)
          | inr e ↦ (finish side.0, ending side.0 e.0 side.1 (sym e.1) refl)
        ])
  ]

  first-of : (i d : ℕ) → d ≡ dart i → IsOfSide k L darts i d
  first-of i d e = go k
    where
      go : (kind : Kind) → IsOfSide kind L darts i d
      go alpha = inl (sym e)
      go beta = sym e

  second-of : (i d : ℕ) → k ≡ alpha → d ≡ L 0 (dart i) → IsOfSide k L darts i d
  second-of i d is e = go k is
    where
      go : (kind : Kind) → kind ≡ alpha → IsOfSide kind L darts i d
      go alpha is = inr (sym e)
      go beta is = absurd (cc (is))

  starting-live : (i d : ℕ) → i < length darts → d ≡ dart i → IsLive rows d
  starting-live i d h e = of-live k n rows sound w vertices listed faces darts s i d h (first-of i d e)

  ending-live : (i d : ℕ) → k ≡ alpha → i < length darts → d ≡ L 0 (dart i) → IsLive rows d
  ending-live i d is h e = of-live k n rows sound w vertices listed faces darts s i d h (second-of i d is e)

  one-side : (i j d : ℕ) → i < length darts → j < length darts → IsOfSide k L darts i d → IsOfSide k L darts j d → i ≡ j
  one-side i j d hi hj a b = side-one k n rows sound w vertices listed faces darts s i j d hi hj a b

  -- just one
  pub number-one : (d e f : ℕ) → Numbered d e → Numbered d f → e ≡ f
  number-one d e f (nowhere dead z) (nowhere dead' z') = z ∙ sym z'
  number-one d e f (nowhere dead z) (starting j h at is) = absurd (dead (starting-live j d h at))
  number-one d e f (nowhere dead z) (ending j kind h at is) = absurd (dead (ending-live j d kind h at))
  number-one d e f (starting i h at is) (nowhere dead z) = absurd (dead (starting-live i d h at))
  number-one d e f (starting i h at is) (starting j h' at' is') = is ∙ (ap (start k) (s.apart i j h h' (sym at ∙ at')) ∙ sym is')
  number-one d e f (starting i h at is) (ending j kind h' at' is') = absurd (s.other i j kind h h' (sym at ∙ at'))
  number-one d e f (ending i kind h at is) (nowhere dead z) = absurd (dead (ending-live i d kind h at))
  number-one d e f (ending i kind h at is) (starting j h' at' is') = absurd (s.other j i kind h' h (sym at' ∙ at))
  number-one d e f (ending i kind h at is) (ending j kind' h' at' is') = is ∙ (ap finish (one-side i j d h h' (second-of i d kind at) (second-of j d kind at')) ∙ sym is')

  -- and no two darts that live the same
  pub number-apart : (d c e : ℕ) → IsLive rows d → IsLive rows c → Numbered d e → Numbered c e → d ≡ c
  number-apart d c e ld lc (nowhere dead z) b = absurd (dead ld)
  number-apart d c e ld lc a (nowhere dead z) = absurd (dead lc)
  number-apart d c e ld lc (starting i h at is) (starting j h' at' is') = at ∙ (ap dart (start-one k i j (sym is ∙ is')) ∙ sym at')
  number-apart d c e ld lc (starting i h at is) (ending j kind h' at' is') = absurd (start-other k i j kind (sym is ∙ is'))
  number-apart d c e ld lc (ending i kind h at is) (starting j h' at' is') = absurd (start-other k j i kind (sym is' ∙ is))
  number-apart d c e ld lc (ending i kind h at is) (ending j kind' h' at' is') = (let same : i ≡ j = omega (arith, is, is') in at ∙ (ap (λ (m : ℕ). L 0 (dart m)) same ∙ sym at'))

  -- a dart that lives gets the number of a dart
  pub number-low : (d e : ℕ) → IsLive rows d → Numbered d e → 1 ≤ e
  number-low d e live (nowhere dead z) = absurd (dead live)
  number-low d e live (starting i h at is) = omega (arith, is)
  number-low d e live (ending i kind h at is) = omega (arith, is)

  pub number-high : (d e : ℕ) → Numbered d e → e ≤ count
  number-high d e (nowhere dead z) = omega (arith, z)
  number-high d e (starting i h at is) = (let within = start-within k (length (sides_of faces)) i (omega (arith, h, s.counted)) in omega (arith, is, within))
  number-high d e (ending i kind h at is) = (let within = finish-within k (length (sides_of faces)) i kind (omega (arith, h, s.counted)) in omega (arith, is, within))

  -- each number of a dart is that of a dart that lives
  pub numbered-dart : (e : ℕ) → 1 ≤ e → e ≤ count → (d : ℕ) × IsLive rows d × Numbered d e
  numbered-dart e low high = go (has-side k faces e low high).0 (has-side k faces e low high).1
    where
      number : (i : ℕ) → i < length (sides_of faces) → (side_of (sides_of faces) i).number ≡ i
      number i h = (side-ring k n rows sound w vertices listed faces darts s i (omega (arith, h, s.counted))).number

      go : (i : ℕ) → HasSide k faces e i → (d : ℕ) × IsLive rows d × Numbered d e
      go i (at_start h is) =
          let lt : i < length darts = omega (arith, h, s.counted) in
          (dart i, starting-live i (dart i) lt refl, starting i lt refl (is ∙ ap (start k) (number i h)))
      go i (at_finish kind h is) =
          let lt : i < length darts = omega (arith, h, s.counted) in
          (L 0 (dart i), ending-live i (L 0 (dart i)) kind lt refl, ending i kind lt refl (is ∙ ap finish (number i h)))
