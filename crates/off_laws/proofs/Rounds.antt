-- The darts on the ways round the 2-cells of a map stand for the sides of the faces of its OFF text.
use Rattle.std.proofs.Common.{◌≡◌, ◌≢◌, ◌⊎◌, inl, inr, ℕ, ◌<◌, ◌≤◌, List, length, slice_index, is_some, Option, Contains, sym, ap, ◌∙◌, arith}
use Rattle.std.proofs.lemmas.Bool.{false≢true}
use Rattle.map_defs.specs.Kind.{Kind, alpha, beta}
use Rattle.map_defs.specs.Links.{Links, HasDimension}
use Rattle.map_defs.specs.Laws.{Laws}
use Rattle.map_defs.specs.Rows.{Rows, row_at, IsLive, IsSound, links_of}
use Rattle.map_defs.specs.Cells.{InCell, here}
use Rattle.map_defs.specs.Values.{Value}
use Rattle.map_defs.specs.MeshMap.{sides_of}
use Rattle.map_defs.specs.OffOfMap.{OffRows, AreOffRows}
use Rattle.mesh_laws.specs.Sides.{side_of}
use Rattle.link_laws.proofs.Pigeonhole.{meets_or_not}
use Rattle.link_laws.proofs.CellFacts.{cell_back}
use Rattle.link_laws.proofs.RowFacts.{rows_lead_to_live}
use Rattle.value_laws.proofs.MapValues.{cell_trans}
use Rattle.value_laws.proofs.Rising.{has_least, rising_rises}
use Rattle.value_laws.proofs.Touching.{cell_live}
use Rattle.off_laws.specs.SideDarts.{IsOfSide, AreSideDarts}
use Rattle.off_laws.proofs.RoundsJoined.{AreWays, ways}

-- a dart is one of some side of these, or of none
side-or-none : (k : Kind) (L : Links) (darts : List ℕ) (d : ℕ)
    → ((s : ℕ) × (s < length darts) × IsOfSide k L darts s d) ⊎ (((s : ℕ) × (s < length darts) × IsOfSide k L darts s d) → ⊥)
side-or-none beta L darts d = go (meets_or_not (slice_index darts) d (length darts))
  where
    go : ((s : ℕ) × (s < length darts) × (slice_index darts s ≡ d)) ⊎ ((s : ℕ) → s < length darts → slice_index darts s ≢ d)
        → ((s : ℕ) × (s < length darts) × (slice_index darts s ≡ d)) ⊎ (((s : ℕ) × (s < length darts) × (slice_index darts s ≡ d)) → ⊥)
    go (inl has) = inl has
    go (inr none) = inr (λ has. none has.0 has.1 has.2)
side-or-none alpha L darts d = go (meets_or_not (slice_index darts) d (length darts)) (meets_or_not (λ s. L 0 (slice_index darts s)) d (length darts))
  where
    Has : Type 0
    Has = (s : ℕ) × (s < length darts) × IsOfSide alpha L darts s d

    go : ((s : ℕ) × (s < length darts) × (slice_index darts s ≡ d)) ⊎ ((s : ℕ) → s < length darts → slice_index darts s ≢ d)
        → ((s : ℕ) × (s < length darts) × (L 0 (slice_index darts s) ≡ d)) ⊎ ((s : ℕ) → s < length darts → L 0 (slice_index darts s) ≢ d) → Has ⊎ (Has → ⊥)
    go (inl has) other = inl (has.0, has.1, inl has.2)
    go (inr none) (inl has) = inl (has.0, has.1, inr has.2)
    go (inr none) (inr never) = inr (λ has. elim has.2 [ inl is ↦ none has.0 has.1 is | inr is ↦ never has.0 has.1 is ])

module _ (k : Kind) (n : ℕ) (rows : Rows) (sound : IsSound k n rows) (w : Laws k (links_of rows)) where
  abbrev L : Links
  L = links_of rows

  live-dart : (d : ℕ) → IsLive rows d → d ≢ 0
  live-dart d live none = false≢true (sym (ap (λ (row : Option (List ℕ)). is_some row) (ap (row_at rows) none ∙ sound.nothing)) ∙ live)

  cell-live : (d x : ℕ) → IsLive rows d → InCell k L 2 d x → IsLive rows x
  cell-live d x live own = cell_live k (IsLive rows) L L w w (IsLive rows) (rows_lead_to_live k rows w) 2 d live own

  side-of-ways : (values : ℕ → Option Value) (off : OffRows) (a : AreOffRows k rows values off) (darts : List ℕ)
      → AreWays k L a.vertices 0 a.cells off.faces darts → AreSideDarts k (IsLive rows) L a.vertices off.faces darts
  side-of-ways values off a darts are = record {
    counted = are.counted;
    live = λ s low. let owner = are.owned s low in cell-live owner.0 (slice_index darts s) ((a.cells_listed.members owner.0).0 owner.1).0 owner.2;
    apart = are.apart;
    other = are.other;
    all = all;
    next = λ s low.
        let on = are.next s low in
        let at : on.0 ≡ (side_of (sides_of off.faces) s).next = omega (arith, on.2) in
        on.3 ∙ ap (slice_index darts) at;
    starts = are.starts;
  }
    where
      Has : ℕ → Type 0
      Has d = (s : ℕ) × (s < length darts) × IsOfSide k L darts s d

      -- the least dart of a live dart's 2-cell is listed
      all : (d : ℕ) → IsLive rows d → Has d
      all d live = go (side-or-none k L darts d)
        where
          go : Has d ⊎ (Has d → ⊥) → Has d
          go (inl has) = has
          go (inr none) = absurd (has_least (InCell k L 2 d) d here (λ m among low.
              let listed = (a.cells_listed.members m).1 (cell-live d m live among, λ e own. low e (cell_trans k L 2 d m e among own)) in
              none (are.all m d listed (cell_back k L w 2 d m among))))

  pub side-darts-of : HasDimension 2 L → (values : ℕ → Option Value) (off : OffRows) (a : AreOffRows k rows values off)
      → (darts : List ℕ) × AreSideDarts k (IsLive rows) L a.vertices off.faces darts
  side-darts-of flat values off a =
      let named : (e : ℕ) → Contains a.cells e → (e ≢ 0) × ((d : ℕ) → InCell k L 2 e d → e ≤ d) =
      λ e has. let cell = (a.cells_listed.members e).0 has in (live-dart e cell.0, cell.1) in
      let found = ways k L w flat a.vertices 0 a.cells off.faces named (rising_rises a.cells a.cells_listed.ascending) a.faces in
      (found.0, side-of-ways values off a found.0 found.1)

-- The darts on the ways round the listed 2-cells, one way behind the other, stand for the sides of the faces.
pub side-darts : (k : Kind) (n : ℕ) (rows : Rows) (values : ℕ → Option Value) (off : OffRows) → IsSound k n rows → Laws k (links_of rows) → HasDimension 2 (links_of rows)
    → (a : AreOffRows k rows values off) → (darts : List ℕ) × AreSideDarts k (IsLive rows) (links_of rows) a.vertices off.faces darts
side-darts k n rows values off sound w flat a = side-darts-of k n rows sound w flat values off a
