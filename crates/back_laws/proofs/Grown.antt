-- The new darts of an insertion are one cell.
use Rattle.std.proofs.Common.{ℕ, ◌≡◌, ◌≢◌, ◌⊎◌, sym, ap, inl, inr, ⊎_elim, ◌∙◌}
use Rattle.map_defs.specs.Kind.{Kind, inverse}
use Rattle.map_defs.specs.Links.{Links}
use Rattle.map_defs.specs.Laws.{Laws}
use Rattle.map_defs.specs.Cells.{InOrbit, here, onward, InCell}
use Rattle.map_defs.specs.Births.{IsFresh}
use Rattle.map_defs.specs.Insertion.{IsInsertable, IsInserted}
use Rattle.insert_laws.proofs.Fresh.{IsNew}
use Rattle.link_laws.proofs.Orbits.{orbit_back, orbit_trans}
use Rattle.insert_laws.proofs.Stands.{Stands, none, some, stands_end, stands_some, stands_turned}
use Rattle.insert_laws.proofs.InsertAny.{other_than_own, new_stands}
use Rattle.link_laws.proofs.CellOf.{RunsAlongAll, cell_on, cell_in}

-- one link of the new dart of x leads to the new dart of y
pub record Grows (k : Kind) (i : ℕ) (K : ℕ → Type 0) (P : ℕ → ℕ → ℕ → Type 0) (L : Links) (x y : ℕ) : Type 0 where
  pub link : ℕ
  pub other : link ≢ i
  pub stands : Stands k i K P L link x y
  pub dart : y ≢ 0

-- K grows from the dart b
abbrev pub GrowsFrom : (k : Kind) (i : ℕ) (K : ℕ → Type 0) (P : ℕ → ℕ → ℕ → Type 0) (L : Links) → ℕ → Type 0
GrowsFrom k i K P L b = (x : ℕ) → K x → InOrbit (Grows k i K P L) b x

module _ (k : Kind) (i : ℕ) (K : ℕ → Type 0) (P : ℕ → ℕ → ℕ → Type 0) (star : ℕ → ℕ) (L : Links) (w : Laws k L) (can : IsInsertable k i K P L) (fresh : IsFresh L K star) (runs : RunsAlongAll k i) (N : Links) (s : IsInserted k i K P star L N) where
  -- the cell of a new dart holds new darts alone
  new_on : (j x : ℕ) → j ≢ i → IsNew K star x → N j x ≢ 0 → (IsNew K star (N j x) → ⊥) → ⊥
  new_on j x n v m nope = stands_some k i K P L w can j v.0 v.1 n (λ y p.
      let a : N j (star v.0) ≡ star y = new_stands k i K P star L w can fresh N s j v.0 y p in
      let b : N j x ≡ star y = ap (N j) v.2 ∙ a in
      ⊎_elim (λ h. nope (y, h, b)) (λ (o : y ≡ 0). m (b ∙ (ap star o ∙ fresh.nothing))) (stands_end k i K P L w can j v.0 y p))

  pub cell_new : (d x : ℕ) → IsNew K star d → InCell k N i d x → (IsNew K star x → ⊥) → ⊥
  cell_new d x h c = cell_in k i runs N (λ z. (IsNew K star z → ⊥) → ⊥)
      (λ j z n nn m nope. nn (λ v. new_on j z n v m nope)) d x (λ f. f h) c

  -- and holds them all
  grows_turned : (x y : ℕ) → x ≢ 0 → Grows k i K P L x y → Grows k i K P L y x
  grows_turned x y hx g = record {
    link = inverse k g.link;
    other = other_than_own k i K P star L w can fresh g.link g.other;
    stands = stands_turned k i K P L w can g.link x y g.stands g.dart;
    dart = hx;
  }

  grown_cell : (d x y : ℕ) → InOrbit (Grows k i K P L) x y → K y → InCell k N i d (star x) → InCell k N i d (star y)
  grown_cell d x y here h c = c
  grown_cell d x y (onward {x = u} {y = v} o g) h c =
      let hu : K u = ⊎_elim (λ q. q) (λ z. absurd z) (begins u v g) in
      let a : N g.link (star u) ≡ star v = new_stands k i K P star L w can fresh N s g.link u v g.stands in
      rw a at (cell_on k i runs N g.link d (star u) g.other (grown_cell d x u o hu c) (λ z. fresh.dart v h (sym a ∙ z)))
    where
      begins : (u v : ℕ) → Grows k i K P L u v → K u ⊎ ⊥
      begins u v g = starts u v g.link g.stands g.dart
        where
          starts : (u v t : ℕ) → Stands k i K P L t u v → v ≢ 0 → K u ⊎ ⊥
          starts u v t (none a b) n = inr (n b)
          starts u v t (some h l) n = inl h

  pub cell_all : (b x0 x : ℕ) → GrowsFrom k i K P L b → K b → K x0 → K x → InCell k N i (star x0) (star x)
  cell_all b x0 x grows hb h0 h =
      let back : InOrbit (Grows k i K P L) x0 b = orbit_back (Grows k i K P L) (λ u v g. g.dart) grows_turned b x0 (can.dart b hb) (grows x0 h0) in
      grown_cell (star x0) x0 x (orbit_trans (Grows k i K P L) x0 b x back (grows x h)) h here
