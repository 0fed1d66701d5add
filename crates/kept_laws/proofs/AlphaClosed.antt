-- Closing a generalized map at link i keeps the cells of dimensions below i.
use Rattle.std.proofs.Common.{ℕ, ◌≡◌, ◌≢◌, ◌<◌, refl, sym, ap, ◌∙◌, arith, List}
use Rattle.map_defs.specs.Kind.{alpha}
use Rattle.map_defs.specs.Links.{Links, IsMadeUpTo, LeadsToLive}
use Rattle.map_defs.specs.Cells.{here, InCell}
use Rattle.map_defs.specs.Laws.{Laws}
use Rattle.map_defs.specs.Births.{IsNumbered, IsCounted}
use Rattle.map_defs.specs.Walks.{Walk, stop, go}
use Rattle.map_defs.specs.Insertion.{IsJustBelow}
use Rattle.map_defs.specs.Closing.{IsOpen, IsAround, IsClosed}
use Rattle.link_laws.proofs.CellOf.{all_alpha}
use Rattle.insert_laws.proofs.Around.{around_free, around_live}
use Rattle.insert_laws.proofs.Closed.{open_carried}
use Rattle.insert_laws.proofs.ClosedFree.{live_dart, live_bound}
use Rattle.kept_laws.specs.Keeping.{KeepsCells}
use Rattle.kept_laws.proofs.Numbered.{low-apart}
use Rattle.kept_laws.proofs.CellSteps.{cell-step}
use Rattle.kept_laws.proofs.Boundary.{walk-dart, around-found}
use Rattle.kept_laws.proofs.AlphaGrown.{grown-keeps}

-- Around a boundary, along links that a cell runs along, lie darts of the cell.
module _ (L : Links) (w : Laws alpha L) (i t j : ℕ) (i-other : i ≢ j) (t-other : t ≢ j) (d : ℕ) where
  walk-inside : (c y : ℕ) → Walk (λ c. L i c ≢ 0) (λ c. L t (L i c)) c y → y ≢ 0 → InCell alpha L j d c → InCell alpha L j d y
  walk-inside c y (stop n) hy h = h
  walk-inside c y (go some p) hy h = walk-inside (L t (L i c)) y p hy
      (cell-step alpha j all_alpha L t d (L i c) (L t (L i c)) t-other
      (cell-step alpha j all_alpha L i d c (L i c) i-other h refl some) refl (walk-dart alpha L w i t (L t (L i c)) y p hy))

  around-inside : (y : ℕ) → IsAround alpha i t L d y → y ≢ 0 → InCell alpha L j d y
  around-inside y p hy = walk-inside (L t d) y p hy
      (cell-step alpha j all_alpha L t d d (L t d) t-other here refl (walk-dart alpha L w i t (L t d) y p hy))

-- closing at link i keeps the cells of dimensions below i
pub alpha-closing-keeps : (Live : ℕ → Type 0) (made : ℕ) (keys : List ℕ) (star : ℕ → ℕ) (L N : Links)
    → Laws alpha L → IsCounted made Live → LeadsToLive Live L → (i : ℕ) → IsNumbered (IsOpen Live i L) keys made star
    → IsClosed alpha i Live star L N → (j : ℕ) → j < i → KeepsCells alpha j Live L N
alpha-closing-keeps Live made keys star L N w counted live i numbers s j low =
    grown-keeps Live made counted L N live i j (IsOpen Live i L) keys star numbers (λ x h. h.0)
    (λ x t h c some. open_carried alpha i refl Live L w (live_dart made Live counted) live made bound x t h c some)
    (record {
      new = s.new;
      old = s.old;
      beyond = λ x h. s.beyond x h ∙ sym (ap star h.1 ∙ numbers.nothing);
      before = before;
      along = s.along;
      kept = λ x t h n. s.kept x t n (λ y g. low-apart (IsOpen Live i L) keys made star numbers x y h g);
    }) i-other (λ e. omega arith)
  where
    bound : IsMadeUpTo made L
    bound = live_bound alpha L w Live live made counted

    i-other : i ≢ j
    i-other e = omega arith

    before : (x t : ℕ) → IsOpen Live i L x → IsJustBelow alpha i t → t ≢ j → N t (star x) ≢ 0
        → (y : ℕ) × IsOpen Live i L y × InCell alpha L j x y × (N t (star x) ≡ star y)
    before x t h b n some =
        let q : (y : ℕ) × IsAround alpha i t L x y = around-found alpha L w i refl t made x bound h.1 in
        let a : N t (star x) ≡ star q.0 = s.around x q.0 t h (omega arith) q.1 in
        let dart : q.0 ≢ 0 = λ o. some (a ∙ (ap star o ∙ numbers.nothing)) in (
          q.0,
          (around_live alpha L w i refl t Live live x q.0 q.1 dart, around_free alpha L w i refl t x q.0 q.1),
          around-inside L w i t j i-other n x q.0 q.1 dart,
          a,
        )
