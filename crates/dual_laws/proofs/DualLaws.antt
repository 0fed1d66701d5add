-- The laws of the dual, for both kinds.
use Rattle.std.proofs.Common.{ℕ, ◌≡◌, ◌≢◌, ◌⊎◌, ◌≤◌, ◌<◌, ◌-◌, ◌↔◌, inl, inr, sym, ◌∙◌, arith}
use Rattle.map_defs.specs.Kind.{Kind, alpha, beta}
use Rattle.map_defs.specs.Links.{Links}
use Rattle.map_defs.specs.Laws.{Laws}
use Rattle.map_defs.specs.Rows.{Rows, IsLive, AreWide, links_of}
use Rattle.map_defs.specs.Cells.{InCell}
use Rattle.map_defs.specs.Dual.{IsBetaDual, IsDual, IsDualable}
use Rattle.link_laws.proofs.Basics.{inverse_own}
use Rattle.link_laws.proofs.LawFacts.{dart_of_link}
use Rattle.link_laws.proofs.RowFacts.{live_or_free, linked_live, rows_dimension}
use Rattle.dual_laws.proofs.DualAlpha.{alpha_dual_laws, alpha_dual_back, alpha_dual_one}
use Rattle.dual_laws.proofs.DualBeta.{IsAllLinked, IsClosedMap, dual_free, dual_linked}
use Rattle.dual_laws.proofs.DualSquare.{beta_dual_laws, beta_dual_back, beta_dual_one}
use Rattle.dual_laws.proofs.DualCells.{alpha_cells, beta_cells}

module _ (n : ℕ) (rows : Rows) (high : 2 ≤ n) where
  closed_map : Laws beta (links_of rows) → IsDualable beta n (links_of rows) (IsLive rows) → IsClosedMap n (links_of rows)
  closed_map w can = record { laws = w; high = high; whole = whole }
    where
      whole : (x : ℕ) → IsAllLinked n (links_of rows) x ⊎ ((i : ℕ) → links_of rows i x ≡ 0)
      whole x = go (live_or_free rows x)
        where
          go : IsLive rows x ⊎ ((IsLive rows x → ⊥) × ((i : ℕ) → links_of rows i x ≡ 0)) → IsAllLinked n (links_of rows) x ⊎ ((i : ℕ) → links_of rows i x ≡ 0)
          go (inl l) = inl (λ i h. can.closed i x l h)
          go (inr f) = inr f.1

  moves : IsDualable beta n (links_of rows) (IsLive rows) → (i d : ℕ) → IsAllLinked n (links_of rows) d → 2 ≤ i → i < n → links_of rows (n - i) (links_of rows n d) ≢ d
  moves can i d l = can.apart i d (linked_live rows 0 d (l 0 (omega arith)))

  pub dual_laws : (k : Kind) (N : Links) → Laws k (links_of rows) → IsDualable k n (links_of rows) (IsLive rows) → IsDual k n (links_of rows) N → Laws k N
  dual_laws alpha N w can b = alpha_dual_laws n (links_of rows) N w b
  dual_laws beta N w can b = beta_dual_laws n (links_of rows) N (closed_map w can) b (moves can)

  pub dual_back : (k : Kind) (N : Links) → AreWide n rows → Laws k (links_of rows) → IsDualable k n (links_of rows) (IsLive rows) → IsDual k n (links_of rows) N → IsDual k n N (links_of rows)
  dual_back alpha N wide w can b = alpha_dual_back n (links_of rows) N w b (rows_dimension n rows wide)
  dual_back beta N wide w can b = beta_dual_back n (links_of rows) N (closed_map w can) b (rows_dimension n rows wide)

  -- the dual can be dualized
  pub dual_can : (k : Kind) (N : Links) → AreWide n rows → Laws k (links_of rows) → IsDualable k n (links_of rows) (IsLive rows) → IsDual k n (links_of rows) N → IsDualable k n N (IsLive rows)
  dual_can alpha N wide w can b = record { closed = λ i d l h z. can.closed (n - i) d l (omega arith) (sym (b.reversed i d h) ∙ z); apart = tt }
  dual_can beta N wide w can b = record { closed = closed; apart = apart }
    where
      l : (d : ℕ) → IsLive rows d → IsAllLinked n (links_of rows) d
      l d live i h = can.closed i d live h

      closed : (i d : ℕ) → IsLive rows d → i ≤ n → N i d ≢ 0
      closed i d live h = dual_linked n (links_of rows) N (closed_map w can) b d (l d live) i h

      back : IsBetaDual n N (links_of rows)
      back = beta_dual_back n (links_of rows) N (closed_map w can) b (rows_dimension n rows wide)

      apart : (i d : ℕ) → IsLive rows d → 2 ≤ i → i < n → N (n - i) (N n d) ≢ d
      apart i d live h g e = w.apart i d (inverse_own beta i h) (dart_of_link beta (links_of rows) w 0 d (l d live 0 (omega arith))) (back.reversed i d (omega arith) g ∙ e)

  closed_dual : (N : Links) → Laws beta (links_of rows) → IsDualable beta n (links_of rows) (IsLive rows) → IsBetaDual n (links_of rows) N → IsClosedMap n N
  closed_dual N w can b = record { laws = dual_laws beta N w can b; high = high; whole = whole }
    where
      c : IsClosedMap n (links_of rows)
      c = closed_map w can

      whole : (x : ℕ) → IsAllLinked n N x ⊎ ((i : ℕ) → N i x ≡ 0)
      whole x = go (c.whole x)
        where
          go : IsAllLinked n (links_of rows) x ⊎ ((i : ℕ) → links_of rows i x ≡ 0) → IsAllLinked n N x ⊎ ((i : ℕ) → N i x ≡ 0)
          go (inl a) = inl (dual_linked n (links_of rows) N c b x a)
          go (inr z) = inr (dual_free n (links_of rows) N c b x z)

  pub dual_cells : (k : Kind) (N : Links) → AreWide n rows → Laws k (links_of rows) → IsDualable k n (links_of rows) (IsLive rows) → IsDual k n (links_of rows) N
      → (i d x : ℕ) → i ≤ n → d ≢ 0 → InCell k N i d x ↔ InCell k (links_of rows) (n - i) d x
  dual_cells alpha N wide w can b i d x h m = (alpha_cells n (links_of rows) N b i (n - i) d x (omega arith) m, alpha_cells n N (links_of rows) (dual_back alpha N wide w can b) (n - i) i d x (omega arith) m)
  dual_cells beta N wide w can b i d x h m = (beta_cells n (links_of rows) N (closed_map w can) b (dual_laws beta N w can b) i (n - i) d x (omega arith) m, beta_cells n N (links_of rows) (closed_dual N w can b) (dual_back beta N wide w can b) w (n - i) i d x (omega arith) m)

pub dual_one : (k : Kind) (n : ℕ) (L N M : Links) → IsDual k n L N → IsDual k n L M → (i d : ℕ) → N i d ≡ M i d
dual_one alpha n L N M b c i d = alpha_dual_one n L N M b c i d
dual_one beta n L N M b c i d = beta_dual_one n L N M b c i d
