-- All darts that begin where one dart of a combinatorial map ends lie at one vertex.
use Rattle.std.proofs.Common.{ℕ, ◌≡◌, ◌≢◌, ◌≤◌, ◌⊎◌, sym, ap, inl, inr, ◌∙◌, arith}
use Rattle.map_defs.specs.Kind.{beta}
use Rattle.map_defs.specs.Links.{Links}
use Rattle.map_defs.specs.Laws.{Laws}
use Rattle.map_defs.specs.Cells.{here, InCell}
use Rattle.link_laws.proofs.Basics.{same_or_not}
use Rattle.insert_laws.proofs.BetaParts.{back_of}
use Rattle.kept_laws.proofs.VertexSteps.{leave-in, enter-in, pass-in}

-- u begins where c ends, as a link of c tells
abbrev pub BeginsAtEnd : Links → ℕ → ℕ → Type 0
BeginsAtEnd L c u = (t : ℕ) × (1 ≤ t) × (L t c ≡ u) × (u ≢ 0)

module _ (L : Links) (w : Laws beta L) where
  -- all links from 1 upwards lead from a dart to the vertex where it ends
  ends-of : (t s c : ℕ) → 1 ≤ t → 1 ≤ s → L t c ≢ 0 → L s c ≢ 0 → InCell beta L 0 (L t c) (L s c)
  ends-of t s c lt ls ht hs = go (same_or_not t s) (same_or_not t 1) (same_or_not s 1)
    where
      go : (t ≡ s) ⊎ (t ≢ s) → (t ≡ 1) ⊎ (t ≢ 1) → (s ≡ 1) ⊎ (s ≢ 1) → InCell beta L 0 (L t c) (L s c)
      go (inl e) p q = rw e here
      go (inr d) (inl e) q =
          let b : L 0 (L 1 c) ≡ c = w.back 1 c (λ o. ht (ap (λ i. L i c) e ∙ o)) in
          rw e (enter-in L (L 1 c) s (L s c) (omega arith) (ap (L s) b) hs)
      go (inr d) (inr n) (inl e) =
          let b : L t (L t c) ≡ c = back_of L w t c (omega arith) ht in
          leave-in L (L t c) t (L s c) (omega arith) (ap (L 1) b ∙ ap (λ i. L i c) (sym e)) hs
      go (inr d) (inr n) (inr k) =
          let b : L t (L t c) ≡ c = back_of L w t c (omega arith) ht in
          pass-in L (L t c) t s (L s c) (omega arith) (omega arith) d (ap (L s) b) hs

  -- so all darts that begin where one dart ends lie at one vertex
  pub ends-in-one : (c u v : ℕ) → BeginsAtEnd L c u → BeginsAtEnd L c v → InCell beta L 0 u v
  ends-in-one c u v (t, lt, et, nt) (s, ls, es, ns) = rw (et, es) at (ends-of t s c lt ls (λ o. nt (sym et ∙ o)) (λ o. ns (sym es ∙ o)))
