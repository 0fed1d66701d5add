-- Whether a cell can be removed or contracted, told by the list of its darts.
use Rattle.std.proofs.Common.{ℕ, zero, suc, ◌≡◌, ◌≢◌, ◌+◌, ◌-◌, ◌<◌, ◌≤◌, ◌⊎◌, ◌↔◌, Bool, true, false, List, Contains, Some, None, inl, inr, refl, sym, ◌∙◌, subst, arith}
use Rattle.std.proofs.lemmas.Bool.{false≢true, cases_lt}
use Rattle.map_defs.specs.Kind.{beta}
use Rattle.map_defs.specs.Links.{Links, IsMadeUpTo, HasDimension}
use Rattle.map_defs.specs.Laws.{Laws}
use Rattle.map_defs.specs.Cells.{InCell, here}
use Rattle.map_defs.specs.Removal.{CommutesAt, IsFlatAt, JoinsNoDart, IsRemovable}
use Rattle.map_defs.specs.Contraction.{IsContractible}
use Rattle.remove_laws.proofs.Smoothed.{CanBeSmoothed}
use Rattle.cell_edit.proofs.Commuting.{commutes-at}
use Rattle.beta_edit.specs.Crossing.{drawn_step, side_of, IsCellOf}
use Rattle.beta_edit.proofs.SameCells.{turn-same, joins-same, cell-told}
use Rattle.beta_edit.proofs.VertexRuns.{flat-smoothed, smooth-apart, apart-joins, joins-above}

-- ---- two conditions, the second looked at where the first holds
pub both-then : (P Q : Type 0) (a b : Bool) → a ≡ true → ((a ≡ true) ↔ P) → ((b ≡ true) ↔ Q) → (b ≡ true) ↔ (P × Q)
both-then P Q a b is first then = ((λ e. (first.0 is, then.0 e)), λ h. then.1 h.1)

pub both-else : (P Q : Type 0) (a : Bool) → a ≡ false → ((a ≡ true) ↔ P) → (a ≡ true) ↔ (P × Q)
both-else P Q a is first = ((λ e. absurd (false≢true (sym is ∙ e))), λ h. absurd (false≢true (sym is ∙ first.1 h.0)))

-- the steps of the walk along the link a beside link i
joins-beside : (L : Links) (C : ℕ → Type 0) (i a b : ℕ) → a ≡ b → JoinsNoDart L i C (drawn_step L (Some a) i) → JoinsNoDart L i C (drawn_step L (Some b) i)
joins-beside L C i a b e joins = subst (λ s. JoinsNoDart L i C (drawn_step L (Some s) i)) e joins

pub side-high : (j : ℕ) → 2 ≤ j → side_of j ≡ 0
side-high zero h = absurd (omega arith)
side-high (suc zero) h = absurd (omega arith)
side-high (suc (suc j)) h = refl

module _ (L : Links) (d : ℕ) (keys : List ℕ) (r : Bool) where
  -- ---- removal
  pub edge-removable : IsCellOf L 1 keys d → ((r ≡ true) ↔ ((b : ℕ) → Contains keys b → CommutesAt L 2 3 b)) → (r ≡ true) ↔ IsRemovable beta L 1 d
  edge-removable cell tells = (
    (λ e. record { each = λ b h. tells.0 e b ((cell.1 b).1 h); apart = tt }),
    λ can. tells.1 (λ b has. can.each b ((cell.1 b).0 has)),
  )

  pub high-removable : (i : ℕ) → i ≢ 0 → i ≢ 1 → IsCellOf L i keys d
      → ((r ≡ true) ↔ (((b : ℕ) → Contains keys b → CommutesAt L (i + 1) (i + 2) b) × JoinsNoDart L i (Contains keys) (drawn_step L (Some (i + 1)) i))) → (r ≡ true) ↔ IsRemovable beta L i d
  high-removable zero some more cell tells = absurd (some refl)
  high-removable (suc zero) some more cell tells = absurd (more refl)
  high-removable (suc (suc i)) some more cell tells = (
    (λ e. record {
      each = λ b h. commutes-at L (suc (suc i) + 1) (suc (suc i) + 2) (suc (suc (suc i))) (suc (suc (suc (suc i)))) b (omega arith) (omega arith) ((tells.0 e).0 b ((cell.1 b).1 h));
      apart = joins-same (Contains keys) (InCell beta L (suc (suc i)) d) L (suc (suc i)) (drawn_step L (Some (suc (suc (suc i)))) (suc (suc i))) cell.1
          (joins-beside L (Contains keys) (suc (suc i)) (suc (suc i) + 1) (suc (suc (suc i))) (omega arith) (tells.0 e).1);
    }),
    λ can. tells.1 (
      (λ b has. commutes-at L (suc (suc (suc i))) (suc (suc (suc (suc i)))) (suc (suc i) + 1) (suc (suc i) + 2) b (omega arith) (omega arith) (can.each b ((cell.1 b).0 has))),
      joins-beside L (Contains keys) (suc (suc i)) (suc (suc (suc i))) (suc (suc i) + 1) (omega arith)
          (joins-same (InCell beta L (suc (suc i)) d) (Contains keys) L (suc (suc i)) (drawn_step L (Some (suc (suc (suc i)))) (suc (suc i))) (turn-same (Contains keys) (InCell beta L (suc (suc i)) d) cell.1) can.apart),
    ),
  )

  -- ---- contraction
  pub edge-contractible : r ≡ true → (r ≡ true) ↔ IsContractible beta L 1 d
  edge-contractible is = ((λ e. record { each = λ b h. tt; apart = tt }), λ can. is)

  pub vertex-contractible : r ≡ false → (r ≡ true) ↔ IsContractible beta L 0 d
  vertex-contractible is = ((λ e. absurd (false≢true (sym is ∙ e))), λ can. absurd (can.each d here))

  pub face-contractible : IsCellOf L 2 keys d
      → ((r ≡ true) ↔ (((b : ℕ) → Contains keys b → L 1 (L 1 b) ≡ b) × JoinsNoDart L 2 (Contains keys) (drawn_step L (Some 0) 2))) → (r ≡ true) ↔ IsContractible beta L 2 d
  face-contractible cell tells = (
    (λ e. record { each = λ b h. (tells.0 e).0 b ((cell.1 b).1 h); apart = joins-same (Contains keys) (InCell beta L 2 d) L 2 (drawn_step L (Some 0) 2) cell.1 (tells.0 e).1 }),
    λ can. tells.1 (
      (λ b has. can.each b ((cell.1 b).0 has)),
      joins-same (InCell beta L 2 d) (Contains keys) L 2 (drawn_step L (Some 0) 2) (turn-same (Contains keys) (InCell beta L 2 d) cell.1) can.apart,
    ),
  )

  pub volume-contractible : IsCellOf L 3 keys d
      → ((r ≡ true) ↔ (((b : ℕ) → Contains keys b → IsFlatAt L b) × JoinsNoDart L 3 (Contains keys) (drawn_step L (Some 2) 3))) → (r ≡ true) ↔ IsContractible beta L 3 d
  volume-contractible cell tells = (
    (λ e. record { each = λ b h. (tells.0 e).0 b ((cell.1 b).1 h); apart = joins-same (Contains keys) (InCell beta L 3 d) L 3 (drawn_step L (Some 2) 3) cell.1 (tells.0 e).1 }),
    λ can. tells.1 (
      (λ b has. can.each b ((cell.1 b).0 has)),
      joins-same (InCell beta L 3 d) (Contains keys) L 3 (drawn_step L (Some 2) 3) (turn-same (Contains keys) (InCell beta L 3 d) cell.1) can.apart,
    ),
  )

  pub high-contractible : (i : ℕ) → i ≢ 0 → i ≢ 1 → i ≢ 2 → i ≢ 3 → IsCellOf L i keys d
      → ((r ≡ true) ↔ (((b : ℕ) → Contains keys b → CommutesAt L (i - 1) (i - 2) b) × JoinsNoDart L i (Contains keys) (drawn_step L (Some (i - 1)) i))) → (r ≡ true) ↔ IsContractible beta L i d
  high-contractible zero some more next then cell tells = absurd (some refl)
  high-contractible (suc zero) some more next then cell tells = absurd (more refl)
  high-contractible (suc (suc zero)) some more next then cell tells = absurd (next refl)
  high-contractible (suc (suc (suc zero))) some more next then cell tells = absurd (then refl)
  high-contractible (suc (suc (suc (suc i)))) some more next then cell tells = (
    (λ e. record {
      each = λ b h. commutes-at L (suc (suc (suc (suc i))) - 1) (suc (suc (suc (suc i))) - 2) (suc (suc (suc i))) (suc (suc i)) b (omega arith) (omega arith) ((tells.0 e).0 b ((cell.1 b).1 h));
      apart = joins-same (Contains keys) (InCell beta L (suc (suc (suc (suc i)))) d) L (suc (suc (suc (suc i)))) (drawn_step L (Some (suc (suc (suc i)))) (suc (suc (suc (suc i))))) cell.1
          (joins-beside L (Contains keys) (suc (suc (suc (suc i)))) (suc (suc (suc (suc i))) - 1) (suc (suc (suc i))) (omega arith) (tells.0 e).1);
    }),
    λ can. tells.1 (
      (λ b has. commutes-at L (suc (suc (suc i))) (suc (suc i)) (suc (suc (suc (suc i))) - 1) (suc (suc (suc (suc i))) - 2) b (omega arith) (omega arith) (can.each b ((cell.1 b).0 has))),
      joins-beside L (Contains keys) (suc (suc (suc (suc i)))) (suc (suc (suc i))) (suc (suc (suc (suc i))) - 1) (omega arith)
          (joins-same (InCell beta L (suc (suc (suc (suc i)))) d) (Contains keys) L (suc (suc (suc (suc i)))) (drawn_step L (Some (suc (suc (suc i)))) (suc (suc (suc (suc i)))))
          (turn-same (Contains keys) (InCell beta L (suc (suc (suc (suc i)))) d) cell.1) can.apart),
    ),
  )

-- ---- removal of a vertex
module _ (L : Links) (w : Laws beta L) (made n d : ℕ) (bound : IsMadeUpTo made L) (dim : HasDimension n L) (keys : List ℕ) (cell : IsCellOf L 0 keys d) where
  pub vertex-removable : (r : Bool)
      → ((r ≡ true) ↔ (((b : ℕ) → Contains keys b → IsFlatAt L b) × ((j : ℕ) → 2 ≤ j → j ≤ n → JoinsNoDart L j (Contains keys) (drawn_step L None j)))) → (r ≡ true) ↔ IsRemovable beta L 0 d
  vertex-removable r tells = (
    (λ e. record { each = flat (tells.0 e).0; apart = smooth-apart (made + d) (InCell beta L 0 d) L (smooth (flat (tells.0 e).0)) (λ j h. joined (flat (tells.0 e).0) (tells.0 e).1 j h (cases_lt n j)) }),
    λ can. tells.1 ((λ b has. can.each b ((cell.1 b).0 has)), λ j h low. parted can j h),
  )
    where
      flat : ((b : ℕ) → Contains keys b → IsFlatAt L b) → (b : ℕ) → InCell beta L 0 d b → IsFlatAt L b
      flat each b h = each b ((cell.1 b).1 h)

      smooth : ((b : ℕ) → InCell beta L 0 d b → IsFlatAt L b) → CanBeSmoothed (made + d) (InCell beta L 0 d) L
      smooth each = flat-smoothed L w made d cell.0 bound each

      joined : ((b : ℕ) → InCell beta L 0 d b → IsFlatAt L b) → ((j : ℕ) → 2 ≤ j → j ≤ n → JoinsNoDart L j (Contains keys) (drawn_step L None j)) → (j : ℕ) → 2 ≤ j → (n < j) ⊎ (j ≤ n)
          → JoinsNoDart L j (InCell beta L 0 d) (L 0)
      joined each joins j h (inl above) = joins-above (made + d) (InCell beta L 0 d) L (smooth each) n dim (L 0) j above
      joined each joins j h (inr low) =
          joins-same (Contains keys) (InCell beta L 0 d) L j (L 0) cell.1 (subst (λ s. JoinsNoDart L j (Contains keys) (L s)) (side-high j h) (joins j h low))

      parted : IsRemovable beta L 0 d → (j : ℕ) → 2 ≤ j → JoinsNoDart L j (Contains keys) (drawn_step L None j)
      parted can j h =
          subst (λ s. JoinsNoDart L j (Contains keys) (L s)) (sym (side-high j h))
          (joins-same (InCell beta L 0 d) (Contains keys) L j (L 0) (turn-same (Contains keys) (InCell beta L 0 d) cell.1)
          (apart-joins (made + d) (InCell beta L 0 d) L (smooth can.each) (cell-told L 0 d keys cell.1) can.apart j h))
