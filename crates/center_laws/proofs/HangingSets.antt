-- The darts of a corner and of a face of a generalized map are sets on which edges can be hung.
use Rattle.std.proofs.Common.{ℕ, ◌≡◌, ◌≢◌, ◌≤◌, ◌⊎◌, refl, inl, inr, arith}
use Rattle.map_defs.specs.Kind.{alpha}
use Rattle.map_defs.specs.Links.{Links}
use Rattle.map_defs.specs.LinkWords.{one_link}
use Rattle.map_defs.specs.Cells.{onward, InCell}
use Rattle.map_defs.specs.Insertion.{IsCarrying, InAlphaCorner}
use Rattle.link_laws.proofs.Basics.{distant_alpha}
use Rattle.link_laws.proofs.Orbits.{orbit_dart}
use Rattle.center_laws.proofs.Hung.{IsHangingSet}

corner_link : (j : ℕ) → (j ≡ 1) ⊎ ((3 ≤ j) ⊎ (j ≡ 1)) → IsCarrying alpha 1 j
corner_link j (inl e) = inl e
corner_link j (inr (inl l)) = inr (distant_alpha 1 j (inl (omega arith)))
corner_link j (inr (inr e)) = inl e

pub corner_hangs : (L : Links) (d : ℕ) → d ≢ 0 → IsHangingSet 1 L (InAlphaCorner L d)
corner_hangs L d hd = record {
  low = omega arith;
  dart = λ x h. orbit_dart _ (λ u v s. s.3) d x hd h;
  on = λ x j h c n. onward h (j, corner_link j c, refl, n);
}

face_link : (j : ℕ) → (j ≡ 1) ⊎ ((3 ≤ j) ⊎ (j ≡ 0)) → j ≢ 2
face_link j (inl e) o = omega arith
face_link j (inr (inl l)) o = omega arith
face_link j (inr (inr e)) o = omega arith

pub face_hangs : (L : Links) (d : ℕ) → d ≢ 0 → IsHangingSet 0 L (InCell alpha L 2 d)
face_hangs L d hd = record {
  low = omega arith;
  dart = λ x h. orbit_dart _ (λ u v s. s.3) d x hd h;
  on = λ x j h c n. onward h (one_link j, inl (j, face_link j c, refl), refl, n);
}
