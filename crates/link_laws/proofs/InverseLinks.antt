-- Links 0 and 1 of a combinatorial map lead back and forth, and so the one tells the other.
use Rattle.std.proofs.Common.{ℕ, ◌≡◌, ◌≢◌, ◌⊎◌, inl, inr, refl, sym, ◌∙◌}
use Rattle.map_defs.specs.Kind.{beta}
use Rattle.map_defs.specs.Links.{Links, IsTurned}
use Rattle.map_defs.specs.Laws.{Laws}
use Rattle.link_laws.proofs.Basics.{same_or_not}
use Rattle.link_laws.proofs.LawFacts.{back_to, back_from}

pub turned_of_laws : (L : Links) → Laws beta L → IsTurned L
turned_of_laws L w = record { nothing = w.nil 0; back = λ x y hx hy. (back_to beta L w 1 x y hy, back_from beta L w 1 x y hx) }

pub turned_one : (N M : Links) → IsTurned N → IsTurned M → ((x : ℕ) → N 1 x ≡ M 1 x) → (x : ℕ) → N 0 x ≡ M 0 x
turned_one N M tn tm same x = at (same_or_not x 0) (same_or_not (N 0 x) 0) (same_or_not (M 0 x) 0)
  where
    at : (x ≡ 0) ⊎ (x ≢ 0) → (N 0 x ≡ 0) ⊎ (N 0 x ≢ 0) → (M 0 x ≡ 0) ⊎ (M 0 x ≢ 0) → N 0 x ≡ M 0 x
    at (inl e) p q = cc (e, tn.nothing, tm.nothing)
    at (inr h) (inr p) q = sym ((tm.back (N 0 x) x p h).0 (sym (same (N 0 x)) ∙ (tn.back (N 0 x) x p h).1 refl))
    at (inr h) (inl e) (inl f) = e ∙ sym f
    at (inr h) (inl e) (inr q) = (tn.back (M 0 x) x q h).0 (same (M 0 x) ∙ (tm.back (M 0 x) x q h).1 refl)
