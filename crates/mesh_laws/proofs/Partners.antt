-- Sides that are paired by their two points are sewn.
use Rattle.std.proofs.Common.{◌≡◌, ◌≢◌, ℕ, zero, suc, ◌<◌, min, max, Bool, true, List, [], ◌∷◌, length, filter, Option, Some, None, refl, sym, ap, subst, ◌∙◌, ◌⊎◌, inl, inr, eq-eqb, arith}
use Rattle.map_defs.specs.MeshMap.{Side, is_between, has_ends}
use Rattle.mesh_laws.specs.Sides.{side_of, partner_of, HasPartner, IsRing, IsSewn}
use Rattle.mesh_laws.proofs.Filtered.{found_at, kept_at}

-- Of the sides between two points one alone has no partner, and two have each other. There are no more.
abbrev pub ArePartners : Bool → List (Option ℕ) → List Side → Type 0
ArePartners oriented partners [] = Unit {0}
ArePartners oriented partners (s ∷ []) = partner_of partners s.number ≡ None
ArePartners oriented partners (s ∷ t ∷ []) =
    (partner_of partners s.number ≡ Some t.number) × (partner_of partners t.number ≡ Some s.number)
    × (s.number < t.number) × (oriented ≡ true → s.from ≢ t.from)
ArePartners oriented partners (s ∷ t ∷ u ∷ more) = ⊥

-- The sides are numbered by their places, and have these partners.
pub record ArePaired (oriented : Bool) (partners : List (Option ℕ)) (sides : List Side) : Type 0 where
  pub long : length partners ≡ length sides
  pub numbers : (s : ℕ) → s < length sides → (side_of sides s).number ≡ s
  pub edges : (low high : ℕ) → ArePartners oriented partners (filter (is_between low high) sides)

module _ (o : Bool) (partners : List (Option ℕ)) (sides : List Side) (paired : ArePaired o partners sides) where
  self-ends : (s : Side) → has_ends s s ≡ true
  self-ends s = rw (eq-eqb (min s.from s.to) (min s.from s.to) refl, eq-eqb (max s.from s.to) (max s.from s.to) refl) refl

  -- the number of a side that stands among those with the same points
  member : (s : ℕ) (i : ℕ) → i < length (filter (has_ends (side_of sides s)) sides)
      → ((side_of (filter (has_ends (side_of sides s)) sides) i).number < length sides)
      × (side_of sides (side_of (filter (has_ends (side_of sides s)) sides) i).number ≡ side_of (filter (has_ends (side_of sides s)) sides) i)
      × (has_ends (side_of sides s) (side_of (filter (has_ends (side_of sides s)) sides) i) ≡ true)
  member s i h =
      let f = found_at (has_ends (side_of sides s)) sides i h in
      let number : (side_of (filter (has_ends (side_of sides s)) sides) i).number ≡ f.0 = ap (λ (x : Side). x.number) (sym f.2) ∙ paired.numbers f.0 f.1 in
      (subst (λ (n : ℕ). n < length sides) (sym number) f.1, ap (side_of sides) number ∙ f.2, f.3)

  -- where it stands there
  place : (s t : ℕ) → t < length sides → has_ends (side_of sides s) (side_of sides t) ≡ true
      → (i : ℕ) × (i < length (filter (has_ends (side_of sides s)) sides)) × ((side_of (filter (has_ends (side_of sides s)) sides) i).number ≡ t)
  place s t h e =
      let k = kept_at (has_ends (side_of sides s)) sides t h e in
      (k.0, k.1, ap (λ (x : Side). x.number) k.2 ∙ paired.numbers t h)

  -- the same of a list that is known
  abbrev Members : ℕ → List Side → Type 0
  Members s met = (i : ℕ) → i < length met → ((side_of met i).number < length sides) × (side_of sides (side_of met i).number ≡ side_of met i) × (has_ends (side_of sides s) (side_of met i) ≡ true)

  abbrev Places : ℕ → List Side → Type 0
  Places s met = (t : ℕ) → t < length sides → has_ends (side_of sides s) (side_of sides t) ≡ true → (i : ℕ) × (i < length met) × ((side_of met i).number ≡ t)

  has_partner-of : (s : ℕ) (met : List Side) → s < length sides → Members s met → Places s met → ArePartners o partners met → HasPartner o sides partners s (partner_of partners s)
  has_partner-of s [] low members places h = let p = places s low (self-ends (side_of sides s)) in absurd (omega (arith, p.1))
  has_partner-of s (a ∷ []) low members places h =
      let p = places s low (self-ends (side_of sides s)) in
      let first : a.number ≡ s = only-one a p.0 p.1 ∙ p.2 in
      let none : partner_of partners s ≡ None = ap (partner_of partners) (sym first) ∙ h in
      subst (HasPartner o sides partners s) (sym none) (λ t inside e. let q = places t inside e in sym (only-one a q.0 q.1 ∙ q.2) ∙ first)
    where
      only-one : (a : Side) (i : ℕ) → i < 1 → a.number ≡ (side_of (a ∷ []) i).number
      only-one a zero h = refl
      only-one a (suc i) h = absurd (omega arith)
  has_partner-of s (a ∷ b ∷ []) low members places h =
      let p = places s low (self-ends (side_of sides s)) in
      of_place (of_two a b p.0 p.1 s p.2)
    where
      of_two : (a b : Side) (i : ℕ) → i < 2 → (t : ℕ) → (side_of (a ∷ b ∷ []) i).number ≡ t → (t ≡ a.number) ⊎ (t ≡ b.number)
      of_two a b zero h t e = inl (sym e)
      of_two a b (suc zero) h t e = inr (sym e)
      of_two a b (suc (suc i)) h t e = absurd (omega arith)

      one : (t : ℕ) → t < length sides → has_ends (side_of sides s) (side_of sides t) ≡ true → (t ≡ a.number) ⊎ (t ≡ b.number)
      one t inside e = let q = places t inside e in of_two a b q.0 q.1 t q.2

      ends_of : (i : ℕ) → i < 2 → has_ends (side_of sides s) (side_of sides (side_of (a ∷ b ∷ []) i).number) ≡ true
      ends_of i low = let m = members i low in ap (has_ends (side_of sides s)) m.1 ∙ m.2

      apart : o ≡ true → (side_of sides a.number).from ≢ (side_of sides b.number).from
      apart turned same = h.3 turned (sym (ap (λ (x : Side). x.from) (members 0 (omega arith)).1) ∙ (same ∙ ap (λ (x : Side). x.from) (members 1 (omega arith)).1))

      of_place : (s ≡ a.number) ⊎ (s ≡ b.number) → HasPartner o sides partners s (partner_of partners s)
      of_place (inl is) =
          let some : partner_of partners s ≡ Some b.number = ap (partner_of partners) is ∙ h.0 in
          subst (HasPartner o sides partners s) (sym some) (
            record {
              within = (members 1 (omega arith)).0;
              apart = λ e. absurd (omega arith);
              ends = ends_of 1 (omega arith);
              turned = λ turned. subst (λ (t : ℕ). (side_of sides t).from ≢ (side_of sides b.number).from) (sym is) (apart turned);
              only = λ u inside e. elim (one u inside e) [ inl at ↦ inl (at ∙ sym is) | inr at ↦ inr at ];
            },
            h.1 ∙ ap (λ (n : ℕ). Some n) (sym is),
          )
      of_place (inr is) =
          let some : partner_of partners s ≡ Some a.number = ap (partner_of partners) is ∙ h.1 in
          subst (HasPartner o sides partners s) (sym some) (
            record {
              within = (members 0 (omega arith)).0;
              apart = λ e. absurd (omega arith);
              ends = ends_of 0 (omega arith);
              turned = λ turned. subst (λ (t : ℕ). (side_of sides t).from ≢ (side_of sides a.number).from) (sym is) (λ e. apart turned (sym e));
              only = λ u inside e. elim (one u inside e) [ inl at ↦ inr at | inr at ↦ inl (at ∙ sym is) ];
            },
            h.0 ∙ ap (λ (n : ℕ). Some n) (sym is),
          )
  has_partner-of s (a ∷ b ∷ c ∷ more) low members places h = absurd h

  pub has_partner : (s : ℕ) → s < length sides → HasPartner o sides partners s (partner_of partners s)
  has_partner s low =
      let e : Side = side_of sides s in
      has_partner-of s (filter (has_ends e) sides) low (member s) (place s) (paired.edges (min e.from e.to) (max e.from e.to))

  -- The partners tell which sides are sewn.
  pub paired-sewn : ((s : ℕ) → s < length sides → IsRing sides s) → IsSewn o sides partners
  paired-sewn ring = record { long = paired.long; ring = ring; each = has_partner }
