-- The partners of sides, by the sides alone.
use Rattle.std.proofs.Common.{◌≡◌, ◌≢◌, ℕ, ◌<◌, max, Bool, ◌==◌, List, [], ◌∷◌, length, map, filter, Option, Some, None, refl, sym, ap, ◌∙◌, eq-eqb, arith}
use Rattle.std.specs.Prelude.{if◌then◌else◌}
use Rattle.std.proofs.lemmas.Bool.{ne_eqb}
use Rattle.std.proofs.lemmas.List.{get_or-map, length-map}
use Rattle.map_defs.specs.MeshMap.{Side, is_between, has_ends}
use Rattle.mesh_laws.specs.Sides.{no_side, side_of, partner_of}
use Rattle.mesh_laws.proofs.Filtered.{found_at, ends-of}
use Rattle.mesh_laws.proofs.Partners.{ArePartners, ArePaired}
use Rattle.mesh_laws.proofs.Faultless.{AreFew, IsFaultless}

-- of two sides the other one than the side of this number
abbrev partner_among : ℕ → List Side → Option ℕ
partner_among n [] = None
partner_among n (a ∷ []) = None
partner_among n (a ∷ b ∷ more) = if n == a.number then Some b.number else Some a.number

abbrev partner_in : List Side → Side → Option ℕ
partner_in sides s = partner_among s.number (filter (has_ends s) sides)

pub partners_in : List Side → List (Option ℕ)
partners_in sides = map (partner_in sides) sides

-- of few sides each has the other one as its partner
few-partners : (o : Bool) (partners : List (Option ℕ)) (met : List Side) → AreFew o met → ((i : ℕ) → i < length met → partner_of partners (side_of met i).number ≡ partner_among (side_of met i).number met)
    → ArePartners o partners met
few-partners o partners [] few at = tt
few-partners o partners (a ∷ []) few at = at 0 (omega arith)
few-partners o partners (a ∷ b ∷ []) few at = (
  at 0 (omega arith) ∙ rw (eq-eqb a.number a.number refl) refl,
  at 1 (omega arith) ∙ (let apart : b.number ≢ a.number = λ e. (let lt = few.0 in omega arith) in rw (ne_eqb b.number a.number apart) refl),
  few.0,
  few.1,
)
few-partners o partners (a ∷ b ∷ c ∷ more) few at = few

module _ (o : Bool) (sides : List Side) (faultless : IsFaultless o sides) where
  partner-there : (n : ℕ) → n < length sides → partner_of (partners_in sides) n ≡ partner_in sides (side_of sides n)
  unfolding partners_in
  partner-there n h = get_or-map (partner_in sides) sides n no_side None h

  partner-met : (low high i : ℕ) → i < length (filter (is_between low high) sides)
      → partner_of (partners_in sides) (side_of (filter (is_between low high) sides) i).number
      ≡ partner_among (side_of (filter (is_between low high) sides) i).number (filter (is_between low high) sides)
  partner-met low high i h =
      let met : List Side = filter (is_between low high) sides in
      let a : Side = side_of met i in
      let f = found_at (is_between low high) sides i h in
      let number : a.number ≡ f.0 = ap (λ (x : Side). x.number) (sym f.2) ∙ faultless.numbers f.0 f.1 in
      let ends = ends-of low high a f.3 in
      let same : filter (has_ends a) sides ≡ met = ap (λ (m : ℕ). filter (is_between m (max a.from a.to)) sides) ends.0 ∙ ap (λ (m : ℕ). filter (is_between low m) sides) ends.1 in
      ap (partner_of (partners_in sides)) number ∙ (partner-there f.0 f.1 ∙ (ap (partner_in sides) f.2 ∙ ap (partner_among a.number) same))

  length-partners : length (partners_in sides) ≡ length sides
  unfolding partners_in
  length-partners = length-map sides (partner_in sides)

  -- Sides without a fault are paired.
  pub paired : ArePaired o (partners_in sides) sides
  paired = record {
    long = length-partners;
    numbers = faultless.numbers;
    edges = λ low high. few-partners o (partners_in sides) (filter (is_between low high) sides) (faultless.edges low high) (partner-met low high);
  }
