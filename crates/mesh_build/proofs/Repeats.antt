-- A loop that marks the corners of a face.
use Rattle.std.proofs.Common.{◌≡◌, ◌≢◌, ℕ, ◌+◌, ◌<◌, ◌≤◌, false, ◌==◌, List, ◌∷◌, length, get_or, set, drop, refl, sym, ap, ◌∙◌, inl, inr, eq-eqb, arith}
use Rattle.std.specs.Prelude.{All}
use Rattle.std.specs.List.{list_any}
use Rattle.std.proofs.lemmas.Bool.{cases_eq, ne_eqb}
use Rattle.std.proofs.lemmas.List.{drop_more, get_or-set_same, get_or-set_other, length-set}
use Rattle.map_defs.specs.MeshMap.{repeats}

abbrev pub Marked : List ℕ → ℕ → List ℕ → Type 0
Marked marks stamp seen = (v : ℕ) → v < length marks → (get_or marks v 0 == stamp) ≡ list_any (λ u. u == v) seen

-- a corner that is not marked stands not among those before it
pub repeats-on : (marks corners seen : List ℕ) (stamp i : ℕ) → i < length corners → get_or corners i 0 < length marks → get_or marks (get_or corners i 0) 0 ≢ stamp → Marked marks stamp seen
    → repeats (get_or corners i 0 ∷ seen) (drop (i + 1) corners) ≡ repeats seen (drop i corners)
repeats-on marks corners seen stamp i within inside fresh marked =
    let p : ℕ = get_or corners i 0 in
    let none : list_any (λ u. u == p) seen ≡ false = sym (marked p inside) ∙ ne_eqb (get_or marks p 0) stamp fresh in
    sym (ap (repeats seen) (drop_more corners i 0 within) ∙ rw none refl)

pub marked-on : (marks seen : List ℕ) (stamp p : ℕ) → p < length marks → Marked marks stamp seen → Marked (set marks p stamp) stamp (p ∷ seen)
marked-on marks seen stamp p inside marked v h = elim (cases_eq p v) [
  | inl e ↦ rw (← e, get_or-set_same marks p stamp 0 inside, eq-eqb stamp stamp refl, eq-eqb p p refl) refl
  | inr ne ↦
      let low : v < length marks = omega (arith, length-set marks p stamp) in
      rw (get_or-set_other marks p v stamp 0 (λ (e : v ≡ p). ne (sym e)), ne_eqb p v ne) (marked v low)
]

pub stamped-on : (marks : List ℕ) (stamp p : ℕ) → All (λ (m : ℕ). m ≤ stamp) marks → All (λ (m : ℕ). m ≤ stamp) (set marks p stamp)
stamped-on marks stamp p all v z h = elim (cases_eq p v) [
  | inl e ↦
      let inside : p < length marks = omega (arith, length-set marks p stamp) in
      rw (← e, get_or-set_same marks p stamp z inside) (omega arith)
  | inr ne ↦ rw (get_or-set_other marks p v stamp z (λ (e : v ≡ p). ne (sym e))) (all v z (omega (arith, length-set marks p stamp)))
]
