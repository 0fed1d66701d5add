use Rattle.std.proofs.Common.{◌≡◌, ℕ, zero, suc, [], ◌∷◌, None, refl, sym, subst, ◌∙◌}
use Rattle.map_defs.specs.Kind.{Kind, alpha, inverse}
use Rattle.map_defs.specs.Rows.{Rows, links_of}
use Rattle.map_defs.specs.Laws.{Laws}
use Rattle.map_calls.proofs.calls.triangle.Goals as goal

no-links : (i d : ℕ) → links_of (None ∷ []) i d ≡ 0
no-links i zero = refl
no-links i (suc d) = refl

laws-none : (k : Kind) → Laws k (links_of (None ∷ []))
laws-none k = record {
  nil = λ i. refl;
  back = λ i x linked. absurd (linked (no-links i x));
  apart = λ i x own dart fixed. dart (sym fixed ∙ no-links i x);
  square = λ i j x far. no-links (inverse k i) (links_of (None ∷ []) j x) ∙ sym (no-links (inverse k j) (links_of (None ∷ []) i x));
}

pub returns-clause-laws : goal.returns-clause-laws
returns-clause-laws g c =
    let none : c.reserve.new.self.rows ≡ None ∷ [] = c.reserve.ensures.rows ∙ c.new-links.ensures.rows in
    subst (λ (r : Rows). Laws alpha (links_of r)) (sym c.apply.ensures.rows) (c.in_ok-edit.ensures.laws (subst (λ (r : Rows). Laws alpha (links_of r)) (sym none) (laws-none alpha)))
