-- Links across a cell that ends: each remaining dart's link leads to the end of its walk.
use Rattle.std.proofs.Common.{◌≡◌, ◌≢◌, ◌⊎◌, ℕ, ◌≤◌, refl, sym, ap, ◌∙◌, subst, inl, inr, ⊎_elim, arith}
use Rattle.map_defs.specs.Kind.{Kind, alpha, beta, inverse}
use Rattle.map_defs.specs.Links.{Links}
use Rattle.map_defs.specs.Laws.{Laws}
use Rattle.map_defs.specs.Rows.{links_of}
use Rattle.map_defs.specs.Walks.{Walk, stop, go}
use Rattle.map_defs.specs.Removal.{Lands}
use Rattle.machine_defs.specs.State.{Content}
use Rattle.machine_defs.specs.Kept.{IsLawfulContent}
use Rattle.link_laws.proofs.Basics.{same_or_not}
use Rattle.link_laws.proofs.Walking.{walk_one}
use Rattle.answer_laws.specs.Answering.{NotNot}
use Rattle.answer_laws.proofs.RelinkedFound.{LivesAfter}
use Rattle.answer_laws.proofs.LinksFound.{AreLinksAfter, TellsLinks, links_found}
use Rattle.answer_laws.proofs.SewnFound.{high-free, dead-free}

-- where link i leads after a walk that ends at z
lands-some : (k : Kind) (x z : ℕ) → (y : ℕ) × Lands k x z y
lands-some alpha x z = elim (same_or_not z x) [
  | inl e ↦ (0, (λ n. absurd (n e), λ h. refl))
  | inr n ↦ (z, (λ h. refl, λ e. absurd (n e)))
]
lands-some beta x z = (z, refl)

-- a walk that ends at none leaves the link free
lands-none : (k : Kind) (x z : ℕ) → z ≡ 0 → Lands k x z 0
lands-none alpha x z e = (λ n. sym e, λ h. refl)
lands-none beta x z e = sym e

-- a walk ends where it begins or after a step
pub walk-end : (C : ℕ → Type 0) (Step : ℕ → ℕ) (x z : ℕ) → Walk C Step x z → (z ≡ x) ⊎ ((u : ℕ) × (z ≡ Step u))
walk-end C Step x z (stop n) = inl refl
walk-end C Step x z (go h walk) = ⊎_elim (λ e. inr (x, e)) (λ led. inr led) (walk-end C Step (Step x) z walk)

module _ (c : Content) (kept : IsLawfulContent c) (k : Kind) (w : Laws k (links_of c.rows)) (C : ℕ → Type 0) (dart : (x : ℕ) → C x → x ≢ 0) where
  abbrev L : Links
  L = links_of c.rows

  -- a dart that does not live afterwards lies in C or has no links
  pub lone : (x : ℕ) → (LivesAfter c 0 C x → ⊥) → (C x → ⊥) → (t : ℕ) → L t x ≡ 0
  lone x dead out t = dead-free c kept t x (λ live. dead (inl live, out))

  in-walk : (x z : ℕ) (Step : ℕ → ℕ) → x ≡ 0 → Walk C Step x z → z ≡ 0
  in-walk x z Step e walk = walk_one walk (subst (λ (u : ℕ). Walk C Step x u) e (stop (λ h. dart x h e)))

  module _ (i : ℕ) (within : i ≤ c.dim) (Step : ℕ → ℕ) (ends : (x : ℕ) → (C x → ⊥) → NotNot ((z : ℕ) × Walk C Step (L i x) z)) where
    -- all that is asked of the links but that link 0 leads back
    pub record IsDrawn (N : Links) : Type 0 where
      pub gone : (x t : ℕ) → C x → N t x ≡ 0
      pub nothing : (t : ℕ) → N t 0 ≡ 0
      pub others : (x t : ℕ) → (C x → ⊥) → t ≢ i → t ≢ inverse k i → N t x ≡ L t x
      pub lands : (x z : ℕ) → (C x → ⊥) → Walk C Step (L i x) z → Lands k x z (N i x)

    record Drawn (t x y : ℕ) : Type 0 where
      pub gone : C x → y ≡ 0
      pub nothing : x ≡ 0 → y ≡ 0
      pub others : (C x → ⊥) → t ≢ i → t ≢ inverse k i → y ≡ L t x
      pub lands : (z : ℕ) → (C x → ⊥) → t ≡ i → Walk C Step (L i x) z → Lands k x z y

    drawn-tells : TellsLinks c kept 0 C Drawn
    drawn-tells = record {
      some = λ t x l lives never. elim (same_or_not t i) [
        | inl e ↦ ends x lives.1 (λ walk. let to = lands-some k x walk.0 in never (
          to.0,
          record {
            gone = λ h. absurd (lives.1 h);
            nothing = λ none. led none to.0 walk.0 to.1 walk.1;
            others = λ out other. absurd (other e);
            lands = λ z out same other. subst (λ (u : ℕ). Lands k x u to.0) (walk_one walk.1 other) to.1;
          },
        ))
        | inr n ↦ never (
          L t x,
          record {
            gone = λ h. absurd (lives.1 h);
            nothing = λ none. ap (L t) none ∙ w.nil t;
            others = λ out other back. refl;
            lands = λ z out same other. absurd (n same);
          },
        )
      ];
      above = λ t x h. record {
        gone = λ g. refl;
        nothing = λ none. refl;
        others = λ out other back. sym (high-free c kept t x h);
        lands = λ z out same other. absurd (omega arith);
      };
      outside = λ t x dead. record {
        gone = λ g. refl;
        nothing = λ none. refl;
        others = λ out other back. sym (lone x dead out t);
        lands = λ z out same other. lands-none k x z (in-walk (L i x) z Step (lone x dead out i) other);
      };
    }
      where
        none-lands : (kind : Kind) (x y z : ℕ) → x ≡ 0 → z ≡ 0 → Lands kind x z y → y ≡ 0
        none-lands alpha x y z e f h = h.1 (f ∙ sym e)
        none-lands beta x y z e f h = h ∙ f

        led : {x : ℕ} → x ≡ 0 → (y z : ℕ) → Lands k x z y → Walk C Step (L i x) z → y ≡ 0
        led {x} e y z h walk = none-lands k x y z e (in-walk (L i x) z Step (ap (L i) e ∙ w.nil i) walk) h

    pub drawn_found : NotNot ((N : Links) × IsDrawn N × AreLinksAfter c kept 0 C N)
    drawn_found never = links_found c kept 0 C Drawn drawn-tells (λ found. never (
      found.0,
      record {
        gone = λ x t h. (found.1 t x).gone h;
        nothing = λ t. (found.1 t 0).nothing refl;
        others = λ x t out other back. (found.1 t x).others out other back;
        lands = λ x z out walk. (found.1 i x).lands z out refl walk;
      },
      found.2,
    ))
