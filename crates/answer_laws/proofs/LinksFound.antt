-- Where each link of each dart is told, there are links, and a content that has them.
use Rattle.std.proofs.Common.{◌≡◌, ◌≢◌, ◌⊎◌, ℕ, ◌+◌, ◌<◌, ◌≤◌, length, refl, sym, ap, ◌∙◌, subst, inl, inr, arith}
use Rattle.std.proofs.lemmas.Bool.{cases_lt}
use Rattle.map_defs.specs.Links.{Links, IsTurned, HasDimension}
use Rattle.map_defs.specs.Values.{Hook}
use Rattle.machine_defs.specs.State.{Content}
use Rattle.machine_defs.specs.Kept.{IsLawfulContent}
use Rattle.machine_defs.specs.Relinking.{IsRelinked}
use Rattle.link_laws.proofs.Basics.{same_or_not, stable}
use Rattle.edit_laws.proofs.RowWrites.{live-within}
use Rattle.insert_laws.proofs.LinkZero.{turned_links}
use Rattle.answer_laws.specs.Answering.{NotNot}
use Rattle.answer_laws.proofs.Choosing.{either_way, choose}
use Rattle.answer_laws.proofs.RelinkedFound.{LivesAfter, relinked_found}

module _ (c : Content) (kept : IsLawfulContent c) (births : ℕ) (Ended : ℕ → Type 0) where
  abbrev After : ℕ → Type 0
  After = LivesAfter c births Ended

  -- links of darts that live afterwards, in the map's dimension
  pub record AreLinksAfter (N : Links) : Type 0 where
    pub high : HasDimension c.dim N
    pub free : (t x : ℕ) → (After x → ⊥) → N t x ≡ 0

  pub after-within : (d : ℕ) → After d → d < length c.rows + births
  after-within d (inl live, stays) = let l = live-within c.rows d live in omega arith
  after-within d (inr born, stays) = let l = born.1 in omega (arith, kept.begun)

  -- each link of each dart is told, and those of no dart are free
  pub record TellsLinks (Spec : ℕ → ℕ → ℕ → Type 0) : Type 0 where
    pub some : (t x : ℕ) → t ≤ c.dim → After x → NotNot ((y : ℕ) × Spec t x y)
    pub above : (t x : ℕ) → c.dim < t → Spec t x 0
    pub outside : (t x : ℕ) → (After x → ⊥) → Spec t x 0

  module _ (Spec : ℕ → ℕ → ℕ → Type 0) (tells : TellsLinks Spec) where
    Whole : ℕ → ℕ → ℕ → Type 0
    Whole t x y = Spec t x y × ((After x → ⊥) → y ≡ 0)

    whole_some : (t x : ℕ) → t ≤ c.dim → NotNot ((y : ℕ) × Whole t x y)
    unfolding Whole
    whole_some t x l never = either_way (After x) (λ told. elim told [
      | inl lives ↦ tells.some t x l lives (λ found. never (found.0, (found.1, λ dead. absurd (dead lives))))
      | inr dead ↦ never (0, (tells.outside t x dead, λ h. refl))
    ])

    module _ (f : ℕ → ℕ → ℕ) (good : (t : ℕ) → t < c.dim + 1 → (x : ℕ) → x < length c.rows + births → Whole t x (f t x)) where
      link : (t x : ℕ) → (c.dim < t) ⊎ (t ≤ c.dim) → (x < length c.rows + births) ⊎ (length c.rows + births ≤ x) → ℕ
      link t x (inl above) m = 0
      link t x (inr low) (inl within) = f t x
      link t x (inr low) (inr past) = 0

      links : Links
      links t x = link t x (cases_lt c.dim t) (cases_lt x (length c.rows + births))

      spec-at : (t x : ℕ) (a : (c.dim < t) ⊎ (t ≤ c.dim)) (m : (x < length c.rows + births) ⊎ (length c.rows + births ≤ x)) → Spec t x (link t x a m)
      unfolding link Whole
      spec-at t x (inl above) m = tells.above t x above
      spec-at t x (inr low) (inl within) = (good t (omega arith) x within).0
      spec-at t x (inr low) (inr past) = tells.outside t x (λ h. let l = after-within x h in omega arith)

      free-at : (t x : ℕ) → (After x → ⊥) → (a : (c.dim < t) ⊎ (t ≤ c.dim)) (m : (x < length c.rows + births) ⊎ (length c.rows + births ≤ x)) → link t x a m ≡ 0
      unfolding link Whole
      free-at t x dead (inl above) m = refl
      free-at t x dead (inr low) (inl within) = (good t (omega arith) x within).1 dead
      free-at t x dead (inr low) (inr past) = refl

      high-at : (t x : ℕ) → c.dim < t → (a : (c.dim < t) ⊎ (t ≤ c.dim)) (m : (x < length c.rows + births) ⊎ (length c.rows + births ≤ x)) → link t x a m ≡ 0
      unfolding link
      high-at t x h (inl above) m = refl
      high-at t x h (inr low) m = absurd (omega arith)

      specs : (t x : ℕ) → Spec t x (links t x)
      unfolding links
      specs t x = spec-at t x (cases_lt c.dim t) (cases_lt x (length c.rows + births))

      are : AreLinksAfter links
      unfolding links
      are = record {
        high = λ t x h. high-at t x h (cases_lt c.dim t) (cases_lt x (length c.rows + births));
        free = λ t x dead. free-at t x dead (cases_lt c.dim t) (cases_lt x (length c.rows + births));
      }

    pub links_found : NotNot ((N : Links) × ((t x : ℕ) → Spec t x (N t x)) × AreLinksAfter N)
    links_found never =
        choose (λ t (row : ℕ → ℕ). (x : ℕ) → x < length c.rows + births → Whole t x (row x)) (λ x. 0) (c.dim + 1)
        (λ t l. choose (Whole t) 0 (length c.rows + births) (λ x m. whole_some t x (omega arith)))
        (λ found. never (links found.0 found.1, specs found.0 found.1, are found.0 found.1))

  -- Links with another link 0, which leads back where link 1 leads on: link 1 is one-to-one, and leads to darts that live.
  module _ (N : Links) (are : AreLinksAfter N) (one : (x y : ℕ) → N 1 x ≢ 0 → N 1 x ≡ N 1 y → x ≡ y) (lands : (x : ℕ) → N 1 x ≢ 0 → NotNot (After (N 1 x))) where
    linked-upto : (x : ℕ) → N 1 x ≢ 0 → x ≤ length c.rows + births
    linked-upto x some = elim (cases_lt (length c.rows + births) x) [
      | inl past ↦ absurd (some (are.free 1 x (λ h. let l = after-within x h in omega arith)))
      | inr within ↦ within
    ]

    zeroth-free : (M : Links) → ((t x : ℕ) → 1 ≤ t → M t x ≡ N t x) → IsTurned M → (y : ℕ) → (After y → ⊥) → M 0 y ≡ 0
    zeroth-free M others turned y dead = elim (same_or_not y 0) [
      | inl e ↦ ap (M 0) e ∙ turned.nothing
      | inr far ↦ stable _ _ (λ some.
          let led : N 1 (M 0 y) ≡ y = sym (others 1 (M 0 y) (omega arith)) ∙ (turned.back (M 0 y) y some far).1 refl in
          lands (M 0 y) (λ none. far (sym led ∙ none)) (λ h. dead (subst After led h)))
    ]

    pub turned_found : (M : Links) × IsTurned M × ((t x : ℕ) → 1 ≤ t → M t x ≡ N t x) × AreLinksAfter M
    turned_found =
        let r = turned_links N (length c.rows + births) linked-upto one in (
          r.0,
          r.2,
          r.1,
          record {
            high = λ t x h. r.1 t x (omega arith) ∙ are.high t x h;
            free = λ t x dead. elim (same_or_not t 0) [
              | inl zeroth ↦ rw zeroth (zeroth-free r.0 r.1 r.2 x dead)
              | inr other ↦ r.1 t x (omega arith) ∙ are.free t x dead
            ];
          },
        )

  -- a content with links that are told
  pub content_found : (hook : Hook) (Becomes : Links → Type 0) (N : Links) → AreLinksAfter N → Becomes N → NotNot ((next : Content) × IsRelinked hook c births Ended Becomes next)
  content_found hook Becomes N are becomes = relinked_found hook c kept births Ended Becomes N becomes are.high are.free
