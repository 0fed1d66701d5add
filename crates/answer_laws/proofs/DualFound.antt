-- A map that can have a dual has one.
use Rattle.std.proofs.Common.{◌≡◌, ◌≢◌, ◌⊎◌, ℕ, ◌-◌, ◌<◌, ◌≤◌, List, [], length, get_or, reverse, Option, None, refl, sym, ap, ◌∙◌, subst, inl, inr, arith}
use Rattle.std.proofs.lemmas.Bool.{cases_lt}
use Rattle.map_defs.specs.Kind.{Kind, alpha, beta, inverse}
use Rattle.map_defs.specs.Links.{Links, HasDimension}
use Rattle.map_defs.specs.Laws.{Laws}
use Rattle.map_defs.specs.Rows.{Rows, IsLive, links_of}
use Rattle.map_defs.specs.Values.{Value}
use Rattle.map_defs.specs.Dual.{IsDual, IsAlphaDual, IsBetaDual}
use Rattle.machine_defs.specs.State.{Content, value_at, HasPlaces}
use Rattle.machine_defs.specs.Dualling.{IsDualOf}
use Rattle.machine_defs.specs.Kept.{IsLawfulContent}
use Rattle.link_laws.proofs.Basics.{same_or_not, inverse_own}
use Rattle.link_laws.proofs.LawFacts.{back_to, back_from}
use Rattle.edit_laws.proofs.RowWrites.{live-within}
use Rattle.value_laws.proofs.OfRows.{told_live}
use Rattle.machine_laws.proofs.Keeping.{laws-of}
use Rattle.answer_laws.proofs.Building.{AreBuilt, rows_found, ArePlaced, values_found}
use Rattle.answer_laws.proofs.SewnFound.{dead-free}

-- the links of a dual, by cases on the link
module _ (n : ℕ) (L : Links) where
  alpha-link : (t x : ℕ) → (n < t) ⊎ (t ≤ n) → ℕ
  alpha-link t x (inl above) = 0
  alpha-link t x (inr low) = L (n - t) x

  alpha-dual : Links
  alpha-dual t x = alpha-link t x (cases_lt n t)

  alpha-is : IsAlphaDual n L alpha-dual
  unfolding alpha-dual alpha-link
  alpha-is = record { reversed = λ t x l. low t x l (cases_lt n t); above = λ t x h. high t x h (cases_lt n t) }
    where
      low : (t x : ℕ) → t ≤ n → (a : (n < t) ⊎ (t ≤ n)) → alpha-link t x a ≡ L (n - t) x
      low t x l (inl above) = absurd (omega arith)
      low t x l (inr below) = refl

      high : (t x : ℕ) → n < t → (a : (n < t) ⊎ (t ≤ n)) → alpha-link t x a ≡ 0
      high t x h (inl above) = refl
      high t x h (inr below) = absurd (omega arith)

  alpha-free : (x : ℕ) → ((t : ℕ) → L t x ≡ 0) → (t : ℕ) → alpha-dual t x ≡ 0
  unfolding alpha-dual alpha-link
  alpha-free x none t = by (cases_lt n t)
    where
      by : (a : (n < t) ⊎ (t ≤ n)) → alpha-link t x a ≡ 0
      by (inl above) = refl
      by (inr low) = none (n - t)

module _ (n : ℕ) (flat : 2 ≤ n) (L : Links) (w : Laws beta L) where
  beta-link : (t x : ℕ) → (t ≡ 0) ⊎ (t ≢ 0) → (t ≡ n) ⊎ (t ≢ n) → (n < t) ⊎ (t ≤ n) → ℕ
  beta-link t x (inl zeroth) b a = L n (L (inverse beta (n - 1)) x)
  beta-link t x (inr other) (inl last) a = L n x
  beta-link t x (inr other) (inr else) (inl above) = 0
  beta-link t x (inr other) (inr else) (inr low) = L (n - t) (L n x)

  beta-dual : Links
  beta-dual t x = beta-link t x (same_or_not t 0) (same_or_not t n) (cases_lt n t)

  at-zero : (t x : ℕ) → t ≡ 0 → (z : (t ≡ 0) ⊎ (t ≢ 0)) (b : (t ≡ n) ⊎ (t ≢ n)) (a : (n < t) ⊎ (t ≤ n)) → beta-link t x z b a ≡ L n (L (inverse beta (n - 1)) x)
  unfolding beta-link
  at-zero t x e (inl zeroth) b a = refl
  at-zero t x e (inr other) b a = absurd (other e)

  at-last : (t x : ℕ) → t ≡ n → (z : (t ≡ 0) ⊎ (t ≢ 0)) (b : (t ≡ n) ⊎ (t ≢ n)) (a : (n < t) ⊎ (t ≤ n)) → beta-link t x z b a ≡ L n x
  unfolding beta-link
  at-last t x e (inl zeroth) b a = absurd (omega arith)
  at-last t x e (inr other) (inl last) a = refl
  at-last t x e (inr other) (inr else) a = absurd (else e)

  at-above : (t x : ℕ) → n < t → (z : (t ≡ 0) ⊎ (t ≢ 0)) (b : (t ≡ n) ⊎ (t ≢ n)) (a : (n < t) ⊎ (t ≤ n)) → beta-link t x z b a ≡ 0
  unfolding beta-link
  at-above t x h (inl zeroth) b a = absurd (omega arith)
  at-above t x h (inr other) (inl last) a = absurd (omega arith)
  at-above t x h (inr other) (inr else) (inl above) = refl
  at-above t x h (inr other) (inr else) (inr low) = absurd (omega arith)

  at-other : (t x : ℕ) → 1 ≤ t → t < n → (z : (t ≡ 0) ⊎ (t ≢ 0)) (b : (t ≡ n) ⊎ (t ≢ n)) (a : (n < t) ⊎ (t ≤ n)) → beta-link t x z b a ≡ L (n - t) (L n x)
  unfolding beta-link
  at-other t x l h (inl zeroth) b a = absurd (omega arith)
  at-other t x l h (inr other) (inl last) a = absurd (omega arith)
  at-other t x l h (inr other) (inr else) (inl above) = absurd (omega arith)
  at-other t x l h (inr other) (inr else) (inr low) = refl

  zeroth-is : (x : ℕ) → beta-dual 0 x ≡ L n (L (inverse beta (n - 1)) x)
  unfolding beta-dual
  zeroth-is x = at-zero 0 x refl (same_or_not 0 0) (same_or_not 0 n) (cases_lt n 0)

  last-is : (x : ℕ) → beta-dual n x ≡ L n x
  unfolding beta-dual
  last-is x = at-last n x refl (same_or_not n 0) (same_or_not n n) (cases_lt n n)

  above-is : (t x : ℕ) → n < t → beta-dual t x ≡ 0
  unfolding beta-dual
  above-is t x h = at-above t x h (same_or_not t 0) (same_or_not t n) (cases_lt n t)

  other-is : (t x : ℕ) → 1 ≤ t → t < n → beta-dual t x ≡ L (n - t) (L n x)
  unfolding beta-dual
  other-is t x l h = at-other t x l h (same_or_not t 0) (same_or_not t n) (cases_lt n t)

  first-is : (x : ℕ) → beta-dual 1 x ≡ L (n - 1) (L n x)
  first-is x = other-is 1 x (omega arith) (omega arith)

  own : inverse beta n ≡ n
  own = inverse_own beta n flat

  -- the new link 1 followed back
  first-back : (x y : ℕ) → y ≢ 0 → L (n - 1) (L n x) ≡ y → L n (L (inverse beta (n - 1)) y) ≡ x
  first-back x y some e =
      let a : L (inverse beta (n - 1)) y ≡ L n x = back_to beta L w (n - 1) (L n x) y some e in
      let linked : L n x ≢ 0 = λ none. some (sym e ∙ ap (L (n - 1)) none ∙ w.nil (n - 1)) in
      ap (L n) a ∙ ap (λ (m : ℕ). L m (L n x)) (sym own) ∙ w.back n x linked

  first-on : (x y : ℕ) → x ≢ 0 → L n (L (inverse beta (n - 1)) y) ≡ x → L (n - 1) (L n x) ≡ y
  first-on x y some e =
      let a : L (inverse beta n) x ≡ L (inverse beta (n - 1)) y = back_to beta L w n (L (inverse beta (n - 1)) y) x some e in
      let b : L (inverse beta (n - 1)) y ≡ L n x = sym a ∙ ap (λ (m : ℕ). L m x) own in
      let linked : L n x ≢ 0 = λ none. some (sym e ∙ ap (L n) (b ∙ none) ∙ w.nil n) in
      back_from beta L w (n - 1) (L n x) y linked b

  beta-is : IsBetaDual n L beta-dual
  beta-is = record {
    reversed = other-is;
    kept = last-is;
    turned = record {
      nothing = zeroth-is 0 ∙ ap (L n) (w.nil (inverse beta (n - 1))) ∙ w.nil n;
      back = λ x y a b. (
        λ e. zeroth-is y ∙ first-back x y b (sym (first-is x) ∙ e),
        λ e. first-is x ∙ first-on x y a (sym (zeroth-is y) ∙ e),
      );
    };
    above = λ t x h. above-is t x h;
  }

  beta-free : (x : ℕ) → ((t : ℕ) → L t x ≡ 0) → (t : ℕ) → beta-dual t x ≡ 0
  unfolding beta-dual beta-link
  beta-free x none t = by (same_or_not t 0) (same_or_not t n) (cases_lt n t)
    where
      by : (z : (t ≡ 0) ⊎ (t ≢ 0)) (b : (t ≡ n) ⊎ (t ≢ n)) (a : (n < t) ⊎ (t ≤ n)) → beta-link t x z b a ≡ 0
      by (inl zeroth) b a = ap (L n) (none (inverse beta (n - 1))) ∙ w.nil n
      by (inr other) (inl last) a = none n
      by (inr other) (inr else) (inl above) = refl
      by (inr other) (inr else) (inr low) = ap (L (n - t)) (none n) ∙ w.nil (n - t)

-- the links of a dual, which are free where the map's are
dual-links : (k : Kind) (n : ℕ) → 2 ≤ n → (L : Links) → Laws k L → (N : Links) × IsDual k n L N × HasDimension n N × ((x : ℕ) → ((t : ℕ) → L t x ≡ 0) → (t : ℕ) → N t x ≡ 0)
dual-links alpha n flat L w = (alpha-dual n L, alpha-is n L, (alpha-is n L).above, alpha-free n L)
dual-links beta n flat L w = (beta-dual n flat L w, beta-is n flat L w, (beta-is n flat L w).above, beta-free n flat L w)

module _ (c : Content) (kept : IsLawfulContent c) where
  module _ (N : Links) (is : IsDual c.kind c.dim (links_of c.rows) N) (rows : Rows) (b : AreBuilt c.dim (length c.rows) (IsLive c.rows) N rows)
      (values : List (List (Option Value))) (p : ArePlaced c.dim (length c.rows) (λ i d. value_at c (c.dim - i) d) values) where
    next : Content
    next = record { kind = c.kind; dim = c.dim; rows = rows; values = values; rules = reverse c.rules }

    same : links_of rows ≡ N
    same = λ at i d. b.links i d at

    value : (i d : ℕ) → i ≤ c.dim → get_or (get_or values d []) i None ≡ value_at c (c.dim - i) d
    value i d low = elim (cases_lt d (length c.rows)) [
      | inl inside ↦ p.there i d low inside
      | inr past ↦ p.beyond i d (λ l m. omega arith) ∙ sym (kept.places.none (c.dim - i) d (λ live. let l = live-within c.rows d live in omega arith))
    ]

    none : (i d : ℕ) → (IsLive rows d → ⊥) → get_or (get_or values d []) i None ≡ None
    none i d dead = elim (cases_lt c.dim i) [
      | inl above ↦ p.beyond i d (λ l m. omega arith)
      | inr low ↦ value i d low ∙ kept.places.none (c.dim - i) d (λ live. dead ((b.live d).1 live))
    ]

    places : HasPlaces next
    unfolding next
    places = record { long = p.long ∙ sym b.long; wide = λ d l. p.wide d (let e = b.long in omega arith); none = none }

    is-dual : IsDualOf c next
    unfolding next
    is-dual = record {
      kind = refl;
      dim = refl;
      long = b.long;
      live = b.live;
      wide = b.wide;
      links = subst (λ (M : Links). IsDual c.kind c.dim (links_of c.rows) M) (sym same) is;
      rules = refl;
      places = places;
      values = λ i d low. value i d low;
    }

  pub dual_found : (after : Content) × IsDualOf c after
  dual_found =
      let found = dual-links c.kind c.dim kept.flat (links_of c.rows) (laws-of c kept) in
      let built = rows_found c.dim (length c.rows) (IsLive c.rows) (told_live c.rows) (λ d live. live-within c.rows d live) found.0 found.2
      (λ t x dead. found.3 x (λ j. dead-free c kept j x dead) t) in
      let placed = values_found c.dim (length c.rows) (λ i d. value_at c (c.dim - i) d) in
      (next found.0 found.1 built.0 built.1 placed.0 placed.1, is-dual found.0 found.1 built.0 built.1 placed.0 placed.1)
