-- The links of a map without a cell: link 0 of a combinatorial map leads back too.
use Rattle.std.proofs.Common.{◌≡◌, ◌≢◌, ℕ, zero, suc, ◌≤◌, refl, sym, ap, ◌∙◌, subst, inl, inr, ⊎_elim, arith}
use Rattle.map_defs.specs.Kind.{alpha, beta, inverse}
use Rattle.map_defs.specs.Links.{Links}
use Rattle.map_defs.specs.Laws.{Laws}
use Rattle.map_defs.specs.Rows.{IsLive, links_of}
use Rattle.map_defs.specs.Walks.{Walk, stop}
use Rattle.map_defs.specs.Removal.{IsBridged, IsSmoothed, RunsTo}
use Rattle.machine_defs.specs.State.{Content}
use Rattle.machine_defs.specs.Kept.{IsLawfulContent}
use Rattle.link_laws.proofs.Basics.{same_or_not, stable, by_cases}
use Rattle.link_laws.proofs.LawFacts.{back_to}
use Rattle.link_laws.proofs.RowFacts.{rows_lead_to_live}
use Rattle.link_laws.proofs.Walking.{walk_one, walk_outside}
use Rattle.answer_laws.specs.Answering.{NotNot}
use Rattle.answer_laws.proofs.RelinkedFound.{LivesAfter}
use Rattle.answer_laws.proofs.LinksFound.{AreLinksAfter, TellsLinks, links_found, turned_found}
use Rattle.answer_laws.proofs.SewnFound.{high-free}
use Rattle.answer_laws.proofs.Drawn.{walk-end, lone, IsDrawn, drawn_found}

-- in a generalized map
module _ (c : Content) (kept : IsLawfulContent c) (w : Laws alpha (links_of c.rows)) (C : ℕ → Type 0) (dart : (x : ℕ) → C x → x ≢ 0)
    (i : ℕ) (within : i ≤ c.dim) (Step : ℕ → ℕ) (ends : (x : ℕ) → (C x → ⊥) → NotNot ((z : ℕ) × Walk C Step (links_of c.rows i x) z)) where
  pub alpha-bridged : NotNot ((N : Links) × IsBridged alpha i C Step (links_of c.rows) N × AreLinksAfter c kept 0 C N)
  alpha-bridged never = drawn_found c kept alpha w C dart i within Step ends (λ found. never (
    found.0,
    record {
      gone = found.1.gone;
      nothing = found.1.nothing;
      kept = found.1.others;
      lands = found.1.lands;
      turned = λ e. absurd (cc (e));
    },
    found.2,
  ))

-- in a combinatorial map
module _ (c : Content) (kept : IsLawfulContent c) (w : Laws beta (links_of c.rows)) (C : ℕ → Type 0) (dart : (x : ℕ) → C x → x ≢ 0) where
  abbrev L : Links
  L = links_of c.rows

  -- across a cell from dimension 2 upwards, which the links 0 and 1 do not leave
  module _ (i : ℕ) (high : 2 ≤ i) (within : i ≤ c.dim) (Step : ℕ → ℕ) (ends : (x : ℕ) → (C x → ⊥) → NotNot ((z : ℕ) × Walk C Step (L i x) z))
      (closed : (t x : ℕ) → t ≤ 1 → C x → L t x ≢ 0 → C (L t x)) where
    abbrev Draws : Links → Type 0
    Draws N = IsDrawn c kept beta w C dart i within Step ends N

    own-apart : (t j : ℕ) → t ≤ 1 → 2 ≤ j → t ≢ inverse beta j
    own-apart t zero l h e = omega arith
    own-apart t (suc zero) l h e = omega arith
    own-apart t (suc (suc j)) l h e = omega arith

    drawn-low : (N : Links) → Draws N → (t x : ℕ) → t ≤ 1 → (C x → ⊥) → N t x ≡ L t x
    drawn-low N b t x l out = b.others x t out (λ e. omega arith) (own-apart t i l high)

    -- from a remaining dart link 1 leads to a remaining dart, and so does link 0
    leads-out : (N : Links) → Draws N → (t x y : ℕ) → t ≤ 1 → x ≢ 0 → y ≢ 0 → N t x ≡ y → N (inverse beta t) y ≡ x
    leads-out N b t x y l some some' e = by_cases (C x) _ _
        (λ h. absurd (some' (sym e ∙ b.gone x t h)))
        (λ out.
        let old : L t x ≡ y = sym (drawn-low N b t x l out) ∙ e in
        let back : L (inverse beta t) y ≡ x = back_to beta L w t x y some' old in
        by_cases (C y) _ _
        (λ h. absurd (out (subst C back (closed (inverse beta t) y (low t l) h (λ none. some (sym back ∙ none))))))
        (λ far. drawn-low N b (inverse beta t) y (low t l) far ∙ back))
      where
        low : (j : ℕ) → j ≤ 1 → inverse beta j ≤ 1
        low zero h = omega arith
        low (suc zero) h = omega arith
        low (suc (suc j)) h = absurd (omega arith)

    pub high-bridged : NotNot ((N : Links) × IsBridged beta i C Step L N × AreLinksAfter c kept 0 C N)
    high-bridged never = drawn_found c kept beta w C dart i within Step ends (λ found. never (
      found.0,
      record {
        gone = found.1.gone;
        nothing = found.1.nothing;
        kept = found.1.others;
        lands = found.1.lands;
        turned = λ e. record {
          nothing = found.1.nothing 0;
          back = λ x y a b. (leads-out found.0 found.1 1 x y (omega arith) a b, leads-out found.0 found.1 0 y x (omega arith) b a);
        };
      },
      found.2,
    ))

  -- across an edge
  module _ (within : 1 ≤ c.dim) (Step : ℕ → ℕ) (ends : (x : ℕ) → (C x → ⊥) → NotNot ((z : ℕ) × Walk C Step (L 1 x) z))
      (one : (x y z : ℕ) → (C x → ⊥) → (C y → ⊥) → z ≢ 0 → Walk C Step (L 1 x) z → Walk C Step (L 1 y) z → x ≡ y) (leads : (u : ℕ) → (v : ℕ) × (Step u ≡ L 1 v)) where
    abbrev EdgeDraws : Links → Type 0
    EdgeDraws N = IsDrawn c kept beta w C dart 1 within Step ends N

    edge-out : (N : Links) → EdgeDraws N → (x : ℕ) → N 1 x ≢ 0 → C x → ⊥
    edge-out N b x some h = some (b.gone x 1 h)

    edge-one : (N : Links) → EdgeDraws N → (x y : ℕ) → N 1 x ≢ 0 → N 1 x ≡ N 1 y → x ≡ y
    edge-one N b x y some e = stable x y (λ differ.
        let out = edge-out N b x some in
        let out' = edge-out N b y (λ none. some (e ∙ none)) in
        ends x out (λ walk. ends y out' (λ walk'.
        let to = b.lands x walk.0 out walk.1 in
        let to' = b.lands y walk'.0 out' walk'.1 in
        let same : walk'.0 ≡ walk.0 = sym to' ∙ sym e ∙ to in
        differ (one x y walk.0 out out' (λ none. some (to ∙ none)) walk.1 (subst (λ (z : ℕ). Walk C Step (L 1 y) z) same walk'.1)))))

    edge-lands : (N : Links) → EdgeDraws N → (x : ℕ) → N 1 x ≢ 0 → NotNot (LivesAfter c 0 C (N 1 x))
    edge-lands N b x some never =
        let out = edge-out N b x some in
        ends x out (λ walk.
        let to = b.lands x walk.0 out walk.1 in
        let far : walk.0 ≢ 0 = λ none. some (to ∙ none) in
        let lives : IsLive c.rows walk.0 = ⊎_elim (λ e. live 1 x walk.0 far (sym e)) (λ led. let u = leads led.0 in live 1 u.0 walk.0 far (sym (led.1 ∙ u.1))) (walk-end C Step (L 1 x) walk.0 walk.1) in
        never (subst (LivesAfter c 0 C) (sym to) (inl lives, walk_outside walk.1)))
      where
        live : (t u v : ℕ) → v ≢ 0 → L t u ≡ v → IsLive c.rows v
        live t u v far e = subst (IsLive c.rows) e (rows_lead_to_live beta c.rows w t u (λ none. far (sym e ∙ none)))

    pub edge-bridged : NotNot ((N : Links) × IsBridged beta 1 C Step L N × AreLinksAfter c kept 0 C N)
    edge-bridged never = drawn_found c kept beta w C dart 1 within Step ends (λ found.
        let after = turned_found c kept 0 C found.0 found.2 (edge-one found.0 found.1) (edge-lands found.0 found.1) in
        never (
          after.0,
          record {
            gone = λ x t h. after.3.free t x (λ lives. lives.1 h);
            nothing = λ t. elim (same_or_not t 0) [
              | inl e ↦ rw e after.1.nothing
              | inr n ↦ after.2 t 0 (omega arith) ∙ found.1.nothing t
            ];
            kept = λ x t out other back. after.2 t x (omega arith) ∙ found.1.others x t out other back;
            lands = λ x z out walk. after.2 1 x (omega arith) ∙ found.1.lands x z out walk;
            turned = λ e. after.1;
          },
          after.3,
        ))

  -- without a vertex
  module _ (run-ends : (x : ℕ) → (C x → ⊥) → NotNot ((z : ℕ) × RunsTo L C x z))
      (run-one : (x y u v : ℕ) → (C x → ⊥) → (C y → ⊥) → RunsTo L C x u → RunsTo L C y v → L 1 u ≢ 0 → L 1 u ≡ L 1 v → x ≡ y) where
    record Smoothed (t x y : ℕ) : Type 0 where
      pub gone : C x → y ≡ 0
      pub nothing : x ≡ 0 → y ≡ 0
      pub lands : (z : ℕ) → (C x → ⊥) → RunsTo L C x z → y ≡ L t z

    -- a dart without links runs to itself
    lone-run : (x z : ℕ) → L 1 x ≡ 0 → RunsTo L C x z → z ≡ x
    lone-run x z none run = walk_one run (stop (λ h. dart (L 1 x) h none))

    smoothed-tells : TellsLinks c kept 0 C Smoothed
    smoothed-tells = record {
      some = λ t x l lives never. run-ends x lives.1 (λ run. never (
        L t run.0,
        record {
          gone = λ h. absurd (lives.1 h);
          nothing = λ none. ap (L t) (lone-run x run.0 (ap (L 1) none ∙ w.nil 1) run.1 ∙ none) ∙ w.nil t;
          lands = λ z out other. ap (L t) (walk_one run.1 other);
        },
      ));
      above = λ t x h. record { gone = λ g. refl; nothing = λ none. refl; lands = λ z out run. sym (high-free c kept t z h) };
      outside = λ t x dead. record {
        gone = λ g. refl;
        nothing = λ none. refl;
        lands = λ z out run. sym (ap (L t) (lone-run x z (lone c kept beta w C dart x dead out 1) run) ∙ lone c kept beta w C dart x dead out t);
      };
    }

    module _ (N : Links) (b : (t x : ℕ) → Smoothed t x (N t x)) where
      smoothed-one : (x y : ℕ) → N 1 x ≢ 0 → N 1 x ≡ N 1 y → x ≡ y
      smoothed-one x y some e = stable x y (λ differ.
          let out : C x → ⊥ = λ h. some ((b 1 x).gone h) in
          let out' : C y → ⊥ = λ h. some (e ∙ (b 1 y).gone h) in
          run-ends x out (λ run. run-ends y out' (λ run'.
          let to = (b 1 x).lands run.0 out run.1 in
          let to' = (b 1 y).lands run'.0 out' run'.1 in
          differ (run-one x y run.0 run'.0 out out' run.1 run'.1 (λ none. some (to ∙ none)) (sym to ∙ e ∙ to')))))

      smoothed-lands : (x : ℕ) → N 1 x ≢ 0 → NotNot (LivesAfter c 0 C (N 1 x))
      smoothed-lands x some never =
          let out : C x → ⊥ = λ h. some ((b 1 x).gone h) in
          run-ends x out (λ run.
          let to = (b 1 x).lands run.0 out run.1 in
          let lives = rows_lead_to_live beta c.rows w 1 run.0 (λ none. some (to ∙ none)) in
          never (subst (LivesAfter c 0 C) (sym to) (inl lives, walk_outside run.1)))

    pub vertex-smoothed : NotNot ((N : Links) × IsSmoothed C L N × AreLinksAfter c kept 0 C N)
    vertex-smoothed never = links_found c kept 0 C Smoothed smoothed-tells (λ found.
        let after = turned_found c kept 0 C found.0 found.2 (smoothed-one found.0 found.1) (smoothed-lands found.0 found.1) in
        never (
          after.0,
          record {
            gone = λ x t h. after.3.free t x (λ lives. lives.1 h);
            nothing = λ t. elim (same_or_not t 0) [
              | inl e ↦ rw e after.1.nothing
              | inr n ↦ after.2 t 0 (omega arith) ∙ (found.1 t 0).nothing refl
            ];
            lands = λ x y t out l run. after.2 t x l ∙ (found.1 t x).lands y out run;
            turned = after.1;
          },
          after.3,
        ))
