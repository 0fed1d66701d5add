-- The pairs of an edge at link 0 tell its corners, and the corners to which these turn.
use Rattle.std.proofs.Common.{ℕ, ◌≡◌, ◌≢◌, ◌≤◌, ◌↔◌, List, Contains, sym, ap, ◌∙◌, subst, inl, inr, arith}
use Rattle.std.specs.Prelude.{All}
use Rattle.std.specs.List.Sorted.{IsStrictlyIncreasing}
use Rattle.map_defs.specs.Kind.{beta, inverse, IsDistant}
use Rattle.map_defs.specs.Links.{Links}
use Rattle.map_defs.specs.Laws.{Laws}
use Rattle.map_defs.specs.Rows.{Rows, links_of, made, IsLive}
use Rattle.map_defs.specs.Pairs.{seed, turned, across}
use Rattle.map_defs.specs.Insertion.{InBetaCorner, BetaEdgePairs, BetaEdgeLeads, AreBetaEdgePaired}
use Rattle.link_laws.proofs.Basics.{inverse_own, inverse_twice, distant_one, IsDistant-turned, IsDistant-inverse_right}
use Rattle.link_laws.proofs.LawFacts.{dart_of_link, alike}
use Rattle.link_laws.proofs.RowFacts.{linked_live}
use Rattle.insert_laws.proofs.BetaEdge.{IsTurning, IsCorner}
use Rattle.insert_laws.proofs.BetaEdgePairs.{edge_turning}
use Rattle.sewing.specs.Triples.{Triple, Lists, IsAscending}
use Rattle.cell_edit.proofs.Premises.{all-live}
use Rattle.cell_edit.specs.Writing.{IsCornerOf}
use Rattle.beta_edit.specs.Cutting.{IsTurn, AreTurns}

-- both darts of a pair at link t are linked: the first by it, the other by its inverse
record IsLinkedPair (L : Links) (x y t : ℕ) : Type 0 where
  pub far : (j : ℕ) → 3 ≤ j → IsDistant beta j t
  pub first : L t x ≢ 0
  pub other : L (inverse beta t) y ≢ 0

far_one : (j t : ℕ) → t ≡ 1 → 3 ≤ j → IsDistant beta j t
far_one j t is l = subst (IsDistant beta j) (sym is) (IsDistant-turned beta 1 j (distant_one j l))

module _ (L : Links) (w : Laws beta L) (d e : ℕ) (can : AreBetaEdgePaired L d e) where
  linked_seed : (x y z t : ℕ) → L 0 x ≢ 0 → L 0 y ≢ 0 → z ≡ L 0 x → t ≡ 1 → IsLinkedPair L z y t
  linked_seed x y z t begins ends is at =
      let back : L 1 (L 0 x) ≡ x = w.back 0 x begins in record {
        far = λ j l. far_one j t at l;
        first = λ o. dart_of_link beta L w 0 x begins (sym back ∙ ap (L 1) (sym is) ∙ ap (λ i. L i z) (sym at) ∙ o);
        other = λ o. ends (ap (λ i. L (inverse beta i) y) (sym at) ∙ o);
      }

  linked_pair : (x y t : ℕ) → BetaEdgePairs L d e x y t → IsLinkedPair L x y t
  linked_pair x y t (seed (inl (a, b, c))) = subst (λ v. IsLinkedPair L x v t) (sym b) (linked_seed d e x t can.near can.far a c)
  linked_pair x y t (seed (inr (a, b, c))) = subst (λ v. IsLinkedPair L x v t) (sym b) (linked_seed e d x t can.far can.near a c)
  linked_pair x y t (turned {x = u} {y = v} {t = i} p) = let h = linked_pair u v i p in record {
    far = λ j l. IsDistant-inverse_right beta j i (h.far j l);
    first = h.other;
    other = λ o. h.first (ap (λ s. L s u) (sym (inverse_twice beta i)) ∙ o);
  }
  linked_pair x y t (across {x = u} {y = v} {t = i} j l p hu hv) =
      let h = linked_pair u v i p in
      let own : inverse beta j ≡ j = inverse_own beta j (omega arith) in
      let turned_far : IsDistant beta (inverse beta j) (inverse beta i) = subst (λ s. IsDistant beta s (inverse beta i)) (sym own) (IsDistant-inverse_right beta j i (h.far j l)) in record {
        far = λ s m. IsDistant-inverse_right beta s i (h.far s m);
        first = λ o. h.first ((alike beta L w j i u (h.far j l) hu).1 o);
        other = λ o. h.other ((alike beta L w (inverse beta j) (inverse beta i) v turned_far hv).1 o);
      }

  module _ (apart : InBetaCorner L d e → ⊥) (pairs : List Triple) (same : (x y t : ℕ) → Lists pairs x y t ↔ BetaEdgePairs L d e x y t) where
    turning : IsTurning L (BetaEdgeLeads L d e)
    turning = edge_turning L w d e can apart

    -- z leads on to the other corner
    pub pair-ends : (x z : ℕ) → Lists pairs x z 0 → L 1 z ≢ 0
    pair-ends x z has = (linked_pair x z 0 ((same x z 0).0 has)).other

    pub pair-leads : (x z : ℕ) → Lists pairs x z 0 → BetaEdgeLeads L d e x (L 1 z)
    pair-leads x z has =
        let on : L 1 z ≢ 0 = pair-ends x z has in
        let back : L 0 (L 1 z) ≡ z = w.back 1 z on in
        turning.both (L 1 z) x ((λ o. dart_of_link beta L w 1 z on (sym back ∙ o)), subst (λ v. BetaEdgePairs L d e v x 1) (sym back) (turned ((same x z 0).0 has)))

    pub leads-pair : (x y : ℕ) → BetaEdgeLeads L d e x y → Lists pairs x (L 0 y) 0
    leads-pair x y p = (same x (L 0 y) 0).1 (turned (turning.both x y p).1)

    pub corner-members : (keys : List ℕ) → ((x : ℕ) → Contains keys x ↔ IsCornerOf pairs x) → (x : ℕ) → Contains keys x ↔ IsCorner (BetaEdgeLeads L d e) x
    corner-members keys members x = (
      λ has. let c = (members x).0 has in (L 1 c.0, pair-leads x c.0 c.1),
      λ c. (members x).1 (L 0 c.0, leads-pair x c.0 c.1),
    )

    pub pair-turn : (keys : List ℕ) → ((x : ℕ) → Contains keys x ↔ IsCornerOf pairs x) → (x z : ℕ) → Lists pairs x z 0 → IsTurn L keys x z
    pair-turn keys members x z has =
        let p : BetaEdgeLeads L d e x (L 1 z) = pair-leads x z has in
        let r : BetaEdgeLeads L d e (L 1 z) x = turning.both x (L 1 z) p in
        let back : L 0 (L 1 z) ≡ z = w.back 1 z (pair-ends x z has) in record {
          corner = (members x).1 (z, has);
          begins = turning.begins x (L 1 z) p;
          ends = pair-ends x z has;
          other = (corner-members keys members (L 1 z)).1 (x, r);
          copies = λ j l some. subst (λ v. Contains keys (L j v)) back
              ((corner-members keys members (L j (L 0 (L 1 z)))).1 (L j (L 0 x), turning.across (L 1 z) x j r l (λ o. some (ap (L j) (sym back) ∙ o))));
        }

    pub pair-one : (x u z : ℕ) → Lists pairs x z 0 → Lists pairs u z 0 → x ≡ u
    pair-one x u z has had = can.good.one z x u 1 (turned ((same x z 0).0 has)) (turned ((same u z 0).0 had))

-- the corners and the pairs are ready for the changes
module _ (rows : Rows) (w : Laws beta (links_of rows)) (d e : ℕ) (can : AreBetaEdgePaired (links_of rows) d e) (apart : InBetaCorner (links_of rows) d e → ⊥)
    (pairs : List Triple) (same : (x y t : ℕ) → Lists pairs x y t ↔ BetaEdgePairs (links_of rows) d e x y t) (keys : List ℕ) (members : (x : ℕ) → Contains keys x ↔ IsCornerOf pairs x) where
  pub corners-live : All (λ (x : ℕ). IsLive rows x) keys
  corners-live =
      all-live rows (IsCorner (BetaEdgeLeads (links_of rows) d e)) keys (corner-members (links_of rows) w d e can apart pairs same keys members)
      (λ x c. linked_live rows 0 x c.1.0)

  pub edge-turns : (count : ℕ) → count ≡ made rows → IsStrictlyIncreasing keys → IsAscending pairs → AreTurns rows (record { keys = keys; made = count }) pairs
  edge-turns count is rising ascending = record {
    grow = record { made = is; live = corners-live; rising = rising };
    ascending = ascending;
    corners = members;
    turn = pair-turn (links_of rows) w d e can apart pairs same keys members;
    one = pair-one (links_of rows) w d e can apart pairs same;
  }
