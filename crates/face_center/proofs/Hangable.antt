-- Edges can be hung on the darts of a corner and of a face.
use Rattle.std.proofs.Common.{ℕ, zero, suc, ◌≡◌, ◌≢◌, ◌≤◌, ◌↔◌, List, Contains, refl, sym, ap, ◌∙◌, subst, inl, inr, arith}
use Rattle.std.specs.Prelude.{All}
use Rattle.std.specs.List.Sorted.{IsStrictlyIncreasing}
use Rattle.std.proofs.lemmas.List.Elements.{All-contains}
use Rattle.map_defs.specs.Kind.{Kind, alpha, beta}
use Rattle.map_defs.specs.Links.{Links}
use Rattle.map_defs.specs.Laws.{Laws}
use Rattle.map_defs.specs.LinkWords.{two_links, through, IsCellWord}
use Rattle.map_defs.specs.Cells.{here, onward, Leads, InCell}
use Rattle.map_defs.specs.Rows.{Rows, links_of, made, IsLive, IsSound}
use Rattle.map_defs.specs.Insertion.{IsLinkedBy, IsCarrying, InAlphaCorner, InBetaCorner, IsCornerWord}
use Rattle.link_laws.proofs.CellFacts.{beta_closed}
use Rattle.insert_laws.proofs.BetaEdge.{before_copy}
use Rattle.insert_laws.proofs.BetaParts.{alike_backward}
use Rattle.center_laws.proofs.Hung.{IsHangingSet}
use Rattle.cell_edit.specs.Stars.{Stars}
use Rattle.cell_edit.proofs.Premises.{orbit-live, linked-live, leads-live, live-dart, all-live, all-made}
use Rattle.cell_edit.proofs.StarNumbers.{few_keys}
use Rattle.face_center.specs.declared.hanging.Hanging.{Hanging}
use Rattle.face_center.specs.declared.hanging.Hanging.TheVariants.{Corner, Face}
use Rattle.face_center.specs.Hanging.{turning, beside, CanPair, CanHang}
use Rattle.face_center.proofs.BetaHung.{IsRound}

-- listed darts and their new darts, which are numbered on from those that were made
abbrev pub stars_of : Rows → List ℕ → Stars
stars_of rows keys = record { keys = keys; made = made rows }

pub can-pair : (k : Kind) (n : ℕ) (rows : Rows) → IsSound k n rows → (keys : List ℕ) → IsStrictlyIncreasing keys → All (λ (d : ℕ). IsLive rows d) keys → CanPair (stars_of rows keys)
can-pair k n rows sound keys rising live = record {
  few = sound.few;
  count = few_keys keys (made rows) rising (all-made k n rows sound keys live);
  rising = rising;
  darts = λ x has. live-dart k n rows sound x (All-contains (λ (d : ℕ). IsLive rows d) keys x live has);
}

-- ---- in a generalized map
alpha-closed : (h : Hanging) (L : Links) (P : ℕ → Type 0) → IsHangingSet (turning h) L P → (x s t : ℕ) → P x → beside alpha h L s x t ≢ 0 → P (beside alpha h L s x t)
alpha-closed h L P set x s zero p some = p
alpha-closed h L P set x s (suc zero) p some = set.on x (turning h) p (inr (inr refl)) some
alpha-closed h L P set x s (suc (suc zero)) p some = set.on x 1 p (inl refl) some
alpha-closed h L P set x s (suc (suc (suc t))) p some = set.on x (suc (suc (suc t))) p (inr (inl (omega arith))) some

pub alpha-can : (h : Hanging) (n : ℕ) (rows : Rows) → IsSound alpha n rows → (P : ℕ → Type 0) → ((x : ℕ) → P x → IsLive rows x) → IsHangingSet (turning h) (links_of rows) P
    → (keys : List ℕ) → ((x : ℕ) → Contains keys x ↔ P x) → IsStrictlyIncreasing keys → CanHang alpha rows h (stars_of rows keys)
alpha-can h n rows sound P lives set keys members rising = record {
  pair = can-pair alpha n rows sound keys rising (all-live rows P keys members lives);
  made = refl;
  live = all-live rows P keys members lives;
  begins = λ x has. lives x ((members x).0 has);
  closed = λ x s t has low some. (members _).1 (alpha-closed h (links_of rows) P set x s t ((members x).0 has) some);
}

pub alpha-corner-live : (n : ℕ) (rows : Rows) → IsSound alpha n rows → (d : ℕ) → IsLive rows d → (x : ℕ) → InAlphaCorner (links_of rows) d x → IsLive rows x
alpha-corner-live n rows sound d live x o = orbit-live (IsLinkedBy (links_of rows) (IsCarrying alpha 1)) rows (linked-live alpha n rows sound (IsCarrying alpha 1)) d x live o

pub cell-live : (k : Kind) (n : ℕ) (rows : Rows) → IsSound k n rows → (d : ℕ) → IsLive rows d → (x : ℕ) → InCell k (links_of rows) 2 d x → IsLive rows x
cell-live k n rows sound d live x o = orbit-live (Leads (links_of rows) (IsCellWord k 2)) rows (leads-live k n rows sound (IsCellWord k 2)) d x live o

pub beta-corner-live : (n : ℕ) (rows : Rows) → IsSound beta n rows → (d : ℕ) → IsLive rows d → (x : ℕ) → InBetaCorner (links_of rows) d x → IsLive rows x
beta-corner-live n rows sound d live x o = orbit-live (Leads (links_of rows) IsCornerWord) rows (leads-live beta n rows sound IsCornerWord) d x live o

-- ---- at a corner of a combinatorial map
-- a side leads into each copy of a corner into which one leads
pub corner-begins : (L : Links) → Laws beta L → (d : ℕ) → L 0 d ≢ 0 → (x : ℕ) → InBetaCorner L d x → L 0 x ≢ 0
corner-begins L w d linked x here = linked
corner-begins L w d linked x (onward {x = u} {y = v} o (word, (j, l, e), q, n)) =
    let a : L j (L 0 u) ≡ v = ap (λ t. through L t u) (sym e) ∙ q in
    let h : L 0 u ≢ 0 = corner-begins L w d linked u o in
    let b : L 0 v ≡ L j u = ap (L 0) (sym a) ∙ before_copy L w j u l h in
    λ z. n (sym a ∙ (alike_backward L w j u l h).0 (sym b ∙ z))

corner-closed : (L : Links) (d x s t : ℕ) → InBetaCorner L d x → beside beta Corner L s x t ≢ 0 → InBetaCorner L d (beside beta Corner L s x t)
corner-closed L d x s zero p some = p
corner-closed L d x s (suc zero) p some = p
corner-closed L d x s (suc (suc zero)) p some = p
corner-closed L d x s (suc (suc (suc t))) p some = onward p (two_links 0 (suc (suc (suc t))), (suc (suc (suc t)), omega arith, refl), refl, some)

module _ (n : ℕ) (rows : Rows) (sound : IsSound beta n rows) (w : Laws beta (links_of rows)) (d : ℕ) (live : IsLive rows d) (keys : List ℕ) (rising : IsStrictlyIncreasing keys) where
  pub corner-can : links_of rows 0 d ≢ 0 → ((x : ℕ) → Contains keys x ↔ InBetaCorner (links_of rows) d x) → CanHang beta rows Corner (stars_of rows keys)
  corner-can linked members = record {
    pair = can-pair beta n rows sound keys rising (all-live rows (InBetaCorner (links_of rows) d) keys members (beta-corner-live n rows sound d live));
    made = refl;
    live = all-live rows (InBetaCorner (links_of rows) d) keys members (beta-corner-live n rows sound d live);
    begins = λ x has. sound.live 0 x (corner-begins (links_of rows) w d linked x ((members x).0 has));
    closed = λ x s t has low some. (members _).1 (corner-closed (links_of rows) d x s t ((members x).0 has) some);
  }

  pub corner-round : links_of rows 0 d ≢ 0 → ((x : ℕ) → Contains keys x ↔ InBetaCorner (links_of rows) d x) → IsRound (links_of rows) Corner (Contains keys)
  corner-round linked members = record {
    led = λ y has some. (y, has, refl);
    leads = λ u has some. subst (Contains keys) (sym (w.back 0 u (corner-begins (links_of rows) w d linked u ((members u).0 has)))) has;
  }

  -- ---- on a face of a combinatorial map
  pub face-can : ((x : ℕ) → Contains keys x ↔ InCell beta (links_of rows) 2 d x) → CanHang beta rows Face (stars_of rows keys)
  face-can members = record {
    pair = can-pair beta n rows sound keys rising (all-live rows (InCell beta (links_of rows) 2 d) keys members (cell-live beta n rows sound d live));
    made = refl;
    live = all-live rows (InCell beta (links_of rows) 2 d) keys members (cell-live beta n rows sound d live);
    begins = λ x has. cell-live beta n rows sound d live x ((members x).0 has);
    closed = λ x s t has low some. (members _).1 (closed x s t ((members x).0 has) low some);
  }
    where
      closed : (x s t : ℕ) → InCell beta (links_of rows) 2 d x → s ≤ 1 → beside beta Face (links_of rows) s x t ≢ 0 → InCell beta (links_of rows) 2 d (beside beta Face (links_of rows) s x t)
      closed x s zero p low some = p
      closed x s (suc zero) p low some = p
      closed x s (suc (suc zero)) p low some = beta_closed (links_of rows) 0 s d x (λ e. omega arith) p some
      closed x s (suc (suc (suc t))) p low some = beta_closed (links_of rows) 0 (suc (suc (suc t))) d x (λ e. omega arith) p some

  pub face-round : ((x : ℕ) → Contains keys x ↔ InCell beta (links_of rows) 2 d x) → IsRound (links_of rows) Face (Contains keys)
  face-round members = record {
    led = λ y has some. (links_of rows 0 y, (members _).1 (beta_closed (links_of rows) 0 0 d y (λ e. omega arith) ((members y).0 has) some), refl);
    leads = λ u has some. (members _).1 (beta_closed (links_of rows) 0 1 d u (λ e. omega arith) ((members u).0 has) some);
  }
