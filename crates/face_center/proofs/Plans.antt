-- The plans of a dangling edge and of a centre, by the lists of their darts.
use Rattle.std.proofs.Common.{ℕ, ◌≡◌, ◌≢◌, ◌+◌, ◌≤◌, ◌↔◌, List, [], length, Contains, subst}
use Rattle.std.specs.List.Sorted.{IsStrictlyIncreasing}
use Rattle.map_defs.specs.Kind.{Kind, alpha, beta}
use Rattle.map_defs.specs.Links.{Links}
use Rattle.map_defs.specs.Laws.{Laws}
use Rattle.map_defs.specs.Cells.{InCell}
use Rattle.map_defs.specs.Rows.{Rows, links_of, IsLive, IsSound}
use Rattle.map_defs.specs.Edits.{Edit}
use Rattle.map_defs.specs.Insertion.{InAlphaCorner, InBetaCorner}
use Rattle.center_laws.proofs.HangingSets.{corner_hangs, face_hangs}
use Rattle.cell_edit.proofs.Premises.{live-dart}
use Rattle.face_center.specs.declared.hanging.Hanging.TheVariants.{Corner, Face}
use Rattle.face_center.specs.Hanging.{CanHang, HangsEdges}
use Rattle.map_defs.specs.Closing.{IsDangled, IsCentred}
use Rattle.face_center.specs.Planning.{PlansHanging}
use Rattle.cell_edit.proofs.EntryEdit.{growing}
use Rattle.face_center.proofs.AlphaHung.{alpha-hangs}
use Rattle.face_center.proofs.BetaPlans.{dangle-hangs, centre-hangs}
use Rattle.face_center.proofs.Hangable.{stars_of, alpha-can, alpha-corner-live, cell-live, corner-can, corner-round, face-can, face-round}

-- an edit of births and changes alone
growing-is : (e : Edit) (births : ℕ) → e.births ≡ births → e.deaths ≡ [] → growing births e.changes ≡ e
growing-is e births is none =
    let f : ℕ → List ℕ → Edit = λ b ds. record { births = b; deaths = ds; changes = e.changes } in
    let same : f births [] ≡ f e.births e.deaths = cc in same

pub plans-growing : (k : Kind) (n : ℕ) (rows : Rows) (P : ℕ → Type 0) (Becomes : (ℕ → ℕ) → (ℕ → ℕ) → Links → Type 0) (e : Edit) (births : ℕ) → e.births ≡ births → e.deaths ≡ []
    → PlansHanging k n rows P Becomes (growing births e.changes) → PlansHanging k n rows P Becomes e
plans-growing k n rows P Becomes e births is none plans = subst (PlansHanging k n rows P Becomes) (growing-is e births is none) plans

module _ (n : ℕ) (rows : Rows) (d : ℕ) (live : IsLive rows d) (keys : List ℕ) (rising : IsStrictlyIncreasing keys) where
  pub alpha-dangle-can : IsSound alpha n rows → ((x : ℕ) → Contains keys x ↔ InAlphaCorner (links_of rows) d x) → CanHang alpha rows Corner (stars_of rows keys)
  alpha-dangle-can sound members =
      alpha-can Corner n rows sound (InAlphaCorner (links_of rows) d) (alpha-corner-live n rows sound d live) (corner_hangs (links_of rows) d (live-dart alpha n rows sound d live)) keys members rising

  pub centre-can : (k : Kind) → IsSound k n rows → Laws k (links_of rows) → ((x : ℕ) → Contains keys x ↔ InCell k (links_of rows) 2 d x) → CanHang k rows Face (stars_of rows keys)
  centre-can alpha sound w members =
      alpha-can Face n rows sound (InCell alpha (links_of rows) 2 d) (cell-live alpha n rows sound d live) (face_hangs (links_of rows) d (live-dart alpha n rows sound d live)) keys members rising
  centre-can beta sound w members = face-can n rows sound w d live keys rising members

module _ (n : ℕ) (rows : Rows) (d : ℕ) (live : IsLive rows d) (dim : 2 ≤ n) (keys : List ℕ) (rising : IsStrictlyIncreasing keys) (e : Edit) where
  -- ---- in a generalized map
  pub alpha-dangles : (sound : IsSound alpha n rows) → Laws alpha (links_of rows) → (members : (x : ℕ) → Contains keys x ↔ InAlphaCorner (links_of rows) d x)
      → HangsEdges alpha n rows Corner (stars_of rows keys) e
      → PlansHanging alpha n rows (InAlphaCorner (links_of rows) d) (λ star tip. IsDangled alpha d star tip (links_of rows)) e
  alpha-dangles sound w members done =
      plans-growing alpha n rows (InAlphaCorner (links_of rows) d) (λ star tip. IsDangled alpha d star tip (links_of rows)) e (length keys + length keys) done.births done.deaths
      (alpha-hangs n rows sound dim w Corner (stars_of rows keys) (alpha-dangle-can n rows d live keys rising sound members) (InAlphaCorner (links_of rows) d) members
      (corner_hangs (links_of rows) d (live-dart alpha n rows sound d live)) e.changes done.writes)

  -- ---- in a combinatorial map
  pub beta-dangles : (sound : IsSound beta n rows) (w : Laws beta (links_of rows)) (linked : links_of rows 0 d ≢ 0) (members : (x : ℕ) → Contains keys x ↔ InBetaCorner (links_of rows) d x)
      → HangsEdges beta n rows Corner (stars_of rows keys) e
      → PlansHanging beta n rows (InBetaCorner (links_of rows) d) (λ star tip. IsDangled beta d star tip (links_of rows)) e
  beta-dangles sound w linked members done =
      plans-growing beta n rows (InBetaCorner (links_of rows) d) (λ star tip. IsDangled beta d star tip (links_of rows)) e (length keys + length keys) done.births done.deaths
      (dangle-hangs n rows sound dim w d linked (stars_of rows keys) (corner-can n rows sound w d live keys rising linked members) members
      (corner-round n rows sound w d live keys rising linked members) e.changes done.writes)

  -- ---- in either kind
  pub centre-plans : (k : Kind) → IsSound k n rows → Laws k (links_of rows) → ((x : ℕ) → Contains keys x ↔ InCell k (links_of rows) 2 d x)
      → HangsEdges k n rows Face (stars_of rows keys) e
      → PlansHanging k n rows (InCell k (links_of rows) 2 d) (λ star tip. IsCentred k d star tip (links_of rows)) e
  centre-plans alpha sound w members done =
      plans-growing alpha n rows (InCell alpha (links_of rows) 2 d) (λ star tip. IsCentred alpha d star tip (links_of rows)) e (length keys + length keys) done.births done.deaths
      (alpha-hangs n rows sound dim w Face (stars_of rows keys) (centre-can n rows d live keys rising alpha sound w members) (InCell alpha (links_of rows) 2 d) members
      (face_hangs (links_of rows) d (live-dart alpha n rows sound d live)) e.changes done.writes)
  centre-plans beta sound w members done =
      plans-growing beta n rows (InCell beta (links_of rows) 2 d) (λ star tip. IsCentred beta d star tip (links_of rows)) e (length keys + length keys) done.births done.deaths
      (centre-hangs n rows sound dim w d (live-dart beta n rows sound d live) (stars_of rows keys) (face-can n rows sound w d live keys rising members) members
      (face-round n rows sound w d live keys rising members) e.changes done.writes)
