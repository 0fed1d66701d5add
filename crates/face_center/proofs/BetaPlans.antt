-- The edits that hang edges in a combinatorial map: they fit, hang them, and keep the laws.
use Rattle.std.proofs.Common.{ℕ, zero, suc, ◌≡◌, ◌≢◌, ◌+◌, ◌≤◌, ◌↔◌, List, length, Contains, refl, sym, subst, arith}
use Rattle.map_defs.specs.Kind.{beta}
use Rattle.map_defs.specs.Links.{Links}
use Rattle.map_defs.specs.Laws.{Laws}
use Rattle.map_defs.specs.Rows.{Rows, links_of, IsSound}
use Rattle.map_defs.specs.Births.{IsNumbered, IsFresh}
use Rattle.map_defs.specs.Cells.{InCell}
use Rattle.map_defs.specs.Edits.{Change, after_edit}
use Rattle.map_defs.specs.Insertion.{InBetaCorner}
use Rattle.map_defs.specs.Closing.{IsBetaDangled, IsBetaCentred}
use Rattle.center_laws.proofs.BetaDangle.{dangle_keeps}
use Rattle.center_laws.proofs.BetaCentre.{centre_keeps}
use Rattle.cell_edit.specs.Stars.{Stars, star_of}
use Rattle.cell_edit.specs.Writing.{WritesEntries}
use Rattle.face_center.specs.declared.hanging.Hanging.{Hanging}
use Rattle.face_center.specs.declared.hanging.Hanging.TheVariants.{Corner, Face}
use Rattle.face_center.specs.Hanging.{tip_of, before, star_link, tip_link, CanHang}
use Rattle.face_center.specs.Planning.{PlansHanging}
use Rattle.cell_edit.proofs.EntryEdit.{growing, entries-fit}
use Rattle.face_center.proofs.Tips.{begins-number, ends-number}
use Rattle.face_center.proofs.HungFacts.{star-fresh, tip-fresh, star-tip}
use Rattle.face_center.proofs.HungLinks.{Entry, lives, inside, star-links, tip-links, first-links, kept-links}
use Rattle.face_center.proofs.BetaHung.{IsRound, hung-turned}
use Rattle.face_center.proofs.SameSets.{numbered-same, fresh-same}

module _ (n : ℕ) (rows : Rows) (sound : IsSound beta n rows) (dim : 2 ≤ n) (w : Laws beta (links_of rows)) (h : Hanging) (stars : Stars) (can : CanHang beta rows h stars)
    (P : ℕ → Type 0) (members : (x : ℕ) → Contains stars.keys x ↔ P x) (cs : List Change) (writes : WritesEntries (links_of rows) (Entry beta n rows sound dim h stars can) cs) where
  abbrev L : Links
  L = links_of rows

  abbrev N : Links
  N = links_of (after_edit n (growing (length stars.keys + length stars.keys) cs) rows)

  pub star-new : IsFresh L P (star_of stars)
  star-new = fresh-same L (Contains stars.keys) P (star_of stars) members (star-fresh beta rows h stars can)

  pub tip-new : IsFresh L P (tip_of stars)
  tip-new = fresh-same L (Contains stars.keys) P (tip_of stars) members (tip-fresh beta rows h stars can)

  pub two-new : (x y : ℕ) → P x → P y → star_of stars x ≢ tip_of stars y
  two-new x y p q = star-tip beta rows h stars can x y ((members x).1 p) ((members y).1 q)

  -- ---- the links of the new darts
  pub star-at : (x t : ℕ) → P x → N t (star_of stars x) ≡ star_link beta h L (star_of stars) (tip_of stars) x t
  star-at x t p = star-links beta n rows sound dim h stars can cs writes x t ((members x).1 p)

  pub tip-at : (x t : ℕ) → P x → N t (tip_of stars x) ≡ tip_link beta h L (star_of stars) (tip_of stars) x t
  tip-at x t p = tip-links beta n rows sound dim h stars can cs writes x t ((members x).1 p)

  pub star-along : (x j : ℕ) → P x → 3 ≤ j → N j (star_of stars x) ≡ tip_of stars (L j (before beta h L x))
  star-along x zero p high = absurd (omega arith)
  star-along x (suc zero) p high = absurd (omega arith)
  star-along x (suc (suc zero)) p high = absurd (omega arith)
  star-along x (suc (suc (suc j))) p high = star-at x (suc (suc (suc j))) p

  pub tip-along : (x j : ℕ) → P x → 3 ≤ j → N j (tip_of stars x) ≡ star_of stars (L j (before beta h L x))
  tip-along x zero p high = absurd (omega arith)
  tip-along x (suc zero) p high = absurd (omega arith)
  tip-along x (suc (suc zero)) p high = absurd (omega arith)
  tip-along x (suc (suc (suc j))) p high = tip-at x (suc (suc (suc j))) p

  pub first-at : (x : ℕ) → P x → N 1 (before beta h L x) ≡ star_of stars x
  first-at x p = first-links beta n rows sound dim h stars can cs writes x ((members x).1 p)

  pub kept-at : (z t : ℕ) → 1 ≤ t → ((x : ℕ) → P x → t ≡ 1 → z ≢ before beta h L x) → ((x : ℕ) → P x → z ≢ star_of stars x) → ((x : ℕ) → P x → z ≢ tip_of stars x)
      → N t z ≡ L t z
  kept-at z t low first new end = kept-links beta n rows sound dim h stars can cs writes z t
      (λ u g. first u ((members u).0 g)) (λ b is g. omega arith) (λ u g. new u ((members u).0 g)) (λ u g. end u ((members u).0 g))

  pub plans-of : (Becomes : (ℕ → ℕ) → (ℕ → ℕ) → Links → Type 0) → Becomes (star_of stars) (tip_of stars) N → Laws beta N
      → PlansHanging beta n rows P Becomes (growing (length stars.keys + length stars.keys) cs)
  plans-of Becomes becomes laws = record {
    deaths = refl;
    fits = entries-fit beta n rows sound (length stars.keys + length stars.keys) (Entry beta n rows sound dim h stars can) (lives beta n rows sound dim h stars can) (inside beta n rows sound dim h stars can) cs writes laws;
    keys = stars.keys;
    star = star_of stars;
    tip = tip_of stars;
    begins = subst (λ m. IsNumbered P stars.keys m (star_of stars)) can.made (numbered-same (Contains stars.keys) P stars.keys stars.made (star_of stars) members (begins-number stars can.pair));
    ends = subst (λ m. IsNumbered P stars.keys (m + length stars.keys) (tip_of stars)) can.made
        (numbered-same (Contains stars.keys) P stars.keys (stars.made + length stars.keys) (tip_of stars) members (ends-number stars can.pair));
    births = refl;
    becomes = becomes;
    laws = laws;
  }

-- a dangling edge at the corner of d
module _ (n : ℕ) (rows : Rows) (sound : IsSound beta n rows) (dim : 2 ≤ n) (w : Laws beta (links_of rows)) (d : ℕ) (linked : links_of rows 0 d ≢ 0) (stars : Stars) (can : CanHang beta rows Corner stars)
    (members : (x : ℕ) → Contains stars.keys x ↔ InBetaCorner (links_of rows) d x) (round : IsRound (links_of rows) Corner (Contains stars.keys))
    (cs : List Change) (writes : WritesEntries (links_of rows) (Entry beta n rows sound dim Corner stars can) cs) where
  abbrev P : ℕ → Type 0
  P = InBetaCorner (links_of rows) d

  abbrev After : Links
  After = links_of (after_edit n (growing (length stars.keys + length stars.keys) cs) rows)

  dangled : IsBetaDangled d (star_of stars) (tip_of stars) (links_of rows) After
  dangled = record {
    into = first-at n rows sound dim w Corner stars can P members cs writes;
    onward = λ x p. star-at n rows sound dim w Corner stars can P members cs writes x 1 p;
    out = λ x p. tip-at n rows sound dim w Corner stars can P members cs writes x 1 p;
    sides = λ x p. star-at n rows sound dim w Corner stars can P members cs writes x 2 p;
    sides_back = λ x p. tip-at n rows sound dim w Corner stars can P members cs writes x 2 p;
    along = star-along n rows sound dim w Corner stars can P members cs writes;
    along_tip = tip-along n rows sound dim w Corner stars can P members cs writes;
    kept = kept-at n rows sound dim w Corner stars can P members cs writes;
    turned = hung-turned n rows sound dim w Corner stars can round cs writes;
  }

  pub dangle-hangs : PlansHanging beta n rows P (λ star tip. IsBetaDangled d star tip (links_of rows)) (growing (length stars.keys + length stars.keys) cs)
  dangle-hangs = plans-of n rows sound dim w Corner stars can P members cs writes (λ star tip. IsBetaDangled d star tip (links_of rows)) dangled
      (dangle_keeps (links_of rows) w d linked (star_of stars) (tip_of stars) (star-new n rows sound dim w Corner stars can P members cs writes)
      (tip-new n rows sound dim w Corner stars can P members cs writes) (two-new n rows sound dim w Corner stars can P members cs writes) After dangled)

-- a vertex in the middle of the face of d
module _ (n : ℕ) (rows : Rows) (sound : IsSound beta n rows) (dim : 2 ≤ n) (w : Laws beta (links_of rows)) (d : ℕ) (dart : d ≢ 0) (stars : Stars) (can : CanHang beta rows Face stars)
    (members : (x : ℕ) → Contains stars.keys x ↔ InCell beta (links_of rows) 2 d x) (round : IsRound (links_of rows) Face (Contains stars.keys))
    (cs : List Change) (writes : WritesEntries (links_of rows) (Entry beta n rows sound dim Face stars can) cs) where
  abbrev Q : ℕ → Type 0
  Q = InCell beta (links_of rows) 2 d

  abbrev Behind : Links
  Behind = links_of (after_edit n (growing (length stars.keys + length stars.keys) cs) rows)

  centred : IsBetaCentred d (star_of stars) (tip_of stars) (links_of rows) Behind
  centred = record {
    into = first-at n rows sound dim w Face stars can Q members cs writes;
    onward = λ x p. star-at n rows sound dim w Face stars can Q members cs writes x 1 p;
    out = λ x p. tip-at n rows sound dim w Face stars can Q members cs writes x 1 p;
    sides = λ x p. star-at n rows sound dim w Face stars can Q members cs writes x 2 p;
    sides_back = λ x p. tip-at n rows sound dim w Face stars can Q members cs writes x 2 p;
    along = star-along n rows sound dim w Face stars can Q members cs writes;
    along_tip = tip-along n rows sound dim w Face stars can Q members cs writes;
    kept = λ z t low out. kept-at n rows sound dim w Face stars can Q members cs writes z t low (λ x p is same. out (subst Q (sym same) p) is);
    turned = hung-turned n rows sound dim w Face stars can round cs writes;
  }

  pub centre-hangs : PlansHanging beta n rows Q (λ star tip. IsBetaCentred d star tip (links_of rows)) (growing (length stars.keys + length stars.keys) cs)
  centre-hangs = plans-of n rows sound dim w Face stars can Q members cs writes (λ star tip. IsBetaCentred d star tip (links_of rows)) centred
      (centre_keeps (links_of rows) w d dart (star_of stars) (tip_of stars) (star-new n rows sound dim w Face stars can Q members cs writes)
      (tip-new n rows sound dim w Face stars can Q members cs writes) (two-new n rows sound dim w Face stars can Q members cs writes) Behind centred)
