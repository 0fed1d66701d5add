-- The edit that hangs edges in a generalized map: it fits, hangs them, and keeps the laws.
use Rattle.std.proofs.Common.{ℕ, zero, suc, ◌≡◌, ◌+◌, ◌≤◌, ◌↔◌, List, length, Contains, refl, sym, subst, arith}
use Rattle.map_defs.specs.Kind.{alpha}
use Rattle.map_defs.specs.Links.{Links}
use Rattle.map_defs.specs.Laws.{Laws}
use Rattle.map_defs.specs.Rows.{Rows, links_of, IsSound}
use Rattle.map_defs.specs.Births.{IsNumbered}
use Rattle.map_defs.specs.Edits.{Change, after_edit}
use Rattle.map_defs.specs.Closing.{IsHung}
use Rattle.center_laws.proofs.Hung.{IsHangingSet, hanging_keeps}
use Rattle.cell_edit.specs.Stars.{Stars, star_of}
use Rattle.cell_edit.specs.Writing.{WritesEntries}
use Rattle.face_center.specs.declared.hanging.Hanging.{Hanging}
use Rattle.face_center.specs.Hanging.{tip_of, turning, CanHang}
use Rattle.face_center.specs.Planning.{PlansHanging}
use Rattle.cell_edit.proofs.EntryEdit.{growing, entries-fit}
use Rattle.face_center.proofs.Tips.{begins-number, ends-number}
use Rattle.face_center.proofs.HungFacts.{star-fresh, tip-fresh, star-tip}
use Rattle.face_center.proofs.HungLinks.{Entry, lives, inside, star-links, tip-links, first-links, kept-links}
use Rattle.face_center.proofs.SameSets.{numbered-same, fresh-same}

module _ (n : ℕ) (rows : Rows) (sound : IsSound alpha n rows) (dim : 2 ≤ n) (w : Laws alpha (links_of rows)) (h : Hanging) (stars : Stars) (can : CanHang alpha rows h stars)
    (P : ℕ → Type 0) (members : (x : ℕ) → Contains stars.keys x ↔ P x) (set : IsHangingSet (turning h) (links_of rows) P)
    (cs : List Change) (writes : WritesEntries (links_of rows) (Entry alpha n rows sound dim h stars can) cs) where
  abbrev L : Links
  L = links_of rows

  abbrev N : Links
  N = links_of (after_edit n (growing (length stars.keys + length stars.keys) cs) rows)

  hung : IsHung (turning h) P (star_of stars) (tip_of stars) L N
  hung = record {
    new = λ x p. first-links alpha n rows sound dim h stars can cs writes x ((members x).1 p);
    old = λ x p. star-links alpha n rows sound dim h stars can cs writes x 1 ((members x).1 p);
    ends = λ x p. star-links alpha n rows sound dim h stars can cs writes x 0 ((members x).1 p);
    begins = λ x p. tip-links alpha n rows sound dim h stars can cs writes x 0 ((members x).1 p);
    beyond = λ x p. star-links alpha n rows sound dim h stars can cs writes x 2 ((members x).1 p);
    beyond_tip = λ x p. tip-links alpha n rows sound dim h stars can cs writes x 2 ((members x).1 p);
    turns = λ x p. tip-links alpha n rows sound dim h stars can cs writes x 1 ((members x).1 p);
    along = λ x j p high. star_high x j ((members x).1 p) high;
    along_tip = λ x j p high. tip_high x j ((members x).1 p) high;
    kept = λ x t out new end. kept-links alpha n rows sound dim h stars can cs writes x t
        (λ u g is same. out (subst P (sym same) ((members u).0 g)) is) (λ b is g. absurd (cc (b)))
        (λ u g. new u ((members u).0 g)) (λ u g. end u ((members u).0 g));
  }
    where
      star_high : (x j : ℕ) → Contains stars.keys x → 3 ≤ j → N j (star_of stars x) ≡ star_of stars (L j x)
      star_high x zero has high = absurd (omega arith)
      star_high x (suc zero) has high = absurd (omega arith)
      star_high x (suc (suc zero)) has high = absurd (omega arith)
      star_high x (suc (suc (suc j))) has high = star-links alpha n rows sound dim h stars can cs writes x (suc (suc (suc j))) has

      tip_high : (x j : ℕ) → Contains stars.keys x → 3 ≤ j → N j (tip_of stars x) ≡ tip_of stars (L j x)
      tip_high x zero has high = absurd (omega arith)
      tip_high x (suc zero) has high = absurd (omega arith)
      tip_high x (suc (suc zero)) has high = absurd (omega arith)
      tip_high x (suc (suc (suc j))) has high = tip-links alpha n rows sound dim h stars can cs writes x (suc (suc (suc j))) has

  laws : Laws alpha N
  laws = hanging_keeps (turning h) L w P set (star_of stars) (tip_of stars)
      (fresh-same L (Contains stars.keys) P (star_of stars) members (star-fresh alpha rows h stars can))
      (fresh-same L (Contains stars.keys) P (tip_of stars) members (tip-fresh alpha rows h stars can))
      (λ x y p q. star-tip alpha rows h stars can x y ((members x).1 p) ((members y).1 q)) N hung

  pub alpha-hangs : PlansHanging alpha n rows P (λ star tip. IsHung (turning h) P star tip L) (growing (length stars.keys + length stars.keys) cs)
  alpha-hangs = record {
    deaths = refl;
    fits = entries-fit alpha n rows sound (length stars.keys + length stars.keys) (Entry alpha n rows sound dim h stars can) (lives alpha n rows sound dim h stars can) (inside alpha n rows sound dim h stars can) cs writes laws;
    keys = stars.keys;
    star = star_of stars;
    tip = tip_of stars;
    begins = subst (λ m. IsNumbered P stars.keys m (star_of stars)) can.made (numbered-same (Contains stars.keys) P stars.keys stars.made (star_of stars) members (begins-number stars can.pair));
    ends = subst (λ m. IsNumbered P stars.keys (m + length stars.keys) (tip_of stars)) can.made
        (numbered-same (Contains stars.keys) P stars.keys (stars.made + length stars.keys) (tip_of stars) members (ends-number stars can.pair));
    births = refl;
    becomes = hung;
    laws = laws;
  }
