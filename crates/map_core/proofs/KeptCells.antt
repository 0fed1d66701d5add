-- Which cells the plans of insertions keep, and which new darts lie in none of these.
use Rattle.std.proofs.Common.{ℕ, ◌≡◌, ◌+◌, ◌<◌, ◌≤◌, length, List, Ok, sym, ap, subst, ◌∙◌, is_some, arith}
use Rattle.std.proofs.lemmas.Bool.{false≢true}
use Rattle.map_defs.specs.Kind.{Kind, alpha, beta}
use Rattle.map_defs.specs.Laws.{Laws}
use Rattle.map_defs.specs.Births.{IsCounted, IsNumbered}
use Rattle.map_defs.specs.Cells.{InCell}
use Rattle.map_defs.specs.Insertion.{InAlphaCorner, InBetaCorner}
use Rattle.map_defs.specs.Rows.{Rows, IsLive, IsSound, links_of, made}
use Rattle.map_defs.specs.Edits.{Edit, after_edit}
use Rattle.link_laws.proofs.RowFacts.{rows_lead_to_live}
use Rattle.machine_laws.proofs.Grown.{counted-live}
use Rattle.cell_edit.specs.Planning.{PlansVertex, PlansEdge}
use Rattle.face_center.specs.Planning.{PlansDangling, PlansCentre}
use Rattle.map_close.specs.Planning.{PlansClosing}
use Rattle.edit_laws.proofs.EditSound.{length-after}
use Rattle.edit_laws.proofs.RowWrites.{live-within}
use Rattle.insert_laws.proofs.Fresh.{IsNew}
use Rattle.insert_laws.proofs.Numbers.{numbered_all}
use Rattle.kept_laws.specs.Keeping.{KeepsCells, LieAside}
use Rattle.valued_map.specs.declared.kept.Kept.{Kept}
use Rattle.valued_map.specs.Keeping.{IsKept, IsOfLast, KeepsThose}
use Rattle.kept_laws.proofs.AlphaInserted.{alpha-vertex-keeps, alpha-edge-keeps}
use Rattle.kept_laws.proofs.AlphaHung.{alpha-dangle-keeps, alpha-centre-keeps}
use Rattle.kept_laws.proofs.AlphaClosed.{alpha-closing-keeps}
use Rattle.kept_laws.proofs.BetaVertex.{beta-vertex-keeps-faces}
use Rattle.kept_laws.proofs.BetaEdge.{beta-edge-keeps}
use Rattle.kept_laws.proofs.BetaDangled.{beta-dangle-keeps}
use Rattle.kept_laws.proofs.BetaCentred.{beta-centre-keeps}
use Rattle.kept_laws.proofs.BetaClosed.{beta-closing-keeps}
use Rattle.map_core.specs.Numbers.{IsKeptByClosing}

-- an edit of rows keeps the i-cells
abbrev pub Keeps : Kind → ℕ → Rows → Edit → ℕ → Type 0
Keeps k n rows e i = KeepsCells k i (IsLive rows) (links_of rows) (links_of (after_edit n e rows))

counted : (k : Kind) (n : ℕ) (rows : Rows) → IsSound k n rows → IsCounted (made rows) (IsLive rows)
counted k n rows sound = counted-live rows (λ live. false≢true (sym (ap is_some sound.nothing) ∙ live))

begun : (rows : Rows) (d : ℕ) → IsLive rows d → 0 < length rows
begun rows d live = let at = live-within rows d live in omega arith

-- where no dart is said to lie aside, those are kept whose cells are
pub keeps-alone : (k : Kind) (kept : Kept) (old new : Rows) → kept.aside ≡ 0 → ((i : ℕ) → IsKept kept i → KeepsCells k i (IsLive old) (links_of old) (links_of new)) → KeepsThose k kept old new
keeps-alone k kept old new none cells = record { cells = cells; aside = λ i among x y (above, low) _ _. omega (arith, none, above, low) }

-- What an edit keeps that hangs edges: the vertices, and no dart from before lies at one of the new ends, which are the later half
-- of the new darts.
hung-keeps : (k : Kind) (n : ℕ) (rows : Rows) (e : Edit) (kept : Kept) (K : ℕ → Type 0) (keys : List ℕ) (tip : ℕ → ℕ) → 0 < length rows
    → IsNumbered K keys (made rows + length keys) tip → e.births ≡ length keys + length keys
    → ((i : ℕ) → IsKept kept i → i ≡ 0) → kept.aside + kept.aside ≤ e.births
    → Keeps k n rows e 0 × LieAside k 0 (IsNew K tip) (λ x. x ≤ made rows) (links_of (after_edit n e rows)) → KeepsThose k kept rows (after_edit n e rows)
hung-keeps k n rows e kept K keys tip some tips births among few (keeps, aside) = record {
  cells = λ i is. subst (Keeps k n rows e) (sym (among i is)) keeps;
  aside = λ i is. subst (λ (j : ℕ). LieAside k j (IsOfLast kept.aside (after_edit n e rows)) (λ x. x ≤ made rows) (links_of (after_edit n e rows))) (sym (among i is))
      (λ x y (above, low) old cell. aside x y
      (numbered_all K keys (made rows + length keys) tip tips x (omega (arith, above, grown, births, few, some)) (omega (arith, low, grown, births, some))) old cell);
}
  where
    grown : length (after_edit n e rows) ≡ length rows + e.births
    grown = length-after n e rows

-- a vertex on an edge keeps the faces and all cells above
pub vertex-keeps : (k : Kind) (n : ℕ) (rows : Rows) → IsSound k n rows → Laws k (links_of rows) → (d : ℕ) → IsLive rows d → (e : Edit)
    → PlansVertex k n rows d e → (i : ℕ) → 2 ≤ i → Keeps k n rows e i
vertex-keeps alpha n rows sound w d live e plan i high =
    alpha-vertex-keeps (IsLive rows) (made rows) plan.keys plan.star (links_of rows) (links_of (after_edit n e rows)) w (counted alpha n rows sound) (rows_lead_to_live alpha rows w)
    d live plan.numbered plan.becomes i high
vertex-keeps beta n rows sound w d live e plan i high =
    beta-vertex-keeps-faces (IsLive rows) (made rows) plan.keys plan.star (links_of rows) (links_of (after_edit n e rows)) w (counted beta n rows sound) (rows_lead_to_live beta rows w)
    d live plan.numbered plan.becomes i high

-- an edge keeps the vertices
pub edge-keeps : (k : Kind) (n : ℕ) (rows : Rows) → IsSound k n rows → Laws k (links_of rows) → (c d : ℕ) → IsLive rows c → IsLive rows d → (e : Edit)
    → PlansEdge k n rows c d (Ok e) → Keeps k n rows e 0
edge-keeps alpha n rows sound w c d one other e (side, apart, paired, plan) =
    alpha-edge-keeps (IsLive rows) (made rows) plan.keys plan.star (links_of rows) (links_of (after_edit n e rows)) w (counted alpha n rows sound) (rows_lead_to_live alpha rows w)
    c d one other plan.numbered plan.becomes
edge-keeps beta n rows sound w c d one other e (side, apart, paired, plan) =
    beta-edge-keeps (IsLive rows) (made rows) plan.keys plan.star (links_of rows) (links_of (after_edit n e rows)) w (counted beta n rows sound) (rows_lead_to_live beta rows w)
    c d one other apart paired plan.numbered plan.becomes

-- a dangling edge keeps the vertices
pub dangle-keeps : (k : Kind) (n : ℕ) (rows : Rows) → IsSound k n rows → Laws k (links_of rows) → (d : ℕ) → IsLive rows d → (e : Edit)
    → PlansDangling k n rows d (Ok e) → (kept : Kept) → ((i : ℕ) → IsKept kept i → i ≡ 0) → kept.aside + kept.aside ≤ e.births → KeepsThose k kept rows (after_edit n e rows)
dangle-keeps alpha n rows sound w d live e (can, plan) kept among few =
    hung-keeps alpha n rows e kept (InAlphaCorner (links_of rows) d) plan.keys plan.tip (begun rows d live) plan.ends plan.births among few
    (alpha-dangle-keeps (IsLive rows) (made rows) plan.keys plan.star plan.tip (links_of rows) (links_of (after_edit n e rows)) w (counted alpha n rows sound) (rows_lead_to_live alpha rows w)
    d live plan.begins plan.ends plan.becomes)
dangle-keeps beta n rows sound w d live e (can, plan) kept among few =
    hung-keeps beta n rows e kept (InBetaCorner (links_of rows) d) plan.keys plan.tip (begun rows d live) plan.ends plan.births among few
    (beta-dangle-keeps (IsLive rows) (made rows) plan.keys plan.star plan.tip (links_of rows) (links_of (after_edit n e rows)) w (counted beta n rows sound) (rows_lead_to_live beta rows w)
    d live can plan.begins plan.ends plan.becomes)

-- so does a vertex in the middle of a face
pub centre-keeps : (k : Kind) (n : ℕ) (rows : Rows) → IsSound k n rows → Laws k (links_of rows) → (d : ℕ) → IsLive rows d → (e : Edit)
    → PlansCentre k n rows d (Ok e) → (kept : Kept) → ((i : ℕ) → IsKept kept i → i ≡ 0) → kept.aside + kept.aside ≤ e.births → KeepsThose k kept rows (after_edit n e rows)
centre-keeps alpha n rows sound w d live e (closed, plan) kept among few =
    hung-keeps alpha n rows e kept (InCell alpha (links_of rows) 2 d) plan.keys plan.tip (begun rows d live) plan.ends plan.births among few
    (alpha-centre-keeps (IsLive rows) (made rows) plan.keys plan.star plan.tip (links_of rows) (links_of (after_edit n e rows)) w (counted alpha n rows sound) (rows_lead_to_live alpha rows w)
    d live plan.begins plan.ends plan.becomes)
centre-keeps beta n rows sound w d live e (closed, plan) kept among few =
    hung-keeps beta n rows e kept (InCell beta (links_of rows) 2 d) plan.keys plan.tip (begun rows d live) plan.ends plan.births among few
    (beta-centre-keeps (IsLive rows) (made rows) plan.keys plan.star plan.tip (links_of rows) (links_of (after_edit n e rows)) w (counted beta n rows sound) (rows_lead_to_live beta rows w)
    d live closed plan.begins plan.ends plan.becomes)

-- closing keeps the cells that it is said to keep
pub closing-keeps : (k : Kind) (n : ℕ) (rows : Rows) → IsSound k n rows → Laws k (links_of rows) → (link : ℕ) → (e : Edit)
    → PlansClosing k n rows link e → (i : ℕ) → IsKeptByClosing k link i → Keeps k n rows e i
closing-keeps alpha n rows sound w link e plan i below =
    alpha-closing-keeps (IsLive rows) (made rows) plan.keys plan.star (links_of rows) (links_of (after_edit n e rows)) w (counted alpha n rows sound) (rows_lead_to_live alpha rows w)
    link plan.numbered plan.becomes i below
closing-keeps beta n rows sound w link e plan i (two, zero) =
    subst (Keeps beta n rows e) (sym zero) (at-two (subst (λ (l : ℕ). PlansClosing beta n rows l e) two plan))
  where
    at-two : PlansClosing beta n rows 2 e → Keeps beta n rows e 0
    at-two p = beta-closing-keeps rows p.keys (made rows) p.star (links_of rows) (links_of (after_edit n e rows)) w (counted beta n rows sound) (rows_lead_to_live beta rows w) p.numbered p.becomes
