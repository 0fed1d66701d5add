-- A map that is closed at a link has links.
use Rattle.std.proofs.Common.{◌≡◌, ◌≢◌, ℕ, zero, suc, ◌≤◌, List, length, ap, ◌∙◌, arith}
use Rattle.map_defs.specs.Kind.{Kind, alpha, beta, inverse}
use Rattle.map_defs.specs.Links.{Links, IsTurned}
use Rattle.map_defs.specs.Laws.{Laws}
use Rattle.map_defs.specs.Rows.{made, IsLive, links_of}
use Rattle.map_defs.specs.Births.{IsNumbered, IsFresh}
use Rattle.map_defs.specs.Insertion.{IsJustBelow, IsInsertable, IsInserted}
use Rattle.map_defs.specs.Closing.{IsOpen, IsClosed}
use Rattle.machine_defs.specs.State.{Content}
use Rattle.machine_defs.specs.Kept.{IsLawfulContent}
use Rattle.machine_defs.specs.Relinking.{NoDart}
use Rattle.link_laws.proofs.InverseLinks.{turned_of_laws}
use Rattle.link_laws.proofs.RowFacts.{rows_made, rows_lead_to_live}
use Rattle.link_laws.proofs.Walking.{walk_one}
use Rattle.insert_laws.proofs.Closed.{ClosingPair, closing_can}
use Rattle.insert_laws.proofs.ClosedFree.{live_dart}
use Rattle.insert_laws.proofs.InsertSquare.{insertion_keeps}
use Rattle.machine_laws.proofs.Grown.{counted-live}
use Rattle.machine_laws.proofs.Keeping.{dead-at}
use Rattle.answer_laws.specs.Answering.{NotNot}
use Rattle.answer_laws.proofs.LinksFound.{AreLinksAfter}
use Rattle.answer_laws.proofs.Numbered.{fresh}
use Rattle.answer_laws.proofs.InsertedFound.{inserted_found}

-- the link before one that is its own inverse stands one place below it
just-below : (k : Kind) (i t : ℕ) → inverse k i ≡ i → suc t ≡ i → IsJustBelow k i t
just-below alpha i t own e = omega arith
just-below beta zero t own e = absurd (omega arith)
just-below beta (suc zero) t own e = absurd (omega arith)
just-below beta (suc (suc i)) zero own e = absurd (omega arith)
just-below beta (suc (suc i)) (suc t) own e = omega arith

turned-where : (k : Kind) (N : Links) → Laws k N → k ≡ beta → IsTurned N
turned-where alpha N w e = absurd (cc (e))
turned-where beta N w e = turned_of_laws N w

module _ (c : Content) (kept : IsLawfulContent c) (k : Kind) (w : Laws k (links_of c.rows)) (i : ℕ) (own : inverse k i ≡ i) (within : i ≤ c.dim) where
  abbrev L : Links
  L = links_of c.rows

  abbrev K : ℕ → Type 0
  K = IsOpen (IsLive c.rows) i (links_of c.rows)

  abbrev Pair : ℕ → ℕ → ℕ → Type 0
  Pair = ClosingPair k i (IsLive c.rows) (links_of c.rows)

  nothing : IsLive c.rows 0 → ⊥
  nothing = dead-at c.rows kept.sound.nothing

  dart : (x : ℕ) → IsLive c.rows x → x ≢ 0
  dart = live_dart (made c.rows) (IsLive c.rows) (counted-live c.rows nothing)

  can : IsInsertable k i K Pair (links_of c.rows)
  can = closing_can k i own (IsLive c.rows) L w dart (rows_lead_to_live k c.rows w) (made c.rows) (rows_made c.rows)

  module _ (keys : List ℕ) (star : ℕ → ℕ) (m : IsNumbered K keys (made c.rows) star) where
    f : IsFresh L K star
    f = fresh c kept K (λ x h. h.0) keys star m

    closed : (N : Links) → IsInserted k i K Pair star L N → IsClosed k i (IsLive c.rows) star L N
    closed N s = record {
      new = s.new;
      old = s.old;
      beyond = λ x h. s.beyond x h ∙ ap star h.1 ∙ f.nothing;
      along = s.along;
      around = λ x y t h e walk. s.paired x y t (record { open_dart = h; below = just-below k i t own e; walk = walk });
      kept = s.kept;
      turned = turned-where k N (insertion_keeps k i K Pair star L w can f N s);
    }

    pub closed_found : NotNot ((N : Links) × IsClosed k i (IsLive c.rows) star L N × AreLinksAfter c kept (length keys) NoDart N)
    closed_found never =
        inserted_found c kept k w i within K (λ h x g. g.1) (λ x h. h.0) Pair can (λ x y z t p q. walk_one p.walk q.walk) keys star m (λ found.
        never (found.0, closed found.0 found.1, found.2))
