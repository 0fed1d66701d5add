-- A vertex on an edge, told by the list of the edge's darts and by no pairs.
use Rattle.std.proofs.Common.{ℕ, ◌≢◌, ◌↔◌, List, [], Contains, arith}
use Rattle.map_defs.specs.Kind.{alpha}
use Rattle.map_defs.specs.Links.{Links}
use Rattle.map_defs.specs.Rows.{Rows, links_of, IsLive, IsSound}
use Rattle.map_defs.specs.LinkWords.{IsCellWord}
use Rattle.map_defs.specs.Cells.{InCell, Leads}
use Rattle.map_defs.specs.Insertion.{IsInsertable, NoPairs}
use Rattle.insert_laws.proofs.AlphaInsert.{alpha_vertex_can}
use Rattle.sewing.specs.Triples.{Lists, IsAscending}
use Rattle.cell_edit.specs.Writing.{ArePairsOf}
use Rattle.cell_edit.proofs.Premises.{insertable-same, orbit-live, leads-live}

pub no-pairs : (x y t : ℕ) → Lists [] x y t ↔ NoPairs x y t
no-pairs x y t = (λ has. omega (arith, has.1), λ none. absurd none)

pub none-ascending : IsAscending []
none-ascending i j d low high = absurd (omega arith)

pub none-of : (keys : List ℕ) → ArePairsOf keys []
none-of keys x y t has = absurd (omega (arith, has.1))

pub vertex-insertable : (L : Links) (d : ℕ) (keys : List ℕ) → d ≢ 0 → ((x : ℕ) → Contains keys x ↔ InCell alpha L 1 d x) → IsInsertable alpha 0 (Contains keys) (Lists []) L
vertex-insertable L d keys dart members = insertable-same alpha 0 (InCell alpha L 1 d) (Contains keys) NoPairs (Lists []) L members no-pairs (alpha_vertex_can L d dart)

pub edge-live : (n : ℕ) (rows : Rows) → IsSound alpha n rows → (d : ℕ) → IsLive rows d → (x : ℕ) → InCell alpha (links_of rows) 1 d x → IsLive rows x
edge-live n rows sound d live x among = orbit-live (Leads (links_of rows) (IsCellWord alpha 1)) rows (leads-live alpha n rows sound (IsCellWord alpha 1)) d x live among
