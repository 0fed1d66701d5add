-- A vertex on an edge, told by the list of the edge's darts.
use Rattle.std.proofs.Common.{ℕ, ◌≡◌, ◌↔◌, List, Contains}
use Rattle.std.specs.Prelude.{All}
use Rattle.std.specs.List.Sorted.{IsStrictlyIncreasing}
use Rattle.map_defs.specs.Kind.{beta}
use Rattle.map_defs.specs.Links.{Links}
use Rattle.map_defs.specs.Rows.{Rows, links_of, made, IsLive, IsSound}
use Rattle.map_defs.specs.LinkWords.{IsCellWord}
use Rattle.map_defs.specs.Cells.{InCell, Leads}
use Rattle.map_defs.specs.Edits.{Edit}
use Rattle.map_defs.specs.Insertion.{IsSplit}
use Rattle.insert_laws.proofs.BetaVertex.{edge_set}
use Rattle.cell_edit.specs.Inserting.{PlansInsertion}
use Rattle.cell_edit.proofs.Premises.{orbit-live, leads-live, live-dart, all-live}
use Rattle.beta_edit.specs.Splitting.{IsWholeEdge}

split-same : (K H : ℕ → Type 0) (star : ℕ → ℕ) (L N : Links) → ((x : ℕ) → H x ↔ K x) → IsSplit H star L N → IsSplit K star L N
split-same K H star L N keys done = record {
  first = λ x h. done.first x ((keys x).1 h);
  second = λ x h. done.second x ((keys x).1 h);
  new = λ x j h. done.new x j ((keys x).1 h);
  old = λ x j h. done.old x j ((keys x).1 h);
  kept = λ x t l out none. done.kept x t l (λ h. out ((keys x).0 h)) (λ y h. none y ((keys y).0 h));
  turned = done.turned;
}

module _ (n : ℕ) (rows : Rows) (sound : IsSound beta n rows) (d : ℕ) (live : IsLive rows d) (keys : List ℕ) (members : (x : ℕ) → Contains keys x ↔ InCell beta (links_of rows) 1 d x) where
  pub vertex-live : All (λ (x : ℕ). IsLive rows x) keys
  vertex-live =
      all-live rows (InCell beta (links_of rows) 1 d) keys members
      (λ x h. orbit-live (Leads (links_of rows) (IsCellWord beta 1)) rows (leads-live beta n rows sound (IsCellWord beta 1)) d x live h)

  pub vertex-whole : (count : ℕ) → count ≡ made rows → IsStrictlyIncreasing keys → IsWholeEdge rows (record { keys = keys; made = count })
  vertex-whole count is rising = record {
    grow = record { made = is; live = vertex-live; rising = rising };
    sides = λ x j h l some. (members _).1 ((edge_set (links_of rows) d (live-dart beta n rows sound d live)).on x j ((members x).0 h) l some);
  }

-- the edit for the listed darts is one for the edge
pub vertex-plans : (n : ℕ) (rows : Rows) (K H : ℕ → Type 0) (edit : Edit) → ((x : ℕ) → H x ↔ K x)
    → PlansInsertion beta n rows H (λ star N. IsSplit H star (links_of rows) N) edit → PlansInsertion beta n rows K (λ star N. IsSplit K star (links_of rows) N) edit
vertex-plans n rows K H edit keys done = record {
  deaths = done.deaths;
  fits = done.fits;
  keys = done.keys;
  star = done.star;
  numbered = record {
    nothing = done.numbered.nothing;
    ascending = done.numbered.ascending;
    members = λ x. (λ has. (keys x).0 ((done.numbered.members x).0 has), λ h. (done.numbered.members x).1 ((keys x).1 h));
    numbers = done.numbered.numbers;
  };
  births = done.births;
  becomes = split-same K H done.star (links_of rows) _ keys done.becomes;
  laws = done.laws;
}
