-- An insertion for a set and pairs that are told by lists.
use Rattle.std.proofs.Common.{ℕ, ◌≡◌, ◌≢◌, ◌<◌, ◌≤◌, ◌↔◌, List, get_or, Contains, is_some, refl, sym, ap, ◌∙◌, Option, Some, None, arith}
use Rattle.std.specs.Prelude.{All}
use Rattle.std.proofs.lemmas.Bool.{false≢true}
use Rattle.std.proofs.lemmas.List.Elements.{Contains-get_or}
use Rattle.map_defs.specs.Kind.{Kind, inverse}
use Rattle.map_defs.specs.Links.{Links}
use Rattle.map_defs.specs.LinkWords.{LinkWord, through_second}
use Rattle.map_defs.specs.Rows.{Rows, links_of, row_at, made, IsLive, IsSound}
use Rattle.map_defs.specs.Cells.{InOrbit, here, onward, Leads}
use Rattle.map_defs.specs.Edits.{Edit}
use Rattle.map_defs.specs.Insertion.{IsInsertable, IsInserted, IsLinkedBy}
use Rattle.link_laws.proofs.Basics.{stable}
use Rattle.link_laws.proofs.RowFacts.{linked_live}
use Rattle.sewing.specs.Triples.{Triple, Lists}
use Rattle.cell_edit.specs.Inserting.{PlansInsertion}
use Rattle.cell_edit.specs.Writing.{ArePairsOf}
use Rattle.cell_edit.proofs.Beyond.{live-made}

-- ---- other words for the same set and the same pairs
pub insertable-same : (k : Kind) (i : ℕ) (K H : ℕ → Type 0) (P Q : ℕ → ℕ → ℕ → Type 0) (L : Links) → ((x : ℕ) → H x ↔ K x) → ((x y t : ℕ) → Q x y t ↔ P x y t)
    → IsInsertable k i K P L → IsInsertable k i H Q L
insertable-same k i K H P Q L keys pairs can = record {
  own = can.own;
  dart = λ x h. can.dart x ((keys x).0 h);
  carried = λ x j h a n. (keys _).1 (can.carried x j ((keys x).0 h) a n);
  some = λ x t h b nope. can.some x t ((keys x).0 h) b (λ y p. nope y ((pairs x y t).1 p));
  begins = λ x y t p. let b = can.begins x y t ((pairs x y t).0 p) in ((keys x).1 b.0, b.1);
  ends = λ x y t p n. (keys y).1 (can.ends x y t ((pairs x y t).0 p) n);
  turned = λ x y t p n. (pairs _ _ _).1 (can.turned x y t ((pairs x y t).0 p) n);
  moves = λ x y t p. can.moves x y t ((pairs x y t).0 p);
  across = λ x y t j p a n. (pairs _ _ _).1 (can.across x y t j ((pairs x y t).0 p) a n);
  even = λ x y t j p. can.even x y t j ((pairs x y t).0 p);
}

pub inserted-same : (k : Kind) (i : ℕ) (K H : ℕ → Type 0) (P Q : ℕ → ℕ → ℕ → Type 0) (star : ℕ → ℕ) (L N : Links) → ((x : ℕ) → H x ↔ K x) → ((x y t : ℕ) → Q x y t ↔ P x y t)
    → IsInserted k i H Q star L N → IsInserted k i K P star L N
inserted-same k i K H P Q star L N keys pairs done = record {
  new = λ x h. done.new x ((keys x).1 h);
  old = λ x h. done.old x ((keys x).1 h);
  beyond = λ x h. done.beyond x ((keys x).1 h);
  paired = λ x y t p. done.paired x y t ((pairs x y t).1 p);
  along = λ x j h. done.along x j ((keys x).1 h);
  kept = λ x t out old. done.kept x t (λ h. out ((keys x).0 h)) (λ y h. old y ((keys y).0 h));
}

pub inserts-same : (n : ℕ) (rows : Rows) (K H : ℕ → Type 0) (k : Kind) (i : ℕ) (P Q : ℕ → ℕ → ℕ → Type 0) (edit : Edit) → ((x : ℕ) → H x ↔ K x) → ((x y t : ℕ) → Q x y t ↔ P x y t)
    → PlansInsertion k n rows H (λ star N. IsInserted k i H Q star (links_of rows) N) edit → PlansInsertion k n rows K (λ star N. IsInserted k i K P star (links_of rows) N) edit
inserts-same n rows K H k i P Q edit keys pairs done = record {
  deaths = done.deaths;
  fits = done.fits;
  keys = done.keys;
  star = done.star;
  numbered = record {
    nothing = done.numbered.nothing;
    ascending = done.numbered.ascending;
    members = λ x. (λ has. (keys x).0 ((done.numbered.members x).0 has), λ h. (done.numbered.members x).1 ((keys x).1 h));
    numbers = done.numbered.numbers;
  };
  births = done.births;
  becomes = inserted-same k i K H P Q done.star (links_of rows) _ keys pairs done.becomes;
  laws = done.laws;
}

-- ---- the darts that are found from live darts live
pub orbit-live : (Step : ℕ → ℕ → Type 0) (rows : Rows) → ((x y : ℕ) → Step x y → IsLive rows y) → (d x : ℕ) → IsLive rows d → InOrbit Step d x → IsLive rows x
orbit-live Step rows to d x live here = live
orbit-live Step rows to d x live (onward {x = u} {y = v} o s) = to u v s

pub linked-live : (k : Kind) (n : ℕ) (rows : Rows) → IsSound k n rows → (J : ℕ → Type 0) (x y : ℕ) → IsLinkedBy (links_of rows) J x y → IsLive rows y
linked-live k n rows sound J x y (j, among, is, dart) = rw is at (sound.live j x (λ none. dart (sym is ∙ none)))

pub leads-live : (k : Kind) (n : ℕ) (rows : Rows) → IsSound k n rows → (Words : LinkWord → Type 0) (x y : ℕ) → Leads (links_of rows) Words x y → IsLive rows y
leads-live k n rows sound Words x y (w, among, is, dart) = last w.second is
  where
    last : (s : Option ℕ) → through_second (links_of rows) s (links_of rows w.first x) ≡ y → IsLive rows y
    last None e = rw e at (sound.live w.first x (λ none. dart (sym e ∙ none)))
    last (Some j) e = rw e at (sound.live j (links_of rows w.first x) (λ none. dart (sym e ∙ none)))

pub live-dart : (k : Kind) (n : ℕ) (rows : Rows) → IsSound k n rows → (d : ℕ) → IsLive rows d → d ≢ 0
live-dart k n rows sound d live is = false≢true (sym (ap is_some (ap (row_at rows) is ∙ sound.nothing)) ∙ live)

-- 0 has no links
pub nothing-linked : (k : Kind) (n : ℕ) (rows : Rows) → IsSound k n rows → (j : ℕ) → links_of rows j 0 ≡ 0
nothing-linked k n rows sound j = stable (links_of rows j 0) 0 (λ some. live-dart k n rows sound 0 (linked_live rows j 0 some) refl)

-- ---- listed darts of which each is live
pub all-live : (rows : Rows) (K : ℕ → Type 0) (keys : List ℕ) → ((x : ℕ) → Contains keys x ↔ K x) → ((x : ℕ) → K x → IsLive rows x) → All (λ (d : ℕ). IsLive rows d) keys
all-live rows K keys members live p z h = live (get_or keys p z) ((members (get_or keys p z)).0 (Contains-get_or keys p z h))

pub all-made : (k : Kind) (n : ℕ) (rows : Rows) → IsSound k n rows → (keys : List ℕ) → All (λ (d : ℕ). IsLive rows d) keys → All (λ (d : ℕ). (0 < d) × (d ≤ made rows)) keys
all-made k n rows sound keys live p z h =
    let dart : get_or keys p z ≢ 0 = live-dart k n rows sound (get_or keys p z) (live p z h) in
    (omega arith, live-made rows (get_or keys p z) (live p z h))

-- pairs that are listed both ways round have both their darts among those of the set
pub pairs-among : (k : Kind) (i : ℕ) (keys : List ℕ) (pairs : List Triple) (L : Links) → IsInsertable k i (Contains keys) (Lists pairs) L → ((x y t : ℕ) → Lists pairs x y t → Lists pairs y x (inverse k t)) → ArePairsOf keys pairs
pairs-among k i keys pairs L can turn x y t has = ((can.begins x y t has).0, (can.begins y x (inverse k t) (turn x y t has)).0)
