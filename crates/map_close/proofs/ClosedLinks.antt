-- The links after an edit that closes a map: it is an insertion of the new darts, and so keeps the laws.
use Rattle.std.proofs.Common.{ℕ, suc, ◌≡◌, ◌≢◌, ◌+◌, ◌≤◌, List, length, Contains, refl, sym, ap, ◌∙◌, subst, inl, inr, arith}
use Rattle.std.proofs.lemmas.Bool.{cases_lt}
use Rattle.map_defs.specs.Kind.{Kind, alpha, beta}
use Rattle.map_defs.specs.Links.{Links, IsTurned}
use Rattle.map_defs.specs.Laws.{Laws}
use Rattle.map_defs.specs.Rows.{Rows, links_of, made, IsLive, IsSound}
use Rattle.map_defs.specs.Births.{IsNumbered, IsFresh}
use Rattle.map_defs.specs.Edits.{Change, with_births, after_edit}
use Rattle.map_defs.specs.Insertion.{IsInserted}
use Rattle.map_defs.specs.Closing.{IsOpen, IsClosed}
use Rattle.link_laws.proofs.Basics.{same_or_not}
use Rattle.link_laws.proofs.RowFacts.{rows_made, rows_dimension, rows_lead_to_live}
use Rattle.link_laws.proofs.InverseLinks.{turned_of_laws}
use Rattle.insert_laws.proofs.InsertSquare.{insertion_keeps}
use Rattle.insert_laws.proofs.Closed.{ClosingPair, closing_can}
use Rattle.cell_edit.specs.Stars.{Stars, star_of}
use Rattle.cell_edit.specs.Writing.{WritesEntries}
use Rattle.cell_edit.proofs.Premises.{live-dart}
use Rattle.map_close.specs.NewLinks.{IsNewLink, AreClosingEntries, CanClose}
use Rattle.map_close.specs.Planning.{PlansClosing}
use Rattle.cell_edit.proofs.EntryEdit.{growing, written, left, entries-fit}
use Rattle.map_close.proofs.NewLinkFacts.{before-below, own-link, far-link, around-link, next-link, link-one, link-high}
use Rattle.map_close.proofs.OpenFacts.{key-live, key-made, numbered, star-none, star-fresh, star-above, rounds, old-lives, star-lives}

turned-after : (k : Kind) (N : Links) → Laws k N → k ≡ beta → IsTurned N
turned-after alpha N laws is = absurd (cc (is))
turned-after beta N laws is = turned_of_laws N laws

module _ (k : Kind) (n : ℕ) (rows : Rows) (sound : IsSound k n rows) (dim : 2 ≤ n) (i : ℕ) (low : i ≤ n) (stars : Stars) (can : CanClose k rows i stars) where
  abbrev L : Links
  L = links_of rows

  abbrev K : ℕ → Type 0
  K = Contains stars.keys

  abbrev Open : ℕ → Type 0
  Open = IsOpen (IsLive rows) i L

  abbrev star : ℕ → ℕ
  star = star_of stars

  abbrev pub Entry : ℕ → ℕ → ℕ → Type 0
  Entry = AreClosingEntries k i L star (n + 1) stars.keys

  lives : (d t y : ℕ) → Entry d t y → IsLive (with_births n (length stars.keys) rows) d
  lives d t y (x, has, inl e) = rw e.0 (old-lives k n rows sound i stars can x (key-live k n rows sound i stars can x has))
  lives d t y (x, has, inr e) = rw e.0 (star-lives k n rows sound i stars can x has)

  inside : (d t y : ℕ) → Entry d t y → t ≤ n
  inside d t y (x, has, inl e) = omega (arith, e.1)
  inside d t y (x, has, inr e) = omega (arith, e.1)

  -- the entries that stand at a new dart
  new_entry : (x t y : ℕ) → K x → Entry (star x) t y → IsNewLink k i L star x t y × (y ≢ 0)
  new_entry x t y has (u, g, inl e) = absurd (omega (arith, e.0, key-made k n rows sound i stars can u g, star-above k n rows sound i stars can x has))
  new_entry x t y has (u, g, inr e) =
      let same : u ≡ x = (star-fresh k n rows sound i stars can).one u x g has (sym e.0) in
      (subst (λ v. IsNewLink k i L star v t y) same e.2, e.3)

  open_key : (x : ℕ) → Open x → K x
  open_key x h = (can.members x).1 h

  key_open : (x : ℕ) → K x → Open x
  key_open x has = (can.members x).0 has

  pub keys-numbered : IsNumbered Open stars.keys (made rows) star
  keys-numbered =
      let m = numbered k n rows sound i stars can in
      subst (λ (from : ℕ). IsNumbered Open stars.keys from star) can.made
      (record { nothing = m.nothing; ascending = m.ascending; members = can.members; numbers = m.numbers })

  open_fresh : IsFresh L Open star
  open_fresh = let f = star-fresh k n rows sound i stars can in record {
    nothing = f.nothing;
    dart = λ x h. f.dart x (open_key x h);
    one = λ x y h g. f.one x y (open_key x h) (open_key y g);
    outside = λ x h g. f.outside x (open_key x h) (open_key (star x) g);
    unlinked = λ t x h. f.unlinked t x (open_key x h);
  }

  module _ (cs : List Change) (writes : WritesEntries L Entry cs) where
    abbrev N : Links
    N = links_of (after_edit n (growing (length stars.keys) cs) rows)

    is : (d t y : ℕ) → Entry d t y → N t d ≡ y
    is = written k n rows sound (length stars.keys) Entry lives inside cs writes

    stays : (d t : ℕ) → ((y : ℕ) → Entry d t y → ⊥) → N t d ≡ L t d
    stays = left k n rows sound (length stars.keys) Entry lives inside cs writes

    new-links : (x t z : ℕ) → K x → IsNewLink k i L star x t z → N t (star x) ≡ z
    new-links x t z has link = elim (same_or_not z 0) [
      | inl free ↦
          stays (star x) t (λ y e. let f = new_entry x t y has e in f.1 (link-one k i can.own L star x (rounds k n rows sound i stars can x has) t y z f.0 link ∙ free))
          ∙ (star-fresh k n rows sound i stars can).unlinked t x has ∙ sym free
      | inr some ↦ elim (cases_lt n t) [
        | inl high ↦ absurd (some (link-high k i can.own L star x n t z (rows_dimension n rows sound.wide) (star-none k n rows sound i stars can) dim low high link))
        | inr within ↦ is (star x) t z (x, has, inr (refl, omega arith, link, some))
      ]
    ]

    none : (z t y : ℕ) → (Open z → t ≢ i) → ((x : ℕ) → Open x → z ≢ star x) → Entry z t y → ⊥
    none z t y out new (x, has, inl e) = out (subst Open (sym e.0) (key_open x has)) e.1
    none z t y out new (x, has, inr e) = new x (key_open x has) e.0

    inserted : IsInserted k i Open (ClosingPair k i (IsLive rows) L) star L N
    inserted = record {
      new = λ x h. is x i (star x) (x, open_key x h, inl (refl, refl, refl, open_fresh.dart x h));
      old = λ x h. new-links x i x (open_key x h) (own-link k i can.own L star x);
      beyond = λ x h. new-links x (suc i) 0 (open_key x h) (next-link k i can.own L star x (suc i) refl) ∙ sym (ap star h.1 ∙ star-none k n rows sound i stars can);
      paired = λ x y t p. new-links x t (star y) (open_key x p.open_dart) (around-link k i can.own L star x t y p.below p.walk);
      along = λ x j h away. new-links x j (star (L _ x)) (open_key x h) (far-link k i can.own L star x j away);
      kept = λ x t out new. stays x t (λ y e. none x t y out new e);
    }

    laws : Laws k N
    laws = insertion_keeps k i Open (ClosingPair k i (IsLive rows) L) star L can.laws
        (closing_can k i can.own (IsLive rows) L can.laws (live-dart k n rows sound) (rows_lead_to_live k rows can.laws) (made rows) (rows_made rows))
        open_fresh N inserted

    closed : IsClosed k i (IsLive rows) star L N
    closed = record {
      new = inserted.new;
      old = inserted.old;
      beyond = λ x h. new-links x (suc i) 0 (open_key x h) (next-link k i can.own L star x (suc i) refl);
      along = inserted.along;
      around = λ x y t h e walk. new-links x t (star y) (open_key x h) (around-link k i can.own L star x t y (before-below k i t can.own e) walk);
      kept = inserted.kept;
      turned = turned-after k N laws;
    }

    pub closing-plans : PlansClosing k n rows i (growing (length stars.keys) cs)
    closing-plans = record {
      deaths = refl;
      fits = entries-fit k n rows sound (length stars.keys) Entry lives inside cs writes laws;
      keys = stars.keys;
      star = star;
      numbered = keys-numbered;
      births = refl;
      becomes = closed;
      laws = laws;
    }
