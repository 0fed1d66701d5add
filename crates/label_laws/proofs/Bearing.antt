-- Ids go on telling cells where new darts come in behind, and where a dart without links ends.
use Rattle.std.proofs.Common.{ℕ, ◌≡◌, ◌≢◌, ◌+◌, ◌<◌, sym, ap, subst, ◌∙◌, Option, Some, None}
use Rattle.map_defs.specs.Kind.{Kind}
use Rattle.map_defs.specs.Links.{Links}
use Rattle.map_defs.specs.Laws.{Laws}
use Rattle.map_defs.specs.LinkWords.{through_second}
use Rattle.map_defs.specs.Cells.{InCell, here, onward}
use Rattle.link_laws.proofs.CellFacts.{cell_back}
use Rattle.machine_laws.proofs.Ended.{alone-cell}
use Rattle.store_defs.specs.Stores.{Store}
use Rattle.store_defs.specs.Labelings.{Labeling, id_of}
use Rattle.label_laws.specs.Stored.{stored_value, AreStored}
use Rattle.label_laws.specs.Changing.{AreTaken}
use Rattle.label_laws.proofs.Storing.{AreSpared, stored-taken, stored_value-stays}

-- L and N are the same inside, and L leads nowhere else
module _ (k : Kind) (L N : Links) (Inside : ℕ → Type 0) (same : (t x : ℕ) → Inside x → N t x ≡ L t x) (stays : (t x : ℕ) → Inside (L t x)) where
  through : (f : ℕ) (o : Option ℕ) (x : ℕ) → Inside x → through_second N o (N f x) ≡ through_second L o (L f x)
  through f None x h = same f x h
  through f (Some j) x h = ap (N j) (same f x h) ∙ same j (L f x) (stays f x)

  inside : (f : ℕ) (o : Option ℕ) (x : ℕ) → Inside (through_second L o (L f x))
  inside f None x = stays f x
  inside f (Some j) x = stays j (L f x)

  pub cell-from : (i x y : ℕ) → Inside x → InCell k N i x y → InCell k L i x y × Inside y
  cell-from i x y h here = (here, h)
  cell-from i x y h (onward {x = z} {y = y'} o step) =
      let so = cell-from i x z h o in
      let e = through step.0.first step.0.second z so.1 in
      (onward so.0 (step.0, step.1, sym e ∙ step.2, step.3), subst Inside (sym e ∙ step.2) (inside step.0.first step.0.second z))

  pub cell-to : (i x y : ℕ) → Inside x → InCell k L i x y → InCell k N i x y × Inside y
  cell-to i x y h here = (here, h)
  cell-to i x y h (onward {x = z} {y = y'} o step) =
      let so = cell-to i x z h o in
      (onward so.0 (step.0, step.1, through step.0.first step.0.second z so.1 ∙ step.2, step.3), subst Inside step.2 (inside step.0.first step.0.second z))

  -- new darts come in, and the ids tell the cells as before
  module _ (Live LiveAfter : ℕ → Type 0) (l : Labeling) (p : Store) (s : AreStored k L Live l p)
      (within : (x : ℕ) → Live x → Inside x) (lives : (x : ℕ) → Live x → LiveAfter x) where
    pub stored-born : AreStored k N LiveAfter l p
    stored-born = record {
      live = λ i d c e. lives d (s.live i d c e);
      held = s.held;
      whole = λ i d x c e cell. s.whole i d x c e (cell-from i d x (within d (s.live i d c e)) cell).0;
      apart = λ i d j x c e f. (let both = s.apart i d j x c e f in (both.0, (cell-to i d x (within d (s.live i d c e)) both.1).0));
    }

-- a dart without links ends, and its ids are taken away
module _ (k : Kind) (L N : Links) (w : Laws k L) (same : (t x : ℕ) → N t x ≡ L t x) (Live LiveAfter : ℕ → Type 0) (n dart : ℕ) (alone : (t : ℕ) → L t dart ≡ 0)
    (lives : (x : ℕ) → Live x → x ≢ dart → LiveAfter x) (l m : Labeling) (p q : Store) (s : AreStored k L Live l p)
    (low : (i d c : ℕ) → id_of l i d ≡ Some c → i < n + 1) (t : AreTaken (λ i d. (i < n + 1) × (d ≡ dart)) l m p q) where
  ended-spared : AreSpared k L N LiveAfter (λ i d. (i < n + 1) × (d ≡ dart)) l
  ended-spared = record {
    lives = λ i d c out e. lives d (s.live i d c e) (λ is. out (low i d c e, is));
    cells = λ i d c x out e. (
      λ cell. (cell-from k L N (λ _. Unit {0}) (λ t x _. same t x) (λ _ _. tt) i d x tt cell).0,
      λ cell. (cell-to k L N (λ _. Unit {0}) (λ t x _. same t x) (λ _ _. tt) i d x tt cell).0,
    );
    clear = λ i d c x out e cell place.
        out (low i d c e, alone-cell k L w.nil i dart d alone (subst (λ (y : ℕ). InCell k L i y d) place.1 (cell_back k L w i d x cell)));
  }

  pub stored-ended : AreStored k N LiveAfter m q
  stored-ended = stored-taken k L N Live LiveAfter (λ i d. (i < n + 1) × (d ≡ dart)) l m p q s t ended-spared

  -- the values of all other places stay
  pub stored_value-beyond : (i d : ℕ) → ((i < n + 1) × (d ≡ dart) → ⊥) → stored_value q m i d ≡ stored_value p l i d
  stored_value-beyond = stored_value-stays k L N Live LiveAfter (λ i d. (i < n + 1) × (d ≡ dart)) l m p q s t ended-spared

  pub stored_value-ended : (i d : ℕ) → d ≢ dart → stored_value q m i d ≡ stored_value p l i d
  stored_value-ended i d other = stored_value-beyond i d (λ h. other h.1)
