-- What is said of signs, halves and doubles is said of the links and of the darts that live, however these are told.
use Rattle.std.proofs.Common.{◌≡◌, ℕ, ◌↔◌, List, [], ◌∷◌, refl, sym, ap, ◌∙◌}
use Rattle.map_defs.specs.Kind.{beta, inverse}
use Rattle.map_defs.specs.Links.{Links}
use Rattle.map_defs.specs.Cells.{here, onward, InComponent}
use Rattle.half_defs.specs.Orientation.{HasBoundary, IsFolded, walked, IsOddWalk, Sign, OrientFault, Boundary, Folded, Odd, HasFault, IsOriented}
use Rattle.half_defs.specs.Halves.{origin, AreOrigins, IsHalf, IsDouble}

module _ (n : ℕ) (Live Other : ℕ → Type 0) (L M : Links) (alive : (d : ℕ) → Live d ↔ Other d) (same : (i d : ℕ) → L i d ≡ M i d) where
  boundary-same : HasBoundary n Live L → HasBoundary n Other M
  boundary-same (d, i, live, within, free) = (d, i, (alive d).0 live, within, sym (same i d) ∙ free)

  boundary-back : HasBoundary n Other M → HasBoundary n Live L
  boundary-back (d, i, live, within, free) = (d, i, (alive d).1 live, within, same i d ∙ free)

  folded-same : (d i : ℕ) → IsFolded n Live L d i → IsFolded n Other M d i
  folded-same d i (live, low, within, leads) = ((alive d).0 live, low, within, sym (same i d) ∙ leads ∙ same 0 d)

  folded-back : (d i : ℕ) → IsFolded n Other M d i → IsFolded n Live L d i
  folded-back d i (live, low, within, leads) = ((alive d).1 live, low, within, same i d ∙ leads ∙ sym (same 0 d))

  walked-same : (d : ℕ) (links : List ℕ) → walked L d links ≡ walked M d links
  walked-same d [] = refl
  walked-same d (i ∷ links) = walked-same (L i d) links ∙ ap (λ (e : ℕ). walked M e links) (same i d)

  walk-same : (d : ℕ) (links : List ℕ) → IsOddWalk n L d links → IsOddWalk n M d links
  walk-same d links w = record { within = w.within; closed = sym (walked-same d links) ∙ w.closed; odd = w.odd }

  walk-back : (d : ℕ) (links : List ℕ) → IsOddWalk n M d links → IsOddWalk n L d links
  walk-back d links w = record { within = w.within; closed = walked-same d links ∙ w.closed; odd = w.odd }

  component-back : (d e : ℕ) → InComponent M d e → InComponent L d e
  component-back d e here = here
  component-back d e (onward {x} {y} before (i, leads, some)) = onward (component-back d x before) (i, same i x ∙ leads, some)

  pub fault-same : (fault : OrientFault) → HasFault n Live L fault → HasFault n Other M fault
  fault-same Boundary has = boundary-same has
  fault-same (Folded d i) (closed, first) = (
    λ has. closed (boundary-back has),
    record { folded = folded-same d i first.folded; least = λ e j folds. first.least e j (folded-back e j folds) },
  )
  fault-same (Odd d links) (closed, unfolded, first) = (
    λ has. closed (boundary-back has),
    λ e j folds. unfolded e j (folded-back e j folds),
    record {
      live = (alive d).0 first.live;
      walk = walk-same d links first.walk;
      least = λ e others live walk. first.least e others ((alive e).1 live) (walk-back e others walk);
    },
  )

  pub oriented-same : (signs : List Sign) → IsOriented n Live L signs → IsOriented n Other M signs
  oriented-same signs o = record {
    closed = λ has. o.closed (boundary-back has);
    unfolded = λ d i folds. o.unfolded d i (folded-back d i folds);
    signed = record {
      ascending = o.signed.ascending;
      members = λ d. (λ there. (alive d).0 ((o.signed.members d).0 there), λ live. (o.signed.members d).1 ((alive d).1 live));
      flips = λ s t i has has' within leads. o.signed.flips s t i has has' within (same i s.dart ∙ leads);
      least = λ s has names. o.signed.least s has (λ e within. names e (to-other s.dart e within));
    };
  }
    where
      to-other : (d e : ℕ) → InComponent L d e → InComponent M d e
      to-other d e here = here
      to-other d e (onward {x} {y} before (i, leads, some)) = onward (to-other d x before) (i, sym (same i x) ∙ leads, some)

  pub origins-same : (origins : List ℕ) → AreOrigins Live origins → AreOrigins Other origins
  origins-same origins o = record {
    ascending = o.ascending;
    members = λ d. (λ there. (alive d).0 ((o.members d).0 there), λ live. (o.members d).1 ((alive d).1 live));
  }

  pub half-same : (origins : List ℕ) (N : Links) → IsHalf n L origins N → IsHalf n M origins N
  half-same origins N h = record {
    within = h.within;
    along = λ i r low high. h.along i r low high ∙ same i (L 0 (origin origins r)) ∙ ap (M i) (same 0 (origin origins r));
    turned = h.turned;
    above = h.above;
  }

  pub double-same : (origins : List ℕ) (N : Links) → IsDouble n L origins N → IsDouble n M origins N
  double-same origins N h = record {
    made = h.made;
    pairs = h.pairs;
    pairs_back = h.pairs_back;
    leads = λ i r s low high few leads. h.leads i r s low high few (same i (origin origins r) ∙ leads);
    leads_back = λ i r s low high few leads. h.leads_back i r s low high few (same (inverse beta i) (origin origins s) ∙ leads);
    above = h.above;
  }
