-- The edits of a sewing and of an unsewing: they fit, do what they are named for, and keep the laws.
use Rattle.std.proofs.Common.{◌≡◌, ◌≢◌, ℕ, ◌≤◌, ◌↔◌, List, sym, ap, ◌∙◌, inl, inr}
use Rattle.std.specs.Prelude.{is_some}
use Rattle.std.proofs.lemmas.Bool.{false≢true}
use Rattle.map_defs.specs.Kind.{Kind, IsDistant}
use Rattle.map_defs.specs.Laws.{Laws}
use Rattle.map_defs.specs.Rows.{Rows, links_of, row_at, IsLive, IsSound}
use Rattle.map_defs.specs.Edits.{after_edit, Fits}
use Rattle.map_defs.specs.Pairs.{JustOne}
use Rattle.map_defs.specs.Sewing.{SewnPairs, IsSewable, IsSewn, IsUnsewn}
use Rattle.link_laws.proofs.Basics.{inverse_within}
use Rattle.link_laws.proofs.RowFacts.{linked_live}
use Rattle.link_laws.proofs.Relink.{IsEither}
use Rattle.link_laws.proofs.Sewn.{sewn_triple, sewing_keeps}
use Rattle.link_laws.proofs.Unsewn.{unsewing_keeps}
use Rattle.sewing.specs.Triples.{Triple, Lists}
use Rattle.sewing.specs.PairSteps.{AreApart}
use Rattle.sewing.proofs.PairFacts.{pairs-live}
use Rattle.sewing.proofs.PartedPairs.{parted-pair, freed-pair}
use Rattle.sewing.proofs.PlanChanges.{relinks, changes, relinks-fit, are-changes, changed-at, changed-else}

-- a live dart is not 0
live-dart : (k : Kind) (n : ℕ) (rows : Rows) → IsSound k n rows → (d : ℕ) → IsLive rows d → d ≢ 0
live-dart k n rows sound d live is = false≢true (sym (ap is_some (ap (row_at rows) is ∙ sound.nothing)) ∙ live)

either_within : (k : Kind) (n i t : ℕ) → 2 ≤ n → i ≤ n → IsEither k i t → t ≤ n
either_within k n i t dim low (inl is) = rw is low
either_within k n i t dim low (inr is) = rw is (inverse_within k n i dim low)

module _ (k : Kind) (n : ℕ) (rows : Rows) (sound : IsSound k n rows) (dim : 2 ≤ n) (w : Laws k (links_of rows)) (i : ℕ) (low : i ≤ n) where
  module _ (d e : ℕ) (live_d : IsLive rows d) (live_e : IsLive rows e) (can : IsSewable k (links_of rows) i d e) (pairs : List Triple) (apart : AreApart pairs)
      (same : (x y t : ℕ) → Lists pairs x y t ↔ SewnPairs k (links_of rows) i d e x y t) where
    live : (x y t : ℕ) → Lists pairs x y t → IsLive rows x
    live x y t has = (pairs-live k n rows sound (IsDistant k i) (JustOne d e i) (λ u v s is. (rw is.0 live_d, rw is.1 live_e)) x y t ((same x y t).0 has)).0

    facts : (x y t : ℕ) → Lists pairs x y t → (t ≤ n) × (links_of rows t x ≡ 0)
    facts x y t has =
        let s = sewn_triple k (links_of rows) w i d e (live-dart k n rows sound d live_d) (live-dart k n rows sound e live_e) can x y t ((same x y t).0 has) in
        (either_within k n i t dim low s.label, s.free)

    pub plan-sewn : IsSewn k i d e (links_of rows) (links_of (after_edit n (relinks (changes (λ p. 0) (λ p. p.y) pairs)) rows))
    plan-sewn = record {
      joined = λ x y t p. changed-at k n rows sound (λ p. 0) (λ p. p.y) pairs apart live (λ u v s has. (facts u v s has).0) (λ u v s has. (facts u v s has).1) x y t ((same x y t).1 p);
      kept = λ x t none. changed-else k n rows sound (λ p. 0) (λ p. p.y) pairs apart live (λ u v s has. (facts u v s has).0) (λ u v s has. (facts u v s has).1) x t (λ y has. none y ((same x y t).0 has));
    }

    pub plan-sewn-laws : Laws k (links_of (after_edit n (relinks (changes (λ p. 0) (λ p. p.y) pairs)) rows))
    plan-sewn-laws = sewing_keeps k (links_of rows) w i d e (live-dart k n rows sound d live_d) (live-dart k n rows sound e live_e) can
        (links_of (after_edit n (relinks (changes (λ p. 0) (λ p. p.y) pairs)) rows)) plan-sewn

    pub plan-sewn-fits : Fits k n rows (relinks (changes (λ p. 0) (λ p. p.y) pairs))
    plan-sewn-fits = relinks-fit k n rows sound (changes (λ p. 0) (λ p. p.y) pairs)
        (are-changes k n rows sound (λ p. 0) (λ p. p.y) pairs apart live (λ u v s has. (facts u v s has).0) (λ u v s has. (facts u v s has).1)) plan-sewn-laws

  module _ (d : ℕ) (linked : links_of rows i d ≢ 0) (pairs : List Triple) (apart : AreApart pairs)
      (same : (x y t : ℕ) → Lists pairs x y t ↔ SewnPairs k (links_of rows) i d (links_of rows i d) x y t) where
    parted : (x y t : ℕ) → Lists pairs x y t → IsLive rows x × (t ≤ n) × (links_of rows t x ≡ y)
    parted x y t has =
        let s = parted-pair k (links_of rows) w i d linked x y t ((same x y t).0 has) in
        (linked_live rows t x (λ z. s.second (sym s.at ∙ z)), either_within k n i t dim low s.label, s.at)

    pub plan-unsewn : IsUnsewn k i d (links_of rows) (links_of (after_edit n (relinks (changes (λ p. p.y) (λ p. 0) pairs)) rows))
    plan-unsewn = record {
      freed = λ x t f.
          changed-at k n rows sound (λ p. p.y) (λ p. 0) pairs apart (λ u v s has. (parted u v s has).0) (λ u v s has. (parted u v s has).1) (λ u v s has. (parted u v s has).2)
          x (links_of rows t x) t ((same x (links_of rows t x) t).1 (freed-pair k (links_of rows) w i d linked x t f));
      kept = λ x t none.
          changed-else k n rows sound (λ p. p.y) (λ p. 0) pairs apart (λ u v s has. (parted u v s has).0) (λ u v s has. (parted u v s has).1) (λ u v s has. (parted u v s has).2)
          x t (λ y has. none (parted-pair k (links_of rows) w i d linked x y t ((same x y t).0 has)).freed);
    }

    pub plan-unsewn-laws : Laws k (links_of (after_edit n (relinks (changes (λ p. p.y) (λ p. 0) pairs)) rows))
    plan-unsewn-laws = unsewing_keeps k (links_of rows) w i d (links_of (after_edit n (relinks (changes (λ p. p.y) (λ p. 0) pairs)) rows)) plan-unsewn

    pub plan-unsewn-fits : Fits k n rows (relinks (changes (λ p. p.y) (λ p. 0) pairs))
    plan-unsewn-fits = relinks-fit k n rows sound (changes (λ p. p.y) (λ p. 0) pairs)
        (are-changes k n rows sound (λ p. p.y) (λ p. 0) pairs apart (λ u v s has. (parted u v s has).0) (λ u v s has. (parted u v s has).1) (λ u v s has. (parted u v s has).2)) plan-unsewn-laws
