-- The edit that writes the entries of an insertion: it fits, inserts, and keeps the laws.
use Rattle.std.proofs.Common.{ℕ, suc, ◌≡◌, ◌≢◌, ◌+◌, ◌<◌, ◌≤◌, ◌⊎◌, List, [], ◌++◌, length, get_or, Contains, is_some, refl, sym, ap, ◌∙◌, subst, inl, inr, arith}
use Rattle.std.specs.Prelude.{All}
use Rattle.std.proofs.lemmas.Bool.{cases_lt}
use Rattle.std.proofs.lemmas.List.Elements.{All-contains, Contains-get_or}
use Rattle.std.specs.List.Sorted.{IsStrictlyIncreasing}
use Rattle.map_defs.specs.Kind.{Kind}
use Rattle.map_defs.specs.Laws.{Laws}
use Rattle.map_defs.specs.Rows.{Rows, links_of, made, IsLive, IsSound}
use Rattle.map_defs.specs.Births.{IsNumbered, IsFresh}
use Rattle.map_defs.specs.Edits.{Change, Edit, with_births, after_edit, Fits}
use Rattle.map_defs.specs.Insertion.{IsInsertable, IsInserted, IsJustBelow}
use Rattle.link_laws.proofs.Basics.{same_or_not, inverse_own, IsDistant-apart}
use Rattle.link_laws.proofs.RowFacts.{rows_made, rows_dimension}
use Rattle.edit_laws.proofs.RowWrites.{births-links, births-wide, births-old, births-new, live-within}
use Rattle.edit_laws.proofs.EditLinks.{touched, untouched}
use Rattle.insert_laws.proofs.Places.{below_apart}
use Rattle.insert_laws.proofs.InsertSquare.{insertion_keeps}
use Rattle.insert_laws.proofs.Numbers.{numbered_above, numbered_upto, numbered_one, numbered_fresh}
use Rattle.sewing.specs.Triples.{Triple, Lists, IsAscending}
use Rattle.cell_edit.specs.Stars.{Stars, star_of}
use Rattle.cell_edit.specs.Inserting.{PlansInsertion}
use Rattle.cell_edit.specs.Writing.{WritesEntries, beyond, IsCarriedEntry, AreReady}
use Rattle.cell_edit.proofs.StarNumbers.{star-nothing, stars-number}
use Rattle.cell_edit.proofs.Beyond.{beyond-own, beyond-before, beyond-else, copied-next, copied-far, far-off, far-below, below-within, next-above, unmade-free, live-made}
use Rattle.cell_edit.proofs.Writings.{writes-append}
use Rattle.cell_edit.proofs.PairEntries.{IsPairEntry, pair_changes, pairs-write}

-- darts and pairs that meet the premises of an insertion are ready
pub ready-of : (k : Kind) (rows : Rows) (i : ℕ) (stars : Stars) (pairs : List Triple) → stars.made ≡ made rows → All (λ (d : ℕ). IsLive rows d) stars.keys
    → IsInsertable k i (Contains stars.keys) (Lists pairs) (links_of rows) → AreReady k rows i stars
ready-of k rows i stars pairs is live can = record { made = is; live = live; carried = can.carried; nothing = star-nothing stars can.dart }

module _ (k : Kind) (n : ℕ) (rows : Rows) (begun : 0 < length rows) (sound : IsSound k n rows) (w : Laws k (links_of rows)) (i : ℕ) (low : i < n) (stars : Stars)
    (ready : AreReady k rows i stars) (ascending : IsStrictlyIncreasing stars.keys) (pairs : List Triple) (up : IsAscending pairs)
    (can : IsInsertable k i (Contains stars.keys) (Lists pairs) (links_of rows)) where
  numbered : IsNumbered (Contains stars.keys) stars.keys stars.made (star_of stars)
  numbered = stars-number stars ascending (λ p d h. can.dart (get_or stars.keys p d) (Contains-get_or stars.keys p d h))

  key_live : (x : ℕ) → Contains stars.keys x → IsLive rows x
  key_live x has = All-contains (λ (d : ℕ). IsLive rows d) stars.keys x ready.live has

  key_made : (x : ℕ) → Contains stars.keys x → x ≤ stars.made
  key_made x has = let h : x ≤ made rows = live-made rows x (key_live x has) in omega (arith, ready.made)

  star_above : (x : ℕ) → Contains stars.keys x → stars.made < star_of stars x
  star_above x has = numbered_above (Contains stars.keys) stars.keys stars.made (star_of stars) numbered x has

  star_one : (x u : ℕ) → Contains stars.keys x → Contains stars.keys u → star_of stars x ≡ star_of stars u → x ≡ u
  star_one = numbered_one (Contains stars.keys) stars.keys stars.made (star_of stars) numbered

  star_free : (t x : ℕ) → Contains stars.keys x → links_of rows t (star_of stars x) ≡ 0
  star_free t x has = unmade-free rows t (star_of stars x) (let h : stars.made < star_of stars x = star_above x has in omega (arith, ready.made))

  -- a pair's first dart is a key, and its link is the one before
  pair_key : (x y t : ℕ) → Lists pairs x y t → Contains stars.keys x × IsJustBelow k i t
  pair_key x y t has = can.begins x y t has

  apart : (d t y z : ℕ) → IsCarriedEntry k (links_of rows) i (star_of stars) (n + 1) stars.keys d t y → IsPairEntry (star_of stars) pairs d t z → ⊥
  apart d t y z (x, has, inl e) (u, v, had, is, new) =
      let a : d ≡ x = e.0 in
      let b : x ≤ stars.made = key_made x has in
      let c : stars.made < star_of stars u = star_above u (pair_key u v t had).0 in omega arith
  apart d t y z (x, has, inr e) (u, v, had, is, new) =
      e.3 (e.2 ∙ beyond-before k (links_of rows) i (star_of stars) x t (pair_key u v t had).1)

  module _ (cs : List Change) (writes : WritesEntries (links_of rows) (λ d t y. IsCarriedEntry k (links_of rows) i (star_of stars) (n + 1) stars.keys d t y ⊎ IsPairEntry (star_of stars) pairs d t y) cs) where
    edit : Edit
    edit = record { births = length stars.keys; deaths = []; changes = cs }

    each : (P : Change → Type 0) → ((c : Change) → IsCarriedEntry k (links_of rows) i (star_of stars) (n + 1) stars.keys c.dart c.link c.new ⊎ IsPairEntry (star_of stars) pairs c.dart c.link c.new → c.old ≡ links_of rows c.link c.dart → P c) → All P cs
    each P f p z h = let e = (writes.same (get_or cs p z)).0 (Contains-get_or cs p z h) in f (get_or cs p z) e.0 e.1

    born : (x : ℕ) → Contains stars.keys x → IsLive (with_births n (length stars.keys) rows) (star_of stars x)
    born x has =
        let a : stars.made < star_of stars x = star_above x has in
        let b : star_of stars x ≤ stars.made + length stars.keys = numbered_upto (Contains stars.keys) stars.keys stars.made (star_of stars) numbered x has in
        ap is_some (births-new n (length stars.keys) rows (star_of stars x) (omega (arith, ready.made)) (omega (arith, ready.made)))

    lives : (d t y : ℕ) → IsCarriedEntry k (links_of rows) i (star_of stars) (n + 1) stars.keys d t y ⊎ IsPairEntry (star_of stars) pairs d t y → IsLive (with_births n (length stars.keys) rows) d
    lives d t y (inl (x, has, inl e)) = rw e.0 (ap is_some (births-old n (length stars.keys) rows x (live-within rows x (key_live x has))) ∙ key_live x has)
    lives d t y (inl (x, has, inr e)) = rw e.0 (born x has)
    lives d t y (inr (u, v, has, is, new)) = rw is (born u (pair_key u v t has).0)

    inside : (d t y : ℕ) → IsCarriedEntry k (links_of rows) i (star_of stars) (n + 1) stars.keys d t y ⊎ IsPairEntry (star_of stars) pairs d t y → t ≤ n
    inside d t y (inl (x, has, inl e)) = omega (arith, e.1)
    inside d t y (inl (x, has, inr e)) = omega (arith, e.1)
    inside d t y (inr (u, v, has, is, new)) = below-within k i t n (pair_key u v t has).1 low

    -- each entry is the link after the edit, and all other links are as before
    written : (d t y : ℕ) → IsCarriedEntry k (links_of rows) i (star_of stars) (n + 1) stars.keys d t y ⊎ IsPairEntry (star_of stars) pairs d t y → links_of (after_edit n edit rows) t d ≡ y
    unfolding edit
    written d t y e =
        let c : Change = record { dart = d; link = t; old = links_of rows t d; new = y } in
        let has : Contains cs c = (writes.same c).1 (e, refl) in
        All-contains (λ (b : Change). links_of (after_edit n edit rows) b.link b.dart ≡ b.new) cs c
        (touched n cs (with_births n (length stars.keys) rows) (births-wide n (length stars.keys) rows sound.wide)
        (each (λ b. IsLive (with_births n (length stars.keys) rows) b.dart) (λ b f o. lives b.dart b.link b.new f)) (each (λ b. b.link ≤ n) (λ b f o. inside b.dart b.link b.new f)) writes.once) has

    left : (d t : ℕ) → ((y : ℕ) → IsCarriedEntry k (links_of rows) i (star_of stars) (n + 1) stars.keys d t y ⊎ IsPairEntry (star_of stars) pairs d t y → ⊥) → links_of (after_edit n edit rows) t d ≡ links_of rows t d
    unfolding edit
    left d t none =
        untouched cs (with_births n (length stars.keys) rows) t d (each (λ b. d ≡ b.dart → t ≡ b.link → ⊥) (λ b f o dart link. none b.new (rw (dart, link) f)))
        ∙ births-links n (length stars.keys) rows t d

    -- the links of a new dart, but for those of the pairs
    new_entry : (x t y : ℕ) → Contains stars.keys x → (IsJustBelow k i t → ⊥)
        → IsCarriedEntry k (links_of rows) i (star_of stars) (n + 1) stars.keys (star_of stars x) t y ⊎ IsPairEntry (star_of stars) pairs (star_of stars x) t y
        → (t ≤ n) × (y ≡ beyond k (links_of rows) i (star_of stars) x t) × (y ≢ 0)
    new_entry x t y has other (inl (u, had, inl e)) =
        let a : stars.made < star_of stars x = star_above x has in
        let b : u ≤ stars.made = key_made u had in absurd (omega (arith, e.0))
    new_entry x t y has other (inl (u, had, inr e)) =
        let same : x ≡ u = star_one x u has had e.0 in
        (omega (arith, e.1), e.2 ∙ ap (λ v. beyond k (links_of rows) i (star_of stars) v t) (sym same), e.3)
    new_entry x t y has other (inr (u, v, had, is, new)) = absurd (other (pair_key u v t had).1)

    high_free : (x t : ℕ) → n < t → beyond k (links_of rows) i (star_of stars) x t ≡ 0
    high_free x t above = elim (same_or_not t (i + 1)) [
      | inl next ↦ absurd (omega arith)
      | inr far ↦
          beyond-else k (links_of rows) i (star_of stars) x t (omega arith) (λ b. let h : t ≤ n = below-within k i t n b low in omega arith)
          ∙ ap (star_of stars) (ap (λ j. links_of rows j x) (copied-far k i t far ∙ inverse_own k t (omega arith)) ∙ rows_dimension n rows sound.wide t x above) ∙ ready.nothing
    ]

    new_links : (x t : ℕ) → Contains stars.keys x → (IsJustBelow k i t → ⊥) → links_of (after_edit n edit rows) t (star_of stars x) ≡ beyond k (links_of rows) i (star_of stars) x t
    new_links x t has other = elim (same_or_not (beyond k (links_of rows) i (star_of stars) x t) 0) [
      | inl free ↦
          left (star_of stars x) t (λ y e. let h = new_entry x t y has other e in h.2 (h.1 ∙ free)) ∙ star_free t x has ∙ sym free
      | inr some ↦ elim (cases_lt n t) [
        | inl above ↦ absurd (some (high_free x t above))
        | inr within ↦ written (star_of stars x) t (beyond k (links_of rows) i (star_of stars) x t) (inl (x, has, inr (refl, omega arith, refl, some)))
      ]
    ]

    old_kept : (x t y : ℕ) → (Contains stars.keys x → t ≢ i) → ((u : ℕ) → Contains stars.keys u → x ≢ star_of stars u)
        → IsCarriedEntry k (links_of rows) i (star_of stars) (n + 1) stars.keys x t y ⊎ IsPairEntry (star_of stars) pairs x t y → ⊥
    old_kept x t y out old (inl (u, has, inl e)) = out (subst (Contains stars.keys) (sym e.0) has) e.1
    old_kept x t y out old (inl (u, has, inr e)) = old u has e.0
    old_kept x t y out old (inr (u, v, has, is, new)) = old u (pair_key u v t has).0 is

    inserted : IsInserted k i (Contains stars.keys) (Lists pairs) (star_of stars) (links_of rows) (links_of (after_edit n edit rows))
    inserted = record {
      new = λ x has. written x i (star_of stars x) (inl (x, has, inl (refl, refl, refl)));
      old = λ x has. new_links x i has (λ b. below_apart k i i b refl) ∙ beyond-own k (links_of rows) i (star_of stars) x;
      beyond = λ x has.
          let next : suc i ≡ i + 1 = omega arith in
          new_links x (suc i) has (next-above k i (suc i) can.own next)
          ∙ ap (beyond k (links_of rows) i (star_of stars) x) next
          ∙ beyond-else k (links_of rows) i (star_of stars) x (i + 1) (omega arith) (next-above k i (i + 1) can.own refl)
          ∙ ap (λ j. star_of stars (links_of rows j x)) (copied-next k i);
      paired = λ x y t has. written (star_of stars x) t (star_of stars y) (inr (x, y, has, refl, refl));
      along = λ x j has far.
          let own : j ≢ i = λ e. IsDistant-apart k i j far (sym e) in
          let before : IsJustBelow k i j → ⊥ = far-below k i j far in
          let next : j ≢ i + 1 = far-off k i j can.own far in
          new_links x j has before ∙ beyond-else k (links_of rows) i (star_of stars) x j own before ∙ ap (λ t. star_of stars (links_of rows t x)) (copied-far k i j next);
      kept = λ x t out old. left x t (λ y e. old_kept x t y out old e);
    }

    fresh : IsFresh (links_of rows) (Contains stars.keys) (star_of stars)
    fresh = numbered_fresh (Contains stars.keys) stars.keys stars.made (star_of stars) numbered (links_of rows) key_made
        (λ t x linked. let h : x ≤ made rows = rows_made rows t x linked in omega (arith, ready.made))

    kept_laws : Laws k (links_of (after_edit n edit rows))
    kept_laws = insertion_keeps k i (Contains stars.keys) (Lists pairs) (star_of stars) (links_of rows) w can fresh (links_of (after_edit n edit rows)) inserted

    fits : Fits k n rows edit
    unfolding edit
    fits = record {
      darts = each (λ b. IsLive (with_births n (length stars.keys) rows) b.dart) (λ b f o. lives b.dart b.link b.new f);
      links = each (λ b. b.link ≤ n) (λ b f o. inside b.dart b.link b.new f);
      stands = each (λ b. links_of rows b.link b.dart ≡ b.old) (λ b f o. sym o);
      once = writes.once;
      back = kept_laws.back;
      living = λ p z h. absurd (omega arith);
      ends = λ a b z h l. absurd (omega arith);
      free = λ p z h. absurd (omega arith);
    }

    pub inserts : PlansInsertion k n rows (Contains stars.keys) (λ s N. IsInserted k i (Contains stars.keys) (Lists pairs) s (links_of rows) N)
        (record { births = length stars.keys; deaths = []; changes = cs })
    unfolding edit
    inserts = record {
      deaths = refl;
      fits = fits;
      keys = stars.keys;
      star = star_of stars;
      numbered = subst (λ m. IsNumbered (Contains stars.keys) stars.keys m (star_of stars)) ready.made numbered;
      births = refl;
      becomes = inserted;
      laws = kept_laws;
    }

  -- the changes of the keys, and behind them those of the pairs
  pub insertion-inserts : (cs : List Change) → WritesEntries (links_of rows) (IsCarriedEntry k (links_of rows) i (star_of stars) (n + 1) stars.keys) cs
      → PlansInsertion k n rows (Contains stars.keys) (λ s N. IsInserted k i (Contains stars.keys) (Lists pairs) s (links_of rows) N)
      (record { births = length stars.keys; deaths = []; changes = cs ++ pair_changes (star_of stars) pairs })
  insertion-inserts cs carried =
      inserts (cs ++ pair_changes (star_of stars) pairs)
      (writes-append (links_of rows) (IsCarriedEntry k (links_of rows) i (star_of stars) (n + 1) stars.keys) (IsPairEntry (star_of stars) pairs) cs (pair_changes (star_of stars) pairs) apart carried
      (pairs-write (links_of rows) (star_of stars) pairs up (λ x y t has. star_free t x (pair_key x y t has).0)
      (λ x y t u v s has had e. star_one x u (pair_key x y t has).0 (pair_key u v s had).0 e)))
