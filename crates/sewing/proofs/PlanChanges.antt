-- Edits that change links alone, one for each triple of a list in which no dart and link stands twice: they fit, and what they make of the links.
use Rattle.std.proofs.Common.{◌≡◌, ℕ, ◌≤◌, ◌<◌, List, [], length, get_or, map, ap, ◌∙◌, arith}
use Rattle.std.specs.Prelude.{All, is_some}
use Rattle.std.specs.List.{AllPairs}
use Rattle.std.proofs.lemmas.List.{get_or-map, length-map}
use Rattle.std.proofs.lemmas.List.Elements.{All-map, Contains-get_or}
use Rattle.map_defs.specs.Kind.{Kind}
use Rattle.map_defs.specs.Laws.{Laws}
use Rattle.map_defs.specs.Rows.{Rows, links_of, IsLive, IsSound}
use Rattle.map_defs.specs.Edits.{Change, Edit, with_births, after_edit, Fits}
use Rattle.edit_laws.proofs.RowWrites.{births-links, births-wide, births-old, live-within}
use Rattle.edit_laws.proofs.EditLinks.{touched, untouched}
use Rattle.sewing.specs.Triples.{Triple, Lists}
use Rattle.sewing.specs.PairSteps.{AreApart}

-- changes of links, and nothing else
abbrev pub relinks : List Change → Edit
relinks cs = record { births = 0; deaths = []; changes = cs }

-- What changes are to be like, so that they fit.
pub record AreChanges (n : ℕ) (rows : Rows) (cs : List Change) : Type 0 where
  pub live : All (λ (c : Change). IsLive rows c.dart) cs
  pub within : All (λ (c : Change). c.link ≤ n) cs
  pub stands : All (λ (c : Change). links_of rows c.link c.dart ≡ c.old) cs
  pub once : AllPairs (λ (b c : Change). b.dart ≡ c.dart → b.link ≡ c.link → ⊥) cs

module _ (k : Kind) (n : ℕ) (rows : Rows) (sound : IsSound k n rows) (cs : List Change) (are : AreChanges n rows cs) where
  born-live : All (λ (c : Change). IsLive (with_births n 0 rows) c.dart) cs
  born-live p z h = let live = are.live p z h in ap is_some (births-old n 0 rows (get_or cs p z).dart (live-within rows (get_or cs p z).dart live)) ∙ live

  relinked-at : All (λ (c : Change). links_of (after_edit n (relinks cs) rows) c.link c.dart ≡ c.new) cs
  relinked-at = touched n cs (with_births n 0 rows) (births-wide n 0 rows sound.wide) born-live are.within are.once

  relinked-else : (i d : ℕ) → All (λ (c : Change). d ≡ c.dart → i ≡ c.link → ⊥) cs → links_of (after_edit n (relinks cs) rows) i d ≡ links_of rows i d
  relinked-else i d other = untouched cs (with_births n 0 rows) i d other ∙ births-links n 0 rows i d

  pub relinks-fit : Laws k (links_of (after_edit n (relinks cs) rows)) → Fits k n rows (relinks cs)
  relinks-fit w = record {
    darts = born-live;
    links = are.within;
    stands = are.stands;
    once = are.once;
    back = w.back;
    living = λ p z h. absurd (omega arith);
    ends = λ i j z h l. absurd (omega arith);
    free = λ p z h. absurd (omega arith);
  }

-- one change for each triple
abbrev pub changes : (Triple → ℕ) → (Triple → ℕ) → List Triple → List Change
changes old new pairs = map (λ p. record { dart = p.x; link = p.t; old = old p; new = new p }) pairs

module _ (k : Kind) (n : ℕ) (rows : Rows) (sound : IsSound k n rows) (old new : Triple → ℕ) (pairs : List Triple) (apart : AreApart pairs)
    (live : (x y t : ℕ) → Lists pairs x y t → IsLive rows x) (within : (x y t : ℕ) → Lists pairs x y t → t ≤ n)
    (stands : (x y t : ℕ) → Lists pairs x y t → links_of rows t x ≡ old (record { x = x; y = y; t = t })) where
  change : Triple → Change
  change p = record { dart = p.x; link = p.t; old = old p; new = new p }

  each : (P : Change → Type 0) → ((x y t : ℕ) → Lists pairs x y t → P (record { dart = x; link = t; old = old (record { x = x; y = y; t = t }); new = new (record { x = x; y = y; t = t }) })) → All P (changes old new pairs)
  each P f = All-map P (λ p. record { dart = p.x; link = p.t; old = old p; new = new p }) pairs
      (λ i d low. let p : Triple = get_or pairs i d in f p.x p.y p.t (Contains-get_or pairs i d low))

  pub are-changes : AreChanges n rows (changes old new pairs)
  are-changes = record {
    live = each (λ c. IsLive rows c.dart) live;
    within = each (λ c. c.link ≤ n) within;
    stands = each (λ c. links_of rows c.link c.dart ≡ c.old) stands;
    once = λ i j z first last.
        let low : j < length pairs = omega (arith, last, length-map pairs (λ (p : Triple). let c : Change = record { dart = p.x; link = p.t; old = old p; new = new p } in c)) in
        let d : Triple = record { x = 0; y = 0; t = 0 } in
        rw (
          get_or-map (λ (p : Triple). let c : Change = record { dart = p.x; link = p.t; old = old p; new = new p } in c) pairs i d z (omega arith),
          get_or-map (λ (p : Triple). let c : Change = record { dart = p.x; link = p.t; old = old p; new = new p } in c) pairs j d z low,
        )
        (apart i j d first low);
  }

  pub changed-at : (x y t : ℕ) → Lists pairs x y t → links_of (after_edit n (relinks (changes old new pairs)) rows) t x ≡ new (record { x = x; y = y; t = t })
  changed-at x y t has =
      let z : Change = record { dart = 0; link = 0; old = 0; new = 0 } in
      let p : Triple = record { x = x; y = y; t = t } in
      let there : get_or (changes old new pairs) has.0 z ≡ record { dart = x; link = t; old = old p; new = new p } =
      get_or-map (λ (q : Triple). let c : Change = record { dart = q.x; link = q.t; old = old q; new = new q } in c) pairs has.0 p z has.1
      ∙ ap (λ (q : Triple). let c : Change = record { dart = q.x; link = q.t; old = old q; new = new q } in c) has.2 in
      rw there at (relinked-at k n rows sound (changes old new pairs) are-changes has.0 z (omega (arith, has.1, length-map pairs (λ (q : Triple). let c : Change = record { dart = q.x; link = q.t; old = old q; new = new q } in c))))

  pub changed-else : (x t : ℕ) → ((y : ℕ) → Lists pairs x y t → ⊥) → links_of (after_edit n (relinks (changes old new pairs)) rows) t x ≡ links_of rows t x
  changed-else x t none =
      relinked-else k n rows sound (changes old new pairs) are-changes t x
      (each (λ c. x ≡ c.dart → t ≡ c.link → ⊥) (λ u v s has same link. none v (rw (same, link) has)))
