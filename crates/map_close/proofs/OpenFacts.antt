-- The open darts at which a map is closed, and their new darts.
use Rattle.std.proofs.Common.{ℕ, ◌≡◌, ◌≢◌, ◌+◌, ◌<◌, ◌≤◌, length, get_or, Contains, is_some, ap, ◌∙◌, arith}
use Rattle.std.proofs.lemmas.List.Elements.{Contains-get_or}
use Rattle.map_defs.specs.Kind.{Kind}
use Rattle.map_defs.specs.Rows.{Rows, links_of, made, IsLive, IsSound}
use Rattle.map_defs.specs.Births.{IsNumbered, IsFresh}
use Rattle.map_defs.specs.Edits.{with_births}
use Rattle.map_defs.specs.Closing.{IsOpen, IsAround}
use Rattle.link_laws.proofs.RowFacts.{rows_made}
use Rattle.edit_laws.proofs.RowWrites.{births-old, births-new, live-within}
use Rattle.insert_laws.proofs.Numbers.{numbered_above, numbered_upto, numbered_fresh}
use Rattle.cell_edit.specs.Stars.{Stars, star_of}
use Rattle.cell_edit.proofs.StarNumbers.{stars-number, few_keys}
use Rattle.cell_edit.proofs.Beyond.{live-made}
use Rattle.cell_edit.proofs.Premises.{live-dart, all-live, all-made}
use Rattle.map_close.specs.NewLinks.{CanClose}
use Rattle.map_close.proofs.Rounds.{around-found}
use Rattle.map_close.proofs.StarNumbers.{star-key}

module _ (k : Kind) (n : ℕ) (rows : Rows) (sound : IsSound k n rows) (i : ℕ) (stars : Stars) (can : CanClose k rows i stars) where
  abbrev K : ℕ → Type 0
  K = Contains stars.keys

  pub key-live : (x : ℕ) → K x → IsLive rows x
  key-live x has = ((can.members x).0 has).0

  pub key-free : (x : ℕ) → K x → links_of rows i x ≡ 0
  key-free x has = ((can.members x).0 has).1

  pub key-made : (x : ℕ) → K x → x ≤ stars.made
  key-made x has = let low : x ≤ made rows = live-made rows x (key-live x has) in omega (arith, can.made)

  pub keys-few : length stars.keys ≤ made rows
  keys-few = few_keys stars.keys (made rows) can.ascending (all-made k n rows sound stars.keys (all-live rows (IsOpen (IsLive rows) i (links_of rows)) stars.keys can.members (λ x h. h.0)))

  pub numbered : IsNumbered K stars.keys stars.made (star_of stars)
  numbered = stars-number stars can.ascending (λ p z h. live-dart k n rows sound (get_or stars.keys p z) (key-live (get_or stars.keys p z) (Contains-get_or stars.keys p z h)))

  pub star-none : star_of stars 0 ≡ 0
  star-none = numbered.nothing

  pub star-fresh : IsFresh (links_of rows) K (star_of stars)
  star-fresh = numbered_fresh K stars.keys stars.made (star_of stars) numbered (links_of rows) key-made
      (λ t x some. let low : x ≤ made rows = rows_made rows t x some in omega (arith, can.made))

  pub star-above : (x : ℕ) → K x → stars.made < star_of stars x
  star-above = numbered_above K stars.keys stars.made (star_of stars) numbered

  -- a live dart without a new dart is not free, and one that has a new dart is
  pub star-crossed : (x : ℕ) → IsLive rows x → star_of stars x ≡ 0 → links_of rows i x ≢ 0
  star-crossed x live none free = let above = star-above x ((can.members x).1 (live, free)) in omega (arith, none)

  pub star-free : (x : ℕ) → star_of stars x ≢ 0 → links_of rows i x ≡ 0
  star-free x some = key-free x (star-key stars x some)

  -- the way around a boundary ends
  pub rounds : (x : ℕ) → K x → (t : ℕ) → (y : ℕ) × IsAround k i t (links_of rows) x y
  rounds x has t = around-found k (links_of rows) can.laws i can.own t (made rows) (rows_made rows) x (key-free x has)

  -- ---- after the births the live darts live on, and the new darts live
  pub old-lives : (x : ℕ) → IsLive rows x → IsLive (with_births n (length stars.keys) rows) x
  old-lives x live = ap is_some (births-old n (length stars.keys) rows x (live-within rows x live)) ∙ live

  pub star-lives : (x : ℕ) → K x → IsLive (with_births n (length stars.keys) rows) (star_of stars x)
  star-lives x has =
      let some : x < length rows = live-within rows x (key-live x has) in
      let above : stars.made < star_of stars x = star-above x has in
      let high : star_of stars x ≤ stars.made + length stars.keys = numbered_upto K stars.keys stars.made (star_of stars) numbered x has in
      ap is_some (births-new n (length stars.keys) rows (star_of stars x) (omega (arith, can.made)) (omega (arith, can.made)))
