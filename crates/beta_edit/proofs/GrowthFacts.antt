-- Darts that get new ones, their new darts, and the edits that bear these.
use Rattle.std.proofs.Common.{ℕ, ◌≡◌, ◌≢◌, ◌+◌, ◌<◌, ◌≤◌, List, [], length, slice_index, get_or, Contains, is_some, ap, ◌∙◌, arith}
use Rattle.std.proofs.lemmas.List.Elements.{All-contains, Contains-get_or}
use Rattle.map_defs.specs.Kind.{beta}
use Rattle.map_defs.specs.Links.{Links}
use Rattle.map_defs.specs.Laws.{Laws}
use Rattle.map_defs.specs.Rows.{Rows, links_of, made, IsLive, IsSound}
use Rattle.map_defs.specs.Births.{IsNumbered, IsFresh}
use Rattle.map_defs.specs.Edits.{Change, Edit, with_births}
use Rattle.link_laws.proofs.RowFacts.{rows_made}
use Rattle.edit_laws.proofs.RowWrites.{births-old, births-new, live-within}
use Rattle.insert_laws.proofs.Fresh.{fresh_link}
use Rattle.insert_laws.proofs.Numbers.{numbered_above, numbered_upto, numbered_fresh}
use Rattle.cell_edit.specs.Stars.{Stars, star_of}
use Rattle.cell_edit.proofs.Beyond.{live-made, unmade-free}
use Rattle.cell_edit.proofs.Premises.{live-dart}
use Rattle.cell_edit.proofs.StarNumbers.{star-found, stars-number}
use Rattle.cell_edit.proofs.EntryEdit.{growing}
use Rattle.beta_edit.specs.Growing.{CanGrow, Grows}

module _ (n : ℕ) (rows : Rows) (sound : IsSound beta n rows) (stars : Stars) (grow : CanGrow rows stars) where
  pub key-live : (x : ℕ) → Contains stars.keys x → IsLive rows x
  key-live x h = All-contains (λ (d : ℕ). IsLive rows d) stars.keys x grow.live h

  pub key-dart : (x : ℕ) → Contains stars.keys x → x ≢ 0
  key-dart x h = live-dart beta n rows sound x (key-live x h)

  pub key-made : (x : ℕ) → Contains stars.keys x → x ≤ stars.made
  key-made x h = let low : x ≤ made rows = live-made rows x (key-live x h) in omega (arith, grow.made)

  pub keys-numbered : IsNumbered (Contains stars.keys) stars.keys stars.made (star_of stars)
  keys-numbered = stars-number stars grow.rising (λ p d h. key-dart (get_or stars.keys p d) (Contains-get_or stars.keys p d h))

  pub keys-fresh : IsFresh (links_of rows) (Contains stars.keys) (star_of stars)
  keys-fresh = numbered_fresh (Contains stars.keys) stars.keys stars.made (star_of stars) keys-numbered (links_of rows) key-made
      (λ t x linked. let h : x ≤ made rows = rows_made rows t x linked in omega (arith, grow.made))

  -- no link leads to a new dart
  pub link-old : Laws beta (links_of rows) → (t x u : ℕ) → Contains stars.keys u → links_of rows t x ≢ star_of stars u
  link-old w t x u h e = fresh_link beta (links_of rows) w (Contains stars.keys) (star_of stars) keys-fresh t x (u, h, e)

  -- ---- after the births the live darts live on, and the new darts live
  pub old-lives : (x : ℕ) → IsLive rows x → IsLive (with_births n (length stars.keys) rows) x
  old-lives x live = ap is_some (births-old n (length stars.keys) rows x (live-within rows x live)) ∙ live

  pub new-lives : (x : ℕ) → Contains stars.keys x → IsLive (with_births n (length stars.keys) rows) (star_of stars x)
  new-lives x h =
      let low : stars.made < star_of stars x = numbered_above (Contains stars.keys) stars.keys stars.made (star_of stars) keys-numbered x h in
      let high : star_of stars x ≤ stars.made + length stars.keys = numbered_upto (Contains stars.keys) stars.keys stars.made (star_of stars) keys-numbered x h in
      let some : x < length rows = live-within rows x (key-live x h) in
      ap is_some (births-new n (length stars.keys) rows (star_of stars x) (omega (arith, grow.made)) (omega (arith, grow.made)))

  -- ---- the new dart of the dart at a place
  pub star-place : (p x : ℕ) → p < length stars.keys → slice_index stars.keys p ≡ x → star_of stars x ≡ stars.made + 1 + p
  star-place p x low at = star-found stars x p grow.rising low at

  -- no dart from the first new one on has links
  pub fresh-free : (t d : ℕ) → stars.made + 1 ≤ d → links_of rows t d ≡ 0
  fresh-free t d above = unmade-free rows t d (omega (arith, grow.made))

-- an edit of births alone and changes is told by these
pub grown-edit : (L : Links) (stars : Stars) (Entry : ℕ → ℕ → ℕ → Type 0) (edit : Edit) → Grows L stars Entry edit → growing (length stars.keys) edit.changes ≡ edit
grown-edit L stars Entry edit grows =
    let births = grows.births in
    let deaths = grows.deaths in
    let f : ℕ → List ℕ → List Change → Edit = λ b d c. record { births = b; deaths = d; changes = c } in
    let e : f (length stars.keys) [] edit.changes ≡ f edit.births edit.deaths edit.changes = cc in e
