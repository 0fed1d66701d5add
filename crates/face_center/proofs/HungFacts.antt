-- Darts on which edges are hung, and their new darts.
use Rattle.std.proofs.Common.{ℕ, ◌≢◌, ◌+◌, ◌<◌, ◌≤◌, length, Contains, is_some, ap, ◌∙◌, arith}
use Rattle.std.proofs.lemmas.List.Elements.{All-contains}
use Rattle.map_defs.specs.Kind.{Kind}
use Rattle.map_defs.specs.Rows.{Rows, links_of, made, IsLive}
use Rattle.map_defs.specs.Births.{IsFresh}
use Rattle.map_defs.specs.Edits.{with_births}
use Rattle.link_laws.proofs.RowFacts.{rows_made}
use Rattle.edit_laws.proofs.RowWrites.{births-old, births-new, live-within}
use Rattle.insert_laws.proofs.Numbers.{numbered_above, numbered_upto}
use Rattle.center_laws.proofs.TwoSeries.{series_fresh}
use Rattle.cell_edit.specs.Stars.{Stars, star_of}
use Rattle.cell_edit.proofs.Beyond.{live-made}
use Rattle.face_center.specs.declared.hanging.Hanging.{Hanging}
use Rattle.face_center.specs.Hanging.{tip_of, CanHang}
use Rattle.face_center.proofs.Tips.{begins-number, ends-number}

module _ (k : Kind) (rows : Rows) (h : Hanging) (stars : Stars) (can : CanHang k rows h stars) where
  abbrev K : ℕ → Type 0
  K = Contains stars.keys

  pub key-live : (x : ℕ) → K x → IsLive rows x
  key-live x has = All-contains (λ (d : ℕ). IsLive rows d) stars.keys x can.live has

  pub key-made : (x : ℕ) → K x → x ≤ stars.made
  key-made x has = let low : x ≤ made rows = live-made rows x (key-live x has) in omega (arith, can.made)

  links-made : (t x : ℕ) → links_of rows t x ≢ 0 → x ≤ stars.made
  links-made t x some = let low : x ≤ made rows = rows_made rows t x some in omega (arith, can.made)

  fresh : IsFresh (links_of rows) K (star_of stars) × IsFresh (links_of rows) K (tip_of stars) × ((x y : ℕ) → K x → K y → star_of stars x ≢ tip_of stars y)
  fresh = series_fresh K stars.keys stars.made (star_of stars) (tip_of stars) (begins-number stars can.pair) (ends-number stars can.pair) (links_of rows) key-made links-made

  pub star-fresh : IsFresh (links_of rows) K (star_of stars)
  star-fresh = fresh.0

  pub tip-fresh : IsFresh (links_of rows) K (tip_of stars)
  tip-fresh = fresh.1

  pub star-tip : (x y : ℕ) → K x → K y → star_of stars x ≢ tip_of stars y
  star-tip = fresh.2

  -- ---- the new darts are none of the old ones
  pub star-above : (x : ℕ) → K x → stars.made < star_of stars x
  star-above = numbered_above K stars.keys stars.made (star_of stars) (begins-number stars can.pair)

  pub tip-above : (x : ℕ) → K x → stars.made < tip_of stars x
  tip-above x has =
      let high : stars.made + length stars.keys < tip_of stars x = numbered_above K stars.keys (stars.made + length stars.keys) (tip_of stars) (ends-number stars can.pair) x has in
      omega arith

  -- ---- after the births the live darts live on, and the new darts live
  pub old-lives : (n x : ℕ) → IsLive rows x → IsLive (with_births n (length stars.keys + length stars.keys) rows) x
  old-lives n x live = ap is_some (births-old n (length stars.keys + length stars.keys) rows x (live-within rows x live)) ∙ live

  born : (n x y : ℕ) → K x → stars.made < y → y ≤ stars.made + length stars.keys + length stars.keys → IsLive (with_births n (length stars.keys + length stars.keys) rows) y
  born n x y has low high =
      let some : x < length rows = live-within rows x (key-live x has) in
      ap is_some (births-new n (length stars.keys + length stars.keys) rows y (omega (arith, can.made)) (omega (arith, can.made)))

  pub star-lives : (n x : ℕ) → K x → IsLive (with_births n (length stars.keys + length stars.keys) rows) (star_of stars x)
  star-lives n x has =
      let high : star_of stars x ≤ stars.made + length stars.keys = numbered_upto K stars.keys stars.made (star_of stars) (begins-number stars can.pair) x has in
      born n x (star_of stars x) has (star-above x has) (omega arith)

  pub tip-lives : (n x : ℕ) → K x → IsLive (with_births n (length stars.keys + length stars.keys) rows) (tip_of stars x)
  tip-lives n x has =
      born n x (tip_of stars x) has (tip-above x has)
      (numbered_upto K stars.keys (stars.made + length stars.keys) (tip_of stars) (ends-number stars can.pair) x has)
