-- An edit that fits is taken back.
use Rattle.std.proofs.Common.{◌≡◌, ◌≢◌, ℕ, ◌+◌, ◌-◌, ◌<◌, ◌≤◌, List, length, get_or, take, replicate, Option, Some, None, is_some, IsSome, refl, sym, ap, ◌∙◌, subst, arith}
use Rattle.std.specs.Prelude.{All}
use Rattle.std.proofs.lemmas.Bool.{false≢true}
use Rattle.std.proofs.lemmas.List.{ext_get_or, get_or-replicate, get_or-take, length-replicate, length-take-le, take_at}
use Rattle.map_defs.specs.Kind.{Kind}
use Rattle.map_defs.specs.Rows.{Rows, row_at, links_of, entry_of, IsLive, IsSound}
use Rattle.map_defs.specs.Edits.{Change, Edit, free_row, with_births, with_changes, after_edit, before_edit, unlinked, revived, Fits, IsLed}
use Rattle.edit_laws.proofs.RowWrites.{births-links, births-wide, births-old, births-new, live-within}
use Rattle.edit_laws.proofs.EditSteps.{linked-live, linked-wide, unlinked-linked, unlinked-take, buried-dead, buried-other, revived-buried, revived-take}
use Rattle.edit_laws.proofs.EditSound.{length-after}

-- a row that is there, is wide and has all entries 0 is the free one
free-is : (n : ℕ) (o : Option (List ℕ)) → IsSome o → ((row : List ℕ) → o ≡ Some row → length row ≡ n + 1) → ((i : ℕ) → entry_of o i ≡ 0) → o ≡ Some (free_row n)
free-is n None some wide free = absurd (false≢true some)
free-is n (Some row) some wide free =
    ap (λ (r : List ℕ). Some r)
    (ext_get_or 0 row (free_row n) (wide row refl ∙ sym (length-replicate (n + 1) (let z : ℕ = 0 in z)))
    (λ i h. free i ∙ sym (get_or-replicate (n + 1) i 0 0 (omega (arith, wide row refl)))))

module _ (k : Kind) (n : ℕ) (rows : Rows) (e : Edit) (sound : IsSound k n rows) (fits : Fits k n rows e) where
  -- the darts that end, before they do
  free-rows : All (λ (d : ℕ). row_at (with_changes n e rows) d ≡ Some (free_row n)) e.deaths
  free-rows p z h =
      let d : ℕ = get_or e.deaths p z in
      let lives = fits.living p z h in
      let old = births-old n e.births rows d (live-within rows d lives) in
      free-is n (row_at (with_changes n e rows) d)
      (linked-live e.changes (with_births n e.births rows) d ∙ ap is_some old ∙ lives)
      (linked-wide n e.changes (with_births n e.births rows) (births-wide n e.births rows sound.wide) d)
      (fits.free p z h)

  -- The rows before the edit are found again.
  pub before-after : before_edit n e (after_edit n e rows) ≡ rows
  before-after =
      let cut : length (after_edit n e rows) - e.births ≡ length rows = omega (arith, length-after n e rows) in
      let stands : All (λ (c : Change). links_of (with_births n e.births rows) c.link c.dart ≡ c.old) e.changes = λ p z h.
      births-links n e.births rows (get_or e.changes p z).link (get_or e.changes p z).dart ∙ fits.stands p z h in
      ap (λ (m : ℕ). take m (unlinked e.changes (revived n e.deaths (after_edit n e rows)))) cut
      ∙ ap (λ (r : Rows). take (length rows) (unlinked e.changes r)) (revived-buried n e.deaths (with_changes n e rows) free-rows fits.ends)
      ∙ ap (take (length rows)) (unlinked-linked e.changes (with_births n e.births rows) stands fits.once)
      ∙ take_at rows (replicate e.births (Some (free_row n))) (length rows) refl

  -- the last births live after the edit
  pub born-live : (x : ℕ) → length rows ≤ x → x < length rows + e.births → IsLive (after_edit n e rows) x
  born-live x low high =
      let apart : All (λ (d : ℕ). x ≢ d) e.deaths = λ p z h same.
      let within = live-within rows (get_or e.deaths p z) (fits.living p z h) in omega arith in
      ap is_some (buried-other e.deaths (with_changes n e rows) x apart)
      ∙ linked-live e.changes (with_births n e.births rows) x ∙ ap is_some (births-new n e.births rows x low high)

-- the steps that take an edit back in the order of the code
pub before-steps : (n : ℕ) (e : Edit) (rows : Rows)
    → unlinked e.changes (revived n e.deaths (take (length rows - e.births) rows)) ≡ before_edit n e rows
before-steps n e rows =
    ap (unlinked e.changes) (revived-take n e.deaths (length rows - e.births) rows)
    ∙ unlinked-take e.changes (length rows - e.births) (revived n e.deaths rows)

-- What rows that an edit led to are like.
pub record IsAfter (n : ℕ) (e : Edit) (rows : Rows) : Type 0 where
  pub many : e.births < length rows
  pub born : (x : ℕ) → length rows - e.births ≤ x → x < length rows → IsLive rows x
  pub dead : All (λ (d : ℕ). row_at (take (length rows - e.births) rows) d ≡ None) e.deaths
  pub made : All (λ (d : ℕ). d < length (take (length rows - e.births) rows)) e.deaths

pub after-of : (k : Kind) (n : ℕ) (e : Edit) (old new : Rows) → IsLed k n e old new → IsAfter n e new
after-of k n e old new led =
    let is : after_edit n e old ≡ new = led.after in
    let len : length new ≡ length old + e.births = ap length (sym is) ∙ length-after n e old in
    let begun = led.begun in
    let cut : length new - e.births ≡ length old = omega arith in
    record {
      many = omega arith;
      born = λ x low high. subst (λ (r : Rows). IsLive r x) is (born-live k n old e led.sound led.fits x (omega arith) (omega arith));
      dead = λ p z h.
          let d : ℕ = get_or e.deaths p z in
          let within = live-within old d (led.fits.living p z h) in
          get_or-take (length new - e.births) new d None (omega arith)
          ∙ ap (λ (r : Rows). row_at r d) (sym is) ∙ buried-dead e.deaths (with_changes n e old) p z h;
      made = λ p z h.
          let within = live-within old (get_or e.deaths p z) (led.fits.living p z h) in
          omega (arith, length-take-le (length new - e.births) new (omega arith));
    }

-- the rows that an edit led from are those before it
pub before-led : (k : Kind) (n : ℕ) (e : Edit) (old new : Rows) → IsLed k n e old new → before_edit n e new ≡ old
before-led k n e old new led = ap (before_edit n e) (sym led.after) ∙ before-after k n old e led.sound led.fits
