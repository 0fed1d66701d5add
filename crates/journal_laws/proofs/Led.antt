-- Where an edit leads from the rows of one content to those of another, the second can follow the first.
use Rattle.std.proofs.Common.{◌≡◌, ℕ, ◌+◌, ◌<◌, ◌≤◌, ◌⊎◌, length, sym, ap, ◌∙◌, subst, inl, inr, arith}
use Rattle.map_defs.specs.Kind.{Kind}
use Rattle.map_defs.specs.Rows.{Rows, made, IsLive, IsSound}
use Rattle.map_defs.specs.Edits.{Edit, IsLed}
use Rattle.machine_defs.specs.State.{Content, HasPlaces}
use Rattle.edit_laws.proofs.EditSound.{length-after, after-sound}
use Rattle.edit_laws.proofs.EditBack.{born-live}
use Rattle.journal_laws.specs.Following.{Follows}
use Rattle.journal_laws.proofs.EditLives.{lived-or-born}

module _ (a b : Content) (e : Edit) (kind : b.kind ≡ a.kind) (dim : b.dim ≡ a.dim) (led : IsLed a.kind a.dim e a.rows b.rows)
    (places : HasPlaces a) (next_places : HasPlaces b) (rules : length b.rules ≡ length a.rules) where
  long : length b.rows ≡ length a.rows + e.births
  long = ap (λ (r : Rows). length r) (sym led.after) ∙ length-after a.dim e a.rows

  next_sound : IsSound b.kind b.dim b.rows
  next_sound =
      subst (λ (k : Kind). IsSound k b.dim b.rows) (sym kind)
      (subst (λ (n : ℕ). IsSound a.kind n b.rows) (sym dim)
      (subst (λ (r : Rows). IsSound a.kind a.dim r) led.after (after-sound a.kind a.dim a.rows e led.begun led.sound led.fits led.few)))

  ended : (d : ℕ) → IsLive b.rows d → IsLive a.rows d ⊎ (made a.rows < d)
  ended d live = elim (lived-or-born a.kind a.dim a.rows e led.sound led.fits d (subst (λ (r : Rows). IsLive r d) (sym led.after) live)) [
    | inl lived ↦ inl lived
    | inr new ↦ inr (let low = new.0 in let begun = led.begun in omega arith)
  ]

  born : (d : ℕ) → made a.rows < d → d ≤ made b.rows → IsLive b.rows d
  born d low high =
      let begun = led.begun in
      subst (λ (r : Rows). IsLive r d) led.after
      (born-live a.kind a.dim a.rows e led.sound led.fits d (omega arith) (let e' = long in omega arith))

  pub led-follows : Follows a b
  led-follows = record {
    kind = kind;
    dim = dim;
    begun = led.begun;
    sound = led.sound;
    next_sound = next_sound;
    places = places;
    next_places = next_places;
    rules = rules;
    grown = (let e' = long in omega arith);
    ended = ended;
    born = born;
  }
