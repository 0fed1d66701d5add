-- The content after each changing line can follow the one before it.
use Rattle.std.proofs.Common.{◌≡◌, ℕ, ◌+◌, ◌-◌, ◌<◌, ◌≤◌, ◌⊎◌, List, [], length, get_or, map, Option, Some, None, IsSome, refl, sym, ap, ◌∙◌, subst, inl, inr, arith}
use Rattle.std.proofs.lemmas.Bool.{cases_lt}
use Rattle.std.proofs.lemmas.List.{get_or_append_left, get_or-append_right, get_or-map, length-append, length-map}
use Rattle.map_defs.specs.Links.{Links}
use Rattle.map_defs.specs.Rows.{Rows, made, IsLive}
use Rattle.map_defs.specs.Values.{Hook}
use Rattle.machine_defs.specs.State.{Content, with_born}
use Rattle.machine_defs.specs.Relinking.{IsRelinked}
use Rattle.machine_defs.specs.Kept.{IsLawfulContent}
use Rattle.journal_laws.specs.Following.{Follows}

module _ (a b : Content) (kept : IsLawfulContent a) (next : IsLawfulContent b) (kind : b.kind ≡ a.kind) (dim : b.dim ≡ a.dim) where
  -- with new darts
  pub grown-follows : (births : ℕ) → length b.rows ≡ length a.rows + births
      → ((d : ℕ) → IsLive b.rows d → IsLive a.rows d ⊎ (made a.rows < d))
      → ((d : ℕ) → made a.rows < d → d ≤ made a.rows + births → IsLive b.rows d) → Follows a b
  grown-follows births long ended born = record {
    kind = kind;
    dim = dim;
    rules = next.ruled ∙ ap (λ (n : ℕ). n + 1) dim ∙ sym kept.ruled;
    begun = kept.begun;
    sound = kept.sound;
    next_sound = next.sound;
    places = kept.places;
    next_places = next.places;
    grown = omega (arith, long);
    ended = ended;
    born = λ d low high. (let begun = kept.begun in born d low (omega (arith, long)));
  }

  -- without
  pub stays-follows : length b.rows ≡ length a.rows → ((d : ℕ) → IsLive b.rows d → IsLive a.rows d) → Follows a b
  stays-follows long lived = grown-follows 0 (omega (arith, long)) (λ d live. inl (lived d live)) (λ d low high. absurd (omega arith))

-- after a change of links, where no new dart ends
pub relinked-follows : (hook : Hook) (c next : Content) (births : ℕ) (Ended : ℕ → Type 0) (Becomes : Links → Type 0)
    → IsLawfulContent c → IsLawfulContent next → ((d : ℕ) → made c.rows < d → d ≤ made c.rows + births → Ended d → ⊥)
    → IsRelinked hook c births Ended Becomes next → Follows c next
relinked-follows hook c next births Ended Becomes kept kept' stay r =
    grown-follows c next kept kept' r.kind r.dim births r.long ended (λ d low high. (r.live d).1 (inr (low, high), stay d low high))
  where
    ended : (d : ℕ) → IsLive next.rows d → IsLive c.rows d ⊎ (made c.rows < d)
    ended d live = elim ((r.live d).0 live).0 [ inl old ↦ inl old | inr new ↦ inr new.0 ]

-- with new darts behind
module _ (c : Content) (born : List (List ℕ)) (kept : IsLawfulContent c) (kept' : IsLawfulContent (with_born c born)) where
  abbrev rows : Rows
  rows = c.rows

  abbrev more : Rows
  more = map (λ (row : List ℕ). Some row) born

  lived : (d : ℕ) → IsLive (with_born c born).rows d → IsLive rows d ⊎ (made rows < d)
  lived d live = elim (cases_lt d (length rows)) [
    | inl under ↦ inl (subst (λ (o : Option (List ℕ)). IsSome o) (get_or_append_left rows more None d under) live)
    | inr over ↦ inr (let begun = kept.begun in omega arith)
  ]

  new-live : (d : ℕ) → made rows < d → d ≤ made rows + length born → IsLive (with_born c born).rows d
  new-live d low high =
      let begun = kept.begun in
      let row : get_or (with_born c born).rows d None ≡ Some (get_or born (d - length rows) []) =
      get_or-append_right rows more (length rows) d None refl (omega arith)
      ∙ get_or-map (λ (r : List ℕ). Some r) born (d - length rows) [] None (omega arith) in
      subst (λ (o : Option (List ℕ)). IsSome o) (sym row) refl

  pub born-follows : Follows c (with_born c born)
  born-follows = grown-follows c (with_born c born) kept kept' refl refl (length born)
      (omega (arith, length-append rows more, length-map born (λ (row : List ℕ). Some row))) lived new-live
