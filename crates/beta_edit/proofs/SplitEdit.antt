-- The edit that writes the entries of a vertex: it fits, splits the edge, and keeps the laws.
use Rattle.std.proofs.Common.{ℕ, zero, suc, ◌≡◌, ◌≢◌, ◌+◌, ◌<◌, ◌≤◌, List, length, take, get_or, Contains, refl, sym, ap, ◌∙◌, subst, inl, inr, arith}
use Rattle.map_defs.specs.Kind.{beta}
use Rattle.map_defs.specs.Links.{Links, IsTurned}
use Rattle.map_defs.specs.Laws.{Laws}
use Rattle.map_defs.specs.Rows.{Rows, links_of, made, IsLive, IsSound}
use Rattle.map_defs.specs.Births.{IsNumbered, IsFresh}
use Rattle.map_defs.specs.Edits.{Change, Edit, with_births, after_edit}
use Rattle.map_defs.specs.Insertion.{IsSplit}
use Rattle.link_laws.proofs.Basics.{by_cases, same_or_not}
use Rattle.link_laws.proofs.LawFacts.{link_one}
use Rattle.link_laws.proofs.RowFacts.{rows_dimension}
use Rattle.insert_laws.proofs.Fresh.{IsNew}
use Rattle.insert_laws.proofs.BetaVertex.{IsEdgeSet, split_keeps}
use Rattle.cell_edit.specs.Stars.{Stars, star_of}
use Rattle.cell_edit.specs.Inserting.{PlansInsertion}
use Rattle.cell_edit.specs.Writing.{WritesEntries}
use Rattle.cell_edit.proofs.AlongLinks.{linked-within}
use Rattle.cell_edit.proofs.Beyond.{live-made}
use Rattle.cell_edit.proofs.Listed.{listed-apart}
use Rattle.beta_edit.specs.Growing.{Grows}
use Rattle.beta_edit.specs.Splitting.{IsOldSplitEntry, AreSplitEntries, IsWholeEdge}
use Rattle.beta_edit.proofs.OldEntries.{places-apart}
use Rattle.beta_edit.proofs.SplitEntries.{split-on, old-place}
use Rattle.beta_edit.proofs.GrowthFacts.{key-live, key-dart, key-made, keys-numbered, keys-fresh, link-old, old-lives, new-lives, grown-edit}
use Rattle.cell_edit.proofs.EntryEdit.{growing, written, left, entries-fit}

module _ (n : ℕ) (rows : Rows) (sound : IsSound beta n rows) (dim : 2 ≤ n) (w : Laws beta (links_of rows)) (stars : Stars) (whole : IsWholeEdge rows stars) where
  abbrev L : Links
  L = links_of rows

  abbrev K : ℕ → Type 0
  K = Contains stars.keys

  abbrev star : ℕ → ℕ
  star = star_of stars

  abbrev Entry : ℕ → ℕ → ℕ → Type 0
  Entry = AreSplitEntries L star (n + 1) stars.keys

  fresh : IsFresh L K star
  fresh = keys-fresh n rows sound stars whole.grow

  set : IsEdgeSet L K
  set = record { dart = key-dart n rows sound stars whole.grow; on = whole.sides }

  -- a new dart is neither of the edge nor linked to
  key_old : (x u : ℕ) → K x → K u → x ≢ star u
  key_old x u h g e = fresh.outside u g (subst K e h)

  link_old : (t x u : ℕ) → K u → L t x ≢ star u
  link_old = link-old n rows sound stars whole.grow w

  -- the entries of two old darts have no place in common
  pub splits-apart : (m p x u : ℕ) → p < length stars.keys → x ≡ get_or stars.keys p x → Contains (take p stars.keys) u → (d t y z : ℕ)
      → IsOldSplitEntry L star m u d t y → IsOldSplitEntry L star m x d t z → ⊥
  splits-apart m p x u low at has d t y z e f =
      let apart : u ≢ x = listed-apart stars.keys p x u whole.grow.rising low at has in
      places-apart u (L 1 u) x (L 1 x) d t apart (λ some same. apart (link_one beta L w 1 u x some same)) (old-place L u star m d t y e) (old-place L x star m d t z f)

  -- they are those of darts that were made
  pub split-made : (m d t y : ℕ) → ((x : ℕ) × K x × IsOldSplitEntry L star m x d t y) → d < stars.made + 1
  split-made m d t y (x, h, inl (inl e)) = let low = key-made n rows sound stars whole.grow x h in omega (arith, e.0, low)
  split-made m d t y (x, h, inl (inr (some, e))) =
      let low : L 1 x ≤ made rows = live-made rows (L 1 x) (sound.live 1 x some) in
      omega (arith, e.0, low, whole.grow.made)
  split-made m d t y (x, h, inr (high, low, some, is, new)) = let under = key-made n rows sound stars whole.grow x h in omega (arith, is, under)

  linked_low : (x t : ℕ) → L t x ≢ 0 → t ≤ n
  linked_low x t some = linked-within n L (rows_dimension n rows sound.wide) t x some

  lives : (d t y : ℕ) → Entry d t y → IsLive (with_births n (length stars.keys) rows) d
  lives d t y (x, h, inl (inl (inl e))) = rw e.0 (old-lives n rows sound stars whole.grow x (key-live n rows sound stars whole.grow x h))
  lives d t y (x, h, inl (inl (inr (some, e)))) = rw e.0 (old-lives n rows sound stars whole.grow (L 1 x) (sound.live 1 x some))
  lives d t y (x, h, inl (inr (high, low, some, is, new))) = rw is (old-lives n rows sound stars whole.grow x (key-live n rows sound stars whole.grow x h))
  lives d t y (x, h, inr e) = rw e.0 (new-lives n rows sound stars whole.grow x h)

  inside : (d t y : ℕ) → Entry d t y → t ≤ n
  inside d t y (x, h, inl (inl (inl e))) = omega (arith, e.1)
  inside d t y (x, h, inl (inl (inr (some, e)))) = omega (arith, e.1)
  inside d t y (x, h, inl (inr (high, low, some, is, new))) = omega arith
  inside d zero y (x, h, inr e) = omega arith
  inside d (suc t) y (x, h, inr e) = linked_low x (suc t) (λ none. e.2 (e.1 ∙ none))

  -- ---- places where nothing is written
  new_free : (x t y : ℕ) → K x → 1 ≤ t → L t x ≡ 0 → Entry (star x) t y → ⊥
  new_free x t y h l free (u, g, inl (inl (inl e))) = key_old u x g h (sym e.0)
  new_free x t y h l free (u, g, inl (inl (inr (some, e)))) = omega (arith, e.1)
  new_free x t y h l free (u, g, inl (inr (high, low, some, is, new))) = key_old u x g h (sym is)
  new_free x t y h l free (u, g, inr e) = e.2 (e.1 ∙ split-on L u t l ∙ ap (L t) (fresh.one u x g h (sym e.0)) ∙ free)

  side_free : (x t y : ℕ) → K x → 2 ≤ t → L t x ≡ 0 → Entry x t y → ⊥
  side_free x t y h l free (u, g, inl (inl (inl e))) = omega (arith, e.1)
  side_free x t y h l free (u, g, inl (inl (inr (some, e)))) = omega (arith, e.1)
  side_free x t y h l free (u, g, inl (inr (high, low, some, is, new))) = some (ap (L t) (sym is) ∙ free)
  side_free x t y h l free (u, g, inr e) = key_old x u h g e.0

  out_free : (x t y : ℕ) → 1 ≤ t → (K x → ⊥) → ((u : ℕ) → K u → x ≢ star u) → Entry x t y → ⊥
  out_free x t y l out old (u, g, inl (inl (inl e))) = out (subst K (sym e.0) g)
  out_free x t y l out old (u, g, inl (inl (inr (some, e)))) = omega (arith, e.1)
  out_free x t y l out old (u, g, inl (inr (high, low, some, is, new))) = out (subst K (sym is) g)
  out_free x t y l out old (u, g, inr e) = old u g e.0

  back_free : (x y : ℕ) → ((u : ℕ) → K u → x ≢ star u) → ((u : ℕ) → K u → L 1 u ≢ 0 → x ≢ L 1 u) → Entry x 0 y → ⊥
  back_free x y old after (u, g, inl (inl (inl e))) = omega (arith, e.1)
  back_free x y old after (u, g, inl (inl (inr (some, e)))) = after u g some e.0
  back_free x y old after (u, g, inl (inr (high, low, some, is, new))) = omega arith
  back_free x y old after (u, g, inr e) = old u g e.0

  module _ (cs : List Change) (writes : WritesEntries L Entry cs) where
    abbrev N : Links
    N = links_of (after_edit n (growing (length stars.keys) cs) rows)

    is : (d t y : ℕ) → Entry d t y → N t d ≡ y
    is = written beta n rows sound (length stars.keys) Entry lives inside cs writes

    stays : (d t : ℕ) → ((y : ℕ) → Entry d t y → ⊥) → N t d ≡ L t d
    stays = left beta n rows sound (length stars.keys) Entry lives inside cs writes

    -- the new dart leads where its dart led
    onward : (x j : ℕ) → K x → 1 ≤ j → N j (star x) ≡ L j x
    onward x j h l = elim (same_or_not (L j x) 0) [
      | inl free ↦ stays (star x) j (λ y e. new_free x j y h l free e) ∙ fresh.unlinked j x h ∙ sym free
      | inr some ↦ is (star x) j (L j x) (x, h, inr (refl, sym (split-on L x j l), some))
    ]

    second : (x : ℕ) → K x → N 1 (star x) ≡ L 1 x
    second x h = onward x 1 h (omega arith)

    new : (x j : ℕ) → K x → 2 ≤ j → N j x ≡ star (L j x)
    new x j h l = elim (same_or_not (L j x) 0) [
      | inl free ↦ stays x j (λ y e. side_free x j y h l free e) ∙ free ∙ sym fresh.nothing ∙ sym (ap star free)
      | inr some ↦ let low : j ≤ n = linked_low x j some in is x j (star (L j x)) (x, h, inl (inr (l, omega arith, some, refl, refl)))
    ]

    kept : (x t : ℕ) → 1 ≤ t → (K x → ⊥) → ((u : ℕ) → K u → x ≢ star u) → N t x ≡ L t x
    kept x t l out none = stays x t (λ y e. out_free x t y l out none e)

    -- ---- link 0 leads back from the new darts, from those behind them, and from the others
    first : (x : ℕ) → K x → N 1 x ≡ star x
    first x h = is x 1 (star x) (x, h, inl (inl (inl (refl, refl, refl))))

    zero_new : (x : ℕ) → K x → N 0 (star x) ≡ x
    zero_new x h = is (star x) 0 x (x, h, inr (refl, refl, set.dart x h))

    zero_behind : (x : ℕ) → K x → L 1 x ≢ 0 → N 0 (L 1 x) ≡ star x
    zero_behind x h some = is (L 1 x) 0 (star x) (x, h, inl (inl (inr (some, (refl, refl, refl)))))

    zero_else : (y : ℕ) → (IsNew K star y → ⊥) → (K (L 0 y) → ⊥) → N 0 y ≡ L 0 y
    zero_else y old out = stays y 0 (λ z e. back_free y z (λ u h q. old (u, h, q)) (λ u h some q. out (subst K (sym (ap (L 0) q ∙ w.back 1 u some)) h)) e)

    forth : (x y : ℕ) → y ≢ 0 → N 1 x ≡ y → N 0 y ≡ x
    forth x y dart e = by_cases (IsNew K star x) (N 0 y) x
        (λ (u, h, q). let to : L 1 u ≡ y = sym (second u h) ∙ ap (N 1) (sym q) ∙ e in
        ap (N 0) (sym to) ∙ zero_behind u h (λ o. dart (sym to ∙ o)) ∙ sym q)
        (λ none. by_cases (K x) (N 0 y) x
        (λ h. ap (N 0) (sym e ∙ first x h) ∙ zero_new x h)
        (λ out. let to : L 1 x ≡ y = sym (kept x 1 (omega arith) out (λ u h q. none (u, h, q))) ∙ e in
        let from : L 0 y ≡ x = ap (L 0) (sym to) ∙ w.back 1 x (λ o. dart (sym to ∙ o)) in
        zero_else y (λ (u, h, q). link_old 1 x u h (to ∙ q)) (λ h. out (subst K from h)) ∙ from))

    back : (x y : ℕ) → x ≢ 0 → y ≢ 0 → N 0 y ≡ x → N 1 x ≡ y
    back x y dart some e = by_cases (IsNew K star y) (N 1 x) y
        (λ (u, h, q). ap (N 1) (sym e ∙ ap (N 0) q ∙ zero_new u h) ∙ first u h ∙ sym q)
        (λ none. by_cases (K (L 0 y)) (N 1 x) y
        (λ h. let on : L 1 (L 0 y) ≡ y = w.back 0 y (set.dart (L 0 y) h) in
        let from : star (L 0 y) ≡ x = sym (zero_behind (L 0 y) h (λ o. some (sym on ∙ o))) ∙ ap (N 0) on ∙ e in
        ap (N 1) (sym from) ∙ second (L 0 y) h ∙ on)
        (λ out. let from : L 0 y ≡ x = sym (zero_else y none out) ∙ e in
        let on : L 1 x ≡ y = ap (L 1) (sym from) ∙ w.back 0 y (λ o. dart (sym from ∙ o)) in
        kept x 1 (omega arith) (λ h. out (subst K (sym from) h)) (λ u h q. link_old 0 y u h (from ∙ q)) ∙ on))

    turned : IsTurned N
    turned = record {
      nothing = stays 0 0 (λ y e. back_free 0 y (λ u h q. fresh.dart u h (sym q)) (λ u h some q. some (sym q)) e) ∙ w.nil 0;
      back = λ x y dart some. (λ e. forth x y some e, λ e. back x y dart some e);
    }

    split : IsSplit K star L N
    split = record { first = first; second = second; new = new; old = λ x j h l. onward x j h (omega arith); kept = kept; turned = turned }

    laws : Laws beta N
    laws = split_keeps L w K set star fresh N split

    edit_splits : PlansInsertion beta n rows K (λ s M. IsSplit K s L M) (growing (length stars.keys) cs)
    edit_splits = record {
      deaths = refl;
      fits = entries-fit beta n rows sound (length stars.keys) Entry lives inside cs writes laws;
      keys = stars.keys;
      star = star;
      numbered = subst (λ m. IsNumbered K stars.keys m star) whole.grow.made (keys-numbered n rows sound stars whole.grow);
      births = refl;
      becomes = split;
      laws = laws;
    }

  pub edit-splits : (edit : Edit) → Grows L stars Entry edit → PlansInsertion beta n rows K (λ s M. IsSplit K s L M) edit
  edit-splits edit grows = subst (PlansInsertion beta n rows K (λ s M. IsSplit K s L M)) (grown-edit L stars Entry edit grows) (edit_splits edit.changes grows.writes)
