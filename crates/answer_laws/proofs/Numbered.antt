-- New darts for a bounded set of darts are numbered, and an insertion leads to a content.
use Rattle.std.proofs.Common.{◌≡◌, ◌↔◌, ℕ, zero, suc, ◌+◌, ◌<◌, List, length, Contains, refl, sym, ap, ◌∙◌, subst, inl, inr, arith}
use Rattle.std.specs.Prelude.{slice_index}
use Rattle.std.specs.List.Sorted.{IsStrictlyIncreasing}
use Rattle.std.proofs.lemmas.List.Elements.{Contains-get_or}
use Rattle.map_defs.specs.Links.{Links}
use Rattle.map_defs.specs.Rows.{made, IsLive, links_of}
use Rattle.map_defs.specs.Births.{IsNumbered, IsFresh}
use Rattle.map_defs.specs.Values.{Hook}
use Rattle.machine_defs.specs.State.{Content}
use Rattle.machine_defs.specs.Kept.{IsLawfulContent}
use Rattle.machine_defs.specs.Relinking.{NoDart, IsGrown, IsHungWith}
use Rattle.link_laws.proofs.RowFacts.{rows_made}
use Rattle.edit_laws.proofs.RowWrites.{live-within}
use Rattle.value_laws.proofs.Rising.{rising_place}
use Rattle.insert_laws.proofs.Paths.{held_is}
use Rattle.insert_laws.proofs.Fresh.{IsNew}
use Rattle.insert_laws.proofs.Numbers.{numbered_above, numbered_upto, numbered_fresh}
use Rattle.machine_laws.proofs.Keeping.{dead-at}
use Rattle.answer_laws.specs.Answering.{NotNot}
use Rattle.answer_laws.proofs.Choosing.{either_way, choose}
use Rattle.answer_laws.proofs.Listed.{ascending}
use Rattle.answer_laws.proofs.RelinkedFound.{LivesAfter}
use Rattle.answer_laws.proofs.LinksFound.{AreLinksAfter, content_found}

module _ (c : Content) (kept : IsLawfulContent c) (K : ℕ → Type 0) (live : (x : ℕ) → K x → IsLive c.rows x) where
  -- the new dart of x, by the place of x among the keys
  Star : List ℕ → ℕ → ℕ → Type 0
  Star keys x y = ((p : ℕ) → p < length keys → slice_index keys p ≡ x → y ≡ made c.rows + 1 + p) × (x ≡ 0 → y ≡ 0)

  none-there : K 0 → ⊥
  none-there h = dead-at c.rows kept.sound.nothing (live 0 h)

  module _ (keys : List ℕ) (up : IsStrictlyIncreasing keys) (members : (x : ℕ) → Contains keys x ↔ K x) where
    star_some : (x : ℕ) → NotNot ((y : ℕ) × Star keys x y)
    unfolding Star
    star_some x never = either_way (K x) (λ told. elim told [
      | inl h ↦
          let there = (members x).1 h in
          let is : slice_index keys there.0 ≡ x = held_is keys x there in
          never (
            made c.rows + 1 + there.0,
            (
              λ p l e. ap (λ (q : ℕ). made c.rows + 1 + q) (rising_place keys up there.0 p there.1 l (is ∙ sym e)),
              λ zeroth. absurd (none-there (subst K zeroth h)),
            ),
          )
      | inr n ↦ never (0, (λ p l e. absurd (n ((members x).0 (subst (Contains keys) e (Contains-get_or keys p 0 l)))), λ zeroth. refl))
    ])

    numbered : (star : ℕ → ℕ) → ((x : ℕ) → x < length c.rows → Star keys x (star x)) → IsNumbered K keys (made c.rows) star
    unfolding Star
    numbered star good = record {
      nothing = (good 0 (let l = kept.begun in omega arith)).1 refl;
      ascending = up;
      members = members;
      numbers = λ p l.
          let x : ℕ = slice_index keys p in
          (good x (live-within c.rows x (live x ((members x).0 (Contains-get_or keys p 0 l))))).0 p l refl;
    }

  pub numbered_found : NotNot ((keys : List ℕ) × (star : ℕ → ℕ) × IsNumbered K keys (made c.rows) star)
  numbered_found never =
      ascending K (length c.rows) (λ x h. live-within c.rows x (live x h)) (λ found.
      choose (Star found.0) 0 (length c.rows) (λ x l. star_some found.0 found.1 found.2 x) (λ star.
      never (found.0, star.0, numbered found.0 found.1 found.2 star.0 star.1)))

  module _ (keys : List ℕ) (star : ℕ → ℕ) (m : IsNumbered K keys (made c.rows) star) where
    pub fresh : IsFresh (links_of c.rows) K star
    fresh = numbered_fresh K keys (made c.rows) star m (links_of c.rows) (λ x h. let l = live-within c.rows x (live x h) in omega arith) (rows_made c.rows)

    -- old darts and new darts live afterwards
    pub old-lives : (x : ℕ) → IsLive c.rows x → LivesAfter c (length keys) NoDart x
    old-lives x h = (inl h, λ none. none)

    pub new-lives : (x : ℕ) → IsNew K star x → LivesAfter c (length keys) NoDart x
    new-lives x (z, h, e) = subst (LivesAfter c (length keys) NoDart) (sym e)
        (inr (numbered_above K keys (made c.rows) star m z h, numbered_upto K keys (made c.rows) star m z h), λ none. none)

  -- Where the links of an insertion are found, its content is.
  pub grown_found : (hook : Hook) (Becomes : (ℕ → ℕ) → Links → Type 0)
      → ((keys : List ℕ) (star : ℕ → ℕ) → IsNumbered K keys (made c.rows) star → NotNot ((N : Links) × Becomes star N × AreLinksAfter c kept (length keys) NoDart N))
      → NotNot ((births : ℕ) × (next : Content) × IsGrown hook c K Becomes births next)
  grown_found hook Becomes links never = numbered_found (λ found. links found.0 found.1 found.2 (λ made_links.
      content_found c kept (length found.0) NoDart hook (Becomes found.1) made_links.0 made_links.2 made_links.1 (λ after.
      never (length found.0, after.0, record { keys = found.0; star = found.1; numbered = found.2; counted = refl; relinked = after.1 }))))

  -- numbers that are so much higher; nothing stays nothing
  higher : ℕ → ℕ → ℕ
  higher n zero = zero
  higher n (suc s) = suc s + n

  second-series : (keys : List ℕ) (star : ℕ → ℕ) → IsNumbered K keys (made c.rows) star → IsNumbered K keys (made c.rows + length keys) (λ x. higher (length keys) (star x))
  unfolding higher
  second-series keys star m = record {
    nothing = ap (higher (length keys)) m.nothing;
    ascending = m.ascending;
    members = m.members;
    numbers = λ p l. ap (higher (length keys)) (m.numbers p l ∙ (let e : made c.rows + 1 + p ≡ suc (made c.rows + p) = omega arith in e)) ∙ omega arith;
  }

  -- and the same of edges that are hung, with two series of new darts
  pub hung_with_found : (hook : Hook) (Becomes : (ℕ → ℕ) → (ℕ → ℕ) → Links → Type 0)
      → ((keys : List ℕ) (star tip : ℕ → ℕ) → IsNumbered K keys (made c.rows) star → IsNumbered K keys (made c.rows + length keys) tip
      → NotNot ((N : Links) × Becomes star tip N × AreLinksAfter c kept (length keys + length keys) NoDart N))
      → NotNot ((births : ℕ) × (next : Content) × IsHungWith hook c K Becomes births next)
  hung_with_found hook Becomes links never = numbered_found (λ found.
      let tip : ℕ → ℕ = λ x. higher (length found.0) (found.1 x) in
      let later = second-series found.0 found.1 found.2 in
      links found.0 found.1 tip found.2 later (λ made_links.
      content_found c kept (length found.0 + length found.0) NoDart hook (Becomes found.1 tip) made_links.0 made_links.2 made_links.1 (λ after.
      never (
        length found.0 + length found.0,
        after.0,
        record { keys = found.0; star = found.1; tip = tip; begins = found.2; ends = later; counted = refl; relinked = after.1 },
      ))))
