-- Two darts that can be sewn are sewn, and each link is unsewn.
use Rattle.std.proofs.Common.{◌≡◌, ℕ, ◌<◌, ◌≤◌, refl, sym, inl, inr, arith}
use Rattle.map_defs.specs.Kind.{inverse}
use Rattle.map_defs.specs.Rows.{IsLive, links_of}
use Rattle.map_defs.specs.Pairs.{seed, turned, across}
use Rattle.map_defs.specs.Sewing.{SewnPairs, IsSewn, IsFreed, IsUnsewn}
use Rattle.map_defs.specs.Values.{Hook}
use Rattle.machine_defs.specs.State.{Content}
use Rattle.machine_defs.specs.Kept.{IsLawfulContent}
use Rattle.machine_defs.specs.Relinking.{IsRelinked, NoDart}
use Rattle.machine_defs.specs.Machine.{ArePaired}
use Rattle.link_laws.proofs.Basics.{stable, inverse_within}
use Rattle.link_laws.proofs.RowFacts.{linked_live, rows_dimension, rows_lead_to_live}
use Rattle.machine_laws.proofs.Keeping.{laws-of}
use Rattle.answer_laws.specs.Answering.{NotNot}
use Rattle.answer_laws.proofs.Choosing.{either_way}
use Rattle.answer_laws.proofs.RelinkedFound.{LivesAfter}
use Rattle.answer_laws.proofs.LinksFound.{TellsLinks, links_found, content_found}

module _ (c : Content) (kept : IsLawfulContent c) where
  -- links above the dimension, and those of a dart that does not live, are free
  pub high-free : (t x : ℕ) → c.dim < t → links_of c.rows t x ≡ 0
  high-free t x h = rows_dimension c.dim c.rows kept.sound.wide t x h

  pub dead-free : (t x : ℕ) → (IsLive c.rows x → ⊥) → links_of c.rows t x ≡ 0
  dead-free t x dead = stable _ _ (λ some. dead (linked_live c.rows t x some))

  -- where no dart is born and none ends, the same darts live
  stays : (x : ℕ) → IsLive c.rows x → LivesAfter c 0 NoDart x
  stays x live = (inl live, λ h. h)

  module _ (i d e : ℕ) (within : i ≤ c.dim) (live : IsLive c.rows d) (live' : IsLive c.rows e) (good : ArePaired c i d e) where
    abbrev P : ℕ → ℕ → ℕ → Type 0
    P = SewnPairs c.kind (links_of c.rows) i d e

    pair-darts : (x y t : ℕ) → P x y t → IsLive c.rows x × IsLive c.rows y × (t ≤ c.dim)
    pair-darts x y t (seed (a, b, u)) = rw (a, b, u) (live, live', within)
    pair-darts x y t (turned {x = u} {y = v} {t = r} p) = let h = pair-darts u v r p in (h.1, h.0, inverse_within c.kind c.dim r kept.flat h.2)
    pair-darts x y t (across {x = u} {y = v} {t = r} j f p some some') =
        let h = pair-darts u v r p in
        let leads = rows_lead_to_live c.kind c.rows (laws-of c kept) in
        (leads j u some, leads (inverse c.kind j) v some', inverse_within c.kind c.dim r kept.flat h.2)

    Sewn : ℕ → ℕ → ℕ → Type 0
    Sewn t x y = ((z : ℕ) → P x z t → y ≡ z) × (((z : ℕ) → P x z t → ⊥) → y ≡ links_of c.rows t x)

    sewn-tells : TellsLinks c kept 0 NoDart Sewn
    unfolding Sewn
    sewn-tells = record {
      some = λ t x l lives never. either_way ((z : ℕ) × P x z t) (λ told. elim told [
        | inl p ↦ never (p.0, (λ z q. good.one x p.0 z t p.1 q, λ none. absurd (none p.0 p.1)))
        | inr n ↦ never (links_of c.rows t x, (λ z q. absurd (n (z, q)), λ none. refl))
      ]);
      above = λ t x h. (λ z p. absurd (let l = (pair-darts x z t p).2 in omega arith), λ none. sym (high-free t x h));
      outside = λ t x dead. (λ z p. absurd (dead (stays x (pair-darts x z t p).0)), λ none. sym (dead-free t x (λ h. dead (stays x h))));
    }

    pub sewn_found : (hook : Hook) → NotNot ((next : Content) × IsRelinked hook c 0 NoDart (IsSewn c.kind i d e (links_of c.rows)) next)
    unfolding Sewn
    sewn_found hook never = links_found c kept 0 NoDart Sewn sewn-tells (λ found.
        content_found c kept 0 NoDart hook (IsSewn c.kind i d e (links_of c.rows)) found.0 found.2
        (record { joined = λ x y t p. (found.1 t x).0 y p; kept = λ x t none. (found.1 t x).1 none }) never)

  module _ (i d : ℕ) where
    Unsewn : ℕ → ℕ → ℕ → Type 0
    Unsewn t x y = (IsFreed c.kind (links_of c.rows) i d x t → y ≡ 0) × ((IsFreed c.kind (links_of c.rows) i d x t → ⊥) → y ≡ links_of c.rows t x)

    unsewn-tells : TellsLinks c kept 0 NoDart Unsewn
    unfolding Unsewn
    unsewn-tells = record {
      some = λ t x l lives never. either_way (IsFreed c.kind (links_of c.rows) i d x t) (λ told. elim told [
        | inl f ↦ never (0, (λ h. refl, λ none. absurd (none f)))
        | inr n ↦ never (links_of c.rows t x, (λ f. absurd (n f), λ none. refl))
      ]);
      above = λ t x h. (λ f. refl, λ none. sym (high-free t x h));
      outside = λ t x dead. (λ f. refl, λ none. sym (dead-free t x (λ h. dead (stays x h))));
    }

    pub unsewn_found : (hook : Hook) → NotNot ((next : Content) × IsRelinked hook c 0 NoDart (IsUnsewn c.kind i d (links_of c.rows)) next)
    unfolding Unsewn
    unsewn_found hook never = links_found c kept 0 NoDart Unsewn unsewn-tells (λ found.
        content_found c kept 0 NoDart hook (IsUnsewn c.kind i d (links_of c.rows)) found.0 found.2
        (record { freed = λ x t f. (found.1 t x).0 f; kept = λ x t none. (found.1 t x).1 none }) never)
