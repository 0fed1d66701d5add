-- Ways round 2-cells: from a dart there is one at most, it meets no free link, and its darts are live.
use Rattle.std.proofs.Common.{◌≡◌, ◌≢◌, ℕ, List, [], ◌∷◌, ◌++◌, ◌≤◌, All, refl, sym, ap, ap₂, ◌∙◌, subst, append_assoc, arith}
use Rattle.std.proofs.lemmas.List.{append-nil}
use Rattle.std.proofs.lemmas.List.Elements.{All-cons, All-nil}
use Rattle.map_defs.specs.Kind.{Kind, alpha, beta}
use Rattle.map_defs.specs.Links.{Links}
use Rattle.map_defs.specs.LinkWords.{through, IsWithin}
use Rattle.map_defs.specs.Cells.{InOrbit, Leads, here, onward}
use Rattle.map_defs.specs.OffOfMap.{round_word, next_round, Passes, there, past, IsRound, IsOpen}

passes-one : (Next : ℕ → ℕ) (d x y : ℕ) (one other : List ℕ) → x ≡ y → Passes Next d x one → Passes Next d y other → one ≡ other
passes-one Next d x y one other same there there = refl
passes-one Next d x y one other same there (past apart q) = absurd (apart (sym same))
passes-one Next d x y one other same (past apart p) there = absurd (apart same)
passes-one Next d x y one other same (past {darts = us} apart p) (past {darts = vs} distinct q) =
    ap₂ (◌∷◌) same (passes-one Next d (Next x) (Next y) us vs (ap Next same) p q)

-- from a dart there is one way round at most
pub round-one : (k : Kind) (L : Links) (d : ℕ) (one other : List ℕ) → IsRound k L d one → IsRound k L d other → one ≡ other
round-one k L d one other p q =
    p.2 ∙ ap (λ (darts : List ℕ). d ∷ darts) (passes-one (next_round k L) d (next_round k L d) (next_round k L d) p.0 q.0 refl p.1 q.1) ∙ sym q.2

-- the links of the word are among those of every map
pub round-within : (k : Kind) (n : ℕ) → 2 ≤ n → IsWithin n (round_word k)
round-within alpha n low = (omega arith, omega arith)
round-within beta n low = (omega arith, tt)

pub next-nothing : (k : Kind) (L : Links) → ((i : ℕ) → L i 0 ≡ 0) → next_round k L 0 ≡ 0
next-nothing alpha L nil = ap (L 1) (nil 0) ∙ nil 1
next-nothing beta L nil = nil 1

-- a walk that is at 0 comes to no dart
passes-nothing : (Next : ℕ → ℕ) (d x : ℕ) (darts : List ℕ) → Next 0 ≡ 0 → d ≢ 0 → x ≡ 0 → Passes Next d x darts → ⊥
passes-nothing Next d x darts stays dart none there = dart none
passes-nothing Next d x darts stays dart none (past {darts = us} apart p) =
    passes-nothing Next d (Next x) us stays dart (ap Next none ∙ stays) p

-- from each dart that a walk round d reaches it comes to d
passes-from : (k : Kind) (L : Links) (d : ℕ) (others : List ℕ) → Passes (next_round k L) d (next_round k L d) others → (y : ℕ)
    → InOrbit (Leads L (λ w. w ≡ round_word k)) d y → (rest : List ℕ) × Passes (next_round k L) d (next_round k L y) rest
passes-from k L d others p y here = (others, p)
passes-from k L d others p y (onward {x = u} {y = v} o s) = let back = passes-from k L d others p u o in go (next_round k L u) back.0 step back.1
  where
    step : next_round k L u ≡ v
    step = ap (λ w. through L w u) (sym s.1) ∙ s.2

    go : (x : ℕ) (rest : List ℕ) → x ≡ v → Passes (next_round k L) d x rest → (rest : List ℕ) × Passes (next_round k L) d (next_round k L v) rest
    go x rest at there = subst (λ z. (rest : List ℕ) × Passes (next_round k L) d (next_round k L z) rest) at (others, p)
    go x rest at (past {darts = us} apart q) = subst (λ z. (rest : List ℕ) × Passes (next_round k L) d (next_round k L z) rest) at (us, q)

-- a way round meets no free link
pub round-closed : (k : Kind) (L : Links) (d : ℕ) (darts : List ℕ) → ((i : ℕ) → L i 0 ≡ 0) → d ≢ 0 → IsRound k L d darts → IsOpen k L d → ⊥
round-closed k L d darts nil dart round free =
    let back = passes-from k L d round.0 round.1 free.0 free.1 in
    passes-nothing (next_round k L) d (next_round k L free.0) back.0 (next-nothing k L nil) dart free.2 back.1

-- what is so of d and wherever links lead is so of the darts on the way
module _ (Next : ℕ → ℕ) (d : ℕ) (P : ℕ → Type 0) (stays : Next 0 ≡ 0) (dart : d ≢ 0) (lands : (x : ℕ) → Next x ≢ 0 → P (Next x)) where
  passes-all : (x : ℕ) (darts : List ℕ) → (x ≢ 0 → P x) → Passes Next d x darts → All P darts
  passes-all x darts own there = All-nil P
  passes-all x darts own (past {darts = us} apart p) =
      All-cons P x us (own (λ none. passes-nothing Next d (Next x) us stays dart (ap Next none ∙ stays) p))
      (passes-all (Next x) us (lands x) p)

pub round-all : (k : Kind) (L : Links) (P : ℕ → Type 0) → ((i : ℕ) → L i 0 ≡ 0) → ((i x : ℕ) → L i x ≢ 0 → P (L i x))
    → (d : ℕ) (darts : List ℕ) → d ≢ 0 → P d → IsRound k L d darts → All P darts
round-all k L P nil leads d darts dart own round =
    subst (All P) (sym round.2) (All-cons P d round.0 own
    (passes-all (next_round k L) d P (next-nothing k L nil) dart lands (next_round k L d) round.0 (lands d) round.1))
  where
    lands : (x : ℕ) → next_round k L x ≢ 0 → P (next_round k L x)
    lands x some = go k some
      where
        go : (kind : Kind) → next_round kind L x ≢ 0 → P (next_round kind L x)
        go alpha some = leads 1 (L 0 x) some
        go beta some = leads 1 x some

-- The walk round d has passed some darts and is at x: with the darts that are still passed they make a way round.
pub record IsOnTheWay (k : Kind) (L : Links) (d : ℕ) (darts : List ℕ) (x : ℕ) : Type 0 where
  pub on : (others : List ℕ) → Passes (next_round k L) d x others → IsRound k L d (darts ++ others)
  pub reached : InOrbit (Leads L (λ w. w ≡ round_word k)) d x

pub way-begun : (k : Kind) (L : Links) (d x : ℕ) (darts : List ℕ) → darts ≡ d ∷ [] → x ≡ next_round k L d → x ≢ 0 → IsOnTheWay k L d darts x
way-begun k L d x darts alone at dart = record {
  on = λ others p. (others, subst (λ z. Passes (next_round k L) d z others) at p, ap (λ (front : List ℕ). front ++ others) alone);
  reached = onward here (round_word k, refl, sym at, dart);
}

pub way-more : (k : Kind) (L : Links) (d x y : ℕ) (old new : List ℕ) → new ≡ old ++ x ∷ [] → x ≢ d → y ≡ next_round k L x → y ≢ 0 → IsOnTheWay k L d old x → IsOnTheWay k L d new y
way-more k L d x y old new grown apart at dart way = record {
  on = λ others p.
      subst (IsRound k L d) (sym (ap (λ (front : List ℕ). front ++ others) grown ∙ append_assoc old (x ∷ []) others))
      (way.on (x ∷ others) (past apart (subst (λ z. Passes (next_round k L) d z others) at p)));
  reached = onward way.reached (round_word k, refl, sym at, dart);
}

pub way-round : (k : Kind) (L : Links) (d x : ℕ) (darts : List ℕ) → x ≡ d → IsOnTheWay k L d darts x → IsRound k L d darts
way-round k L d x darts back way =
    subst (IsRound k L d) (append-nil darts) (way.on [] (subst (λ z. Passes (next_round k L) d z []) (sym back) there))
