use Rattle.std.proofs.Common.{rules, ◌≡◌, ◌≢◌, ℕ, List, [], ◌∷◌, codes}
use Rattle.map_defs.specs.Kind.{Kind, alpha, beta, letter}
use Rattle.map_run.proofs.command.read_kind.Goals as goal

-- the word is the letter of neither kind
none : (word : List ℕ) (k : Kind) → word ≢ codes "g" → word ≢ codes "c" → word ≡ letter k ∷ [] → ⊥
none word alpha g c is = g is
none word beta g c is = c is

pub returns-else-eq-2 : goal.returns-else-eq-2
returns-else-eq-2 c = λ k.
    let g : c.args.word.now ≢ codes "g" = search rules in
    let other : c.args.word.now ≢ codes "c" = search rules in
    none c.args.word.now k g other
