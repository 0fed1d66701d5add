use Rattle.std.proofs.Common.{◌≡◌, ℕ, List, ◌∷◌, [], map, length, get_or, ap, arith, string_bytes, String}
use Rattle.std.specs.declared.alloc.Global.{Global}
use Rattle.map_run.proofs.Commands.{five, four, two}
use Rattle.map_run.proofs.command.read_command.Goals as goal

-- the words, where they are five
words-5 : (ws : List (String Global)) (a b c d e : String Global) (p q r s t : List ℕ) → length ws ≡ 5 → a ≡ get_or ws 0 a → b ≡ get_or ws 1 b → c ≡ get_or ws 2 c
    → d ≡ get_or ws 3 d → e ≡ get_or ws 4 e → p ≡ string_bytes a → q ≡ string_bytes b → r ≡ string_bytes c → s ≡ string_bytes d → t ≡ string_bytes e
    → map string_bytes ws ≡ p ∷ q ∷ r ∷ s ∷ t ∷ []
words-5 ws a b c d e p q r s t len h i j k l u v w x y = let are = ap (map string_bytes) (five ws a b c d e len h i j k l) in cc

-- the words, where they are four
words-4 : (ws : List (String Global)) (a b c d : String Global) (p q r s : List ℕ) → length ws ≡ 4 → a ≡ get_or ws 0 a → b ≡ get_or ws 1 b → c ≡ get_or ws 2 c
    → d ≡ get_or ws 3 d → p ≡ string_bytes a → q ≡ string_bytes b → r ≡ string_bytes c → s ≡ string_bytes d → map string_bytes ws ≡ p ∷ q ∷ r ∷ s ∷ []
words-4 ws a b c d p q r s len h i j k u v w x = let are = ap (map string_bytes) (four ws a b c d len h i j k) in cc

-- the words, where they are two
words-2 : (ws : List (String Global)) (a b : String Global) (p q : List ℕ) → length ws ≡ 2 → a ≡ get_or ws 0 a → b ≡ get_or ws 1 b → p ≡ string_bytes a → q ≡ string_bytes b
    → map string_bytes ws ≡ p ∷ q ∷ []
words-2 ws a b p q len h i u v = let are = ap (map string_bytes) (two ws a b len h i) in cc

pub returns-in-len5-clause-none : goal.returns-in-len5-clause-none
returns-in-len5-clause-none c =
    let ws = c.args.words.now in
    let len : length ws ≡ 5 = omega arith in
    let are = words-5 ws c.run-item.result c.kind-item-then-words-lt6.result c.dimension-item.result c.mesh-item.result c.script-item.result
    c.as_str-in-len5.result.now c.as_str-in-len5-2.result.now c.as_str-in-len5-3.result.now c.as_str-in-len5-4.result.now c.as_str-in-len5-5.result.now len
    c.run-item.is c.kind-item-then-words-lt6.is c.dimension-item.is c.mesh-item.is c.script-item.is
    c.as_str-in-len5.ensures.value c.as_str-in-len5-2.ensures.value c.as_str-in-len5-3.ensures.value c.as_str-in-len5-4.ensures.value c.as_str-in-len5-5.ensures.value in
    rw are c.read_run.ensures.none

pub returns-in-len5-clause-told : goal.returns-in-len5-clause-told
returns-in-len5-clause-told c =
    let ws = c.args.words.now in
    let len : length ws ≡ 5 = omega arith in
    let are = words-5 ws c.run-item.result c.kind-item-then-words-lt6.result c.dimension-item.result c.mesh-item.result c.script-item.result
    c.as_str-in-len5.result.now c.as_str-in-len5-2.result.now c.as_str-in-len5-3.result.now c.as_str-in-len5-4.result.now c.as_str-in-len5-5.result.now len
    c.run-item.is c.kind-item-then-words-lt6.is c.dimension-item.is c.mesh-item.is c.script-item.is
    c.as_str-in-len5.ensures.value c.as_str-in-len5-2.ensures.value c.as_str-in-len5-3.ensures.value c.as_str-in-len5-4.ensures.value c.as_str-in-len5-5.ensures.value in
    rw are c.read_run.ensures.told
