-- Names: how they are read, and how they are kept with zeros behind them.
use Rattle.std.proofs.Common.{◌≡◌, ℕ, suc, ◌-◌, ◌≤◌, ◌||◌, ◌&&◌, nat_le, Bool, true, false, cond, List, [], ◌∷◌, ◌++◌, length, take, drop, replicate, Option, Some, None, All, refl, sym, ap, ◌∙◌, subst, arith}
use Rattle.std.specs.List.{list_all}
use Rattle.std.specs.Str.{bytes_eq}
use Rattle.std.proofs.Math.Seq.{take-append_seam, drop-append_seam}
use Rattle.std.proofs.lemmas.Bool.{and_parts}
use Rattle.std.proofs.lemmas.Bool.Decides.{nat_tests}
use Rattle.std.proofs.lemmas.List.{drop-replicate, length-replicate, length-append}
use Rattle.std.proofs.lemmas.Slice.Eq.{bytes_eq-Decides}
use Rattle.map_defs.specs.Names.{is_name, is_name_byte}
use Rattle.map_defs.specs.Values.{is_among}
use Rattle.map_defs.specs.RuleNames.{IsFreeName, known_name}
use Rattle.machine_defs.specs.Script.{name}

abbrev some : List ℕ → Option (List ℕ)
some word = Some word

-- what is read as a name is one
pub name-good : (word m : List ℕ) → Some m ≡ name word → is_name m ≡ true
name-good word m h = at (is_name word) refl h
  where
    at : (b : Bool) → is_name word ≡ b → some m ≡ cond b (some word) None → is_name m ≡ true
    at true is h = let e : word ≡ m = cc in subst (λ (w : List ℕ). is_name w ≡ true) e is
    at false is h = absurd cc

pub name-some : (word : List ℕ) → is_name word ≡ true → name word ≡ Some word
name-some word good = ap (λ (b : Bool). cond b (some word) None) good

pub known-some : (names : List (List ℕ)) (word : List ℕ) → is_among names word ≡ true → known_name names word ≡ Some word
known-some names word among = ap (λ (b : Bool). cond b (some word) None) among

-- one of these names is free, if all are
pub among-free : (names : List (List ℕ)) (word : List ℕ) → All IsFreeName names → is_among names word ≡ true → IsFreeName word
among-free [] word all h = absurd cc
among-free (first ∷ names) word all h = at (bytes_eq word first) refl h (λ g. among-free names word (λ k z l. all (suc k) z (omega arith)) g)
  where
    at : (b : Bool) → bytes_eq word first ≡ b → (b || is_among names word) ≡ true → (is_among names word ≡ true → IsFreeName word) → IsFreeName word
    at true is h below = subst IsFreeName (sym ((bytes_eq-Decides word first).0 is)) (all 0 first (omega arith))
    at false is h below = below h

-- what stands in the place of a name before it is written, and behind it then
abbrev blanks : List ℕ
blanks = replicate 32 0

abbrev blank_behind : List ℕ → List ℕ
blank_behind word = drop (length word) blanks

pub short-name : (word : List ℕ) → is_name word ≡ true → length word ≤ 32
short-name word good =
    let front : (nat_le 1 (length word) && nat_le (length word) 32) ≡ true = (and_parts (nat_le 1 (length word) && nat_le (length word) 32) (list_all is_name_byte word) good).0 in
    let h : nat_le (length word) 32 ≡ true = (and_parts (nat_le 1 (length word)) (nat_le (length word) 32) front).1 in
    grind (arith, nat_tests)

pub kept-name : (word : List ℕ) → is_name word ≡ true → (bytes : List ℕ) → bytes ≡ word
    → (length (bytes ++ blank_behind word) ≡ 32) × (length word ≤ 32) × (is_name (take (length word) (bytes ++ blank_behind word)) ≡ true)
    × (drop (length word) (bytes ++ blank_behind word) ≡ replicate (32 - length word) 0)
kept-name word good bytes same = subst P (sym same) at-word
  where
    P : List ℕ → Type 0
    P xs = (length (xs ++ blank_behind word) ≡ 32) × (length word ≤ 32) × (is_name (take (length word) (xs ++ blank_behind word)) ≡ true)
        × (drop (length word) (xs ++ blank_behind word) ≡ replicate (32 - length word) 0)

    zeros : blank_behind word ≡ replicate (32 - length word) 0
    zeros = drop-replicate (length word) 32 0

    long : length (word ++ blank_behind word) ≡ 32
    long =
        let l : length (blank_behind word) ≡ 32 - length word = ap (λ (xs : List ℕ). length xs) zeros ∙ length-replicate (32 - length word) 0 in
        let s = short-name word good in
        length-append word (blank_behind word) ∙ omega (arith, l, s)

    front : take (length word) (word ++ blank_behind word) ≡ word
    front = take-append_seam word (blank_behind word)

    at-word : P word
    at-word = (long, short-name word good, subst (λ (w : List ℕ). is_name w ≡ true) (sym front) good, drop-append_seam word (blank_behind word) ∙ zeros)
