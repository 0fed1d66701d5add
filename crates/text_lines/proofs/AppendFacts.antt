-- Texts that are appended one after another, up to where one is cut short.
use Rattle.std.proofs.Common.{◌≡◌, ℕ, ◌+◌, ◌<◌, List, [], ◌∷◌, ◌++◌, length, take, drop, get_or, Result, Ok, Err, sym, ap, ◌∙◌, subst, append_assoc}
use Rattle.std.specs.Prelude.{IsErrAnd}
use Rattle.std.specs.declared.alloc.AllocError.{AllocError}
use Rattle.std.specs.List.{flat_map}
use Rattle.std.proofs.lemmas.List.{append-nil, take_more, take-append-drop}
use Rattle.std.proofs.lemmas.Grind.{flat_map-append}
use Rattle.text_lines.specs.Writing.{Appends, AppendsFront}
use Rattle.text_lines.proofs.WritingFacts.{IsFront-nothing, IsFront-then, IsFront-longer}

-- nothing is a front of every line
pub AppendsFront-nothing : {old new : List ℕ} (line : List ℕ) → new ≡ old → AppendsFront old new line
AppendsFront-nothing {old = old} line same = record { part = []; appended = same ∙ sym (append-nil old); front = IsFront-nothing line }

-- a text that was appended, and a front of the next behind it
pub AppendsFront-then : {old middle new other : List ℕ} (one : List ℕ) → middle ≡ old ++ one → AppendsFront middle new other → AppendsFront old new (one ++ other)
AppendsFront-then {old = old} {other = other} one first p =
    record {
      part = one ++ p.part;
      appended = p.appended ∙ ap (λ (t : List ℕ). t ++ p.part) first ∙ append_assoc old one p.part;
      front = IsFront-then one p.part other p.front;
    }

-- what was cut is the same where more would have come
pub AppendsFront-cut : {old new line : List ℕ} (more : List ℕ) → AppendsFront old new line → AppendsFront old new (line ++ more)
AppendsFront-cut {line = line} more p =
    record { part = p.part; appended = p.appended; front = IsFront-longer p.part line more p.front }

-- what a call that ran out of memory has appended
pub Appends-at_err : {old new line : List ℕ} (result : Result (Unit {0}) AllocError) (Q : AllocError → Type 0) → IsErrAnd result Q → AppendsFront old new line → Appends old new line result
Appends-at_err (Ok done) Q is p = absurd is
Appends-at_err (Err fault) Q is p = p

-- a text, the texts of the first things, that of the next, and what comes behind
flat_map-at : {X : Type 0} (text : X → List ℕ) (one : List ℕ) (xs : List X) (i : ℕ) (d : X) → i < length xs
    → ((one ++ flat_map text (take i xs)) ++ text (get_or xs i d)) ++ flat_map text (drop (i + 1) xs) ≡ one ++ flat_map text xs
flat_map-at text one xs i d h =
    let more : flat_map text (take (i + 1) xs) ≡ flat_map text (take i xs) ++ text (get_or xs i d) =
    ap (flat_map text) (take_more xs i d h) ∙ flat_map-append text (take i xs) (get_or xs i d ∷ []) ∙ ap (λ (t : List ℕ). flat_map text (take i xs) ++ t) (append-nil (text (get_or xs i d))) in
    let whole : flat_map text xs ≡ flat_map text (take (i + 1) xs) ++ flat_map text (drop (i + 1) xs) =
    ap (flat_map text) (sym (take-append-drop (i + 1) xs)) ∙ flat_map-append text (take (i + 1) xs) (drop (i + 1) xs) in
    rw (whole, more) (simp append_assoc)

-- a text and the texts of the first things were appended, and a front of that of the next
pub AppendsFront-each : {X : Type 0} {old middle new : List ℕ} (text : X → List ℕ) (one : List ℕ) (xs : List X) (i : ℕ) (d : X) → i < length xs
    → middle ≡ old ++ (one ++ flat_map text (take i xs)) → AppendsFront middle new (text (get_or xs i d)) → AppendsFront old new (one ++ flat_map text xs)
AppendsFront-each {old = old} {new = new} text one xs i d h first p =
    subst (AppendsFront old new) (flat_map-at text one xs i d h)
    (AppendsFront-cut (flat_map text (drop (i + 1) xs)) (AppendsFront-then (one ++ flat_map text (take i xs)) first p))
