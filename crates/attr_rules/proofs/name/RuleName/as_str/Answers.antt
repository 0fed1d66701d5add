use Rattle.std.proofs.Common.{ℕ, refl, List, take, arith, Result, Ok, Err, MatchResult}
use Rattle.std.specs.Prelude.{IsOk}
use Rattle.std.specs.Str.{IsUtf8}
use Rattle.std.proofs.lemmas.Bool.{and_parts}
use Rattle.std.proofs.lemmas.Bool.Decides.{nat_tests}
use Rattle.map_defs.specs.Names.{is_name_byte}
use Rattle.text_words.proofs.AsciiText.{IsUtf8-all}
use Rattle.attr_rules.proofs.name.RuleName.as_str.Goals as goal

-- what is UTF-8 is read
read : {T E : Type 0} (r : Result T E) (P : T → Type 0) (word : List ℕ) (Q : E → Type 0) → MatchResult r P (λ e. (IsUtf8 word → ⊥) × Q e) → IsUtf8 word → IsOk r
read (Ok t) P word Q m utf8 = refl
read (Err e) P word Q m utf8 = absurd (m.0 utf8)

pub unwrap-requires : goal.unwrap-requires
unwrap-requires c =
    let name : List ℕ = take c.self.inside.len c.self.inside.bytes in
    read c.from_utf8.result _ name _ c.from_utf8.ensures.cases (IsUtf8-all is_name_byte (λ b e. grind (arith, nat_tests)) name (and_parts _ _ c.self.invariant.2).1)
