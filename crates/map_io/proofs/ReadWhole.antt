-- What was read of a file, part by part.
use Rattle.std.proofs.Common.{◌≡◌, ℕ, ◌<◌, List, ◌++◌, length, Option, None, Some, sym, ap, subst, ◌∙◌, append-nil, length-append, arith}
use Rattle.std.specs.Io.KnownBytes.{Consumes, IsAtEnd}
use Rattle.std.proofs.KnownBytes.{Consumes-trans}
use Rattle.machine_defs.specs.Outside.{WhereTold}

-- one more part was read
pub Consumes-part : (first mid last : Option (List ℕ)) (before after part : List ℕ) → Consumes first mid before → after ≡ before ++ part →
    Consumes mid last part → Consumes first last after
Consumes-part first mid last before after part read appended more =
    subst (Consumes first last) (sym appended) (Consumes-trans first mid last before part read more)

-- what was read up to the end is all that was left
pub Consumes-whole : (first last : Option (List ℕ)) (bytes : List ℕ) → Consumes first last bytes → IsAtEnd last → WhereTold first (λ all. bytes ≡ all)
Consumes-whole None last bytes read end = tt
Consumes-whole (Some all) None bytes read end = absurd read
Consumes-whole (Some all) (Some rest) bytes read end = sym (read ∙ ap (λ left. bytes ++ left) end ∙ append-nil bytes)

-- what was read is no longer than all that was left
pub Consumes-longer : (first last : Option (List ℕ)) (bytes : List ℕ) (limit : ℕ) → Consumes first last bytes → limit < length bytes →
    WhereTold first (λ all. limit < length all)
Consumes-longer None last bytes limit read longer = tt
Consumes-longer (Some all) None bytes limit read longer = absurd read
Consumes-longer (Some all) (Some rest) bytes limit read longer = omega (arith, ap length read, length-append bytes rest)
