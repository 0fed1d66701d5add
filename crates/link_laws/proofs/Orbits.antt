-- Orbits: ways follow each other, and lead back where each step does.
use Rattle.std.proofs.Common.{ℕ, ◌≢◌}
use Rattle.map_defs.specs.Cells.{InOrbit, here, onward}

-- all darts of an orbit are darts
pub orbit_dart : (Step : ℕ → ℕ → Type 0) → ((x y : ℕ) → Step x y → y ≢ 0) → (d x : ℕ) → d ≢ 0 → InOrbit Step d x → x ≢ 0
orbit_dart Step to d x hd here = hd
orbit_dart Step to d x hd (onward {x = u} {y = v} o s) = to u v s

pub orbit_trans : (Step : ℕ → ℕ → Type 0) (a b c : ℕ) → InOrbit Step a b → InOrbit Step b c → InOrbit Step a c
orbit_trans Step a b c p here = p
orbit_trans Step a b c p (onward {x = u} {y = v} o s) = onward (orbit_trans Step a b u p o) s

pub orbit_back : (Step : ℕ → ℕ → Type 0) → ((x y : ℕ) → Step x y → y ≢ 0) → ((x y : ℕ) → x ≢ 0 → Step x y → Step y x) → (d x : ℕ) → d ≢ 0 → InOrbit Step d x → InOrbit Step x d
orbit_back Step to turn d x hd here = here
orbit_back Step to turn d x hd (onward {x = u} {y = v} o s) =
    orbit_trans Step v u d (onward here (turn u v (orbit_dart Step to d u hd o) s)) (orbit_back Step to turn d u hd o)

-- an orbit of a dart lies in another where each of its steps does
pub orbit_map : (Step Other : ℕ → ℕ → Type 0) → ((x y : ℕ) → Step x y → y ≢ 0) → ((x y : ℕ) → x ≢ 0 → Step x y → InOrbit Other x y) → (d x : ℕ) → d ≢ 0 → InOrbit Step d x → InOrbit Other d x
orbit_map Step Other to f d x hd here = here
orbit_map Step Other to f d x hd (onward {x = u} {y = v} o s) = orbit_trans Other d u v (orbit_map Step Other to f d u hd o) (f u v (orbit_dart Step to d u hd o) s)
