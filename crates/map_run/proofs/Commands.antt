-- Words that are a command, and words that are none.
use Rattle.std.proofs.Common.{◌≡◌, ◌≢◌, ◌≤◌, ◌<◌, ℕ, List, [], ◌∷◌, length, get_or, Option, Some, refl, ap, arith, codes}
use Rattle.std.specs.Fmt.{decimal}
use Rattle.map_defs.specs.Kind.{Kind, letter}
use Rattle.machine_defs.specs.Program.{RunScript, Audit, Half, Soak, TellsCommand, IsNoCommand, mesh_word, no_mesh}

-- a list of five elements
pub five : {X : Type 0} (xs : List X) (a b c d e : X) → length xs ≡ 5 → a ≡ get_or xs 0 a → b ≡ get_or xs 1 b → c ≡ get_or xs 2 c
    → d ≡ get_or xs 3 d → e ≡ get_or xs 4 e → xs ≡ a ∷ b ∷ c ∷ d ∷ e ∷ []
five [] a b c d e len p q r s t = absurd (omega arith)
five (x ∷ []) a b c d e len p q r s t = absurd (omega arith)
five (x ∷ y ∷ []) a b c d e len p q r s t = absurd (omega arith)
five (x ∷ y ∷ z ∷ []) a b c d e len p q r s t = absurd (omega arith)
five (x ∷ y ∷ z ∷ v ∷ []) a b c d e len p q r s t = absurd (omega arith)
five (x ∷ y ∷ z ∷ v ∷ w ∷ []) a b c d e len p q r s t = cc
five (x ∷ y ∷ z ∷ v ∷ w ∷ u ∷ xs) a b c d e len p q r s t = absurd (omega arith)

-- a list of two elements
pub two : {X : Type 0} (xs : List X) (a b : X) → length xs ≡ 2 → a ≡ get_or xs 0 a → b ≡ get_or xs 1 b → xs ≡ a ∷ b ∷ []
two [] a b len p q = absurd (omega arith)
two (x ∷ []) a b len p q = absurd (omega arith)
two (x ∷ y ∷ []) a b len p q = cc
two (x ∷ y ∷ z ∷ xs) a b len p q = absurd (omega arith)

-- five words are a command where they are those of a script over a map
no_run : (run kind dim mesh script : List ℕ) → ((k : Kind) (n : ℕ) (other file : List ℕ) → 2 ≤ n → n ≤ 4
    → run ∷ kind ∷ dim ∷ mesh ∷ script ∷ [] ≡ codes "run" ∷ (letter k ∷ []) ∷ decimal n ∷ other ∷ file ∷ [] → ⊥) → IsNoCommand (run ∷ kind ∷ dim ∷ mesh ∷ script ∷ [])
no_run run kind dim mesh script differ (RunScript k n name file) t = differ k n (mesh_word name) file t.0.0 t.0.1 t.1
no_run run kind dim mesh script differ (Audit listing) t = absurd (let same = ap length t.1 in omega arith)
no_run run kind dim mesh script differ (Half listing) t = absurd (let same = ap length t.1 in omega arith)
no_run run kind dim mesh script differ (Soak k seed count) t = absurd (let same = ap length t.1 in omega arith)

-- these words are those of the command
pub as_told : (run kind dim mesh script : List ℕ) (k : Kind) (n : ℕ) (name : Option (List ℕ))
    → run ≡ codes "run" → kind ≡ letter k ∷ [] → (mesh_word name ≡ mesh) × (name ≢ Some no_mesh) → dim ≡ decimal n → 2 ≤ n → n ≤ 4
    → TellsCommand (run ∷ kind ∷ dim ∷ mesh ∷ script ∷ []) (RunScript k n name script)
as_told run kind dim mesh script k n name runs lettered named dims low high = ((low, high, named.1), rw (runs, lettered, dims, named.0) refl)

pub not_run : (run kind dim mesh script : List ℕ) → run ≢ codes "run" → IsNoCommand (run ∷ kind ∷ dim ∷ mesh ∷ script ∷ [])
not_run run kind dim mesh script differ = no_run run kind dim mesh script (λ k n other file low high e. differ (cc))

pub not_lettered : (run kind dim mesh script : List ℕ) → ((k : Kind) → kind ≡ letter k ∷ [] → ⊥) → IsNoCommand (run ∷ kind ∷ dim ∷ mesh ∷ script ∷ [])
not_lettered run kind dim mesh script differ = no_run run kind dim mesh script (λ k n other file low high e. differ k (cc))

pub not_numbered : (run kind dim mesh script : List ℕ) → ((n : ℕ) → 2 ≤ n → n ≤ 4 → dim ≡ decimal n → ⊥) → IsNoCommand (run ∷ kind ∷ dim ∷ mesh ∷ script ∷ [])
not_numbered run kind dim mesh script differ = no_run run kind dim mesh script (λ k n other file low high e. differ n low high (cc))

-- two words are a command where the first names what is made of a listing
pub not_of_listing : (word listing : List ℕ) → word ≢ codes "audit" → word ≢ codes "half" → IsNoCommand (word ∷ listing ∷ [])
not_of_listing word listing differ differ' (RunScript k n name file) t = absurd (let same = ap length t.1 in omega arith)
not_of_listing word listing differ differ' (Audit other) t = differ (let same = t.1 in cc)
not_of_listing word listing differ differ' (Half other) t = differ' (let same = t.1 in cc)
not_of_listing word listing differ differ' (Soak k seed count) t = absurd (let same = ap length t.1 in omega arith)

-- a list of four elements
pub four : {X : Type 0} (xs : List X) (a b c d : X) → length xs ≡ 4 → a ≡ get_or xs 0 a → b ≡ get_or xs 1 b → c ≡ get_or xs 2 c → d ≡ get_or xs 3 d → xs ≡ a ∷ b ∷ c ∷ d ∷ []
four [] a b c d len p q r s = absurd (omega arith)
four (x ∷ []) a b c d len p q r s = absurd (omega arith)
four (x ∷ y ∷ []) a b c d len p q r s = absurd (omega arith)
four (x ∷ y ∷ z ∷ []) a b c d len p q r s = absurd (omega arith)
four (x ∷ y ∷ z ∷ v ∷ []) a b c d len p q r s = cc
four (x ∷ y ∷ z ∷ v ∷ w ∷ xs) a b c d len p q r s = absurd (omega arith)

-- four words are a command where they are those of a soak
no_soak : (soak kind seed count : List ℕ) → ((k : Kind) (from squares : ℕ) → from < 2147483648 → 1 ≤ squares → squares ≤ 100000
    → soak ∷ kind ∷ seed ∷ count ∷ [] ≡ codes "soak" ∷ (letter k ∷ []) ∷ decimal from ∷ decimal squares ∷ [] → ⊥) → IsNoCommand (soak ∷ kind ∷ seed ∷ count ∷ [])
no_soak soak kind seed count differ (RunScript k n name file) t = absurd (let same = ap length t.1 in omega arith)
no_soak soak kind seed count differ (Audit listing) t = absurd (let same = ap length t.1 in omega arith)
no_soak soak kind seed count differ (Half listing) t = absurd (let same = ap length t.1 in omega arith)
no_soak soak kind seed count differ (Soak k from squares) t = differ k from squares t.0.0 t.0.1 t.0.2 t.1

-- these words are those of a soak
pub as_soak : (soak kind seed count : List ℕ) (k : Kind) (from squares : ℕ) → soak ≡ codes "soak" → kind ≡ letter k ∷ [] → seed ≡ decimal from → count ≡ decimal squares
    → from < 2147483648 → 1 ≤ squares → squares ≤ 100000 → TellsCommand (soak ∷ kind ∷ seed ∷ count ∷ []) (Soak k from squares)
as_soak soak kind seed count k from squares named lettered seeded counted low some few = ((low, some, few), rw (named, lettered, seeded, counted) refl)

pub not_soak : (soak kind seed count : List ℕ) → soak ≢ codes "soak" → IsNoCommand (soak ∷ kind ∷ seed ∷ count ∷ [])
not_soak soak kind seed count differ = no_soak soak kind seed count (λ k from squares low some few e. differ (cc))

pub soak_unlettered : (soak kind seed count : List ℕ) → ((k : Kind) → kind ≡ letter k ∷ [] → ⊥) → IsNoCommand (soak ∷ kind ∷ seed ∷ count ∷ [])
soak_unlettered soak kind seed count differ = no_soak soak kind seed count (λ k from squares low some few e. differ k (cc))

pub soak_unseeded : (soak kind seed count : List ℕ) → ((n : ℕ) → 0 ≤ n → n ≤ 2147483647 → seed ≡ decimal n → ⊥) → IsNoCommand (soak ∷ kind ∷ seed ∷ count ∷ [])
soak_unseeded soak kind seed count differ = no_soak soak kind seed count (λ k from squares low some few e. differ from (omega arith) (omega arith) (cc))

pub soak_uncounted : (soak kind seed count : List ℕ) → ((n : ℕ) → 1 ≤ n → n ≤ 100000 → count ≡ decimal n → ⊥) → IsNoCommand (soak ∷ kind ∷ seed ∷ count ∷ [])
soak_uncounted soak kind seed count differ = no_soak soak kind seed count (λ k from squares low some few e. differ squares some few (cc))
