-- What a list of files holds, file by file.
use Rattle.std.proofs.Common.{◌≡◌, ℕ, suc, ◌+◌, ◌<◌, List, ◌∷◌, length, get_or, drop, cond, true, false, Some, ap, sym, ◌∙◌, add-one, bytes_eq, string_bytes, drop-cons}
use Rattle.machine_defs.specs.Outside.{held}
use Rattle.map_io.specs.Held.{files_of}
use Rattle.map_io.specs.declared.sure.Held.{Held}

-- the file at a place and those after it hold the file's bytes under its name, and else what those after it hold
held-from : (files : List Held) (i : ℕ) (file : Held) (name : List ℕ) → i < length files → file ≡ get_or files i file →
    held (files_of (drop i files)) name ≡ cond (bytes_eq (string_bytes file.name) name) (Some file.bytes.items) (held (files_of (drop (i + 1) files)) name)
held-from files i file name within is =
    rw add-one (ap (λ left. held (files_of left) name) (drop-cons files i file within ∙ ap (λ f. f ∷ drop (suc i) files) (sym is)))

pub held-passed : (files : List Held) (i : ℕ) (file : Held) (name : List ℕ) → i < length files → file ≡ get_or files i file →
    bytes_eq (string_bytes file.name) name ≡ false → held (files_of (drop (i + 1) files)) name ≡ held (files_of (drop i files)) name
held-passed files i file name within is other =
    sym (held-from files i file name within is ∙ ap (λ same. cond same (Some file.bytes.items) (held (files_of (drop (i + 1) files)) name)) other)

pub held-found : (files : List Held) (i : ℕ) (file : Held) (name : List ℕ) → i < length files → file ≡ get_or files i file →
    bytes_eq (string_bytes file.name) name ≡ true → Some file.bytes.items ≡ held (files_of (drop i files)) name
held-found files i file name within is same =
    sym (held-from files i file name within is ∙ ap (λ same. cond same (Some file.bytes.items) (held (files_of (drop (i + 1) files)) name)) same)
