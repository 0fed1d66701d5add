-- The undos that are told, by their names.
use Rattle.std.proofs.Common.{◌≡◌, ◌↔◌, ℕ, ◌<◌, List, [], ◌∷◌, ◌++◌, length, get_or, map, Some, refl, sym, ap, ap₂, ◌∙◌, arith}
use Rattle.std.proofs.lemmas.List.{length-map, map_push, same_from_push}
use Rattle.std.proofs.lemmas.Option.{slice_get-get_or, get_or_from_slice_get}
use Rattle.machine_defs.specs.State.{Content, Undone}
use Rattle.machine_defs.specs.Marking.{IsLastUndone, CanRedo}
use Rattle.trail_laws.specs.Trails.{Placed, Ahead, Trail, IsMark, IsMarkOf, IsLastAhead, CanGoForth, undo_at, back, IsAhead, IsOrdered}
use Rattle.trail_laws.specs.Told.{undone_of, told}
use Rattle.trail_laws.proofs.TrailFacts.{last-ahead, mark_within, name_read}

-- a row that a function makes with one element behind it was made of such a row
last-made : {X Y : Type 0} (f : X → Y) (xs : List X) (ys : List Y) (y : Y) → map f xs ≡ ys ++ y ∷ []
    → (zs : List X) × (z : X) × (xs ≡ zs ++ z ∷ []) × (ys ≡ map f zs) × (y ≡ f z)
last-made f [] [] y e = cc
last-made f [] (y' ∷ ys) y e = cc
last-made f (x ∷ []) [] y e = let here : y ≡ f x = cc in ([], x, refl, refl, here)
last-made f (x ∷ x' ∷ xs) [] y e = cc
last-made f (x ∷ xs) (y' ∷ ys) y e =
    let rest : map f xs ≡ ys ++ y ∷ [] = cc in
    let first : y' ≡ f x = cc in
    let made = last-made f xs ys y rest in
    (x ∷ made.0, made.1, ap (λ us. x ∷ us) made.2, ap₂ ◌∷◌ first made.3, made.4)

-- a mark that stands or lies ahead has this name
pub mark-named : (marks : List Placed) (name : List ℕ) (k : ℕ) → k < length marks → get_or (map (λ (m : Placed). m.name) marks) k [] ≡ name → IsMarkOf marks name k
mark-named marks name k inside is =
    let long = length-map marks (λ (m : Placed). m.name) in
    slice_get-get_or (map (λ (m : Placed). m.name) marks) k [] (omega arith) ∙ ap Some is

module _ (now : Content) (t : Trail) (o : IsOrdered t) (name : List ℕ) where
  -- the last undo that can be taken back is told as the last one
  pub ahead-told : (others : List Ahead) (last : Ahead) → IsLastAhead t name others last
      → IsLastUndone (told now t).undone name (map (undone_of now t) others) (undone_of now t last)
  ahead-told others last is = record {
    there = ap (λ us. map (undone_of now t) us) is.there ∙ map_push (undone_of now t) others last;
    named = get_or_from_slice_get (map (λ (m : Placed). m.name) t.marks) last.mark name [] is.named;
  }

  -- and what is told as the last one can be taken back
  pub undone-ahead : (others : List Undone) (last : Undone) → IsLastUndone (told now t).undone name others last
      → (befores : List Ahead) × (u : Ahead) × IsLastAhead t name befores u × (others ≡ map (undone_of now t) befores) × (last ≡ undone_of now t u)
  undone-ahead others last is =
      let made = last-made (undone_of now t) t.undone others last is.there in
      let there = made.2 in
      let ahead : IsAhead t.steps t.at t.marks made.1 = last-ahead t made.0 made.1 o there in
      let below = ahead.mark in
      let listed = ahead.standing in
      let named : get_or (map (λ (m : Placed). m.name) t.marks) made.1.mark [] ≡ name = ap (λ (u : Undone). u.name) (sym made.4) ∙ is.named in
      (made.0, made.1, record { there = there; named = mark-named t.marks name made.1.mark (omega arith) named }, made.3, made.4)

  pub redo-told : CanRedo (told now t).undone name ↔ CanGoForth t name
  redo-told = (
    λ (can : CanRedo (told now t).undone name). let made = undone-ahead can.0 can.1 can.2 in (made.0, made.1, made.2),
    λ (can : CanGoForth t name). (map (undone_of now t) can.0, undone_of now t can.1, ahead-told can.0 can.1 can.2),
  )

-- there is one last undo
pub one-ahead : (t : Trail) (name other : List ℕ) (befores others : List Ahead) (u v : Ahead) → IsLastAhead t name befores u → IsLastAhead t other others v
    → (befores ≡ others) × (u ≡ v)
one-ahead t name other befores others u v is or = same_from_push befores others u v (sym is.there ∙ or.there)

-- after an undo it is the last one
pub back-ahead : (t : Trail) (name : List ℕ) (k : ℕ) → IsOrdered t → IsMark t name k → IsLastAhead (back t k) name t.undone (undo_at t k)
back-ahead t name k o is =
    let stands = mark_within t name k o is in
    let listed = o.standing in
    record { there = refl; named = mark-named t.marks name k (omega arith) (name_read t name k o is) }
