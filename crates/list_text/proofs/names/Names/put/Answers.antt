use Rattle.std.proofs.Common.{◌≡◌, ℕ, ◌==◌, ◌&&◌, ◌||◌, Bool, true, false, cond, List, [], ◌∷◌, Bor, refl, sym, ap₂, ◌∙◌, arith}
use Rattle.std.specs.List.{list_any}
use Rattle.std.specs.Str.{bytes_eq}
use Rattle.std.proofs.lemmas.Bool.Decides.{nat_tests}
use Rattle.std.proofs.lemmas.List.Folds.{list_any-append}
use Rattle.std.proofs.lemmas.Map.Text.{is_eq-slice_cmp}
use Rattle.list_text.proofs.names.Names.put.Goals as goal

turned : (xs ys : List ℕ) → bytes_eq xs ys ≡ bytes_eq ys xs
turned [] [] = refl
turned [] (y ∷ ys) = refl
turned (x ∷ xs) [] = refl
turned (x ∷ xs) (y ∷ ys) = let e : x == y ≡ y == x = grind (arith, nat_tests) in ap₂ ◌&&◌ e (turned xs ys)

either : (b x : Bool) → cond b true x ≡ x || (b || false)
either true true = refl
either true false = refl
either false true = refl
either false false = refl

pub invariant_of-self-2 : goal.invariant_of-self-2
invariant_of-self-2 c = λ q.
    let name = c.args.name.now in
    let names = c.self.inside.names.items in
    let key : Bor (List ℕ) = record { ref_ptr = (0, 0); now = q } in
    let put = c.in_ok-insert.ensures.updates.0 key in
    rw (c.push_reserved.ensures.items, c.in_ok-reserve.ensures.items, c.new.ensures)
    (put ∙ (ap₂ (λ (b : Bool) (x : Bool). cond b true x) (is_eq-slice_cmp name q ∙ turned name q) (c.self.invariant q) ∙ (either (bytes_eq q name) (list_any (bytes_eq q) names) ∙ sym (list_any-append (bytes_eq q) names (name ∷ [])))))
