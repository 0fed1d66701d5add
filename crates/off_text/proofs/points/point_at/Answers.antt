use Rattle.std.proofs.Common.{rules, Some, refl, sym, subst, ap, ◌∙◌}
use Rattle.std.specs.List.Sorted.{IsBinarySearchResult}
use Rattle.std.specs.Ordering.{nat_cmp}
use Rattle.std.proofs.lemmas.List.Sorted.{answers_always}
use Rattle.map_defs.specs.Values.{Place}
use Rattle.off_text.proofs.Placing.{found, absent}
use Rattle.off_text.proofs.points.point_at.Goals as goal

pub returns-in-Ok-clause-point : goal.returns-in-Ok-clause-point
returns-in-Ok-clause-point c =
    let by_dart = c.binary_search_by_key.ensures.position (λ (place : Place). place.dart) (answers_always _ _ _ (λ f a r g called. search rules)) in
    let bound = c.binary_search_by_key.ensures.bound in
    let told = found c.args.places.now c.requires c.args.dart c.in-Ok.place c.index-places-place.result (rw c.in-Ok.is at bound) (subst (IsBinarySearchResult (λ (place : Place). nat_cmp place.dart c.args.dart) c.args.places.now) c.in-Ok.is by_dart) in
    told ∙ ap (λ (place : Place). Some place.value) (sym c.index-places-place.is ∙ sym c.found.view_is)

pub returns-in-Err-clause-none : goal.returns-in-Err-clause-none
returns-in-Err-clause-none c =
    let by_dart = c.binary_search_by_key.ensures.position (λ (place : Place). place.dart) (answers_always _ _ _ (λ f a r g called. search rules)) in
    (refl, absent c.args.places.now c.requires c.args.dart c.in-Err.field-0 (subst (IsBinarySearchResult (λ (place : Place). nat_cmp place.dart c.args.dart) c.args.places.now) c.in-Err.is by_dart))
