use Rattle.std.proofs.Common.{◌≡◌, ℕ, ◌+◌, ◌<◌, ◌∙◌, [], List, sym, arith}
use Rattle.std.specs.Prelude.{slice_index_or, Vec}
use Rattle.std.specs.declared.alloc.Global.{Global}
use Rattle.std.specs.List.Sorted.{IsStrictlyIncreasing}
use Rattle.std.proofs.lemmas.List.{length-map}
use Rattle.list_text.specs.Ranks.{items_of, lists_of}
use Rattle.list_text.proofs.RankSteps.{number-is, list-at}
use Rattle.list_text.proofs.Searched.{found-contained}
use Rattle.list_text.proofs.cells.Cells.names.Goals as goal

pub returns : goal.returns
returns c k count rows least within =
    let lists : List (Vec ℕ Global) = c.args.self.now.least.items in
    let number : c.unwrap-number.result ≡ c.args.place + 1 = number-is c.new.result c.unwrap-number.result (c.args.place + 1) c.unwrap-number.ensures c.new.ensures.same in
    let at : slice_index_or (lists_of lists) c.args.dim [] ≡ c.index-least-dim.result.items = list-at lists c.args.dim c.index-least-dim.result c.requires.dim (rw c.as_slice-least.ensures.value at c.index-least-dim.is) in
    let long = length-map lists items_of in
    let some : c.args.dim < count = let counted = least.long in omega (arith, counted, long, c.requires.dim) in
    let darts : c.as_slice-darts.result.now ≡ slice_index_or (lists_of lists) c.args.dim [] = c.as_slice-darts.ensures.value ∙ sym at in
    let up : IsStrictlyIncreasing c.as_slice-darts.result.now = rw darts (least.ascending c.args.dim some) in
    let found = found-contained c.as_slice-darts.result.now c.unwrap-number.result c.binary_search.result up c.binary_search.ensures.position in
    let members = least.members c.args.dim c.args.place some within in
    rw c.is_ok.ensures.value (
      λ ok. members.0 (rw (darts, number) at (found.0 ok)),
      λ named. found.1 (rw (darts, number) (members.1 named)),
    )
