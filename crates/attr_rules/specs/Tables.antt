-- The merge and the split that each variant stands for.
use Rattle.std.specs.Prelude.{◌≡◌, refl}
use Rattle.map_defs.specs.Values as values
use Rattle.attr_rules.specs.declared.table.Merge.{Merge}
use Rattle.attr_rules.specs.declared.table.Merge.TheVariants as merges
use Rattle.attr_rules.specs.declared.table.Split.{Split}
use Rattle.attr_rules.specs.declared.table.Split.TheVariants as splits

abbrev pub merge_of : Merge → values.Merge
merge_of merges.First = values.First
merge_of merges.Last = values.Last
merge_of merges.Sum = values.Sum
merge_of merges.Min = values.Min
merge_of merges.Max = values.Max
merge_of merges.Mid = values.Mid
merge_of merges.Host = values.Host
merge_of (merges.Named name) = values.Named name

abbrev pub split_of : Split → values.Split
split_of splits.Copied = values.Copied
split_of splits.Keep = values.Keep
split_of splits.Share = values.Share
split_of splits.Host = values.Host
split_of (splits.Named name) = values.Named name

-- and back
abbrev pub merge_back : values.Merge → Merge
merge_back values.First = merges.First
merge_back values.Last = merges.Last
merge_back values.Sum = merges.Sum
merge_back values.Min = merges.Min
merge_back values.Max = merges.Max
merge_back values.Mid = merges.Mid
merge_back values.Host = merges.Host
merge_back (values.Named name) = merges.Named name

abbrev pub split_back : values.Split → Split
split_back values.Copied = splits.Copied
split_back values.Keep = splits.Keep
split_back values.Share = splits.Share
split_back values.Host = splits.Host
split_back (values.Named name) = splits.Named name

pub merge_back-merge_of : (m : Merge) → merge_back (merge_of m) ≡ m
merge_back-merge_of merges.First = refl
merge_back-merge_of merges.Last = refl
merge_back-merge_of merges.Sum = refl
merge_back-merge_of merges.Min = refl
merge_back-merge_of merges.Max = refl
merge_back-merge_of merges.Mid = refl
merge_back-merge_of merges.Host = refl
merge_back-merge_of (merges.Named name) = refl

pub split_back-split_of : (s : Split) → split_back (split_of s) ≡ s
split_back-split_of splits.Copied = refl
split_back-split_of splits.Keep = refl
split_back-split_of splits.Share = refl
split_back-split_of splits.Host = refl
split_back-split_of (splits.Named name) = refl
