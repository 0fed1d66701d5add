pub mod CutLists
