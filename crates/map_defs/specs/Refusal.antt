-- Why the machine refuses a line. Source: this project's.
use Rattle.std.specs.Prelude.{ℕ, List, codes}

-- the refusals, in the order in which they are looked at
pub data Refusal : Type 0 where
  Syntax : Refusal
  BadDim : Refusal
  NoDart : Refusal
  NoRule : Refusal
  NotFree : Refusal
  Unsewable : Refusal
  AlreadyFree : Refusal
  OtherCell : Refusal
  SameCorner : Refusal
  NotClosed : Refusal
  Unpaired : Refusal
  NotRemovable : Refusal
  NotContractible : Refusal
  Boundary : Refusal
  Linked : Refusal
  BadCount : Refusal
  MarkTaken : Refusal
  NoMark : Refusal
  NoPoint : Refusal
  ThinFace : Refusal
  Full : Refusal
  NoRedo : Refusal

-- a refusal's number: a line is refused with the least number whose condition holds
abbrev pub number : Refusal → ℕ
number Syntax = 1
number BadDim = 2
number NoDart = 3
number NoRule = 4
number NotFree = 5
number Unsewable = 6
number AlreadyFree = 7
number OtherCell = 8
number SameCorner = 9
number NotClosed = 10
number Unpaired = 11
number NotRemovable = 12
number NotContractible = 13
number Boundary = 14
number Linked = 15
number BadCount = 16
number MarkTaken = 17
number NoMark = 18
number NoPoint = 19
number ThinFace = 20
number Full = 21
number NoRedo = 22

-- a refusal's name, as replies write it
abbrev pub name : Refusal → List ℕ
name Syntax = codes "Syntax"
name BadDim = codes "BadDim"
name NoDart = codes "NoDart"
name NoRule = codes "NoRule"
name NotFree = codes "NotFree"
name Unsewable = codes "Unsewable"
name AlreadyFree = codes "AlreadyFree"
name OtherCell = codes "OtherCell"
name SameCorner = codes "SameCorner"
name NotClosed = codes "NotClosed"
name Unpaired = codes "Unpaired"
name NotRemovable = codes "NotRemovable"
name NotContractible = codes "NotContractible"
name Boundary = codes "Boundary"
name Linked = codes "Linked"
name BadCount = codes "BadCount"
name MarkTaken = codes "MarkTaken"
name NoMark = codes "NoMark"
name NoPoint = codes "NoPoint"
name ThinFace = codes "ThinFace"
name Full = codes "Full"
name NoRedo = codes "NoRedo"
