mod SelfJoins
mod ChangeLists
mod ChangedLinks
mod DualEdit
