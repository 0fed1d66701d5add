mod VertexPlan
mod EdgeDarts
mod EdgePlan
mod CellEnds
mod CellPlans
