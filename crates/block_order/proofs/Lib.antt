-- What a value waits for, and the first order.
pub mod DependencyLemmas
pub mod FirstTables
pub mod WaiterLemmas
pub mod WaitingLemmas
pub mod PlacingLemmas
pub mod SelectLemmas
-- Items, their edges, and circles.
pub mod StandingLemmas
pub mod ItemOwners
pub mod ItemEdges
pub mod ItemStands
pub mod ItemSteps
pub mod ItemWalks
