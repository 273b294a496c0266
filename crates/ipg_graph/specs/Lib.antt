-- what the public calls rest on: a graph, its simple cycles and their order, a whole run
pub mod Graph
pub mod Cycle
pub mod Answers
pub mod Lending
-- cycles read edge by edge, and the place that a search has reached
pub mod Walk
pub mod Place
-- what the parts inside promise each other
pub mod Chain
pub mod Marks
pub mod Reach
pub mod Search
