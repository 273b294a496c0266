-- linear forms, and the facts that they make
pub mod Form
-- facts as a formula over numbers, and the table that numbers variables
pub mod Numbers
pub mod Table
-- several formulas at one value of their first variable
pub mod Joint
-- lists that grow by pieces
pub mod Pieces
