-- what a grammar is, and the words that look things up in it
pub mod Grammar
-- what it means: parts, trees, what they touch, values, and the answer of a rule on a part
pub mod Part
pub mod Tree
pub mod Touch
pub mod Environment
pub mod Eval
pub mod Run
pub mod Meaning
-- when it is good: what terms name, the order of terms
pub mod Mention
pub mod Order
pub mod Good
-- what lies where in a result, what it holds, and which rules must touch a byte
pub mod Within
pub mod Holds
pub mod MustTouch
-- when parsing by it ends
pub mod Grown
pub mod Total
-- how a tree is printed
pub mod Lines
-- the laws that public functions promise
pub mod Laws
