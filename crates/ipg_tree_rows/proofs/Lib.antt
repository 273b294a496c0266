-- rows as a walk sees them
pub mod Seeing
