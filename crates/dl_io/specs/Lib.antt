pub mod Buffer
pub mod Cabinet
pub mod Outside
