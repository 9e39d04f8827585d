pub mod Times
pub mod Leads
pub mod Ring
pub mod Unlinked
pub mod Pushed
pub mod Fields
