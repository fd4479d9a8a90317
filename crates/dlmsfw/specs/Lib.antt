pub mod Status
pub mod AuditPlaces
pub mod KeyPlaces
pub mod Places
pub mod Refusals
pub mod Texts
pub mod ToldPlaces
pub mod TracePlaces
