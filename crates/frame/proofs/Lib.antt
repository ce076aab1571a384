pub mod Joining
pub mod Laws
pub mod RoundTrip
pub mod Unique
