mod DealLemmas
mod HoldLemmas
mod LockLemmas
mod PlaceLemmas
mod RunLemmas
mod SeatLemmas
pub mod Sent
