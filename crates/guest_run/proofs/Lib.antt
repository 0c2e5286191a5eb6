pub mod PortsLemmas
pub mod StartLemmas
pub mod RunLemmas
pub mod RoomLemmas
pub mod EndLemmas
pub mod DidLemmas
