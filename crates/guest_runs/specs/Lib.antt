pub mod Asking
pub mod Beginning
pub mod OnPorts
pub mod Recordings
